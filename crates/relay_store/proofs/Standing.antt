-- The events of a journal stand at the places that are kept, and their numbers rise.
use Rattle.std.proofs.Common.{◌≡◌, inl, inr, ⊎_elim, ◌⊎◌, ℕ, ◌+◌, ◌≤◌, ◌<◌, Bool, true, false, ◌||◌, List, [], ◌∷◌, ◌++◌, length, Option, Some, None, refl, sym, ◌∙◌, ap, subst, arith, append_assoc, length-append}
use Rattle.std.specs.Prelude.{◌==◌, if◌then◌else◌, map, nat_le, nat_lt, slice_get}
use Rattle.std.proofs.lemmas.Bool.{and_parts}
use Rattle.std.proofs.lemmas.Bool.Decides.{nat_tests}
use Rattle.event_window.specs.Held.{Event, IsNext, event_above, first_or}
use Rattle.event_window.specs.Window.{AreAbove, all_above, is_at_most}
use Rattle.event_window.specs.declared.place.Place.{Place}
use Rattle.gate_log.specs.declared.format.Format.{Format}
use Rattle.gate_log.specs.Image.{made}
use Rattle.row_codec.specs.Bodies.{rows_body}
use Rattle.relay_row.specs.Folds.{events, events_in, events_of, last_after, last_seq, seq_in, first_seq}
use Rattle.relay_row.specs.Journal.{IsJournal, are_none, rises_above, keeps_order}
use Rattle.relay_row.specs.declared.carried.Carried.{Carried}
use Rattle.relay_row.specs.declared.fetched.Fetched.{Fetched}
use Rattle.relay_row.specs.declared.row.Row.{Row}
use Rattle.relay_row.specs.declared.taken.Taken.{Taken}
use Rattle.relay_row.proofs.Journals.{lasts_joined}
use Rattle.relay_store.specs.Events.{AllStand, IsFirst, StandsAt, message_of}
use Rattle.relay_store.specs.Journals.{bytes_of, joined}
use Rattle.relay_store.specs.Places.{number_in, places_behind, places_in}
use Rattle.relay_store.specs.Shown.{is_shown, shown_of}

-- ---- the rows that send events out

abbrev pub sent : List Row → List Row
sent [] = []
sent (row ∷ rows) = if number_in row == 0 then sent rows else row ∷ sent rows

sent_by : (b : Bool) (row : Row) (xs ys rest : List Row) → rest ≡ xs ++ ys → (if b then rest else row ∷ rest) ≡ (if b then xs else row ∷ xs) ++ ys
sent_by true row xs ys rest is = is
sent_by false row xs ys rest is = ap (λ (l : List Row). row ∷ l) is

sent_joined : (xs ys : List Row) → sent (xs ++ ys) ≡ sent xs ++ sent ys
sent_joined [] ys = refl
sent_joined (row ∷ xs) ys = sent_by (number_in row == 0) row (sent xs) (sent ys) (sent (xs ++ ys)) (sent_joined xs ys)

-- a row sends out one event at most
abbrev IsOne : List Event → Type 0
IsOne es = (es ≡ []) ⊎ ((e : Event) × (es ≡ e ∷ []))

one_fetched : (f : Fetched) → IsOne (events_of f)
one_fetched Fetched.NotAsked = inl refl
one_fetched Fetched.Absent = inl refl
one_fetched (Fetched.Refused n) = inl refl
one_fetched (Fetched.Whole w) = inr ((w.seq, w.message), refl)

one_taken : (b : Bool) (t : Taken) → IsOne (if b then events_of t.fetched else (t.seq, t.message) ∷ [])
one_taken true t = one_fetched t.fetched
one_taken false t = inr ((t.seq, t.message), refl)

pub one_event : (row : Row) → IsOne (events_in row)
one_event (Row.Taken t) = one_taken (t.seq == 0) t
one_event (Row.Synced did whole moment) = inr ((whole.seq, whole.message), refl)
one_event (Row.Operated o) = inr ((o.seq, o.message), refl)
one_event (Row.Carried c) = inl refl

numbered : (es : List Event) → IsOne es → (first_seq es == 0) ≡ false → es ≡ (first_seq es, message_of es) ∷ []
numbered es one is = ⊎_elim
    (λ none. let no : (0 == 0) ≡ false = sym (ap (λ (l : List Event). first_seq l == 0) none) ∙ is in absurd cc)
    (λ some. some.1 ∙ ap (λ (l : List Event). (first_seq l, message_of l) ∷ []) (sym some.1))
    one

-- ---- where they stand

pub bytes_joined : (xs ys : List (List Row)) → bytes_of (xs ++ ys) ≡ bytes_of xs ++ bytes_of ys
bytes_joined [] ys = refl
bytes_joined (x ∷ xs) ys = ap (λ (l : List (List ℕ)). rows_body x ∷ l) (bytes_joined xs ys)

got_at : (front : List Row) (row : Row) (behind : List Row) → slice_get (front ++ row ∷ behind) (length front) ≡ Some row
got_at [] row behind = refl
got_at (x ∷ front) row behind = got_at front row behind

module _ (format : Format) (bodies : List (List Row)) where
  stand_joined : (ps qs : List Place) (rs ss : List Row) → AllStand format bodies ps rs → AllStand format bodies qs ss → AllStand format bodies (ps ++ qs) (rs ++ ss)
  stand_joined [] qs rs ss one two = subst (λ (l : List Row). AllStand format bodies qs (l ++ ss)) (sym one) two
  stand_joined (p ∷ ps) qs [] ss one two = absurd one
  stand_joined (p ∷ ps) qs (r ∷ rs) ss one two = (one.0, stand_joined ps qs rs ss one.1 two)

  one_stands : (b : Bool) (p : Place) (row : Row) (ps : List Place) (rs : List Row) → (b ≡ false → StandsAt format bodies p row) → AllStand format bodies ps rs
      → AllStand format bodies ((if b then [] else p ∷ []) ++ ps) (if b then rs else row ∷ rs)
  one_stands true p row ps rs stands all = all
  one_stands false p row ps rs stands all = (stands refl, all)

  rows_stand : (before : List (List Row)) (rows : List Row) (after : List (List Row)) → bodies ≡ before ++ rows ∷ after → (front rest : List Row) → rows ≡ front ++ rest → (index : ℕ) → index ≡ length front
      → AllStand format bodies (places_in (length (made format (bytes_of before))) index rest) (sent rest)
  rows_stand before rows after split front [] are index is = refl
  rows_stand before rows after split front (row ∷ rest) are index is =
      let place = length (made format (bytes_of before)) in
      let p : Place = record { seq = number_in row; place = place; index = index } in
      let stands : (number_in row == 0) ≡ false → StandsAt format bodies p row = λ number. record {
        before = before;
        rows = rows;
        after = after;
        split = split;
        here = refl;
        row_at = ap (λ (l : List Row). slice_get l index) are ∙ ap (λ (i : ℕ). slice_get (front ++ row ∷ rest) i) is ∙ got_at front row rest;
        sends = numbered (events_in row) (one_event row) number;
      } in
      one_stands (number_in row == 0) p row (places_in place (index + 1) rest) (sent rest) stands
      (rows_stand before rows after split (front ++ row ∷ []) rest (are ∙ sym (append_assoc front (row ∷ []) rest)) (index + 1) (omega (arith, is, length-append front (row ∷ []))))

  pub bodies_stand : (before rest : List (List Row)) → bodies ≡ before ++ rest → AllStand format bodies (places_behind format before rest) (sent (joined rest))
  bodies_stand before [] split = refl
  bodies_stand before (rows ∷ rest) split =
      subst (AllStand format bodies (places_behind format before (rows ∷ rest))) (sym (sent_joined rows (joined rest)))
      (stand_joined (places_in (length (made format (bytes_of before))) 0 rows) (places_behind format (before ++ rows ∷ []) rest) (sent rows) (sent (joined rest))
      (rows_stand before rows rest split [] rows refl 0 refl)
      (bodies_stand (before ++ rows ∷ []) rest (split ∙ sym (append_assoc before (rows ∷ []) rest))))

-- ---- their numbers rise

abbrev pub AreRising : ℕ → List Row → Type 0
AreRising n [] = Unit {0}
AreRising n (row ∷ rows) = (n < number_in row) × AreRising (number_in row) rows

rising_from : (m n : ℕ) (rows : List Row) → m ≤ n → AreRising n rows → AreRising m rows
rising_from m n [] le rise = tt
rising_from m n (row ∷ rows) le rise = let up : n < number_in row = rise.0 in (omega (arith, le, up), rise.1)

-- behind a number that stands above the last one, or is none
abbrev IsLater : ℕ → ℕ → Bool → ℕ → Type 0
IsLater last now none seq = (last ≤ now) × (none ≡ false → (last < seq) × (now ≡ seq))

later_by : (none : Bool) (last seq : ℕ) → (none || nat_lt last seq) ≡ true → IsLater last (if none then last else seq) none seq
later_by true last seq is = (omega arith, λ not. absurd cc)
later_by false last seq is = let up : last < seq = grind (arith, nat_tests) in (omega (arith, up), λ _. (up, refl))

no_number : (last now : ℕ) → last ≤ now → IsLater last now true 0
no_number last now le = (le, λ not. absurd cc)

last_none : last_seq [] ≡ 0
unfolding last_seq
last_none = refl

none_before : (rows : List Row) → are_none rows ≡ true → last_seq rows ≡ 0
none_before [] is = last_none
none_before (row ∷ rows) is = absurd cc

later : (before : List Row) (row : Row) → keeps_order before row ≡ true → IsLater (last_seq before) (last_after (last_seq before) row) (number_in row == 0) (number_in row)
later before (Row.Taken t) kept = later_by (number_in (Row.Taken t) == 0) (last_seq before) (number_in (Row.Taken t)) (and_parts _ (rises_above (last_seq before) (seq_in (Row.Taken t))) kept).1
later before (Row.Synced did whole moment) kept = later_by (whole.seq == 0) (last_seq before) whole.seq kept
later before (Row.Operated o) kept = later_by (o.seq == 0) (last_seq before) o.seq kept
later before (Row.Carried (Carried.Last seq)) kept = no_number (last_seq before) (last_after (last_seq before) (Row.Carried (Carried.Last seq))) (omega (arith, none_before before kept))
later before (Row.Carried (Carried.Host host n)) kept = no_number (last_seq before) (last_seq before) (omega arith)
later before (Row.Carried (Carried.Account a)) kept = no_number (last_seq before) (last_seq before) (omega arith)

one_rises : (last now : ℕ) (none : Bool) (row : Row) (rest : List Row) → IsLater last now none (number_in row) → AreRising now rest → AreRising last (if none then rest else row ∷ rest)
one_rises last now true row rest is rise = rising_from last now rest is.0 rise
one_rises last now false row rest is rise = ((is.1 refl).0, subst (λ (n : ℕ). AreRising n rest) (is.1 refl).1 rise)

pub rising : (before rows : List Row) → IsJournal (before ++ rows) → AreRising (last_seq before) (sent rows)
rising before [] is = tt
rising before (row ∷ rows) is =
    let kept = is.ordered before row rows refl in
    let rest = rising (before ++ row ∷ []) rows (subst IsJournal (sym (append_assoc before (row ∷ []) rows)) is) in
    one_rises (last_seq before) (last_after (last_seq before) row) (number_in row == 0) row (sent rows) (later before row kept)
    (subst (λ (n : ℕ). AreRising n (sent rows)) (lasts_joined before (row ∷ [])) rest)

-- ---- the next that is shown

-- events of numbers above a number
abbrev AllAbove : ℕ → List Event → Type 0
AllAbove seq [] = Unit {0}
AllAbove seq (e ∷ es) = (seq < e.0) × AllAbove seq es

first_next : (seq : ℕ) (es : List Event) (found : Option ℕ) (room : List ℕ) → AllAbove seq es → IsFirst es found room → IsNext seq es found room
first_next seq es None room above first = ap (event_above seq) first
first_next seq [] (Some n) room above first = let no = first.1 in absurd cc
first_next seq (e ∷ es) (Some n) room above first =
    let up : seq < e.0 = above.0 in
    let high : nat_le e.0 seq ≡ false = grind (arith, nat_tests) in
    let same : e ≡ (n, room) = let is = first.1 in cc in
    rw high (ap Some same)

skipped : (seq n : ℕ) (b : Bool) (message : List ℕ) (here es : List Event) → here ≡ (n, message) ∷ [] → nat_le n seq ≡ true → event_above seq ((if b then here else []) ++ es) ≡ event_above seq es
skipped seq n true message here es is low = rw (is, low) refl
skipped seq n false message here es is low = refl

next_as : (seq : ℕ) (es fs : List Event) (found : Option ℕ) (room : List ℕ) → event_above seq es ≡ event_above seq fs → IsNext seq fs found room → IsNext seq es found room
next_as seq es fs None room same next = same ∙ next
next_as seq es fs (Some n) room same next = same ∙ next

one_above : (seq n : ℕ) (b : Bool) (message : List ℕ) (here es : List Event) → here ≡ (n, message) ∷ [] → seq < n → AllAbove seq es → AllAbove seq ((if b then here else []) ++ es)
one_above seq n true message here es is up above = subst (λ (l : List Event). AllAbove seq (l ++ es)) (sym is) (up, above)
one_above seq n false message here es is up above = above

module _ (format : Format) (bodies : List (List Row)) where
  number_at : (p : Place) (row : Row) → StandsAt format bodies p row → number_in row ≡ p.seq
  number_at p row at = ap first_seq at.sends

  pub places_rise : (n : ℕ) (places : List Place) (rows : List Row) → AllStand format bodies places rows → AreRising n rows → AreAbove n places
  places_rise n [] rows all rise = tt
  places_rise n (p ∷ places) [] all rise = absurd all
  places_rise n (p ∷ places) (row ∷ rows) all rise =
      let number = number_at p row all.0 in
      (subst (λ (m : ℕ). n < m) number rise.0, places_rise p.seq places rows all.1 (subst (λ (m : ℕ). AreRising m rows) number rise.1))

  -- the first event, if there is one
  pub first_stands : (places : List Place) (rows : List Row) (d : ℕ) → AllStand format bodies places rows → first_or (map (λ (e : Event). e.0) (events rows)) d ≡ first_or (map (λ (p : Place). p.seq) places) d
  first_stands [] rows d all = rw all refl
  first_stands (p ∷ places) [] d all = absurd all
  first_stands (p ∷ places) (row ∷ rows) d all = ap (λ (es : List Event). first_or (map (λ (e : Event). e.0) (es ++ events rows)) d) all.0.sends

  module _ (J : List Row) where
    shown_above : (seq n : ℕ) (places : List Place) (rows : List Row) → seq ≤ n → AllStand format bodies places rows → AreRising n rows → AllAbove seq (shown_of J rows)
    shown_above seq n [] rows le all rise = rw all tt
    shown_above seq n (p ∷ places) [] le all rise = absurd all
    shown_above seq n (p ∷ places) (row ∷ rows) le all rise =
        let number = number_at p row all.0 in
        let up : n < number_in row = rise.0 in
        one_above seq p.seq (is_shown J row) (message_of (events_in row)) (events_in row) (shown_of J rows) all.0.sends (omega (arith, le, up, number))
        (shown_above seq (number_in row) places rows (omega (arith, le, up)) all.1 rise.1)

    -- the rows at the places above a number, of which the first that is shown is next
    abbrev pub IsNarrowed : ℕ → List Place → List Row → Type 0
    IsNarrowed seq above rows = (rest : List Row) × AllStand format bodies above rest × ((found : Option ℕ) (room : List ℕ) → IsFirst (shown_of J rest) found room → IsNext seq (shown_of J rows) found room)

    narrowed_by : (seq n : ℕ) (low : Bool) (p : Place) (places above : List Place) (row : Row) (rows : List Row) → nat_le p.seq seq ≡ low → AllStand format bodies (p ∷ places) (row ∷ rows) → AreRising n (row ∷ rows)
        → IsNarrowed seq above rows → IsNarrowed seq (if low then above else p ∷ places) (row ∷ rows)
    narrowed_by seq n true p places above row rows low all rise more = (
      more.0,
      more.1,
      λ found room first. next_as seq (shown_of J (row ∷ rows)) (shown_of J rows) found room
          (skipped seq p.seq (is_shown J row) (message_of (events_in row)) (events_in row) (shown_of J rows) all.0.sends low) (more.2 found room first),
    )
    narrowed_by seq n false p places above row rows low all rise more =
        let number = number_at p row all.0 in
        let up : seq < number_in row = grind (arith, nat_tests, number, low) in
        (row ∷ rows, all, λ found room first. first_next seq (shown_of J (row ∷ rows)) found room (shown_above seq seq (p ∷ places) (row ∷ rows) (omega arith) all (up, rise.1)) first)

    pub narrowed : (seq n : ℕ) (places : List Place) (rows : List Row) → AllStand format bodies places rows → AreRising n rows → IsNarrowed seq (all_above seq places) rows
    narrowed seq n [] rows all rise = (rows, all, λ found room first. first_next seq (shown_of J rows) found room (shown_above seq seq [] rows (omega arith) all (subst (AreRising seq) (sym all) tt)) first)
    narrowed seq n (p ∷ places) [] all rise = absurd all
    narrowed seq n (p ∷ places) (row ∷ rows) all rise = narrowed_by seq n (is_at_most seq p) p places (all_above seq places) row rows refl all rise (narrowed seq (number_in row) places rows all.1 rise.1)

-- The events that a store holds are those of its journal.
use Rattle.std.proofs.Common.{◌≡◌, ⊎_elim, ◌⊎◌, inl, inr, ℕ, ◌+◌, ◌<◌, Bool, true, false, ◌&&◌, ◌||◌, List, [], ◌∷◌, ◌++◌, Option, Some, None, refl, sym, ◌∙◌, ap, subst, arith}
use Rattle.std.specs.Prelude.{◌==◌, if◌then◌else◌, map, nat_le, nat_lt}
use Rattle.std.specs.Bool.{beq}
use Rattle.std.specs.List.{list_all}
use Rattle.std.proofs.lemmas.Bool.{and_parts, eqb-true, ltb-true}
use Rattle.event_window.specs.Held.{Event, IsNext, first_or, oldest_of}
use Rattle.event_window.specs.Window.{AreAbove, all_above}
use Rattle.event_window.specs.declared.place.Place.{Place}
use Rattle.relay_disk.specs.Disk.{View}
use Rattle.at_event.specs.Refusals.{code_of}
use Rattle.at_event.specs.declared.refusal.Refusal.{Refusal}
use Rattle.relay_row.specs.Folds.{events, events_in, events_of, folded, last_after, last_seq, seq_in, first_seq}
use Rattle.relay_row.specs.Journal.{IsJournal}
use Rattle.relay_row.specs.Rules.{is_about, is_accepted, is_carried, is_decided, is_detail, is_effect, is_empty, is_fetched, is_head, is_message, is_moment, is_nothing, is_number, is_operated, is_positive, is_refused, is_row, is_taken, is_timed, is_whole, loses, names_did, names_host}
use Rattle.relay_row.specs.declared.carried.Carried.{Carried}
use Rattle.relay_row.specs.declared.fetched.Fetched.{Fetched}
use Rattle.relay_row.specs.declared.fetched.Whole.{Whole}
use Rattle.at_cid.specs.declared.limits.TheConstants.{NUMBERS}
use Rattle.relay_row.specs.declared.operated.Operated.{Operated}
use Rattle.relay_row.specs.declared.row.Row.{Row}
use Rattle.relay_row.specs.declared.taken.Taken.{Taken}
use Rattle.relay_store.specs.Events.{AllStand, IsFirst}
use Rattle.relay_store.specs.Journals.{joined}
use Rattle.relay_store.specs.Places.{number_in}
use Rattle.relay_store.specs.Shown.{held_by, is_shown, shown_of}
use Rattle.relay_store.specs.Store.{StoreState, Keeps}
use Rattle.relay_store.proofs.Standing.{AreRising, bodies_stand, first_stands, narrowed, places_rise, rising, sent}

-- ---- a well formed row without a number sends nothing out

positive : (n : ℕ) → is_positive n ≡ true → (n == 0) ≡ true → ⊥
positive n is zero =
    let up = ltb-true 0 n (and_parts (nat_lt 0 n) (is_number n) is).0 in
    omega (arith, up, eqb-true n 0 zero)

whole_numbered : (w : Whole) → is_whole w ≡ true → is_positive w.seq ≡ true
unfolding is_whole
whole_numbered w is = (and_parts (is_positive w.seq) (is_head w.head && (is_number w.records && is_message w.message)) is).0

operated_numbered : (o : Operated) → is_operated o ≡ true → is_positive o.seq ≡ true
unfolding is_operated
operated_numbered o is = (and_parts (is_positive o.seq) (is_message o.message && is_moment o.moment) (and_parts (names_did o.did) (is_positive o.seq && (is_message o.message && is_moment o.moment)) is).1).0

fetched_numbered : (due timed : Bool) (f : Fetched) → is_fetched due timed f ≡ true → (first_seq (events_of f) == 0) ≡ true → events_of f ≡ []
fetched_numbered due timed Fetched.NotAsked is zero = refl
fetched_numbered due timed Fetched.Absent is zero = refl
fetched_numbered due timed (Fetched.Refused n) is zero = refl
fetched_numbered due timed (Fetched.Whole w) is zero = absurd (positive w.seq (whole_numbered w (and_parts due (is_whole w) is).1) zero)

-- what was fetched, where a fetch is due, and that the number is one
abbrev IsSent : Taken → Type 0
IsSent t = (due : Bool) × (is_fetched due (is_timed t.moment) t.fetched ≡ true) × (t.seq < NUMBERS)

one_of : (a b : Bool) → (a || b) ≡ true → (a ≡ true) ⊎ (b ≡ true)
one_of true b is = inl refl
one_of false b is = inr is

zero_fits : (n : ℕ) → (n == 0) ≡ true → n < NUMBERS
zero_fits n zero = subst (λ (m : ℕ). m < NUMBERS) (sym (eqb-true n 0 zero)) (omega arith)

positive_fits : (n : ℕ) → is_positive n ≡ true → n < NUMBERS
positive_fits n is = ltb-true n NUMBERS (and_parts (nat_lt 0 n) (is_number n) is).1

decided_sent : (q : Option Refusal) (t : Taken) → is_decided q t ≡ true → IsSent t
unfolding is_accepted is_refused
decided_sent None t is =
    let goes : Bool = is_positive t.seq && is_message t.message in
    let held : Bool = t.kind == 4 && (t.seq == 0 && is_empty t.message) in
    let one = and_parts (is_effect t.kind t.effect) (is_fetched false (is_timed t.moment) t.fetched && (goes || held)) is in
    let two = and_parts (is_fetched false (is_timed t.moment) t.fetched) (goes || held) one.1 in (
      false,
      two.0,
      ⊎_elim
          (λ sends. positive_fits t.seq (and_parts (is_positive t.seq) (is_message t.message) sends).0)
          (λ none. zero_fits t.seq (and_parts (t.seq == 0) (is_empty t.message) (and_parts (t.kind == 4) (t.seq == 0 && is_empty t.message) none).1).0)
          (one_of goes held two.1),
    )
decided_sent (Some r) t is =
    let none : Bool = t.seq == 0 && is_empty t.message in
    let fetch : Bool = is_fetched (loses (code_of r)) (is_timed t.moment) t.fetched && none in
    let nothing : Bool = is_nothing t.effect && fetch in
    let read : Bool = beq (t.kind == 0) (code_of r == 1) && nothing in
    let few : Bool = nat_le t.kind 4 && read in
    let known : Bool = nat_le (code_of r) 24 || (code_of r == 25 && is_timed t.moment) in
    let two = and_parts (is_detail r && known) few is in
    let three = and_parts (nat_le t.kind 4) read two.1 in
    let four = and_parts (beq (t.kind == 0) (code_of r == 1)) nothing three.1 in
    let five = and_parts (is_nothing t.effect) fetch four.1 in
    let six = and_parts (is_fetched (loses (code_of r)) (is_timed t.moment) t.fetched) none five.1 in
    (loses (code_of r), six.0, zero_fits t.seq (and_parts (t.seq == 0) (is_empty t.message) six.1).0)

taken_sent : (t : Taken) → is_taken t ≡ true → IsSent t
unfolding is_taken
taken_sent t is =
    let one = and_parts (names_host t.host) (is_number t.host_seq && (is_about t.kind t.did && (is_moment t.moment && is_decided t.refusal t))) is in
    let two = and_parts (is_number t.host_seq) (is_about t.kind t.did && (is_moment t.moment && is_decided t.refusal t)) one.1 in
    let three = and_parts (is_about t.kind t.did) (is_moment t.moment && is_decided t.refusal t) two.1 in
    decided_sent t.refusal t (and_parts (is_moment t.moment) (is_decided t.refusal t) three.1).1

none_taken : (b : Bool) (t : Taken) → b ≡ (t.seq == 0) → is_taken t ≡ true → (first_seq (if b then events_of t.fetched else (t.seq, t.message) ∷ []) == 0) ≡ true → (if b then events_of t.fetched else (t.seq, t.message) ∷ []) ≡ []
none_taken true t b is zero = let sends = taken_sent t is in fetched_numbered sends.0 (is_timed t.moment) t.fetched sends.1 zero
none_taken false t b is zero = let no : false ≡ true = b ∙ zero in absurd cc

pub none_sent : (row : Row) → is_row row ≡ true → (number_in row == 0) ≡ true → events_in row ≡ []
unfolding is_row
none_sent (Row.Taken t) is zero = none_taken (t.seq == 0) t refl is zero
none_sent (Row.Synced did whole moment) is zero = absurd (positive whole.seq (whole_numbered whole (and_parts (is_whole whole) (is_moment moment) (and_parts (names_did did) (is_whole whole && is_moment moment) is).1).0) zero)
none_sent (Row.Operated o) is zero = absurd (positive o.seq (operated_numbered o is) zero)
none_sent (Row.Carried c) is zero = refl

events_sent_by : (b : Bool) (row : Row) (rows rest : List Row) → (b ≡ true → events_in row ≡ []) → events rest ≡ events rows → events (if b then rest else row ∷ rest) ≡ events_in row ++ events rows
events_sent_by true row rows rest none same = same ∙ ap (λ (l : List Event). l ++ events rows) (sym (none refl))
events_sent_by false row rows rest none same = ap (λ (l : List Event). events_in row ++ l) same

pub events_sent : (rows : List Row) → list_all is_row rows ≡ true → events (sent rows) ≡ events rows
events_sent [] formed = refl
events_sent (row ∷ rows) formed =
    let both = and_parts (is_row row) (list_all is_row rows) formed in
    events_sent_by (number_in row == 0) row rows (sent rows) (none_sent row both.0) (events_sent rows both.1)

nothing_shown : (b : Bool) (here rest : List Event) → here ≡ [] → (if b then here else []) ++ rest ≡ rest
nothing_shown true here rest is = ap (λ (l : List Event). l ++ rest) is
nothing_shown false here rest is = refl

module _ (J : List Row) where
  shown_sent_by : (b : Bool) (row : Row) (rows rest : List Row) → (b ≡ true → events_in row ≡ []) → shown_of J rest ≡ shown_of J rows → shown_of J (if b then rest else row ∷ rest) ≡ shown_of J (row ∷ rows)
  shown_sent_by true row rows rest none same = same ∙ sym (nothing_shown (is_shown J row) (events_in row) (shown_of J rows) (none refl))
  shown_sent_by false row rows rest none same = ap (λ (l : List Event). (if is_shown J row then events_in row else []) ++ l) same

  shown_sent : (rows : List Row) → list_all is_row rows ≡ true → shown_of J (sent rows) ≡ shown_of J rows
  shown_sent [] formed = refl
  shown_sent (row ∷ rows) formed =
      let both = and_parts (is_row row) (list_all is_row rows) formed in
      shown_sent_by (number_in row == 0) row rows (sent rows) (none_sent row both.0) (shown_sent rows both.1)

-- ---- the last number is one

fetched_fits : (due timed : Bool) (f : Fetched) → is_fetched due timed f ≡ true → first_seq (events_of f) < NUMBERS
fetched_fits due timed Fetched.NotAsked is = omega arith
fetched_fits due timed Fetched.Absent is = omega arith
fetched_fits due timed (Fetched.Refused n) is = omega arith
fetched_fits due timed (Fetched.Whole w) is = positive_fits w.seq (whole_numbered w (and_parts due (is_whole w) is).1)

taken_fits : (b : Bool) (t : Taken) → is_taken t ≡ true → first_seq (if b then events_of t.fetched else (t.seq, t.message) ∷ []) < NUMBERS
taken_fits true t is = let sends = taken_sent t is in fetched_fits sends.0 (is_timed t.moment) t.fetched sends.1
taken_fits false t is = (taken_sent t is).2

carried_fits : (c : Carried) → is_carried c ≡ true → seq_in (Row.Carried c) < NUMBERS
unfolding is_carried
carried_fits (Carried.Last seq) is = positive_fits seq is
carried_fits (Carried.Host host n) is = omega arith
carried_fits (Carried.Account a) is = omega arith

row_fits : (row : Row) → is_row row ≡ true → seq_in row < NUMBERS
unfolding is_row
row_fits (Row.Taken t) is = taken_fits (t.seq == 0) t is
row_fits (Row.Synced did whole moment) is = positive_fits whole.seq (whole_numbered whole (and_parts (is_whole whole) (is_moment moment) (and_parts (names_did did) (is_whole whole && is_moment moment) is).1).0)
row_fits (Row.Operated o) is = positive_fits o.seq (operated_numbered o is)
row_fits (Row.Carried c) is = carried_fits c is

either_fits : (b : Bool) (m n : ℕ) → m < NUMBERS → n < NUMBERS → (if b then m else n) < NUMBERS
either_fits true m n one two = one
either_fits false m n one two = two

lasts_fit : (n : ℕ) (rows : List Row) → n < NUMBERS → list_all is_row rows ≡ true → folded last_after n rows < NUMBERS
lasts_fit n [] fits formed = fits
lasts_fit n (row ∷ rows) fits formed =
    let both = and_parts (is_row row) (list_all is_row rows) formed in
    lasts_fit (last_after n row) rows (either_fits (seq_in row == 0) n (seq_in row) fits (row_fits row both.0)) both.1

pub last_fits : (J : List Row) → IsJournal J → last_seq J < NUMBERS
unfolding last_seq
last_fits J is = lasts_fit 0 J (omega arith) is.formed

-- ---- the events of a store

module _ (J : List Row) (s : StoreState) (v : View) (keeps : Keeps J s v) where
  pub all_stand : AllStand s.log.format keeps.bodies s.window (sent J)
  all_stand =
      subst (λ (rows : List Row). AllStand s.log.format keeps.bodies s.window (sent rows)) keeps.are.rows
      (subst (λ (places : List Place). AllStand s.log.format keeps.bodies places (sent (joined keeps.bodies))) (sym keeps.window) (bodies_stand s.log.format keeps.bodies [] keeps.bodies refl))

  all_rise : AreRising (last_seq []) (sent J)
  all_rise = rising [] J keeps.are.journal

  pub window_rises : AreAbove 0 s.window
  unfolding last_seq
  window_rises = places_rise s.log.format keeps.bodies 0 s.window (sent J) all_stand all_rise

  -- the first that is shown of those at the places above a number is the next
  pub next_of : (seq : ℕ) → (rows : List Row) × AllStand s.log.format keeps.bodies (all_above seq s.window) rows
      × ((found : Option ℕ) (room : List ℕ) → IsFirst (shown_of J rows) found room → IsNext seq (held_by J).shown found room)
  next_of seq =
      let near = narrowed s.log.format keeps.bodies J seq (last_seq []) s.window (sent J) all_stand all_rise in
      (near.0, near.1, λ found room first. subst (λ (es : List Event). IsNext seq es found room) (shown_sent J J keeps.are.journal.formed) (near.2 found room first))

  pub oldest_is : first_or (map (λ (p : Place). p.seq) s.window) (last_seq J + 1) ≡ oldest_of (held_by J)
  oldest_is =
      sym (first_stands s.log.format keeps.bodies s.window (sent J) (last_seq J + 1) all_stand)
      ∙ ap (λ (es : List Event). first_or (map (λ (e : Event). e.0) es) (last_seq J + 1)) (events_sent J keeps.are.journal.formed)

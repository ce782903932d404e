-- The front of a journal that a cut takes ends at the last place of the numbers up to the one that is cut at.
use Rattle.std.proofs.Common.{◌≡◌, inl, inr, ⊎_elim, ◌⊎◌, ℕ, zero, suc, ◌+◌, ◌≤◌, ◌<◌, Bool, true, false, ◌||◌, cond, List, [], ◌∷◌, ◌++◌, length, take, drop, Some, add-one, refl, sym, ◌∙◌, ap, subst, arith, append_assoc}
use Rattle.std.specs.Prelude.{◌==◌, if◌then◌else◌, nat_le, slice_get}
use Rattle.std.specs.List.{list_all, list_any}
use Rattle.std.proofs.lemmas.Bool.{and_parts, or_left, or_right}
use Rattle.std.proofs.lemmas.Bool.Decides.{nat_tests}
use Rattle.std.proofs.lemmas.List.Folds.{list_all-append, list_any-append}
use Rattle.std.proofs.lemmas.Option.{same_Some}
use Rattle.event_window.specs.Held.{Event}
use Rattle.event_window.specs.Window.{AreAbove, IsLastUpto, all_above, is_at_most}
use Rattle.event_window.specs.declared.place.Place.{Place}
use Rattle.relay_disk.specs.Disk.{View}
use Rattle.gate_log.specs.declared.format.Format.{Format}
use Rattle.gate_log.specs.Image.{made}
use Rattle.relay_row.specs.Folds.{events_in, last_seq, first_seq}
use Rattle.relay_row.specs.Journal.{IsJournal}
use Rattle.relay_row.specs.Rules.{is_row}
use Rattle.relay_row.specs.declared.row.Row.{Row}
use Rattle.cut_law.specs.Cut.{carried_front, have_old, is_old, rows_behind_front}
use Rattle.cut_law.proofs.Fronts.{front_at, rest_at}
use Rattle.relay_store.specs.Events.{AllStand, StandsAt, message_of}
use Rattle.relay_store.specs.Journals.{bytes_of, joined}
use Rattle.relay_store.specs.Places.{number_in}
use Rattle.relay_store.specs.Store.{StoreState, Keeps}
use Rattle.relay_store.proofs.Reread.{all_stand, none_sent, window_rises}
use Rattle.relay_store.proofs.Standing.{AreRising, one_event, rising, sent}

-- ---- which numbers there are

abbrev AllSeqs : (ℕ → Type 0) → List Place → Type 0
AllSeqs P [] = Unit {0}
AllSeqs P (p ∷ places) = P p.seq × AllSeqs P places

abbrev AllNumbers : (ℕ → Type 0) → List Row → Type 0
AllNumbers P [] = Unit {0}
AllNumbers P (row ∷ rows) = P (number_in row) × AllNumbers P rows

numbers_joined : (P : ℕ → Type 0) (xs ys : List Row) → AllNumbers P (xs ++ ys) → AllNumbers P ys
numbers_joined P [] ys all = all
numbers_joined P (x ∷ xs) ys all = numbers_joined P xs ys all.1

seqs_above : (c n : ℕ) (places : List Place) → c ≤ n → AreAbove n places → AllSeqs (λ m. c < m) places
seqs_above c n [] le above = tt
seqs_above c n (p ∷ places) le above = let up : n < p.seq = above.0 in (omega (arith, le, up), seqs_above c p.seq places (omega (arith, le, up)) above.1)

above_by : (c : ℕ) (low : Bool) (p : Place) (places : List Place) → is_at_most c p ≡ low → AreAbove p.seq places → AllSeqs (λ m. c < m) (all_above c places) → AllSeqs (λ m. c < m) (cond low (all_above c places) (p ∷ places))
above_by c true p places is above more = more
above_by c false p places is above more = let up : c < p.seq = grind (arith, nat_tests, is) in (up, seqs_above c p.seq places (omega (arith, up)) above)

pub all_high : (c n : ℕ) (places : List Place) → AreAbove n places → AllSeqs (λ m. c < m) (all_above c places)
all_high c n [] above = tt
all_high c n (p ∷ places) above = above_by c (is_at_most c p) p places refl above.1 (all_high c p.seq places above.1)

last_above : (n : ℕ) (fr : List Place) (p : Place) (more : List Place) → AreAbove n (fr ++ p ∷ more) → n < p.seq
last_above n [] p more above = above.0
last_above n (q ∷ fr) p more above = let up : n < q.seq = above.0 in omega (arith, up, last_above q.seq fr p more above.1)

abbrev IsApart : ℕ → ℕ → ℕ → Type 0
IsApart c seq n = (n ≤ seq) ⊎ (c < n)

high_apart : (c seq : ℕ) (places : List Place) → AllSeqs (λ m. c < m) places → AllSeqs (IsApart c seq) places
high_apart c seq [] all = tt
high_apart c seq (p ∷ places) all = (inr all.0, high_apart c seq places all.1)

seqs_apart : (c n : ℕ) (fr : List Place) (p : Place) (more : List Place) → AreAbove n (fr ++ p ∷ more) → AllSeqs (λ m. c < m) more → AllSeqs (IsApart c p.seq) (fr ++ p ∷ more)
seqs_apart c n [] p more above high = (inl (omega arith), high_apart c p.seq more high)
seqs_apart c n (q ∷ fr) p more above high = (inl (omega (arith, last_above q.seq fr p more above.1)), seqs_apart c q.seq fr p more above.1 high)

module _ (format : Format) (bodies : List (List Row)) where
  stand_numbers : (P : ℕ → Type 0) (places : List Place) (rows : List Row) → AllStand format bodies places rows → AllSeqs P places → AllNumbers P rows
  stand_numbers P [] rows all seqs = subst (AllNumbers P) (sym all) tt
  stand_numbers P (p ∷ places) [] all seqs = tt
  stand_numbers P (p ∷ places) (row ∷ rows) all seqs =
      (subst P (sym (ap first_seq all.0.sends)) seqs.0, stand_numbers P places rows all.1 seqs.1)

  stands_there : (fr : List Place) (p : Place) (more : List Place) (rows : List Row) → AllStand format bodies (fr ++ p ∷ more) rows → (row : Row) × StandsAt format bodies p row
  stands_there [] p more [] all = absurd all
  stands_there [] p more (row ∷ rows) all = (row, all.0)
  stands_there (q ∷ fr) p more [] all = absurd all
  stands_there (q ∷ fr) p more (row ∷ rows) all = stands_there fr p more rows all.1

-- ---- rows without an old event

old_by : (c : ℕ) (es : List Event) (e : Event) → es ≡ e ∷ [] → (b : Bool) → nat_le e.0 c ≡ b → list_any (λ event. nat_le event.0 c) es ≡ b
old_by c es e is true le = ap (list_any (λ (event : Event). nat_le event.0 c)) is ∙ ap (λ (t : Bool). t || false) le
old_by c es e is false le = ap (list_any (λ (event : Event). nat_le event.0 c)) is ∙ ap (λ (t : Bool). t || false) le

not_old : (c : ℕ) (row : Row) → c < number_in row → is_old c row ≡ false
not_old c row up = ⊎_elim
    (λ none. ap (list_any (λ (event : Event). nat_le event.0 c)) none)
    (λ some.
    let number : number_in row ≡ some.0.0 = ap first_seq some.1 in
    old_by c (events_in row) some.0 some.1 false (grind (arith, nat_tests, up, number)))
    (one_event row)

none_by : (c : ℕ) (none : Bool) (row : Row) (rows : List Row) → (number_in row == 0) ≡ none → is_row row ≡ true → AllNumbers (λ m. c < m) (if none then sent rows else row ∷ sent rows)
    → (AllNumbers (λ m. c < m) (sent rows) → have_old c rows ≡ false) → have_old c (row ∷ rows) ≡ false
none_by c true row rows none formed all more =
    ap (λ (b : Bool). b || have_old c rows) (ap (list_any (λ (event : Event). nat_le event.0 c)) (none_sent row formed none)) ∙ more all
none_by c false row rows none formed all more = ap (λ (b : Bool). b || have_old c rows) (not_old c row all.0) ∙ more all.1

pub none_old : (c : ℕ) (rows : List Row) → list_all is_row rows ≡ true → AllNumbers (λ m. c < m) (sent rows) → have_old c rows ≡ false
none_old c [] formed all = refl
none_old c (row ∷ rows) formed all =
    let both = and_parts (is_row row) (list_all is_row rows) formed in
    none_by c (number_in row == 0) row rows refl both.0 all (none_old c rows both.1)

-- rows whose numbers rise above one, and are up to that one or above c
rising_high : (c seq n : ℕ) (rows : List Row) → seq ≤ n → AreRising n rows → AllNumbers (IsApart c seq) rows → AllNumbers (λ m. c < m) rows
rising_high c seq n [] le rise apart = tt
rising_high c seq n (row ∷ rows) le rise apart =
    let up : n < number_in row = rise.0 in (
      ⊎_elim (λ low. absurd (omega (arith, le, up, low))) (λ high. high) apart.0,
      rising_high c seq (number_in row) rows (omega (arith, le, up)) rise.1 apart.1,
    )

-- ---- where the front ends

-- In these bodies the front of the journal goes up to the row at this place, with that one.
pub record IsCutAt (format : Format) (bodies : List (List Row)) (J : List Row) (c : ℕ) (p : Place) : Type 0 where
  pub before : List (List Row)
  pub there : List Row
  pub after : List (List Row)
  pub split : bodies ≡ before ++ there ∷ after
  pub here : p.place ≡ length (made format (bytes_of before))
  pub front_is : carried_front c J ≡ joined before ++ take (p.index + 1) there
  pub rest_is : rows_behind_front c J ≡ drop (p.index + 1) there ++ joined after
  pub some : have_old c J ≡ true

pub taken_at : {X : Type 0} (xs : List X) (i : ℕ) (x : X) → slice_get xs i ≡ Some x → take (suc i) xs ≡ take i xs ++ x ∷ []
taken_at [] i x got = absurd cc
taken_at {X = X} (y ∷ xs) zero x got = ap (λ (r : X). r ∷ []) (same_Some y x got)
taken_at {X = X} (y ∷ xs) (suc i) x got = ap (λ (l : List X). y ∷ l) (taken_at xs i x got)

pub parted_at : {X : Type 0} (xs : List X) (i : ℕ) (x : X) → slice_get xs i ≡ Some x → xs ≡ take i xs ++ x ∷ drop (suc i) xs
parted_at [] i x got = absurd cc
parted_at {X = X} (y ∷ xs) zero x got = ap (λ (r : X). r ∷ xs) (same_Some y x got)
parted_at {X = X} (y ∷ xs) (suc i) x got = ap (λ (l : List X). y ∷ l) (parted_at xs i x got)

pub joined_both : (xs ys : List (List Row)) → joined (xs ++ ys) ≡ joined xs ++ joined ys
joined_both [] ys = refl
joined_both (x ∷ xs) ys = ap (λ (l : List Row). x ++ l) (joined_both xs ys) ∙ sym (append_assoc x (joined xs) (joined ys))

sent_by : (P : ℕ → Type 0) (none : Bool) (x : Row) (rows tail : List Row) → AllNumbers P (if none then rows else x ∷ rows) → (AllNumbers P rows → AllNumbers P tail) → AllNumbers P tail
sent_by P true x rows tail all more = more all
sent_by P false x rows tail all more = more all.1

sent_tail : (P : ℕ → Type 0) (xs : List Row) (row : Row) (ys : List Row) → AllNumbers P (sent (xs ++ row ∷ ys)) → (number_in row == 0) ≡ false → AllNumbers P (row ∷ sent ys)
sent_tail P [] row ys all some = subst (λ (b : Bool). AllNumbers P (if b then sent ys else row ∷ sent ys)) some all
sent_tail P (x ∷ xs) row ys all some = sent_by P (number_in x == 0) x (sent (xs ++ row ∷ ys)) (row ∷ sent ys) all (λ more. sent_tail P xs row ys more some)

module _ (format : Format) (bodies : List (List Row)) (J : List Row) (rows_are : joined bodies ≡ J) (journal : IsJournal J) (places : List Place) (all : AllStand format bodies places (sent J)) (above : AreAbove 0 places) (c : ℕ) where
  -- where no place is low, no event is old
  pub none_upto : places ≡ all_above c places → have_old c J ≡ false
  none_upto is =
      none_old c J journal.formed (stand_numbers format bodies (λ m. c < m) places (sent J) all
      (subst (AllSeqs (λ m. c < m)) (sym is) (all_high c 0 places above)))

  module _ (p : Place) (last : IsLastUpto c p places) where
    abbrev more : List Place
    more = all_above c places

    row_there : (row : Row) × StandsAt format bodies p row
    row_there = stands_there format bodies last.front p more (sent J) (subst (λ (ps : List Place). AllStand format bodies ps (sent J)) last.split all)

    abbrev row : Row
    row = row_there.0

    at : StandsAt format bodies p row
    at = row_there.1

    number : number_in row ≡ p.seq
    number = ap first_seq at.sends

    positive : 0 < p.seq
    positive = last_above 0 last.front p more (subst (AreAbove 0) last.split above)

    numbered : (number_in row == 0) ≡ false
    numbered = grind (arith, nat_tests, number, positive)

    abbrev ahead : List Row
    ahead = joined at.before ++ take p.index at.rows

    abbrev past : List Row
    past = drop (suc p.index) at.rows ++ joined at.after

    whole : J ≡ ahead ++ row ∷ past
    whole =
        sym rows_are ∙ ap joined at.split ∙ joined_both at.before (at.rows ∷ at.after)
        ∙ ap (λ (l : List Row). joined at.before ++ (l ++ joined at.after)) (parted_at at.rows p.index row at.row_at)
        ∙ ap (λ (l : List Row). joined at.before ++ l) (append_assoc (take p.index at.rows) (row ∷ drop (suc p.index) at.rows) (joined at.after))
        ∙ sym (append_assoc (joined at.before) (take p.index at.rows) (row ∷ past))

    apart : AllNumbers (IsApart c p.seq) (sent J)
    apart = stand_numbers format bodies (IsApart c p.seq) places (sent J) all
        (subst (AllSeqs (IsApart c p.seq)) (sym last.split) (seqs_apart c 0 last.front p more (subst (AreAbove 0) last.split above) (all_high c 0 places above)))

    rise : AreRising (number_in row) (sent past)
    rise = (subst (λ (b : Bool). AreRising (last_seq ahead) (if b then sent past else row ∷ sent past)) numbered (rising ahead (row ∷ past) (subst IsJournal whole journal))).1

    past_apart : AllNumbers (IsApart c p.seq) (sent past)
    past_apart = (sent_tail (IsApart c p.seq) ahead row past (subst (λ (l : List Row). AllNumbers (IsApart c p.seq) (sent l)) whole apart) numbered).1

    past_formed : list_all is_row past ≡ true
    past_formed =
        let both = sym (list_all-append is_row ahead (row ∷ past)) ∙ subst (λ (l : List Row). list_all is_row l ≡ true) whole journal.formed in
        (and_parts (is_row row) (list_all is_row past) (and_parts (list_all is_row ahead) (list_all is_row (row ∷ past)) both).1).1

    past_new : have_old c past ≡ false
    past_new = none_old c past past_formed (rising_high c p.seq (number_in row) (sent past) (omega (arith, number)) rise past_apart)

    row_old : is_old c row ≡ true
    row_old = old_by c (events_in row) (p.seq, message_of (events_in row)) at.sends true (grind (arith, nat_tests, last.low))

    here_old : have_old c (row ∷ past) ≡ true
    here_old = or_left (is_old c row) (have_old c past) row_old

    some_old : have_old c J ≡ true
    some_old = ap (have_old c) whole ∙ list_any-append (is_old c) ahead (row ∷ past) ∙ or_right (have_old c ahead) (have_old c (row ∷ past)) here_old

    front_here : carried_front c J ≡ ahead ++ row ∷ []
    front_here = ap (carried_front c) whole ∙ front_at c ahead row past row_old past_new

    rest_here : rows_behind_front c J ≡ past
    rest_here = ap (rows_behind_front c) whole ∙ rest_at c ahead row past row_old past_new

    pub cut_at : IsCutAt format bodies J c p
    cut_at = record {
      before = at.before;
      there = at.rows;
      after = at.after;
      split = at.split;
      here = at.here;
      front_is = front_here ∙ append_assoc (joined at.before) (take p.index at.rows) (row ∷ [])
          ∙ ap (λ (l : List Row). joined at.before ++ l) (sym (taken_at at.rows p.index row at.row_at) ∙ ap (λ (n : ℕ). take n at.rows) (sym (add-one p.index)));
      rest_is = rest_here ∙ ap (λ (n : ℕ). drop n at.rows ++ joined at.after) (sym (add-one p.index));
      some = some_old;
    }

-- of what a store keeps
module _ (J : List Row) (s : StoreState) (v : View) (keeps : Keeps J s v) (c : ℕ) where
  pub kept_none : s.window ≡ all_above c s.window → have_old c J ≡ false
  kept_none is = none_upto s.log.format keeps.bodies J keeps.are.rows keeps.are.journal s.window (all_stand J s v keeps) (window_rises J s v keeps) c is

  pub kept_at : (p : Place) → IsLastUpto c p s.window → IsCutAt s.log.format keeps.bodies J c p
  kept_at p last = cut_at s.log.format keeps.bodies J keeps.are.rows keeps.are.journal s.window (all_stand J s v keeps) (window_rises J s v keeps) c p last

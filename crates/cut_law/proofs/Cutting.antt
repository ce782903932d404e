-- The cut of a journal is one in the sense of histories.
use Rattle.std.proofs.Common.{◌≡◌, inl, inr, ⊎_elim, ℕ, ◌<◌, ◌≤◌, Bool, true, false, cond, List, [], ◌∷◌, ◌++◌, refl, sym, ◌∙◌, subst, arith}
use Rattle.std.specs.List.{list_all, list_any}
use Rattle.std.specs.Prelude.{nat_le, nat_lt}
use Rattle.std.proofs.lemmas.Bool.{and_from, and_parts, false≢true, le-leb, leb-true, leb-false, lt-ltb, or_cases, or_parts}
use Rattle.relay_row.specs.Folds.{events, events_in, last_after, last_seq}
use Rattle.relay_row.specs.Journal.{IsJournal}
use Rattle.relay_row.specs.declared.row.Row.{Row}
use Rattle.relay_row.proofs.Journals.{fronts}
use Rattle.relay_law.specs.Histories.{IsCut}
use Rattle.cut_law.specs.Cut.{is_old, have_old, carried_front, rows_behind_front, carried, cut, MayCut}
use Rattle.cut_law.proofs.Carrying.{same_account, same_cursor, same_last}
use Rattle.cut_law.proofs.Fronts.{front_old, old_events, rest_new, split}
use Rattle.cut_law.proofs.Numbers.{AllRise, Event, IsIn, all_rise, behind, few_in, in_joined, last_moves, one_of_few, sent_above, seq_is, within}
use Rattle.cut_law.proofs.Ordered.{all_carried, carried_journal}

-- ---- what passes among events

all_in : (p : Event → Bool) (es : List Event) → ((e : Event) → IsIn e es → p e ≡ true) → list_all p es ≡ true
all_in p [] each = refl
all_in p (e ∷ es) each = and_from (p e) (list_all p es) (each e (inl refl)) (all_in p es (λ x one. each x (inr one)))

pub each_in : (p : Event → Bool) (es : List Event) (e : Event) → list_all p es ≡ true → IsIn e es → p e ≡ true
each_in p [] e all one = absurd one
each_in p (x ∷ es) e all (inl same) = subst (λ (y : Event). p y ≡ true) same (and_parts (p x) (list_all p es) all).0
each_in p (x ∷ es) e all (inr one) = each_in p es e (and_parts (p x) (list_all p es) all).1 one

any_in : (p : Event → Bool) (es : List Event) → list_any p es ≡ true → (e : Event) × IsIn e es × (p e ≡ true)
any_in p [] some = absurd (false≢true some)
any_in p (x ∷ es) some = ⊎_elim (λ here. (x, inl refl, here)) (λ later. let more = any_in p es later in (more.0, inr more.1, more.2)) (or_cases (p x) (list_any p es) some)

none_in : (p : Event → Bool) (es : List Event) (e : Event) → list_any p es ≡ false → IsIn e es → p e ≡ false
none_in p [] e none one = absurd one
none_in p (x ∷ es) e none (inl same) = subst (λ (y : Event). p y ≡ false) same (or_parts (p x) (list_any p es) none).0
none_in p (x ∷ es) e none (inr one) = none_in p es e (or_parts (p x) (list_any p es) none).1 one

-- ---- the front's events are those up to the number

-- an event of these rows up to the number
record HasOld (c : ℕ) (rows : List Row) : Type 0 where
  event : Event
  sent : IsIn event (events rows)
  old : event.0 ≤ c

has_old : (c : ℕ) (rows : List Row) → have_old c rows ≡ true → HasOld c rows
has_old c rows some =
    let found = any_in (λ event. nat_le event.0 c) (events rows) (sym (old_events c rows) ∙ some) in
    record { event = found.0; sent = found.1; old = leb-true found.0.0 c found.2 }

row_old : (c last : ℕ) (row : Row) (rows : List Row) (e : Event) → AllRise last (row ∷ rows) → have_old c (row ∷ rows) ≡ true → IsIn e (events_in row) → e.0 ≤ c
row_old c last row rows e rise some here = ⊎_elim
    (λ its. let found = any_in (λ event. nat_le event.0 c) (events_in row) its in subst (λ (x : Event). x.0 ≤ c) (one_of_few (events_in row) found.0 e (few_in row) found.1 here) (leb-true found.0.0 c found.2))
    (λ later.
    let other = has_old c rows later in
    let is = seq_is row e here in
    let moved = last_moves last row (omega (arith, is, sent_above row e rise.1 here)) in
    omega (arith, is, moved, behind (last_after last row) rows other.event rise.2 other.sent, other.old))
    (or_cases (is_old c row) (have_old c rows) some)

front_up_to : (c last : ℕ) (rows : List Row) (e : Event) → AllRise last rows → IsIn e (events (carried_front c rows)) → e.0 ≤ c
front_up_to c last [] e rise one = absurd one
front_up_to c last (row ∷ rows) e rise one =
    elim (have_old c (row ∷ rows)) as (λ b. have_old c (row ∷ rows) ≡ b → IsIn e (events (cond b (row ∷ carried_front c rows) [])) → e.0 ≤ c) [
      | true ↦ λ some here. ⊎_elim
          (λ first. row_old c last row rows e rise some first)
          (λ later. front_up_to c (last_after last row) rows e rise.2 later)
          (in_joined (events_in row) (events (carried_front c rows)) e here)
      | false ↦ λ none here. absurd here
    ] refl one

rest_above : (c : ℕ) (rows : List Row) (e : Event) → IsIn e (events (rows_behind_front c rows)) → c < e.0
rest_above c rows e one = leb-false e.0 c (none_in (λ event. nat_le event.0 c) (events (rows_behind_front c rows)) e (sym (old_events c (rows_behind_front c rows)) ∙ rest_new c rows) one)

-- ---- together

pub whole_journal : (J : List Row) (c : ℕ) → IsJournal J → IsJournal (carried_front c J ++ rows_behind_front c J)
whole_journal J c is = let P : List Row → Type 0 = λ K. IsJournal K in subst P (sym (split c J)) is

last_some : (rows : List Row) (e : Event) → IsJournal rows → IsIn e (events rows) → 0 < last_seq rows
unfolding last_seq
last_some rows e is one =
    let rise = all_rise [] rows is in
    omega (arith, behind 0 rows e rise one, within 0 rows e rise one)

pub cut_is : (J : List Row) (c : ℕ) → IsJournal J → MayCut J c → IsCut J c (cut J c)
unfolding cut
cut_is J c is may =
    let A = carried_front c J in
    let B = rows_behind_front c J in
    let before : IsJournal A = fronts A B (whole_journal J c is) in
    let old = has_old c A (front_old c J ∙ may.some) in
    record {
      front = A;
      others = B;
      carried = carried A;
      held = may.held;
      whole = sym (split c J);
      now = refl;
      some = λ none. subst (λ (es : List Event). IsIn old.event es) none old.sent;
      up_to = all_in (λ event. nat_le event.0 c) (events A) (λ e one. le-leb e.0 c (front_up_to c (last_seq []) J e (all_rise [] J is) one));
      above = all_in (λ event. nat_lt c event.0) (events B) (λ e one. lt-ltb c e.0 (rest_above c J e one));
      over = record { are_carried = all_carried A; journal = carried_journal A before (last_some A old.event before old.sent); accounts = λ did. same_account did A };
      last = same_last A;
      cursors = λ host. same_cursor host A;
    }

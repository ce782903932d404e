-- What tells whether rows are old: their numbers, and the first number of all.
use Rattle.std.proofs.Common.{◌≡◌, inl, inr, ℕ, ◌<◌, Bool, true, false, ◌&&◌, ◌||◌, List, [], ◌∷◌, ◌++◌, refl, sym, ap, ◌∙◌, subst, arith}
use Rattle.std.specs.List.{list_any}
use Rattle.std.specs.Prelude.{nat_le, nat_lt}
use Rattle.std.proofs.lemmas.Bool.{and_parts, leb-false, lt-leb, or_from, or_left, true≢false}
use Rattle.relay_row.specs.Folds.{events, events_in, last_after, last_seq, seq_in, first_seq}
use Rattle.relay_row.specs.Journal.{IsJournal, is_carried_row}
use Rattle.relay_row.specs.Rules.{is_number, is_positive, is_row}
use Rattle.relay_row.specs.declared.row.Row.{Row}
use Rattle.cut_law.specs.Cut.{is_old, have_old}
use Rattle.cut_law.proofs.Fronts.{old_events, or_nothing}
use Rattle.cut_law.proofs.Numbers.{AllRise, AreFew, Event, IsIn, all_rise, behind, few_in, last_moves, sent_above, sent_positive, seq_is}

-- ---- one row

few_old : (c : ℕ) (es : List Event) → AreFew es → ((e : Event) → IsIn e es → is_positive e.0 ≡ true) → list_any (λ event. nat_le event.0 c) es ≡ (nat_lt 0 (first_seq es) && nat_le (first_seq es) c)
few_old c [] few each = refl
few_old c (x ∷ []) few each =
    or_nothing (nat_le x.0 c) ∙ sym (ap (λ (b : Bool). b && nat_le x.0 c) (and_parts (nat_lt 0 x.0) (is_number x.0) (each x (inl refl))).0)
few_old c (x ∷ (y ∷ es)) few each = absurd few

-- a row that isn't carried is old by its number
pub old_by_number : (c : ℕ) (row : Row) → is_row row ≡ true → is_carried_row row ≡ false → is_old c row ≡ (nat_lt 0 (seq_in row) && nat_le (seq_in row) c)
old_by_number c (Row.Taken t) formed other = few_old c (events_in (Row.Taken t)) (few_in (Row.Taken t)) (λ e one. sent_positive (Row.Taken t) e formed one)
old_by_number c (Row.Synced did whole moment) formed other =
    few_old c (events_in (Row.Synced did whole moment)) tt (λ e one. sent_positive (Row.Synced did whole moment) e formed one)
old_by_number c (Row.Operated o) formed other = few_old c (events_in (Row.Operated o)) tt (λ e one. sent_positive (Row.Operated o) e formed one)
old_by_number c (Row.Carried carried) formed other = absurd (true≢false other)

-- ---- all rows

-- these events, of which there is one at most, and those behind them: the first, and the others
by_first : (xs ys es : List Event) (e : Event) (Q : Type 0) → AreFew xs → xs ++ ys ≡ e ∷ es → (xs ≡ [] → ys ≡ e ∷ es → Q) → (IsIn e xs → ys ≡ es → Q) → Q
by_first [] ys es e Q few is none one = none refl is
by_first (x ∷ []) ys es e Q few is none one =
    let same : x ≡ e = cc in
    let others : ys ≡ es = cc in
    one (inl same) others
by_first (x ∷ (y ∷ xs)) ys es e Q few is none one = absurd few

others_above : (last : ℕ) (rows : List Row) (e : Event) (es : List Event) → AllRise last rows → events rows ≡ e ∷ es → (f : Event) → IsIn f es → e.0 < f.0
others_above last [] e es rise is f one = absurd cc
others_above last (row ∷ rows) e es rise is f one =
    by_first (events_in row) (events rows) es e (e.0 < f.0) (few_in row) is
    (λ none later. others_above (last_after last row) rows e es rise.2 later f one)
    (λ here later.
    let number = seq_is row e here in
    let moved = last_moves last row (omega (arith, number, sent_above row e rise.1 here)) in
    omega (arith, number, moved, behind (last_after last row) rows f rise.2 (subst (λ (l : List Event). IsIn f l) (sym later) one)))

none_old : (c : ℕ) (es : List Event) → ((f : Event) → IsIn f es → c < f.0) → list_any (λ event. nat_le event.0 c) es ≡ false
none_old c [] each = refl
none_old c (x ∷ es) each = or_from (nat_le x.0 c) (list_any (λ event. nat_le event.0 c) es) (lt-leb x.0 c (each x (inl refl))) (none_old c es (λ f one. each f (inr one)))

-- a row of a journal is old where its first event is
pub old_by_first : (c : ℕ) (J : List Row) (e : Event) (es : List Event) → IsJournal J → events J ≡ e ∷ es → have_old c J ≡ nat_le e.0 c
old_by_first c J e es is first =
    old_events c J ∙ ap (λ (l : List Event). list_any (λ event. nat_le event.0 c) l) first
    ∙ elim (nat_le e.0 c) as (λ b. nat_le e.0 c ≡ b → nat_le e.0 c || list_any (λ event. nat_le event.0 c) es ≡ b) [
      | true ↦ λ t. or_left (nat_le e.0 c) (list_any (λ event. nat_le event.0 c) es) t
      | false ↦ λ t.
          let low = leb-false e.0 c t in
          or_from (nat_le e.0 c) (list_any (λ event. nat_le event.0 c) es) t (none_old c es (λ f one. omega (arith, low, others_above (last_seq []) J e es (all_rise [] J is) first f one)))
    ] refl

pub none_by_none : (c : ℕ) (J : List Row) → events J ≡ [] → have_old c J ≡ false
none_by_none c J none = old_events c J ∙ ap (λ (l : List Event). list_any (λ event. nat_le event.0 c) l) none

-- The front of a journal and the rows behind it.
use Rattle.std.proofs.Common.{◌≡◌, ℕ, Bool, true, false, ◌||◌, cond, List, [], ◌∷◌, ◌++◌, length, take, drop, refl, sym, ap, ◌∙◌}
use Rattle.std.proofs.lemmas.Bool.{or_left, or_right}
use Rattle.std.proofs.lemmas.List.{take_at, drop_at}
use Rattle.std.proofs.lemmas.List.Folds.{list_any-append}
use Rattle.std.specs.List.{list_any}
use Rattle.std.specs.Prelude.{nat_le}
use Rattle.relay_row.specs.Folds.{events_in, events}
use Rattle.relay_row.specs.declared.row.Row.{Row}
use Rattle.cut_law.specs.Cut.{is_old, have_old, carried_front, rows_behind_front}

split_by : (b : Bool) (row : Row) (xs ys rows : List Row) → xs ++ ys ≡ rows → cond b (row ∷ xs) [] ++ cond b ys (row ∷ rows) ≡ row ∷ rows
split_by true row xs ys rows is = ap (λ (l : List Row). row ∷ l) is
split_by false row xs ys rows is = refl

-- the front and the rows behind it are the journal
pub split : (c : ℕ) (rows : List Row) → carried_front c rows ++ rows_behind_front c rows ≡ rows
split c [] = refl
split c (row ∷ rows) = split_by (have_old c (row ∷ rows)) row (carried_front c rows) (rows_behind_front c rows) rows (split c rows)

-- behind the front no row is old
pub rest_new : (c : ℕ) (rows : List Row) → have_old c (rows_behind_front c rows) ≡ false
rest_new c [] = refl
rest_new c (row ∷ rows) =
    elim (have_old c (row ∷ rows)) as (λ b. have_old c (row ∷ rows) ≡ b → have_old c (cond b (rows_behind_front c rows) (row ∷ rows)) ≡ false) [
      | true ↦ λ e. rest_new c rows
      | false ↦ λ e. e
    ] refl

-- a front has an old row where the journal has one
pub front_old : (c : ℕ) (rows : List Row) → have_old c (carried_front c rows) ≡ have_old c rows
front_old c [] = refl
front_old c (row ∷ rows) =
    elim (have_old c (row ∷ rows)) as (λ b. have_old c (row ∷ rows) ≡ b → have_old c (cond b (row ∷ carried_front c rows) []) ≡ b) [
      | true ↦ λ e. ap (λ (t : Bool). is_old c row || t) (front_old c rows) ∙ e
      | false ↦ λ e. refl
    ] refl

pub or_nothing : (b : Bool) → b || false ≡ b
or_nothing true = refl
or_nothing false = refl

old_more : (c : ℕ) (xs : List Row) (row : Row) (b : Bool) → is_old c row ≡ b → have_old c (xs ++ row ∷ []) ≡ have_old c xs || b
old_more c xs row b is = list_any-append (is_old c) xs (row ∷ []) ∙ ap (λ (t : Bool). have_old c xs || t) (or_nothing (is_old c row) ∙ is)

-- the front of one row more: all rows, where that is old, else the front before
pub grown : (c : ℕ) (row : Row) (b : Bool) → is_old c row ≡ b → (xs : List Row) → carried_front c (xs ++ row ∷ []) ≡ cond b (xs ++ row ∷ []) (carried_front c xs)
grown c row b is [] = ap (λ (t : Bool). cond t (row ∷ []) []) (or_nothing (is_old c row) ∙ is)
grown c row true is (x ∷ xs) =
    let more = carried_front c (xs ++ row ∷ []) in
    ap (λ (t : Bool). cond (is_old c x || t) (x ∷ more) []) (old_more c xs row true is ∙ or_right (have_old c xs) true refl)
    ∙ ap (λ (t : Bool). cond t (x ∷ more) []) (or_right (is_old c x) true refl)
    ∙ ap (λ (l : List Row). x ∷ l) (grown c row true is xs)
grown c row false is (x ∷ xs) =
    ap (λ (t : Bool). cond (is_old c x || t) (x ∷ carried_front c (xs ++ row ∷ [])) []) (old_more c xs row false is ∙ or_nothing (have_old c xs))
    ∙ ap (λ (l : List Row). cond (is_old c x || have_old c xs) (x ∷ l) []) (grown c row false is xs)

-- so many rows are the front, and what is left of them is behind it
pub front_taken : (c : ℕ) (rows : List Row) → take (length (carried_front c rows)) rows ≡ carried_front c rows
front_taken c rows = ap (λ (l : List Row). take (length (carried_front c rows)) l) (sym (split c rows)) ∙ take_at (carried_front c rows) (rows_behind_front c rows) (length (carried_front c rows)) refl

pub rest_left : (c : ℕ) (rows : List Row) → drop (length (carried_front c rows)) rows ≡ rows_behind_front c rows
rest_left c rows = ap (λ (l : List Row). drop (length (carried_front c rows)) l) (sym (split c rows)) ∙ drop_at (carried_front c rows) (rows_behind_front c rows) (length (carried_front c rows)) refl

-- rows are old by their events
pub old_events : (c : ℕ) (rows : List Row) → have_old c rows ≡ list_any (λ event. nat_le event.0 c) (events rows)
old_events c [] = refl
old_events c (row ∷ rows) = ap (λ (b : Bool). is_old c row || b) (old_events c rows) ∙ sym (list_any-append (λ (event : ℕ × List ℕ). nat_le event.0 c) (events_in row) (events rows))

-- where a later row is old, the rows before it are of the front
pub record IsBehind (c : ℕ) (xs ys : List Row) : Type 0 where
  pub front_is : carried_front c (xs ++ ys) ≡ xs ++ carried_front c ys
  pub rest_is : rows_behind_front c (xs ++ ys) ≡ rows_behind_front c ys

pub behind : (c : ℕ) (xs ys : List Row) → have_old c ys ≡ true → IsBehind c xs ys
behind c [] ys old = record { front_is = refl; rest_is = refl }
behind c (x ∷ xs) ys old =
    let more = behind c xs ys old in
    let later : have_old c (xs ++ ys) ≡ true = list_any-append (is_old c) xs ys ∙ or_right (have_old c xs) (have_old c ys) old in
    let here : have_old c (x ∷ (xs ++ ys)) ≡ true = or_right (is_old c x) (have_old c (xs ++ ys)) later in
    record {
      front_is = ap (λ (b : Bool). cond b (x ∷ carried_front c (xs ++ ys)) []) here ∙ ap (λ (l : List Row). x ∷ l) more.front_is;
      rest_is = ap (λ (b : Bool). cond b (rows_behind_front c (xs ++ ys)) (x ∷ (xs ++ ys))) here ∙ more.rest_is;
    }

-- ---- the front ends with the last old row

none_front : (c : ℕ) (rows : List Row) → have_old c rows ≡ false → carried_front c rows ≡ []
none_front c [] none = refl
none_front c (row ∷ rows) none = ap (λ (b : Bool). cond b (row ∷ carried_front c rows) []) none

none_rest : (c : ℕ) (rows : List Row) → have_old c rows ≡ false → rows_behind_front c rows ≡ rows
none_rest c [] none = refl
none_rest c (row ∷ rows) none = ap (λ (b : Bool). cond b (rows_behind_front c rows) (row ∷ rows)) none

module _ (c : ℕ) (before : List Row) (row : Row) (after : List Row) (old : is_old c row ≡ true) (new : have_old c after ≡ false) where
  some : have_old c (row ∷ after) ≡ true
  some = or_left (is_old c row) (have_old c after) old

  pub front_at : carried_front c (before ++ row ∷ after) ≡ before ++ row ∷ []
  front_at =
      (behind c before (row ∷ after) some).front_is
      ∙ ap (λ (l : List Row). before ++ l) (ap (λ (b : Bool). cond b (row ∷ carried_front c after) []) some ∙ ap (λ (l : List Row). row ∷ l) (none_front c after new))

  pub rest_at : rows_behind_front c (before ++ row ∷ after) ≡ after
  rest_at = (behind c before (row ∷ after) some).rest_is ∙ ap (λ (b : Bool). cond b (rows_behind_front c after) (row ∷ after)) some ∙ none_rest c after new

-- Rows that come one after another, each in order behind those before it.
use Rattle.std.proofs.Common.{◌≡◌, ◌∙◌, true, false, ℕ, List, [], ◌∷◌, ◌++◌, take, drop, sym, ap, subst, append_assoc}
use Rattle.std.specs.List.{list_all}
use Rattle.std.proofs.lemmas.Bool.{and_parts}
use Rattle.std.proofs.lemmas.List.{append-nil, take-append-drop}
use Rattle.std.proofs.lemmas.List.Folds.{list_all-append}
use Rattle.relay_row.specs.Journal.{IsJournal, keeps_order}
use Rattle.relay_row.specs.Rules.{is_row}
use Rattle.relay_row.specs.declared.row.Row.{Row}
use Rattle.relay_row.proofs.Journals.{grows, grew, fronts}
use Rattle.relay_core.specs.declared.journal_state.Core.{Core}
use Rattle.relay_core.specs.Entries.{Holds}
use Rattle.store_cut.specs.Rereading.{BreaksOrder, GrowsInOrder}

formed_front : (xs ys : List Row) → list_all is_row (xs ++ ys) ≡ true → list_all is_row xs ≡ true
formed_front xs ys formed = (and_parts (list_all is_row xs) (list_all is_row ys) (sym (list_all-append is_row xs ys) ∙ formed)).0

formed_rest : (xs ys : List Row) → list_all is_row (xs ++ ys) ≡ true → list_all is_row ys ≡ true
formed_rest xs ys formed = (and_parts (list_all is_row xs) (list_all is_row ys) (sym (list_all-append is_row xs ys) ∙ formed)).1

pub formed_taken : (n : ℕ) (rows : List Row) → list_all is_row rows ≡ true → list_all is_row (take n rows) ≡ true
formed_taken n rows formed = formed_front (take n rows) (drop n rows) (subst (λ (l : List Row). list_all is_row l ≡ true) (sym (take-append-drop n rows)) formed)

pub formed_dropped : (n : ℕ) (rows : List Row) → list_all is_row rows ≡ true → list_all is_row (drop n rows) ≡ true
formed_dropped n rows formed = formed_rest (take n rows) (drop n rows) (subst (λ (l : List Row). list_all is_row l ≡ true) (sym (take-append-drop n rows)) formed)

-- the first rows moved a state and came in order behind it
abbrev pub DoneInOrder : List Row → List Row → Core → Type 0
DoneInOrder rows done state = (J : List Row) → Holds state J → IsJournal J → list_all is_row rows ≡ true → IsJournal (J ++ done)

pub done_none : (rows : List Row) (state : Core) → DoneInOrder rows [] state
done_none rows state J holds is formed = subst IsJournal (sym (append-nil J)) is

module _ (rows done left rest : List Row) (row : Row) (state now : Core) (split : rows ≡ done ++ left) (is : left ≡ row ∷ rest) (moved : (J : List Row) → Holds state J → Holds now (J ++ done)) where
  whole : rows ≡ done ++ row ∷ rest
  whole = split ∙ ap (λ (l : List Row). done ++ l) is

  pub done_more : DoneInOrder rows done state → ((J : List Row) → Holds now J → true ≡ keeps_order J row) → DoneInOrder rows (done ++ row ∷ []) state
  done_more before order J holds journal formed =
      let row_formed = (and_parts (is_row row) (list_all is_row rest) (formed_rest done (row ∷ rest) (subst (λ (l : List Row). list_all is_row l ≡ true) whole formed))).0 in
      subst IsJournal (append_assoc J done (row ∷ [])) (grows (J ++ done) row (before J holds journal formed) row_formed (sym (order (J ++ done) (moved J holds))))

  pub done_stops : ((J : List Row) → Holds now J → false ≡ keeps_order J row) → BreaksOrder rows state
  done_stops order J behind holds journal =
      let others = rest ++ behind in
      let parts : rows ++ behind ≡ done ++ row ∷ others = ap (λ (l : List Row). l ++ behind) whole ∙ append_assoc done (row ∷ rest) behind in
      let all : IsJournal (((J ++ done) ++ row ∷ []) ++ others) = subst IsJournal
      (ap (λ (l : List Row). J ++ l) parts ∙ sym (append_assoc J done (row ∷ others)) ∙ sym (append_assoc (J ++ done) (row ∷ []) others)) journal in
      let kept = (grew (J ++ done) row (fronts ((J ++ done) ++ row ∷ []) others all)).1 in
      let not = order (J ++ done) (moved J holds) in
      absurd cc

pub done_all : (rows done : List Row) (state : Core) → rows ≡ done ++ [] → DoneInOrder rows done state → GrowsInOrder rows state
done_all rows done state split before J holds journal formed =
    subst (λ (l : List Row). IsJournal (J ++ l)) (sym (split ∙ append-nil done)) (before J holds journal formed)

-- What holds of all rows, folds and journals.
use Rattle.std.specs.Prelude.{◌≡◌, ◌↔◌, ℕ, List, [], ◌∷◌, ◌++◌, true, IsTrue}
use Rattle.relay_row.specs.declared.row.Row.{Row}
use Rattle.relay_row.specs.Folds.{folded, cursor_after, cursor, last_after, last_seq, events}
use Rattle.relay_row.specs.Journal.{IsJournal, keeps_order}
use Rattle.relay_row.specs.Rules.{is_row}
use Rattle.relay_row.specs.WellFormed.{IsWellFormed}

-- The test of rows finds those that are well formed, record by record.
abbrev pub RowsAreTested : Type 0
RowsAreTested = (row : Row) → IsTrue (is_row row) ↔ IsWellFormed row

-- What follows from a journal in two halves follows from the second half behind what follows from
-- the first.
pub record FoldsJoin : Type 0 where
  pub cursors : (host : List ℕ) (xs ys : List Row)
      → cursor host (xs ++ ys) ≡ folded (cursor_after host) (cursor host xs) ys
  pub lasts : (xs ys : List Row) → last_seq (xs ++ ys) ≡ folded last_after (last_seq xs) ys
  pub events : (xs ys : List Row) → events (xs ++ ys) ≡ events xs ++ events ys

-- No rows are a journal. A journal grows by well formed rows that keep the order, and by no others,
-- and each front of a journal is one.
pub record JournalsGrow : Type 0 where
  pub none : IsJournal []
  pub grows : (rows : List Row) (row : Row) → IsJournal rows → is_row row ≡ true
      → keeps_order rows row ≡ true → IsJournal (rows ++ row ∷ [])
  pub grew : (rows : List Row) (row : Row) → IsJournal (rows ++ row ∷ [])
      → (is_row row ≡ true) × (keeps_order rows row ≡ true)
  pub fronts : (xs ys : List Row) → IsJournal (xs ++ ys) → IsJournal xs

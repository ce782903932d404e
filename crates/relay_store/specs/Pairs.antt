-- Two disks that stand for a journal (own).
use Rattle.std.specs.Prelude.{◌⊎◌, ℕ, List, ◌++◌}
use Rattle.relay_disk.specs.Disk.{View}
use Rattle.gate_log.specs.declared.picking.Side.{Side}
use Rattle.gate_log.specs.declared.picking.Side.TheVariants.{One, Two}
use Rattle.relay_row.specs.declared.row.Row.{Row}
use Rattle.relay_store.specs.Journals.{IsPairImageOf}

-- The two disks stand for the journal: their content is an image of it, and so is each pair that a
-- crash now may leave.
pub record StandsFor (J : List Row) (one two : View) : Type 0 where
  pub now : IsPairImageOf J one.content two.content
  pub left : (c d : List ℕ) → one.may_leave c → two.may_leave d → IsPairImageOf J c d

-- an image of the journal, or of the journal followed by these rows
abbrev pub IsOneOfPair : List Row → List Row → List ℕ → List ℕ → Type 0
IsOneOfPair J rows c d = IsPairImageOf J c d ⊎ IsPairImageOf (J ++ rows) c d

-- of two things that belong to two disks, that of this side
abbrev pub of_pair : {A : Type 0} → Side → A → A → A
of_pair One first second = first
of_pair Two first second = second

-- The two disks and what was written, at one moment.
pub record PairView : Type 1 where
  pub one : View
  pub two : View
  pub written : List ℕ

abbrev pub pair_view : View → View → List ℕ → PairView
pair_view one two written = record { one = one; two = two; written = written }

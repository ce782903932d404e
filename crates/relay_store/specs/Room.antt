-- Room in a log, by the bytes of its disk (own).
use Rattle.std.specs.Prelude.{◌≡◌, ℕ, ◌+◌, ◌<◌, ◌≤◌, List, [], ◌∷◌, length}
use Rattle.gate_log.specs.Image.{IsMade, made}
use Rattle.gate_log.specs.Pick.{IsPicked, of_side}
use Rattle.gate_log.specs.declared.format.Format.{Format}
use Rattle.gate_log.specs.declared.picking.Side.{Side}
use Rattle.relay_row.specs.declared.row.Row.{Row}
use Rattle.relay_store.specs.Journals.{AreBodiesOf, bytes_of}
use Rattle.relay_store.specs.PendingBodies.{end_of}

-- The log that has the journal J has no room for a row: as a body of its own behind the others it
-- would end at e, past the most.
pub record HasNoRoom (most : ℕ) (J : List Row) (row : Row) (e : ℕ) (bytes : List ℕ) : Type 0 where
  pub format : Format
  pub bodies : List (List Row)
  pub are : AreBodiesOf J bodies
  pub is_made : IsMade format (bytes_of bodies) bytes
  pub there : e ≡ end_of (length (made format (bytes_of bodies))) (row ∷ [])
  pub past : most < e

-- The log that has the journal J had room for it: with the closed gate behind its bodies it ends at
-- the most, or before.
pub record HasRoom (most : ℕ) (J : List Row) (bytes : List ℕ) : Type 0 where
  pub format : Format
  pub bodies : List (List Row)
  pub are : AreBodiesOf J bodies
  pub is_made : IsMade format (bytes_of bodies) bytes
  pub within : length (made format (bytes_of bodies)) + 1 ≤ most

-- the one that is picked of two disks has no room for a row
abbrev pub PairHasNoRoom : ℕ → List Row → Row → ℕ → List ℕ → List ℕ → Type 0
PairHasNoRoom most J row e one two = (side : Side) × IsPicked one two side
    × HasNoRoom most J row e (of_side side one two)

-- the one that is picked of two disks had room for the journal
abbrev pub PairHasRoom : ℕ → List Row → List ℕ → List ℕ → Type 0
PairHasRoom most J one two = (side : Side) × IsPicked one two side
    × HasRoom most J (of_side side one two)

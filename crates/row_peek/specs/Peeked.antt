-- What is seen of a row (own).
use Rattle.std.specs.Prelude.{◌≡◌, Bool, true, false, ◌==◌, nat_le, if◌then◌else◌, [], ◌∷◌, Option, Some, None}
use Rattle.relay_row.specs.Folds.{did_of_row, events_in}
use Rattle.relay_row.specs.declared.row.Row.{Row}
use Rattle.row_peek.specs.declared.peeked.Peeked.{Peeked}

-- the event that a row sends out is of a commit or a sync
abbrev pub is_of_repo : Row → Bool
is_of_repo (Row.Taken t) = if t.seq == 0 then true else nat_le t.kind 2
is_of_repo (Row.Synced did whole moment) = true
is_of_repo (Row.Operated o) = false
is_of_repo (Row.Carried c) = false

-- The account that a row names, whether its event is of a commit or a sync, and that event, which
-- is its only one.
pub record IsPeekOf (row : Row) (s : Peeked) : Type 0 where
  pub did : s.did.now ≡ did_of_row row
  pub of_repo : s.of_repo ≡ is_of_repo row
  pub event : events_in row ≡ (s.seq, s.message.now) ∷ []

-- What is seen of a row: of one that sends no event out nothing, of another what its event is.
abbrev pub Sees : Row → Option Peeked → Type 0
Sees row None = events_in row ≡ []
Sees row (Some s) = IsPeekOf row s

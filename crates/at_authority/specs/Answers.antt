-- What an authority answers, and when it counts a fault.
use Rattle.std.specs.Prelude.{◌≡◌, ℕ, ◌≤◌, Bool, Option, Some, None, Result, Ok, Err}
use Rattle.at_cid.specs.Counts.{Rose}
use Rattle.at_authority.specs.declared.asked.Asked.{Asked}
use Rattle.at_authority.specs.Queries.{Query, Telling}

-- it answers by its value; where it tells none, nothing is claimed
abbrev pub Says : Option Telling → Query → Bool → Type 0
Says None q good = Unit {0}
Says (Some value) q good = good ≡ value.now q

-- the count of faults rose
pub record Rises (old new : ℕ) : Type 0 where
  pub later : old ≤ new
  pub rose : Rose old new

-- the count rises exactly where the call fails
abbrev pub CountsFailure : {A : Type 0} → Result A Asked → ℕ → ℕ → Type 0
CountsFailure (Ok x) old new = new ≡ old
CountsFailure (Err Asked.Failed) old new = Rises old new
CountsFailure (Err Asked.Memory) old new = new ≡ old

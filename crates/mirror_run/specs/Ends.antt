-- How mirroring a stream ends (own).
use Rattle.std.specs.Prelude.{◌≡◌, ⊤, ℕ}
use Rattle.run_base.specs.declared.status.Status.{Status}

-- a call of the input or of the repositories failed, or memory ran out
abbrev pub IsFault : Status → Type 0
IsFault Status.ReadFault = ⊤
IsFault Status.Repos = ⊤
IsFault Status.Memory = ⊤
IsFault status = ⊥

-- how a stream may end of which each message can be taken
abbrev pub MayEndWhole : Status → Type 0
MayEndWhole Status.Done = ⊤
MayEndWhole Status.WriteFault = ⊤
MayEndWhole status = IsFault status

-- and one of which what stands from this place on can't be taken
abbrev pub MayEndBad : ℕ → Status → Type 0
MayEndBad from (Status.BadStream place) = place ≡ from
MayEndBad from status = IsFault status

-- and any stream
abbrev pub MayEndMirroring : Status → Type 0
MayEndMirroring (Status.BadStream place) = ⊤
MayEndMirroring Status.TooLong = ⊤
MayEndMirroring status = MayEndWhole status

-- What holds of every stream that was mirrored (own).
use Rattle.std.specs.Prelude.{◌≡◌, ◌<◌, ℕ, Bool, List, [], length, IsTrue}
use Rattle.backfill.specs.Writing.{with_length}
use Rattle.mirror.specs.Repository.{Repositories}
use Rattle.run_base.specs.declared.status.Status.{Status}
use Rattle.mirror_run.specs.Chains.{HoldsChains}
use Rattle.mirror_run.specs.Ends.{MayEndBad, MayEndMirroring, MayEndWhole}
use Rattle.mirror_run.specs.Heads.{TellsHeads}
use Rattle.mirror_run.specs.Mirrored.{Mirrored}
use Rattle.mirror_run.specs.Stream.{BeginWith, IsBadBehind}

-- How a stream ends: where each message can be taken, only by a fault if not well; and where what
-- stands from a place on can't be, with that place if not by a fault.
pub record EndsAsItReads (input : List ℕ) (status : Status) : Type 0 where
  pub whole : (all : List (List ℕ)) → BeginWith input all [] → MayEndWhole status
  pub bad : (front : List (List ℕ)) (behind : List ℕ) → BeginWith input front behind
      → IsBadBehind front behind → MayEndBad (length (with_length front)) status

-- A stream with fewer bytes than may be taken ends as it reads.
abbrev pub ShortStreamsAreTaken : Type 0
ShortStreamsAreTaken =
    (input_tells output_tells repositories_tell : Bool) (limit : ℕ) (repositories : Repositories)
    (input old new : List ℕ) (status : Status)
    → Mirrored input_tells output_tells repositories_tell limit repositories input old new status
    → MayEndMirroring status → IsTrue input_tells → length input < limit
    → EndsAsItReads input status

-- Of a journal's stream that was taken whole, what is held of each such account is the map to which
-- its open chain replays, at the chain's revision.
abbrev pub JournalsAreMirrored : Type 0
JournalsAreMirrored =
    (input_tells output_tells repositories_tell : Bool) (limit : ℕ) (repositories : Repositories)
    (input old new : List ℕ) (status : Status)
    → (m : Mirrored input_tells output_tells repositories_tell limit repositories input old new
    status)
    → IsTrue input_tells → status ≡ Status.Done → HoldsChains repositories input m.messages

-- And the line of each that the journal has as good has the journal's own head.
abbrev pub JournalsHeadsArePrinted : Type 0
JournalsHeadsArePrinted =
    (input_tells output_tells repositories_tell : Bool) (limit : ℕ) (repositories : Repositories)
    (input old new : List ℕ) (status : Status)
    → Mirrored input_tells output_tells repositories_tell limit repositories input old new status
    → IsTrue input_tells → IsTrue output_tells → IsTrue repositories_tell → status ≡ Status.Done
    → TellsHeads repositories input old new

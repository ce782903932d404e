-- How taking messages ends, and what each end leaves (own).
use Rattle.std.specs.Prelude.{◌≡◌, ◌≢◌, ◌⊎◌, ⊤, Bool, List, [], ◌++◌, ℕ, IsTrue}
use Rattle.relay_io.specs.Streams.{AddsFront}
use Rattle.relay_step.specs.Steps.{Step, rows}
use Rattle.store_take.specs.declared.message.Message.{Message}
use Rattle.tape.specs.declared.fault.TapeFault.{TapeFault}
use Rattle.run_base.specs.Place.{Place}
use Rattle.run_base.specs.Ends.{Caused, ToldBut}
use Rattle.run_base.specs.declared.status.Status.{Status}
use Rattle.take_run.specs.Lines.{lines_of}

-- the status that a fault of the tape brings
abbrev pub status_of_tape : TapeFault → Status
status_of_tape (TapeFault.Torn place) = Status.BadTape place
status_of_tape (TapeFault.BadName place) = Status.BadTape place
status_of_tape (TapeFault.TooLong place) = Status.BadTape place
status_of_tape TapeFault.Failed = Status.ReadFault
status_of_tape TapeFault.Budget = Status.TooLong
status_of_tape TapeFault.Memory = Status.Memory

-- ---- which statuses may come

-- once the disks were opened: what stopped it
abbrev pub IsStop : Status → Type 0
IsStop Status.WriteFault = ⊤
IsStop Status.Disk = ⊤
IsStop (Status.BadLog place) = ⊤
IsStop Status.Authority = ⊤
IsStop Status.Repos = ⊤
IsStop (Status.Full end) = ⊤
IsStop Status.SeqEnd = ⊤
IsStop Status.Memory = ⊤
IsStop Status.Clock = ⊤
IsStop status = ⊥

-- or where the messages come from ended it
abbrev pub IsOfSource : Status → Type 0
IsOfSource Status.Done = ⊤
IsOfSource (Status.BadTape place) = ⊤
IsOfSource Status.ReadFault = ⊤
IsOfSource Status.TooLong = ⊤
IsOfSource Status.Feed = ⊤
IsOfSource status = ⊥

-- the stream gave no answer, or memory ran out
abbrev pub IsUnread : Status → Type 0
IsUnread Status.Feed = ⊤
IsUnread Status.Memory = ⊤
IsUnread status = ⊥

-- of a tape, whatever the disks
abbrev pub MayEndIngesting : Status → Type 0
MayEndIngesting Status.Done = ⊤
MayEndIngesting (Status.BadTape place) = ⊤
MayEndIngesting Status.ReadFault = ⊤
MayEndIngesting Status.TooLong = ⊤
MayEndIngesting status = IsStop status

-- and of a feed
abbrev pub MayEndFollowing : Status → Type 0
MayEndFollowing Status.Done = ⊤
MayEndFollowing Status.Feed = ⊤
MayEndFollowing status = IsStop status

-- ---- what is left

-- the step that came last was taken, and its row may be in no body
abbrev pub MayLeave : Status → Type 0
MayLeave Status.WriteFault = ⊤
MayLeave Status.Disk = ⊤
MayLeave (Status.Full end) = ⊤
MayLeave Status.Memory = ⊤
MayLeave status = ⊥

-- only the lines of the first of the steps were written, and not of all
abbrev pub LackLines : List Step → List ℕ → List ℕ → Type 0
LackLines steps old new = (front : List Step) × (others : List Step)
    × (steps ≡ front ++ others) × (others ≢ []) × (new ≡ old ++ lines_of front)

-- It ended before the steps were done with: the output failed at their lines, memory ran out before
-- all lines were written, or a disk failed at a body that further messages were to come after.
abbrev pub StopsShort : Bool → Status → List Step → List Step → List Message → List ℕ → List ℕ
    → Type 0
StopsShort output_tells Status.WriteFault steps under behind old new = IsTrue output_tells
    → AddsFront old new (lines_of steps)
StopsShort output_tells Status.Memory steps under behind old new = IsTrue output_tells
    → LackLines steps old new
StopsShort output_tells Status.Disk steps under behind old new = (rows under ≢ []) × (behind ≢ [])
StopsShort output_tells status steps under behind old new = ⊥

-- Or before the messages that were read were done with: a step or a message is left over.
abbrev pub StopsBefore : Status → Type 0 → List Step → List Step → List Message → Type 0
StopsBefore Status.WriteFault short under extra behind = short
StopsBefore status short under extra behind = short
    ⊎ ((under ≢ []) ⊎ ((extra ≢ []) ⊎ (behind ≢ [])))

-- ---- what stays untold

-- after these a failure of who was asked may
abbrev pub MayHideAsked : Status → Type 0
MayHideAsked Status.WriteFault = ⊤
MayHideAsked Status.Disk = ⊤
MayHideAsked Status.Memory = ⊤
MayHideAsked status = ⊥

-- and one of the input, unless its own bytes ended it
abbrev pub MayHideInput : Status → Type 0
MayHideInput Status.Done = ⊥
MayHideInput (Status.BadTape place) = ⊥
MayHideInput Status.TooLong = ⊥
MayHideInput status = ⊤

-- Which failures are told: the status has its cause, and what else failed is told, but where a failure
-- of who was asked can be hidden, or one of the input where this holds.
pub record FaultsTold (unread : Type 0) (old new : Place) (status : Status) : Type 0 where
  pub caused : Caused status old new
  pub told : ToldBut (MayHideAsked status) unread status old new

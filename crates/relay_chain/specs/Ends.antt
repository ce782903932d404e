-- How a relay that follows another one ends, by how its parts do (own).
use Rattle.std.specs.Prelude.{◌≡◌, ⊤, Option, Some, None}
use Rattle.event_window.specs.declared.fault.EventsFault.{EventsFault}
use Rattle.run_base.specs.Place.{Place}
use Rattle.run_base.specs.declared.status.Status.{Status}
use Rattle.take_run.specs.Ends.{FaultsTold}
use Rattle.take_run.specs.Going.{NothingFailed}

-- What the first relay serves is taken as a feed. A call of that feed that failed is one of a disk.
abbrev pub read_as : Status → Status
read_as Status.Feed = Status.Disk
read_as status = status

-- the status of that by the fault that reading kept, where one is kept
abbrev pub ended_by : Option EventsFault → Status → Status
ended_by None taking = taking
ended_by (Some EventsFault.Disk) taking = Status.Disk
ended_by (Some EventsFault.Memory) taking = Status.Memory
ended_by (Some (EventsFault.BadLog place)) taking = Status.BadLog place

-- the statuses that may come: judges that say yes to everything are never spent
abbrev pub MayEndChaining : Status → Type 0
MayEndChaining Status.Done = ⊤
MayEndChaining Status.WriteFault = ⊤
MayEndChaining Status.Disk = ⊤
MayEndChaining Status.Repos = ⊤
MayEndChaining (Status.BadLog place) = ⊤
MayEndChaining (Status.Full end) = ⊤
MayEndChaining Status.SeqEnd = ⊤
MayEndChaining Status.Memory = ⊤
MayEndChaining Status.Clock = ⊤
MayEndChaining status = ⊥

-- those that no failure brings: all was taken, memory ran out, the log is full, or the numbers have
-- ended
abbrev pub MayEndWithoutFailure : Status → Type 0
MayEndWithoutFailure Status.Done = ⊤
MayEndWithoutFailure Status.Memory = ⊤
MayEndWithoutFailure (Status.Full end) = ⊤
MayEndWithoutFailure Status.SeqEnd = ⊤
MayEndWithoutFailure status = ⊥

-- both pairs were opened: the status is none that opening may come to
abbrev pub BothOpened : Status → Type 0
BothOpened Status.Disk = ⊥
BothOpened (Status.BadLog place) = ⊥
BothOpened Status.Memory = ⊥
BothOpened status = ⊤

-- of the parts that the second relay is handed: where a call of the feed failed, no other one did
abbrev pub IsTold : Status → Place → Place → Type 0
IsTold Status.Feed old new = NothingFailed old new
IsTold status old new = FaultsTold ⊥ old new status

-- What the status speaks of failed, and what failed it speaks of, as that of following a feed. The
-- feed has the counts of the first disks.
pub record ChainTold (counted : Type 0 → Type 0) (old new : Place) (status : Status) : Type 0 where
  pub taking : Status
  pub is : status ≡ read_as taking
  pub first : counted (taking ≡ Status.Feed)
  pub second : IsTold taking old new

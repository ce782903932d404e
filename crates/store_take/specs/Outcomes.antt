-- What is answered to messages (own).
use Rattle.std.specs.Prelude.{Option, Some, None, Result, ◌==◌, if◌then◌else◌}
use Rattle.at_event.specs.Frames.{frame_of}
use Rattle.at_event.specs.declared.frame.Frame.{Frame}
use Rattle.at_event.specs.declared.frame.FrameFault.{FrameFault}
use Rattle.at_event.specs.declared.refusal.Refusal.{Refusal}
use Rattle.relay_row.specs.declared.fetched.Fetched.{Fetched}
use Rattle.relay_row.specs.declared.taken.Taken.{Taken}
use Rattle.relay_step.specs.Messages.{skipped_as}
use Rattle.relay_step.specs.Steps.{Decided, after_end, skipped, recorded, Step}
use Rattle.relay_step.specs.declared.decided.Skipped.{Skipped}
use Rattle.store_take.specs.declared.outcome.End.{End}
use Rattle.store_take.specs.declared.outcome.Fetch.{Fetch}
use Rattle.store_take.specs.declared.outcome.Outcome.{Outcome}

abbrev pub fetch_in : Fetched → Fetch
fetch_in Fetched.NotAsked = Fetch.NotAsked
fetch_in Fetched.Absent = Fetch.Absent
fetch_in (Fetched.Refused n) = Fetch.Refused n
fetch_in (Fetched.Whole w) = Fetch.Whole w.seq w.records

abbrev pub outcome_as : Option Refusal → Taken → Outcome
outcome_as None t = if t.seq == 0 then Outcome.Held t.host_seq else Outcome.Event t.host_seq t.seq
outcome_as (Some r) t = Outcome.Refused t.host_seq r (fetch_in t.fetched)

-- of a message that makes a row
abbrev pub taken_outcome : Taken → Outcome
taken_outcome t = outcome_as t.refusal t

-- of a message that makes none, for this reason
abbrev pub outcome_skipped : Skipped → Outcome
outcome_skipped (Skipped.Old seq) = Outcome.Old seq
outcome_skipped Skipped.Unknown = Outcome.Unknown
outcome_skipped Skipped.Info = Outcome.Info
outcome_skipped Skipped.BadFrame = Outcome.Ended End.BadFrame
outcome_skipped Skipped.NoSeq = Outcome.Ended End.NoSeq
outcome_skipped Skipped.Error = Outcome.Ended End.Error

-- of one that makes none, as it reads
abbrev pub skipped_outcome : Result Frame FrameFault → Outcome
skipped_outcome frame = outcome_skipped (skipped_as frame)

-- nothing is answered to a message of a host that ended before
abbrev pub outcome_decided : Result Frame FrameFault → Decided → Option Outcome
outcome_decided frame after_end = None
outcome_decided frame (skipped pass) = Some (skipped_outcome frame)
outcome_decided frame (recorded t) = Some (taken_outcome t)

abbrev pub outcome_of : Step → Option Outcome
outcome_of s = outcome_decided (frame_of s.bytes) s.decided

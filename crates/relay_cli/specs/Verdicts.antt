-- The verdict on one message by itself.
use Rattle.std.specs.Prelude.{◌≡◌, ℕ, List, length, Bool, true, false, nat_lt, Result, Ok, Err}
use Rattle.at_event.specs.declared.event.Body.{Body}
use Rattle.at_event.specs.declared.event.CommitEvent.{CommitEvent}
use Rattle.at_event.specs.declared.frame.Frame.{Frame}
use Rattle.at_event.specs.declared.frame.FrameFault.{FrameFault}
use Rattle.at_event.specs.declared.refusal.Refusal.{Refusal}
use Rattle.at_event.specs.Frames.{frame_of}
use Rattle.at_event.specs.Seen.{Seen}
use Rattle.at_event.specs.Writing.{out_length}
use Rattle.commit_check.specs.Checking.{IsAccepted, IsCoveredAlone, IsRefusedWith, Replays}
use Rattle.relay_core.specs.declared.limits.TheConstants.{LONGEST_MESSAGE}
use Rattle.relay_cli.specs.declared.verdict.CheckVerdict.{CheckVerdict}

-- A commit is accepted where no refusal applies, and then its operations replay on every map with
-- the root that they start from. It is refused with the first refusal that applies, and with no
-- other; a commit to which none applies isn't, nor one whose operations play and whose blocks cover
-- them.
abbrev pub JudgesCommit : CommitEvent → CheckVerdict → Type 0
JudgesCommit e (CheckVerdict.Accepted from to ops) = IsAccepted e from to × Replays e from to
    × (ops ≡ length e.ops) × ((refusal : Refusal) → IsRefusedWith e refusal → ⊥)
JudgesCommit e (CheckVerdict.Refused refusal) = IsRefusedWith e refusal
    × ((other : Refusal) → IsRefusedWith e other → other ≡ refusal)
    × ((from to : List ℕ) → IsAccepted e from to → ⊥) × (IsCoveredAlone e → ⊥)

-- no frame of the event's has room in the stream, the number taking nine bytes (own)
abbrev pub is_too_long : Seen → Bool
is_too_long event = nat_lt LONGEST_MESSAGE (out_length event)

-- a commit that is too long is refused before all else
abbrev pub JudgesSized : Bool → CommitEvent → CheckVerdict → Type 0
JudgesSized true e verdict = verdict ≡ CheckVerdict.Refused Refusal.TooLong
JudgesSized false e verdict = JudgesCommit e verdict

-- an event that is no commit is refused as such
abbrev pub JudgesBody : Seen → Body → CheckVerdict → Type 0
JudgesBody event (Body.Commit e) verdict = JudgesSized (is_too_long event) e verdict
JudgesBody event body verdict = verdict ≡ CheckVerdict.Refused Refusal.NotCommit

-- an event with a field that is missing or of another form is a bad one, and every other message is
-- no commit
abbrev pub JudgesFrame : Result Frame FrameFault → CheckVerdict → Type 0
JudgesFrame (Ok (Frame.Event event)) verdict = JudgesBody event event.body verdict
JudgesFrame (Ok (Frame.Faulty seq)) verdict = verdict ≡ CheckVerdict.Refused Refusal.BadEvent
JudgesFrame (Ok frame) verdict = verdict ≡ CheckVerdict.Refused Refusal.NotCommit
JudgesFrame (Err fault) verdict = verdict ≡ CheckVerdict.Refused Refusal.NotCommit

-- the verdict on a message
unfoldable pub IsVerdict : List ℕ → CheckVerdict → Type 0
IsVerdict message verdict = JudgesFrame (frame_of message) verdict

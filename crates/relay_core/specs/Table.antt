-- The table of refusals with the questions between its lines, as the relay goes down it: what comes
-- next by the answers so far (own).
use Rattle.std.specs.Prelude.{ℕ, Bool, true, false, not, List, [], ◌∷◌, Option, Some, None, if◌then◌else◌, nat_lt, nat_le, option_map}
use Rattle.at_event.specs.Refusals.{code_of}
use Rattle.at_event.specs.Seen.{Seen}
use Rattle.at_event.specs.Writing.{out_length}
use Rattle.at_event.specs.declared.event.Body.{Body}
use Rattle.at_event.specs.declared.frame.Frame.{Frame}
use Rattle.at_event.specs.declared.refusal.Refusal.{Refusal}
use Rattle.relay_row.specs.Rules.{loses}
use Rattle.relay_row.specs.declared.fetched.Fetched.{Fetched}
use Rattle.account_state.specs.State.{State}
use Rattle.relay_core.specs.Decide.{is_ahead, is_held, refusal_in, when}
use Rattle.relay_core.specs.declared.answers.Answers.{Answers}
use Rattle.relay_core.specs.declared.answers.Question.{Question}
use Rattle.relay_core.specs.declared.decision.Next.{Next}
use Rattle.relay_core.specs.declared.decision.Pass.{Pass}
use Rattle.relay_core.specs.declared.limits.TheConstants.{LONGEST_MESSAGE}

-- a line of the table: a refusal that applies or not, as is known at once or by the answer to a
-- question
pub data TableLine : Type 0 where
  told : Option Refusal → TableLine
  asked : Question → Option (Option Refusal) → TableLine

abbrev pub no_answers : Answers
no_answers = record {
  moment = None;
  refreshed = false;
  home = None;
  opened = None;
  verdict = None;
  linked = None;
  fetched = None;
}

abbrev pub moment_line : Answers → TableLine
moment_line x = asked Question.Moment (option_map (λ moment. None) x.moment)

abbrev pub refresh_line : Answers → TableLine
refresh_line x = asked Question.Refresh (if x.refreshed then Some None else None)

abbrev pub home_line : Answers → TableLine
home_line x = asked Question.Home (option_map (λ yes. when (not yes) Refusal.NotHome) x.home)

abbrev pub open_line : Answers → TableLine
open_line x = asked Question.Open (option_map refusal_in x.opened)

abbrev pub verdict_line : Answers → TableLine
verdict_line x = asked Question.Verdict
    (option_map (λ good. when (not good) Refusal.BadSignature) x.verdict)

abbrev pub link_line : Answers → TableLine
link_line x = asked Question.Link (option_map refusal_in x.linked)

-- the lines of a commit and of a sync, and those that follow
abbrev pub repo_lines : State → ℕ → Answers → List TableLine → List TableLine
repo_lines a rev x others =
    home_line x ∷ told (when (not a.active) Refusal.Inactive) ∷ told (when a.down Refusal.TakenDown)
    ∷ open_line x
    ∷ told (when (is_ahead rev x.moment) Refusal.FutureRev) ∷ verdict_line x ∷ others

-- the lines of an event's kind
abbrev pub body_lines : State → Body → Answers → List TableLine
body_lines a (Body.Commit c) x = repo_lines a c.rev x (link_line x ∷ [])
body_lines a (Body.Sync s) x = repo_lines a s.rev x []
body_lines a Body.Identity x = refresh_line x ∷ home_line x ∷ told (when a.down Refusal.TakenDown)
    ∷ []
body_lines a (Body.Account b) x = home_line x ∷ []

-- the table of an event
abbrev pub event_lines : State → Seen → Answers → List TableLine
event_lines a e x = moment_line x ∷ told
    (when (nat_lt LONGEST_MESSAGE (out_length e)) Refusal.TooLong) ∷ body_lines a e.body x

-- the table of an event with a bad field
abbrev pub faulty_lines : Answers → List TableLine
faulty_lines x = moment_line x ∷ told (Some Refusal.BadEvent) ∷ []

-- where going down the table ends
pub data Walk : Type 0 where
  waits : Question → Walk
  refuses : Refusal → Walk
  passes : Walk

abbrev pub walk_past : Option Refusal → Walk → Walk
walk_past None w = w
walk_past (Some r) w = refuses r

-- down to the first line that applies or that waits for an answer
abbrev pub walk : List TableLine → Walk
walk [] = passes
walk (told o ∷ lines) = walk_past o (walk lines)
walk (asked q None ∷ lines) = waits q
walk (asked q (Some o) ∷ lines) = walk_past o (walk lines)

abbrev pub refused_with : Refusal → Bool → Next
refused_with r gives = Next.Done (record { refusal = Some r; held = false; gives = gives })

-- a refusal that leaves its account lost is followed by a fetch, which may give an event
abbrev pub after_fetch : Refusal → Option Fetched → Next
after_fetch r None = Next.Ask Question.Fetch
after_fetch r (Some Fetched.NotAsked) = refused_with r false
after_fetch r (Some Fetched.Absent) = refused_with r false
after_fetch r (Some (Fetched.Refused n)) = refused_with r false
after_fetch r (Some (Fetched.Whole w)) = refused_with r true

abbrev pub refused : Refusal → Option Fetched → Next
refused r fetched = if loses (code_of r) then after_fetch r fetched else refused_with r false

abbrev pub accepted : State → Body → Next
accepted a body =
    Next.Done (record { refusal = None; held = is_held a body; gives = not (is_held a body) })

abbrev pub next_at : Walk → State → Body → Option Fetched → Next
next_at (waits q) a body fetched = Next.Ask q
next_at (refuses r) a body fetched = refused r fetched
next_at passes a body fetched = accepted a body

-- what comes next for a message, at its host's cursor and the account of its DID
abbrev pub next_of : ℕ → State → Frame → Answers → Next
next_of cursor a (Frame.Event e) x = if nat_le e.seq cursor then Next.Pass Pass.Old
    else next_at (walk (event_lines a e x)) a e.body x.fetched
next_of cursor a (Frame.Faulty seq) x =
    if nat_le seq cursor then Next.Pass Pass.Old
    else next_at (walk (faulty_lines x)) a Body.Identity x.fetched
next_of cursor a Frame.Info x = Next.Pass Pass.Info
next_of cursor a Frame.Error x = Next.Pass Pass.Ended
next_of cursor a Frame.Unknown x = Next.Pass Pass.Unknown

-- the DID that a message names, or the empty text
abbrev pub did_of : Frame → List ℕ
did_of (Frame.Event e) = e.did
did_of (Frame.Faulty seq) = []
did_of Frame.Info = []
did_of Frame.Error = []
did_of Frame.Unknown = []

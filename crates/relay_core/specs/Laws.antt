-- What holds of all decisions.
use Rattle.std.specs.Prelude.{◌≡◌, ℕ, ◌+◌, Bool, true, false, not, List, Some, None, nat_le, if◌then◌else◌}
use Rattle.std.specs.Option.{is_some}
use Rattle.at_event.specs.Seen.{Seen}
use Rattle.at_event.specs.declared.frame.Frame.{Frame}
use Rattle.at_event.specs.declared.head.Head.{Head}
use Rattle.at_event.specs.declared.refusal.Refusal.{Refusal}
use Rattle.relay_row.specs.declared.row.Row.{Row}
use Rattle.account_state.specs.Dids.{named_account}
use Rattle.account_state.specs.Entries.{entry}
use Rattle.account_state.specs.Folds.{account}
use Rattle.account_state.specs.State.{State}
use Rattle.relay_core.specs.Answering.{answers, decision_for, row_of}
use Rattle.relay_core.specs.Decide.{Checks, Outside, sync_message, refusal_of, decided_event}
use Rattle.relay_core.specs.Entries.{Holds}
use Rattle.relay_core.specs.Ready.{IsReady}
use Rattle.relay_core.specs.Runs.{Message, Run}
use Rattle.relay_core.specs.Sending.{CanBeSent, IsSendable}
use Rattle.relay_core.specs.Shown.{commit_block_in, shown}
use Rattle.relay_core.specs.Table.{next_of}
use Rattle.relay_core.specs.Worlds.{World, RunIn}
use Rattle.relay_core.specs.declared.answers.Answers.{Answers}
use Rattle.relay_core.specs.declared.answers.Question.{Question}
use Rattle.relay_core.specs.declared.decision.Next.{Next}
use Rattle.relay_core.specs.declared.journal_state.Core.{Core}

-- whether a question has no answer yet
abbrev pub is_open : Question → Answers → Bool
is_open Question.Moment x = not (is_some x.moment)
is_open Question.Refresh x = not x.refreshed
is_open Question.Home x = not (is_some x.home)
is_open Question.Open x = not (is_some x.opened)
is_open Question.Verdict x = not (is_some x.verdict)
is_open Question.Link x = not (is_some x.linked)
is_open Question.Fetch x = not (is_some x.fetched)

-- Where the state stands for a journal, the entry of a DID is its account, where a row names it.
abbrev pub EntriesAreAccounts : Type 0
EntriesAreAccounts = (core : Core) (rows : List Row) → Holds core rows → (did : List ℕ)
    → entry core.accounts did ≡ named_account rows did

-- No question is asked that has an answer, so there are seven at most.
abbrev pub AsksOnce : Type 0
AsksOnce = (cursor : ℕ) (a : State) (frame : Frame) (x : Answers) (q : Question)
    → next_of cursor a frame x ≡ Next.Ask q → is_open q x ≡ true

-- With all answers, an event above its host's cursor is decided by the first refusal that applies,
-- and the row that is made of this decision is the one that is decided.
abbrev pub NextDecides : Type 0
NextDecides = (checks : Checks) (last cursor : ℕ) (a : State) (host : List ℕ) (e : Seen)
    (o : Outside) → nat_le e.seq cursor ≡ false
    → (next_of cursor a (Frame.Event e) (answers checks last a e o)
    ≡ Next.Done (decision_for a e.body o.fetched (refusal_of checks a e o)))
    × (row_of last host (Frame.Event e) (decision_for a e.body o.fetched (refusal_of checks a e o))
    (answers checks last a e o) ≡ Some (Row.Taken (decided_event checks last a host e o)))

-- The block of a commit is read back from the relay's own message of it.
abbrev pub BlocksReturn : Type 0
BlocksReturn = (last : ℕ) (e : Seen) (head : Head) (block : List ℕ) → CanBeSent last e head block
    → commit_block_in (sync_message e.did e.time head block (last + 1)) head.commit ≡ block

-- The answers that a row shows make that row.
abbrev pub RowsShow : Type 0
RowsShow = (checks : Checks) (last : ℕ) (a : State) (host : List ℕ) (e : Seen) (o : Outside)
    → IsSendable last e o.fetched
    → decided_event checks last a host e (shown (decided_event checks last a host e o))
    ≡ decided_event checks last a host e o

-- A run in a world is a run for the answers that its rows show.
abbrev pub WorldsRun : Type 0
WorldsRun = (checks : Checks) (w : World) (J : List Row) (messages : List Message) (rows : List Row)
    → RunIn checks w J messages rows → Run checks J messages rows

-- A ready commit whose home and signature are good is accepted, under the next number; else one of
-- the two is told.
abbrev pub ReadyDecides : Type 0
ReadyDecides = (checks : Checks) (J : List Row) (host : List ℕ) (e : Seen) (o : Outside)
    → IsReady checks J host e o.moment
    → refusal_of checks (account e.did J) e o
    ≡ (if o.home then (if o.verdict then None else Some Refusal.BadSignature)
    else Some Refusal.NotHome)

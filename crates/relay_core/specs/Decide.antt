-- What is decided of a message, for all answers that there could be: the first refusal that applies,
-- and the row (own).
use Rattle.std.specs.Prelude.{ℕ, ◌+◌, ◌/◌, Bool, true, false, not, List, [], ◌∷◌, Option, Some, None, Result, Ok, Err, if◌then◌else◌, nat_le, nat_lt}
use Rattle.std.specs.FinMap as map
use Rattle.at_car.specs.Blocks.{BlockMap}
use Rattle.at_car.specs.Writing.{written}
use Rattle.at_event.specs.Refusals.{code_of}
use Rattle.at_event.specs.Seen.{Seen}
use Rattle.at_event.specs.Writing.{event_message, out_length, out_of, sync_payload}
use Rattle.at_event.specs.declared.event.Body.{Body}
use Rattle.at_event.specs.declared.frame.Frame.{Frame}
use Rattle.at_event.specs.declared.head.Head.{Head}
use Rattle.at_event.specs.declared.kind.EventKind.{EventKind}
use Rattle.at_event.specs.declared.refusal.Refusal.{Refusal}
use Rattle.relay_row.specs.Rules.{loses}
use Rattle.relay_row.specs.declared.fetched.Fetched.{Fetched}
use Rattle.relay_row.specs.declared.fetched.Whole.{Whole}
use Rattle.relay_row.specs.declared.taken.Taken.{Taken}
use Rattle.account_state.specs.Folds.{last_rev}
use Rattle.account_state.specs.State.{State}
use Rattle.account_state.specs.declared.repo.Repo.{Repo}
use Rattle.relay_core.specs.Rows.{effect_of, faulty_taken, kind_number, refused_row}
use Rattle.relay_core.specs.declared.decision.Pass.{Pass}
use Rattle.relay_core.specs.declared.limits.TheConstants.{FETCHED_AHEAD, FETCHED_UNSIGNED, LONGEST_MESSAGE, MOST_AHEAD}

-- What opening and linking say: functions of the event, and of what is known of its account's
-- repository.
pub record Checks : Type 0 where
  pub opens : Seen → Option ℕ → Result Head Refusal
  pub links : Seen → Repo → Option Refusal

-- what a fetch finds, before it has a number: no repository, one that is refused, or a head, how
-- many records there are, and the commit's block
pub data Found : Type 0 where
  absent : Found
  unfit : ℕ → Found
  found : Head → ℕ → List ℕ → Found

-- the answers from outside
pub record Outside : Type 0 where
  pub moment : ℕ
  pub home : Bool
  pub verdict : Bool
  pub fetched : Found

-- A revision is far ahead of the moment. In a row that keeps none, no revision is: rows were once
-- made without one.
abbrev pub is_ahead : ℕ → Option ℕ → Bool
is_ahead rev None = false
is_ahead rev (Some moment) = nat_lt (moment + MOST_AHEAD) (rev / 1024)

-- the block of a commit, and no other
abbrev pub commit_blocks : Head → List ℕ → BlockMap
commit_blocks head block = map.insert map.empty head.commit block

-- the CAR of a commit alone
abbrev pub commit_car : Head → List ℕ → List ℕ
commit_car head block = written head.commit (commit_blocks head block)

-- A repository whose blocks were found in order: its revision is far ahead of the moment, which is
-- told first, or its signature is bad, or it is taken over.
abbrev pub judged : ℕ → Bool → Head → ℕ → List ℕ → Found
judged moment good head records block =
    if is_ahead head.rev (Some moment) then unfit FETCHED_AHEAD
    else (if good then found head records block else unfit FETCHED_UNSIGNED)

-- the relay's own `#sync` of a commit, under a number
unfoldable pub sync_message : List ℕ → List ℕ → Head → List ℕ → ℕ → List ℕ
sync_message did time head block n = event_message EventKind.Sync
    (sync_payload did head.rev (commit_car head block) time n)

-- a repository that is taken over, under a number
abbrev pub whole_under : List ℕ → List ℕ → Head → ℕ → List ℕ → ℕ → Whole
whole_under did time head records block n = record {
  seq = n;
  head = head;
  records = records;
  message = sync_message did time head block n;
}

-- what was found, under the number after the last one
abbrev pub fetched_as : ℕ → Seen → Found → Fetched
fetched_as last e absent = Fetched.Absent
fetched_as last e (unfit n) = Fetched.Refused n
fetched_as last e (found head records block) =
    Fetched.Whole (whole_under e.did e.time head records block (last + 1))

abbrev pub is_found : Found → Bool
is_found absent = false
is_found (unfit n) = false
is_found (found head records block) = true

-- the refusal, where the test holds
abbrev pub when : Bool → Refusal → Option Refusal
when test r = if test then Some r else None

abbrev pub refusal_in : {A : Type 0} → Result A Refusal → Option Refusal
refusal_in (Ok x) = None
refusal_in (Err r) = Some r

-- the first refusal that applies
abbrev pub first_refusal : List (Option Refusal) → Option Refusal
first_refusal [] = None
first_refusal (None ∷ others) = first_refusal others
first_refusal (Some r ∷ others) = Some r

-- the refusals of a commit and of a sync in their order, and those that follow
abbrev pub repo_refusals : Checks → State → Seen → ℕ → Outside → Option ℕ
    → List (Option Refusal) → List (Option Refusal)
repo_refusals checks a e rev o moment others =
    when (not o.home) Refusal.NotHome ∷ when (not a.active) Refusal.Inactive
    ∷ when a.down Refusal.TakenDown ∷ refusal_in (checks.opens e (last_rev a.repo))
    ∷ when (is_ahead rev moment) Refusal.FutureRev ∷ when (not o.verdict) Refusal.BadSignature
    ∷ others

-- the refusals of an event's kind in their order
abbrev pub body_refusals : Checks → State → Seen → Body → Outside → Option ℕ
    → List (Option Refusal)
body_refusals checks a e (Body.Commit c) o moment =
    repo_refusals checks a e c.rev o moment (checks.links e a.repo ∷ [])
body_refusals checks a e (Body.Sync s) o moment = repo_refusals checks a e s.rev o moment []
body_refusals checks a e Body.Identity o moment =
    when (not o.home) Refusal.NotHome ∷ when a.down Refusal.TakenDown ∷ []
body_refusals checks a e (Body.Account b) o moment = when (not o.home) Refusal.NotHome ∷ []

-- the first refusal of an event that applies at a moment
abbrev pub refusal_at : Checks → State → Seen → Outside → Option ℕ → Option Refusal
refusal_at checks a e o moment = first_refusal
    (when (nat_lt LONGEST_MESSAGE (out_length e)) Refusal.TooLong
    ∷ body_refusals checks a e e.body o moment)

abbrev pub refusal_of : Checks → State → Seen → Outside → Option Refusal
refusal_of checks a e o = refusal_at checks a e o (Some o.moment)

-- an `#account` of an account that the operator took down is held
abbrev pub is_held : State → Body → Bool
is_held a (Body.Commit c) = false
is_held a (Body.Sync s) = false
is_held a Body.Identity = false
is_held a (Body.Account b) = a.down

-- the row of an accepted event: it goes out under the number after the last one, unless it is held
abbrev pub accepted_row : Checks → ℕ → State → List ℕ → Seen → Option ℕ → Taken
accepted_row checks last a host e moment = record {
  host = host;
  host_seq = e.seq;
  did = e.did;
  kind = kind_number e.body;
  refusal = None;
  seq = if is_held a e.body then 0 else last + 1;
  message = if is_held a e.body then [] else out_of e (last + 1);
  effect = effect_of e.body (Some (checks.opens e (last_rev a.repo)));
  fetched = Fetched.NotAsked;
  moment = moment;
}

-- the row of an event by its first refusal. One that leaves the account lost is followed by a fetch
abbrev pub event_row : Checks → ℕ → State → List ℕ → Seen → Outside → Option ℕ
    → Option Refusal → Taken
event_row checks last a host e o moment None = accepted_row checks last a host e moment
event_row checks last a host e o moment (Some r) =
    refused_row host e.seq e.did (kind_number e.body) r
    (if loses (code_of r) then fetched_as last e o.fetched else Fetched.NotAsked) moment

-- the row of an event that is decided at a moment, or without one
abbrev pub event_taken_at : Checks → ℕ → State → List ℕ → Seen → Outside → Option ℕ → Taken
event_taken_at checks last a host e o moment =
    event_row checks last a host e o moment (refusal_at checks a e o moment)

-- the row of an event that stands above the cursor
abbrev pub decided_event : Checks → ℕ → State → List ℕ → Seen → Outside → Taken
decided_event checks last a host e o = event_taken_at checks last a host e o (Some o.moment)

abbrev pub old_if : Bool → Option Pass
old_if true = Some Pass.Old
old_if false = None

-- why a message makes no row, at its host's cursor
abbrev pub passed : ℕ → Frame → Option Pass
passed cursor (Frame.Event e) = old_if (nat_le e.seq cursor)
passed cursor (Frame.Faulty seq) = old_if (nat_le seq cursor)
passed cursor Frame.Info = Some Pass.Info
passed cursor Frame.Error = Some Pass.Ended
passed cursor Frame.Unknown = Some Pass.Unknown

-- the row of a message, where it makes one
abbrev pub decided : Checks → ℕ → State → List ℕ → Frame → Outside → Option Taken
decided checks last a host (Frame.Event e) o = Some (decided_event checks last a host e o)
decided checks last a host (Frame.Faulty seq) o = Some (faulty_taken host seq (Some o.moment))
decided checks last a host Frame.Info o = None
decided checks last a host Frame.Error o = None
decided checks last a host Frame.Unknown o = None

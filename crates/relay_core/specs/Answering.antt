-- The decision of an event by the answers to all questions, and the row that is made of a decision
-- (own).
use Rattle.std.specs.Prelude.{ℕ, ◌+◌, Bool, true, false, not, List, [], Option, Some, None, Result, Ok, Err, if◌then◌else◌}
use Rattle.at_event.specs.Refusals.{code_of}
use Rattle.at_event.specs.Seen.{Seen}
use Rattle.at_event.specs.Writing.{out_of}
use Rattle.at_event.specs.declared.event.Body.{Body}
use Rattle.at_event.specs.declared.frame.Frame.{Frame}
use Rattle.at_event.specs.declared.refusal.Refusal.{Refusal}
use Rattle.relay_row.specs.Rules.{loses}
use Rattle.relay_row.specs.declared.fetched.Fetched.{Fetched}
use Rattle.relay_row.specs.declared.row.Row.{Row}
use Rattle.relay_row.specs.declared.taken.Effect.{Effect}
use Rattle.relay_row.specs.declared.taken.Taken.{Taken}
use Rattle.account_state.specs.Folds.{last_rev}
use Rattle.account_state.specs.State.{State}
use Rattle.relay_core.specs.Decide.{Checks, Found, Outside, fetched_as, is_found, is_held}
use Rattle.relay_core.specs.Rows.{effect_of, faulty_taken, kind_number}
use Rattle.relay_core.specs.declared.answers.Answers.{Answers}
use Rattle.relay_core.specs.declared.decision.Decision.{Decision}

abbrev pub as_result : Option Refusal → Result (Unit {0}) Refusal
as_result None = Ok tt
as_result (Some r) = Err r

-- the answers to all questions
abbrev pub answers : Checks → ℕ → State → Seen → Outside → Answers
answers checks last a e o = record {
  moment = Some o.moment;
  refreshed = true;
  home = Some o.home;
  opened = Some (checks.opens e (last_rev a.repo));
  verdict = Some o.verdict;
  linked = Some (as_result (checks.links e a.repo));
  fetched = Some (fetched_as last e o.fetched);
}

-- what is decided of an event whose first refusal is this
abbrev pub decision_for : State → Body → Found → Option Refusal → Decision
decision_for a body f None = record {
  refusal = None;
  held = is_held a body;
  gives = not (is_held a body);
}
decision_for a body f (Some r) = record {
  refusal = Some r;
  held = false;
  gives = if loses (code_of r) then is_found f else false;
}

-- the fetch that follows a refusal
abbrev pub fetched_of : Option Refusal → Option Fetched → Fetched
fetched_of None f = Fetched.NotAsked
fetched_of (Some r) None = Fetched.NotAsked
fetched_of (Some r) (Some f) = if loses (code_of r) then f else Fetched.NotAsked

-- whether the event itself goes out
abbrev pub goes_out : Option Refusal → Bool → Bool
goes_out None held = not held
goes_out (Some r) held = false

abbrev pub own_effect : Option Refusal → Body → Answers → Effect
own_effect None body x = effect_of body x.opened
own_effect (Some r) body x = Effect.Nothing

-- an event: it goes out under the number after the last one, where it goes out
abbrev pub event_taken : ℕ → List ℕ → Seen → Decision → Answers → Taken
event_taken last host e d x = record {
  host = host;
  host_seq = e.seq;
  did = e.did;
  kind = kind_number e.body;
  refusal = d.refusal;
  seq = if goes_out d.refusal d.held then last + 1 else 0;
  message = if goes_out d.refusal d.held then out_of e (last + 1) else [];
  effect = own_effect d.refusal e.body x;
  fetched = fetched_of d.refusal x.fetched;
  moment = x.moment;
}

-- the row of a message, for a decision on it, after the last number. Other messages than events
-- make none
abbrev pub row_of : ℕ → List ℕ → Frame → Decision → Answers → Option Row
row_of last host (Frame.Event e) d x = Some (Row.Taken (event_taken last host e d x))
row_of last host (Frame.Faulty seq) d x = Some (Row.Taken (faulty_taken host seq x.moment))
row_of last host Frame.Info d x = None
row_of last host Frame.Error d x = None
row_of last host Frame.Unknown d x = None

-- Runs in a world that answers the same question always alike (own).
use Rattle.std.specs.Prelude.{◌≡◌, ℕ, Bool, true, List, [], ◌∷◌, ◌++◌, Option, Some, Ok}
use Rattle.at_event.specs.Seen.{Seen}
use Rattle.at_event.specs.declared.frame.Frame.{Frame}
use Rattle.relay_row.specs.Folds.{last_seq}
use Rattle.relay_row.specs.declared.row.Row.{Row}
use Rattle.account_state.specs.Folds.{account, last_rev}
use Rattle.account_state.specs.State.{State}
use Rattle.relay_core.specs.Decide.{Checks, Outside, Found, absent, decided}
use Rattle.relay_core.specs.Runs.{Message, Turn, skipped_by, has_ended}
use Rattle.relay_core.specs.Sending.{IsSendable}
use Rattle.relay_core.specs.Table.{did_of}

-- What is true outside: when a host sent a message, whether it is the home of a DID, whether an
-- event's signature is good, and what the fetch of a repository finds, by the DID, the last
-- revision and the moment.
pub record World : Type 0 where
  pub moment : List ℕ → Frame → ℕ
  pub home : List ℕ → List ℕ → Bool
  pub verdict : Seen → Bool
  pub fetch : List ℕ → Option ℕ → ℕ → Found

-- the answers to an event of a host
abbrev pub outside : World → List ℕ → State → Seen → Outside
outside w host a e = record {
  moment = w.moment host (Frame.Event e);
  home = w.home e.did host;
  verdict = w.verdict e;
  fetched = w.fetch e.did (last_rev a.repo) (w.moment host (Frame.Event e));
}

-- the answers to a message of a host; of one that is no event, only the moment is asked
abbrev pub outside_of : World → List ℕ → State → Frame → Outside
outside_of w host a (Frame.Event e) = outside w host a e
outside_of w host a (Frame.Faulty seq) = record {
  moment = w.moment host (Frame.Faulty seq);
  home = true;
  verdict = true;
  fetched = absent;
}
outside_of w host a Frame.Info = record {
  moment = 0;
  home = true;
  verdict = true;
  fetched = absent;
}
outside_of w host a Frame.Error = record {
  moment = 0;
  home = true;
  verdict = true;
  fetched = absent;
}
outside_of w host a Frame.Unknown = record {
  moment = 0;
  home = true;
  verdict = true;
  fetched = absent;
}

-- what a fetch finds for a message can be sent
abbrev pub CanSendFor : World → List Row → List ℕ → Frame → Type 0
CanSendFor w J host (Frame.Event e) = IsSendable (last_seq J) e
    (outside w host (account e.did J) e).fetched
CanSendFor w J host other = Unit {0}

-- the row that a message makes in a world behind a journal
abbrev pub IsMadeIn : Checks → World → List Row → Message → Row → Type 0
IsMadeIn checks w J (host, Ok frame) (Row.Taken t) =
    CanSendFor w J host frame
    × (decided checks (last_seq J) (account (did_of frame) J) host frame
    (outside_of w host (account (did_of frame) J) frame) ≡ Some t)
IsMadeIn checks w J message row = ⊥

-- In a world, behind the journal J, with these hosts ended, the messages make the rows.
abbrev pub RunsIn : Checks → World → List Row → List (List ℕ) → List Message → List Row → Type 0
RunsIn checks w J ended [] rows = rows ≡ []
RunsIn checks w J ended (m ∷ messages) rows = Turn (has_ended ended m.0) (skipped_by J m)
    (RunsIn checks w J (m.0 ∷ ended) messages rows)
    (RunsIn checks w J ended messages rows)
    ((row : Row) × (others : List Row) × (rows ≡ row ∷ others) × IsMadeIn checks w J m row
    × RunsIn checks w (J ++ row ∷ []) ended messages others)

-- In a world, behind the journal J, the messages make the rows.
abbrev pub RunIn : Checks → World → List Row → List Message → List Row → Type 0
RunIn checks w J messages rows = RunsIn checks w J [] messages rows

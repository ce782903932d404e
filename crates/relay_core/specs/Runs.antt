-- Runs: messages in the order in which they are taken, the rows that they make, and what is said of
-- each (own).
use Rattle.std.specs.Prelude.{◌≡◌, ℕ, Bool, true, false, List, [], ◌∷◌, ◌++◌, Option, Some, None, Result, Ok, Err}
use Rattle.std.specs.List.{list_any}
use Rattle.std.specs.Str.{bytes_eq}
use Rattle.at_event.specs.declared.frame.Frame.{Frame}
use Rattle.at_event.specs.declared.frame.FrameFault.{FrameFault}
use Rattle.relay_row.specs.Folds.{cursor, last_seq}
use Rattle.relay_row.specs.declared.row.Row.{Row}
use Rattle.account_state.specs.Folds.{account}
use Rattle.relay_core.specs.Decide.{Checks, decided, passed}
use Rattle.relay_core.specs.Shown.{shown}
use Rattle.relay_core.specs.Table.{did_of}
use Rattle.relay_core.specs.declared.decision.Pass.{Pass}

-- a message that a host sent: the host, and what the message reads as
abbrev pub Message : Type 0
Message = List ℕ × Result Frame FrameFault

-- why a message makes no row behind a journal. One that doesn't read ends its host
abbrev pub skipped_by : List Row → Message → Option Pass
skipped_by J (host, Err fault) = Some Pass.Ended
skipped_by J (host, Ok frame) = passed (cursor host J) frame

-- a row that a message makes behind a journal, for the answers that it shows
abbrev pub IsMadeBy : Checks → List Row → Message → Row → Type 0
IsMadeBy checks J (host, Ok frame) (Row.Taken t) =
    decided checks (last_seq J) (account (did_of frame) J) host frame (shown t) ≡ Some t
IsMadeBy checks J message row = ⊥

-- one turn, at a host that ended before or not: what holds where it ends now, where nothing is
-- made, and where a row is
abbrev pub Turn : Bool → Option Pass → Type 0 → Type 0 → Type 0 → Type 0
Turn true pass ends passes takes = passes
Turn false (Some Pass.Ended) ends passes takes = ends
Turn false (Some Pass.Old) ends passes takes = passes
Turn false (Some Pass.Unknown) ends passes takes = passes
Turn false (Some Pass.Info) ends passes takes = passes
Turn false None ends passes takes = takes

abbrev pub has_ended : List (List ℕ) → List ℕ → Bool
has_ended ended host = list_any (bytes_eq host) ended

-- Behind the journal J, with these hosts ended, the messages make the rows.
abbrev pub RunFrom : Checks → List Row → List (List ℕ) → List Message → List Row → Type 0
RunFrom checks J ended [] rows = rows ≡ []
RunFrom checks J ended (m ∷ messages) rows = Turn (has_ended ended m.0) (skipped_by J m)
    (RunFrom checks J (m.0 ∷ ended) messages rows)
    (RunFrom checks J ended messages rows)
    ((row : Row) × (others : List Row) × (rows ≡ row ∷ others) × IsMadeBy checks J m row
    × RunFrom checks (J ++ row ∷ []) ended messages others)

-- Behind the journal J the messages make the rows: each that isn't skipped makes the row that is
-- decided for the answers that the row shows, and no message of a host that ended before makes any.
abbrev pub Run : Checks → List Row → List Message → List Row → Type 0
Run checks J messages rows = RunFrom checks J [] messages rows

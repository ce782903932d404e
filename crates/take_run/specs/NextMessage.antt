-- Why taking messages ends before the next one (own).
use Rattle.std.specs.Prelude.{◌≡◌, ◌+◌, ◌≤◌, List, [], ◌∷◌, None, Ok}
use Rattle.at_authority.specs.Panels.{Panel, IsSpent}
use Rattle.at_cid.specs.declared.limits.TheConstants.{NUMBERS}
use Rattle.at_event.specs.Frames.{frame_of}
use Rattle.at_event.specs.Seen.{Seen}
use Rattle.at_event.specs.declared.frame.Frame.{Frame}
use Rattle.at_syntax.specs.Did.{method_of}
use Rattle.relay_row.specs.Folds.{cursor, last_seq, seq_in}
use Rattle.relay_row.specs.declared.row.Row.{Row}
use Rattle.relay_row.specs.declared.taken.Taken.{Taken}
use Rattle.account_state.specs.Folds.{account}
use Rattle.relay_core.specs.Decide.{Checks, Outside, decided_event, passed}
use Rattle.relay_core.specs.Opening.{OpensRight}
use Rattle.relay_law.specs.Right.{LinksRight}
use Rattle.relay_step.specs.Around.{Around}
use Rattle.relay_step.specs.Messages.{AskedFor}
use Rattle.relay_step.specs.Questions.{length_line}
use Rattle.store_take.specs.declared.message.Message.{Message}
use Rattle.run_base.specs.Place.{Tells}
use Rattle.run_base.specs.declared.status.Status.{Status}

-- The numbers end after the journal J: the one after the last is none, and a message would give
-- it by this row, for answers that were given.
pub record MessageEndsNumbers (t : Tells) (J : List Row) (old : Around) (m : Message)
    (new : Around) : Type 0 where
  pub event : Seen
  pub outside : Outside
  pub taken : Taken
  pub is : frame_of m.bytes ≡ Ok (Frame.Event event)
  pub above : passed (cursor m.host J) (Frame.Event event) ≡ None
  pub decides : (checks : Checks) → OpensRight checks → LinksRight checks
      → decided_event checks (last_seq J) (account event.did J) m.host event outside ≡ taken
  pub asked : AskedFor t.clock t.repos J old m.host event taken.refusal outside new
  pub gives : seq_in (Row.Taken taken) ≡ last_seq J + 1
  pub ends : NUMBERS ≤ last_seq J + 1

-- All authorities of the method of the account that a message names have fallen, and the judges are
-- asked: after the journal J the event stands above its host's cursor, and its outgoing message
-- isn't too long.
pub record MessageIsSpent (J : List Row) (m : Message) (panel : Panel) : Type 0 where
  pub event : Seen
  pub is : frame_of m.bytes ≡ Ok (Frame.Event event)
  pub above : passed (cursor m.host J) (Frame.Event event) ≡ None
  pub short : length_line event ≡ None
  pub spent : IsSpent (panel (method_of event.did))

-- there is a next message, and it has P
abbrev pub OfNext : (Message → Type 0) → List Message → Type 0
OfNext P [] = ⊥
OfNext P (m ∷ behind) = P m

-- after the journal K the numbers end for the next message, or no authority is left, where that
-- ended it
pub record NextEnds (t : Tells) (K : List Row) (behind : List Message) (old new : Around)
    (status : Status) : Type 0 where
  pub numbers : status ≡ Status.SeqEnd → OfNext (λ m. MessageEndsNumbers t K old m new) behind
  pub spent : status ≡ Status.Authority → OfNext (λ m. MessageIsSpent K m new.panel) behind

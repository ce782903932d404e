-- Why a message or a word came to nothing, and what was asked until then.
use Rattle.std.specs.Prelude.{◌≡◌, ⊤, ℕ, List, Bool, None, Result, Ok, Err, IsTrue, ◌⊎◌}
use Rattle.at_syntax.specs.Did.{method_of}
use Rattle.at_authority.specs.Calls.{Call, fails}
use Rattle.at_authority.specs.Panels.{Panel, IsSpent}
use Rattle.at_event.specs.declared.frame.Frame.{Frame}
use Rattle.at_event.specs.declared.frame.FrameFault.{FrameFault}
use Rattle.relay_io.specs.Moments.{later_moments}
use Rattle.relay_core.specs.Decide.{passed}
use Rattle.relay_core.specs.Entries.{cursor_in}
use Rattle.relay_core.specs.declared.journal_state.Core.{Core}
use Rattle.relay_step.specs.Around.{Around, SameRepositories}
use Rattle.relay_step.specs.Asked.{AskedInVain}
use Rattle.relay_step.specs.Questions.{length_line}
use Rattle.relay_step.specs.declared.fault.StepFault.{StepFault}

-- the cause of each fault: that the numbers end, that no authority is left, that a count of faults
-- rose. Only running out of memory has none
abbrev pub IsCause : Type 0 → Type 0 → Type 0 → Type 0 → StepFault → Type 0
IsCause ends spent repos clock StepFault.SeqEnd = ends
IsCause ends spent repos clock StepFault.Authority = spent
IsCause ends spent repos clock StepFault.Repos = repos
IsCause ends spent repos clock StepFault.Clock = clock
IsCause ends spent repos clock StepFault.Memory = ⊤

-- what a call of the judges about a DID was, by what came of it
abbrev pub called : {A : Type 0} → List ℕ → (A → Call) → Result A StepFault → Call
called did call (Ok x) = call x
called did call (Err fault) = fails did

-- All authorities of the method of the account that a message names have fallen, and the judges are
-- asked: the event stands above its host's cursor, and its outgoing message isn't too long.
abbrev pub IsSpentFor : Core → List ℕ → Result Frame FrameFault → Panel → Type 0
IsSpentFor c host (Ok (Frame.Event e)) panel =
    (passed (cursor_in c host) (Frame.Event e) ≡ None) × (length_line e ≡ None)
    × IsSpent (panel (method_of e.did))
IsSpentFor c host other panel = ⊥

-- no method lost the last of its authorities
abbrev pub SpendsNone : Panel → Panel → Type 0
SpendsNone old new = (name : List ℕ) → IsSpent (new name) → IsSpent (old name)

-- what a message asked of the judges that comes to nothing
abbrev pub AskedInVainOf : Panel → Result Frame FrameFault → Panel → Type 0
AskedInVainOf old (Ok (Frame.Event e)) new = AskedInVain old e.did new
AskedInVainOf old other new = new ≡ old

-- one moment was taken at most
abbrev pub OneTaken : List ℕ → List ℕ → Type 0
OneTaken old new = (new ≡ old) ⊎ (new ≡ later_moments old)

-- What was asked around for nothing: of the judges this, of the clock a moment at most, and the
-- repositories are the same.
pub record CameToNothing (clock_tells repos_tell : Bool) (judged : Type 0)
    (old new : Around) : Type 0 where
  pub judges : judged
  pub moments : IsTrue clock_tells → OneTaken old.moments new.moments
  pub same : IsTrue repos_tell → SameRepositories old.repository new.repository

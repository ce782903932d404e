-- What a step shows of the judges: which calls it made, in their order, and what they answered
-- (own).
use Rattle.std.specs.Prelude.{◌≡◌, ℕ, ◌≤◌, Bool, true, false, ◌&&◌, ◌||◌, ◌==◌, List, [], ◌∷◌, ◌++◌, length, Option, Some, None, Result, Ok, option_map, nat_le, if◌then◌else◌}
use Rattle.std.specs.List.{AllByRecursion, filter}
use Rattle.sha2.specs.Sha256.{sha256}
use Rattle.at_car.specs.Car.{car_of}
use Rattle.at_event.specs.Refusals.{code_of}
use Rattle.at_event.specs.Seen.{Seen}
use Rattle.at_event.specs.declared.event.Body.{Body}
use Rattle.at_event.specs.declared.frame.Frame.{Frame}
use Rattle.at_event.specs.declared.frame.FrameFault.{FrameFault}
use Rattle.at_event.specs.declared.refusal.Refusal.{Refusal}
use Rattle.event_checks.specs.Opening.{CarResult, object_in}
use Rattle.event_checks.specs.Table.{car_in}
use Rattle.at_authority.specs.Calls.{Call, answers, refreshes, did_called, AreCalls}
use Rattle.at_authority.specs.Panels.{Panel}
use Rattle.at_authority.specs.Queries.{asks_home, asks_verdict}
use Rattle.relay_core.specs.Shown.{shows_home, shows_verdict}
use Rattle.relay_step.specs.Steps.{Decided, after_end, skipped, recorded}

-- the digest that was signed, and the signature, of the commit object in a CAR
abbrev pub signed_in : CarResult → Option (List ℕ × List ℕ)
signed_in car = option_map (λ commit. (sha256 commit.unsigned, commit.sig)) (object_in car)

abbrev pub signed_by : Body → Option (List ℕ × List ℕ)
signed_by (Body.Commit c) = signed_in (car_in c)
signed_by (Body.Sync s) = signed_in (car_of s.blocks)
signed_by Body.Identity = None
signed_by (Body.Account a) = None

-- the judges are asked for the home before every refusal but that of an outgoing message that is
-- too long
abbrev pub asks_for_home : Option Refusal → Bool
asks_for_home (Some Refusal.TooLong) = false
asks_for_home other = true

-- and for the signature of a commit that nothing before that line refuses: where it is bad, where a
-- later line refuses, and where none does
abbrev pub asks_for_verdict : Option Refusal → Bool
asks_for_verdict None = true
asks_for_verdict (Some r) = code_of r == 18 || (nat_le 19 (code_of r) && nat_le (code_of r) 23)

abbrev pub refresh_calls : Seen → Body → List Call
refresh_calls e Body.Identity = refreshes e.did ∷ []
refresh_calls e other = []

abbrev pub home_calls : List ℕ → Seen → Option Refusal → List Call
home_calls host e r = if asks_for_home r then refresh_calls e e.body
    ++ answers (asks_home e.did host) (shows_home r) ∷ [] else []

abbrev pub verdict_call : List ℕ → Option (List ℕ × List ℕ) → Bool → List Call
verdict_call did None good = []
verdict_call did (Some signed) good = answers (asks_verdict did signed.0 signed.1) good ∷ []

abbrev pub verdict_calls : Seen → Option Refusal → List Call
verdict_calls e r = if asks_for_verdict r
    then verdict_call e.did (signed_by e.body) (shows_verdict r) else []

-- the calls about an event to which a refusal applies, or none: behind those of its own table,
-- those of its fetch
abbrev pub event_calls : List ℕ → Seen → Option Refusal → List Call → List Call
event_calls host e r fetch = home_calls host e r ++ (verdict_calls e r ++ fetch)

-- the calls of a step: one that makes no row makes none, nor does an event with a bad field
abbrev pub step_calls : List ℕ → Result Frame FrameFault → Decided → List Call → List Call
step_calls host frame after_end fetch = []
step_calls host frame (skipped pass) fetch = []
step_calls host (Ok (Frame.Event e)) (recorded t) fetch = event_calls host e t.refusal fetch
step_calls host frame (recorded t) fetch = []

abbrev pub is_refresh : Call → Bool
is_refresh (refreshes did) = true
is_refresh other = false

abbrev pub AllAbout : List ℕ → List Call → Type 0
AllAbout did calls = AllByRecursion (λ call. did_called call ≡ did) calls

-- What a step asks that comes to nothing: calls about one DID, with one refresh at most.
pub record AskedInVain (old : Panel) (did : List ℕ) (new : Panel) : Type 0 where
  pub calls : List Call
  pub about : AllAbout did calls
  pub once : length (filter is_refresh calls) ≤ 1
  pub made : AreCalls old calls new

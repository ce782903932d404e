-- Laws of the checks of commits, each without one of its premises.
use Rattle.std.specs.Prelude.{◌≡◌, ℕ, List, Some, None, if◌then◌else◌}
use Rattle.at_event.specs.Events.{IsEvent}
use Rattle.at_event.specs.Seen.{Seen}
use Rattle.at_event.specs.declared.frame.Frame.{Frame}
use Rattle.at_event.specs.declared.refusal.Refusal.{Refusal}
use Rattle.relay_row.specs.Folds.{last_seq}
use Rattle.relay_row.specs.declared.row.Row.{Row}
use Rattle.relay_row.specs.declared.taken.Taken.{Taken}
use Rattle.account_state.specs.Folds.{account}
use Rattle.relay_core.specs.Decide.{Checks, Outside, decided}
use Rattle.relay_core.specs.Opening.{OpensRight}
use Rattle.relay_law.specs.Calls.{SayWhatCallsAnswer}
use Rattle.relay_law.specs.Covered.{IsCovered}
use Rattle.relay_law.specs.Right.{AreRight, LinksRight}

-- Checks that link rightly aren't right, where they don't open rightly.
abbrev pub LinkingMayBeWrong : Type 0
LinkingMayBeWrong = ((checks : Checks) → LinksRight checks → AreRight checks) → ⊥

-- Checks may say otherwise than the calls answer ..
pub record ChecksMaySayOtherwise : Type 0 where
  -- where they don't open rightly
  pub opens : ((checks : Checks) → LinksRight checks → SayWhatCallsAnswer checks) → ⊥
  -- where they don't link rightly
  pub links : ((checks : Checks) → OpensRight checks → SayWhatCallsAnswer checks) → ⊥

-- a row is refused for its home or its signature alone
abbrev pub IsJudged : Outside → Taken → Type 0
IsJudged o t =
    t.refusal ≡ (if o.home then (if o.verdict then None else Some Refusal.BadSignature)
    else Some Refusal.NotHome)

-- A commit may be refused, or pass, otherwise than for its home and its signature alone ..
pub record CoveredMayBeRefused : Type 0 where
  -- where the checks don't open rightly
  pub opens : ((checks : Checks) → LinksRight checks
      → (J : List Row) (host : List ℕ) (e : Seen) (o : Outside) (t : Taken) → IsEvent e
      → IsCovered J host e o.moment → decided checks (last_seq J) (account e.did J) host
      (Frame.Event e) o ≡ Some t → IsJudged o t) → ⊥
  -- where they don't link rightly
  pub links : ((checks : Checks) → OpensRight checks
      → (J : List Row) (host : List ℕ) (e : Seen) (o : Outside) (t : Taken) → IsEvent e
      → IsCovered J host e o.moment → decided checks (last_seq J) (account e.did J) host
      (Frame.Event e) o ≡ Some t → IsJudged o t) → ⊥
  -- where it isn't read from its payload
  pub event : ((checks : Checks) → OpensRight checks → LinksRight checks
      → (J : List Row) (host : List ℕ) (e : Seen) (o : Outside) (t : Taken)
      → IsCovered J host e o.moment → decided checks (last_seq J) (account e.did J) host
      (Frame.Event e) o ≡ Some t → IsJudged o t) → ⊥
  -- where it isn't covered
  pub covered : ((checks : Checks) → OpensRight checks → LinksRight checks
      → (J : List Row) (host : List ℕ) (e : Seen) (o : Outside) (t : Taken) → IsEvent e
      → decided checks (last_seq J) (account e.did J) host (Frame.Event e) o ≡ Some t
      → IsJudged o t) → ⊥
  -- where the row isn't what is decided of it
  pub decided : ((checks : Checks) → OpensRight checks → LinksRight checks
      → (J : List Row) (host : List ℕ) (e : Seen) (o : Outside) (t : Taken) → IsEvent e
      → IsCovered J host e o.moment → IsJudged o t) → ⊥

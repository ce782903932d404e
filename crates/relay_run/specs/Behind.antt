-- What the commands on an account do, after the journal of two disks (own).
use Rattle.std.specs.Prelude.{◌≡◌, ⊤, ℕ, ◌+◌, ◌≤◌, Bool, true, List, None, IsTrue}
use Rattle.at_authority.specs.Panels.{IsSpent}
use Rattle.at_cid.specs.declared.limits.TheConstants.{NUMBERS}
use Rattle.at_syntax.specs.Did.{method_of}
use Rattle.relay_row.specs.Folds.{last_seq}
use Rattle.relay_row.specs.declared.row.Row.{Row}
use Rattle.account_state.specs.Folds.{account, last_rev}
use Rattle.relay_core.specs.Decide.{Found, is_found}
use Rattle.relay_core.specs.Operating.{operate_refusal, sync_refusal}
use Rattle.relay_step.specs.Around.{Around, SameRepositories}
use Rattle.relay_step.specs.Asked.{AskedInVain}
use Rattle.relay_step.specs.Causes.{CameToNothing, OneTaken}
use Rattle.relay_step.specs.Commands.{IsJudged, IsNow}
use Rattle.relay_step.specs.Fetching.{AnsweredFetch, told_where}
use Rattle.relay_step.specs.Operators.{IsOperated, IsSyncedNow}
use Rattle.relay_step.specs.declared.command.CommandAnswer.{CommandAnswer}
use Rattle.relay_store.specs.Faults.{IsCause}
use Rattle.relay_run.specs.CommandRan.{CommandRan}
use Rattle.run_base.specs.Place.{Place, Tells}
use Rattle.run_base.specs.declared.status.Status.{Status}

-- ---- an account taken down or restored

-- Behind the journal J, an account was taken down or restored at a moment of the clock, or the
-- command was refused.
pub record OperatedBehind (clock_tells : Bool) (J : List Row) (did : List ℕ) (down : Bool)
    (time moments : List ℕ) (command : CommandAnswer) (left : List ℕ) : Type 0 where
  pub moment : ℕ
  pub now : IsTrue clock_tells → IsNow moments moment left
  pub operated : IsOperated J did down time moment command

-- The numbers end behind the journal J: the one behind the last is none, and the command isn't
-- refused.
abbrev pub NumbersEndBehind : List Row → List ℕ → Bool → Type 0
NumbersEndBehind J did down = (operate_refusal (account did J) down ≡ None)
    × (NUMBERS ≤ last_seq J + 1)

-- An account of the journal J of two disks was to be taken down, or restored.
abbrev pub WasOperated : Tells → ℕ → List Row → List ℕ → Bool → List ℕ → Place → Place → Status
    → Type 0
WasOperated t most J did down time old new status =
    CommandRan t most J (new.around.moments ≡ old.around.moments)
    (λ fault. (IsTrue t.clock → OneTaken old.around.moments new.around.moments)
    × IsCause (NumbersEndBehind J did down) ⊤ ⊤ ⊤ fault)
    (λ command. OperatedBehind t.clock J did down time old.around.moments command
    new.around.moments)
    old new status

-- ---- an account's repository fetched and taken over

-- Behind the journal J, an account was synchronized at a moment of the clock with what its
-- repository came to, or the command was refused.
pub record SyncedBehind (clock_tells repos_tell : Bool) (J : List Row) (did time : List ℕ)
    (old : Around) (command : CommandAnswer) (new : Around) : Type 0 where
  pub moment : ℕ
  pub now : IsTrue clock_tells → IsNow old.moments moment new.moments
  pub synced : IsSyncedNow old.panel J did time moment (told_where repos_tell (old.repository did))
      command new.panel
  pub same : IsTrue repos_tell → SameRepositories old.repository new.repository

-- The numbers end behind the journal J: the one behind the last is none, the command isn't refused,
-- and what was fetched at a moment of the clock would be taken over.
pub record FetchEndsNumbers (clock_tells repos_tell : Bool) (J : List Row) (did : List ℕ)
    (old new : Around) : Type 0 where
  pub ends : NUMBERS ≤ last_seq J + 1
  pub fine : sync_refusal (account did J) ≡ None
  pub moment : ℕ
  pub now : IsTrue clock_tells → IsNow old.moments moment new.moments
  pub found : Found
  pub whole : is_found found ≡ true
  pub fetch : AnsweredFetch (told_where repos_tell (old.repository did)) did
      (last_rev (account did J).repo) moment old.panel found new.panel

-- No authority of the account's method is left, and the judges are asked: the command isn't
-- refused, and what is fetched behind the journal J at a moment of the clock is judged.
pub record FetchIsSpent (clock_tells repos_tell : Bool) (J : List Row) (did : List ℕ)
    (old new : Around) : Type 0 where
  pub fine : sync_refusal (account did J) ≡ None
  pub moment : ℕ
  pub now : IsTrue clock_tells → IsNow old.moments moment new.moments
  pub judged : IsTrue repos_tell
      → IsJudged (old.repository did) did (last_rev (account did J).repo) moment
  pub spent : IsSpent (new.panel (method_of did))

-- An account of the journal J of two disks was to be synchronized.
abbrev pub WasSynced : Tells → ℕ → List Row → List ℕ → List ℕ → Place → Place → Status → Type 0
WasSynced t most J did time old new status =
    CommandRan t most J (new.around ≡ old.around)
    (λ fault. CameToNothing t.clock t.repos
    (AskedInVain old.around.panel did new.around.panel) old.around new.around
    × IsCause (FetchEndsNumbers t.clock t.repos J did old.around new.around)
    (FetchIsSpent t.clock t.repos J did old.around new.around) ⊤ ⊤ fault)
    (λ command. SyncedBehind t.clock t.repos J did time old.around command new.around)
    old new status

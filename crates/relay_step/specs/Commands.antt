-- What is owed of an operator's command, by the relay's state: behind each journal for which it
-- stands (own).
use Rattle.std.specs.Prelude.{◌≡◌, ℕ, ◌+◌, ◌≤◌, List, [], ◌∷◌, Bool, true, false, Option, Some, None, Ok, IsTrue}
use Rattle.at_authority.specs.Panels.{IsSpent}
use Rattle.at_syntax.specs.Did.{method_of}
use Rattle.relay_io.specs.Moments.{first_moment, later_moments}
use Rattle.at_cid.specs.declared.limits.TheConstants.{NUMBERS}
use Rattle.relay_row.specs.declared.row.Row.{Row}
use Rattle.account_state.specs.Folds.{last_rev}
use Rattle.relay_core.specs.Decide.{Found, is_found, is_ahead}
use Rattle.relay_core.specs.Entries.{Holds, account_in}
use Rattle.relay_core.specs.Operating.{operate_refusal, sync_refusal}
use Rattle.relay_core.specs.declared.journal_state.Core.{Core}
use Rattle.repo_sync.specs.Repository.{IsAnswer}
use Rattle.repo_sync.specs.declared.found.Found.{Found as Checked}
use Rattle.relay_step.specs.Around.{Around, SameRepositories}
use Rattle.relay_step.specs.Fetching.{AnsweredFetch, told_where}
use Rattle.relay_step.specs.Operators.{IsOperated, IsSyncedNow}
use Rattle.relay_step.specs.declared.command.CommandAnswer.{CommandAnswer}

-- the rows of a word
abbrev pub rows_commanded : CommandAnswer → List Row
rows_commanded (CommandAnswer.Refused r) = []
rows_commanded (CommandAnswer.Made row) = row ∷ []

-- the clock's next moment was taken
pub record IsNow (moments : List ℕ) (moment : ℕ) (left : List ℕ) : Type 0 where
  pub next : moment ≡ first_moment moments
  pub gone : left ≡ later_moments moments

-- An account was taken down or restored at a moment of the clock, or the word was refused.
pub record OperatedAt (clock_tells : Bool) (c : Core) (did : List ℕ) (down : Bool)
    (time moments : List ℕ) (command : CommandAnswer) (left : List ℕ) : Type 0 where
  pub moment : ℕ
  pub now : IsTrue clock_tells → IsNow moments moment left
  pub operated : (J : List Row) → Holds c J → IsOperated J did down time moment command

-- the numbers end: the one behind the last is none, and the word isn't refused
abbrev pub EndsBehind : Core → List ℕ → Bool → Type 0
EndsBehind c did down = (operate_refusal (account_in c did) down ≡ None) × (NUMBERS ≤ c.last + 1)

-- The numbers end: the one behind the last is none, the word isn't refused, and what was fetched at
-- a moment of the clock would be taken over.
pub record EndsFetched (clock_tells repos_tell : Bool) (c : Core) (did : List ℕ) (old new : Around)
    : Type 0 where
  pub ends : NUMBERS ≤ c.last + 1
  pub fine : sync_refusal (account_in c did) ≡ None
  pub moment : ℕ
  pub now : IsTrue clock_tells → IsNow old.moments moment new.moments
  pub found : Found
  pub whole : is_found found ≡ true
  pub fetch : AnsweredFetch (told_where repos_tell (old.repository did)) did
      (last_rev (account_in c did).repo) moment old.panel found new.panel

-- the signature of a repository's commit is asked for: it is whole, and its revision isn't far
-- ahead of the moment
abbrev pub IsJudged : Option (List ℕ) → List ℕ → Option ℕ → ℕ → Type 0
IsJudged None did least moment = ⊥
IsJudged (Some bytes) did least moment =
    (checked : Checked) × IsAnswer did least bytes (Ok checked)
    × (is_ahead checked.head.rev (Some moment) ≡ false)

-- No authority of the account's method is left, and the judges are asked: the word isn't refused,
-- and what is fetched at a moment of the clock is judged.
pub record SpentFetching (clock_tells repos_tell : Bool) (c : Core) (did : List ℕ)
    (old new : Around) : Type 0 where
  pub fine : sync_refusal (account_in c did) ≡ None
  pub moment : ℕ
  pub now : IsTrue clock_tells → IsNow old.moments moment new.moments
  pub judged : IsTrue repos_tell
      → IsJudged (old.repository did) did (last_rev (account_in c did).repo) moment
  pub spent : IsSpent (new.panel (method_of did))

-- An account was synchronized at a moment of the clock with what its repository came to, or the
-- word was refused.
pub record SyncedAt (clock_tells repos_tell : Bool) (c : Core) (did time : List ℕ) (old : Around)
    (command : CommandAnswer) (new : Around) : Type 0 where
  pub moment : ℕ
  pub now : IsTrue clock_tells → IsNow old.moments moment new.moments
  pub synced : (J : List Row) → Holds c J
      → IsSyncedNow old.panel J did time moment
      (told_where repos_tell (old.repository did)) command new.panel
  pub same : IsTrue repos_tell → SameRepositories old.repository new.repository

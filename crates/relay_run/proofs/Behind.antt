-- What the store knows is of the journal: what was said by its state is said behind the journal.
use Rattle.std.proofs.Common.{◌≡◌, ℕ, ◌≤◌, ◌+◌, List, Bool, None, subst}
use Rattle.at_cid.specs.declared.limits.TheConstants.{NUMBERS}
use Rattle.relay_row.specs.declared.row.Row.{Row}
use Rattle.account_state.specs.Folds.{last_rev}
use Rattle.account_state.specs.State.{State}
use Rattle.relay_core.specs.Entries.{Holds}
use Rattle.relay_core.specs.Operating.{operate_refusal, sync_refusal}
use Rattle.relay_core.specs.declared.journal_state.Core.{Core}
use Rattle.relay_step.specs.Around.{Around}
use Rattle.relay_step.specs.Commands.{EndsBehind, EndsFetched, IsJudged, OperatedAt, SpentFetching, SyncedAt}
use Rattle.relay_step.specs.Fetching.{AnsweredFetch, told_where}
use Rattle.relay_step.specs.declared.command.CommandAnswer.{CommandAnswer}
use Rattle.relay_run.specs.Behind.{FetchEndsNumbers, FetchIsSpent, NumbersEndBehind, OperatedBehind, SyncedBehind}

module _ (core : Core) (J : List Row) (holds : Holds core J) where
  pub operated_behind : (told : Bool) (did : List ℕ) (down : Bool) (time moments : List ℕ) (command : CommandAnswer) (left : List ℕ)
      → OperatedAt told core did down time moments command left → OperatedBehind told J did down time moments command left
  operated_behind told did down time moments command left at = record { moment = at.moment; now = at.now; operated = at.operated J holds }

  pub numbers_end : (did : List ℕ) (down : Bool) → EndsBehind core did down → NumbersEndBehind J did down
  numbers_end did down ends = (
    subst (λ (a : State). operate_refusal a down ≡ None) (holds.accounts did) ends.0,
    subst (λ (n : ℕ). NUMBERS ≤ n + 1) holds.last ends.1,
  )

  pub synced_behind : (clock_told repos_told : Bool) (did time : List ℕ) (old : Around) (command : CommandAnswer) (new : Around)
      → SyncedAt clock_told repos_told core did time old command new → SyncedBehind clock_told repos_told J did time old command new
  synced_behind clock_told repos_told did time old command new at = record { moment = at.moment; now = at.now; synced = at.synced J holds; same = at.same }

  pub fetch_ends : (clock_told repos_told : Bool) (did : List ℕ) (old new : Around) → EndsFetched clock_told repos_told core did old new → FetchEndsNumbers clock_told repos_told J did old new
  fetch_ends clock_told repos_told did old new ends = record {
    ends = subst (λ (n : ℕ). NUMBERS ≤ n + 1) holds.last ends.ends;
    fine = subst (λ (a : State). sync_refusal a ≡ None) (holds.accounts did) ends.fine;
    moment = ends.moment;
    now = ends.now;
    found = ends.found;
    whole = ends.whole;
    fetch = subst (λ (a : State). AnsweredFetch (told_where repos_told (old.repository did)) did (last_rev a.repo) ends.moment old.panel ends.found new.panel) (holds.accounts did) ends.fetch;
  }

  pub fetch_is_spent : (clock_told repos_told : Bool) (did : List ℕ) (old new : Around) → SpentFetching clock_told repos_told core did old new → FetchIsSpent clock_told repos_told J did old new
  fetch_is_spent clock_told repos_told did old new spent = record {
    fine = subst (λ (a : State). sync_refusal a ≡ None) (holds.accounts did) spent.fine;
    moment = spent.moment;
    now = spent.now;
    judged = λ told. subst (λ (a : State). IsJudged (old.repository did) did (last_rev a.repo) spent.moment) (holds.accounts did) (spent.judged told);
    spent = spent.spent;
  }

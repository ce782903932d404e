-- What operators' commands come to: a refusal, or a row (own).
use Rattle.std.specs.Prelude.{◌≡◌, ℕ, ◌+◌, Bool, List, Option, Some, None}
use Rattle.at_authority.specs.Panels.{Panel}
use Rattle.at_event.specs.declared.refusal.Refusal.{Refusal}
use Rattle.relay_row.specs.Folds.{last_seq}
use Rattle.relay_row.specs.declared.row.Row.{Row}
use Rattle.account_state.specs.Folds.{account, last_rev}
use Rattle.relay_core.specs.Decide.{Found, absent, unfit, found, whole_under}
use Rattle.relay_core.specs.Operating.{operate_refusal, operated_as, sync_refusal}
use Rattle.relay_step.specs.Fetching.{AnsweredFetch}
use Rattle.relay_step.specs.declared.command.CommandAnswer.{CommandAnswer}

-- Behind the journal J, taking an account down or restoring it at a moment comes to this.
abbrev pub IsOperated : List Row → List ℕ → Bool → List ℕ → ℕ → CommandAnswer → Type 0
IsOperated J did down time moment (CommandAnswer.Refused r) =
    operate_refusal (account did J) down ≡ Some r
IsOperated J did down time moment (CommandAnswer.Made row) =
    (operate_refusal (account did J) down ≡ None)
    × (row ≡ Row.Operated (operated_as (last_seq J) (account did J) did down time (Some moment)))

-- the refusal of what a fetch found, or the row of it
abbrev pub IsFetchCommand : ℕ → List ℕ → List ℕ → ℕ → Found → CommandAnswer → Type 0
IsFetchCommand last did time moment absent command =
    command ≡ CommandAnswer.Refused Refusal.NoRepository
IsFetchCommand last did time moment (unfit n) command =
    command ≡ CommandAnswer.Refused (Refusal.RepositoryRefused n)
IsFetchCommand last did time moment (found head records block) command =
    command ≡ CommandAnswer.Made (Row.Synced did
    (whole_under did time head records block (last + 1)) (Some moment))

-- what an account's word of synchronizing comes to where it isn't refused at once: what its
-- repository came to, beside the last revision
pub record IsFetchedNow (old : Panel) (J : List Row) (did time : List ℕ) (moment : ℕ)
    (repository : Option (Option (List ℕ))) (command : CommandAnswer) (new : Panel) : Type 0 where
  pub found : Found
  pub fetch : AnsweredFetch repository did (last_rev (account did J).repo) moment old found new
  pub command_is : IsFetchCommand (last_seq J) did time moment found command

abbrev pub IsSyncedBy : Option Refusal → Panel → List Row → List ℕ → List ℕ → ℕ
    → Option (Option (List ℕ)) → CommandAnswer → Panel → Type 0
IsSyncedBy (Some r) old J did time moment repository command new =
    (command ≡ CommandAnswer.Refused r) × (new ≡ old)
IsSyncedBy None old J did time moment repository command new =
    IsFetchedNow old J did time moment repository command new

-- Behind the journal J, synchronizing an account at a moment comes to this; its repository is told
-- or not.
abbrev pub IsSyncedNow : Panel → List Row → List ℕ → List ℕ → ℕ → Option (Option (List ℕ))
    → CommandAnswer → Panel → Type 0
IsSyncedNow old J did time moment repository command new =
    IsSyncedBy (sync_refusal (account did J)) old J did time moment repository command new

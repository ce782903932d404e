-- What holds of all steps that take what a relay serves.
use Rattle.std.specs.Prelude.{◌≡◌, ◌⊎◌, ℕ, true, List, [], ◌++◌, Some}
use Rattle.std.specs.List.{list_all}
use Rattle.backfill.specs.Served.{served}
use Rattle.relay_row.specs.Folds.{cursor}
use Rattle.relay_row.specs.Journal.{IsJournal}
use Rattle.relay_row.specs.declared.row.Row.{Row}
use Rattle.relay_core.specs.Decide.{Checks}
use Rattle.relay_core.specs.Opening.{OpensRight}
use Rattle.relay_core.specs.Runs.{has_ended}
use Rattle.relay_core.specs.Shown.{says_yes}
use Rattle.relay_law.specs.Right.{LinksRight}
use Rattle.relay_step.specs.Steps.{Step, AreSteps, ended_by_all, rows}
use Rattle.store_take.specs.Batches.{messages_sent}
use Rattle.relay_store.specs.Shown.{held_by, is_shown}
use Rattle.take_run.specs.Feeds.{AreOf, bytes_of_messages}
use Rattle.chain_law.specs.Given.{AreGiven}
use Rattle.chain_law.specs.Chained.{CanFollow, FollowsAll}

-- Where a host that is new to a journal sent all that a relay serves of another one, or up to its
-- end, and the rows show that whoever was asked said yes, the accounts follow as the law of a relay
-- behind a relay has it.
abbrev pub ServedFollow : Type 0
ServedFollow = (checks : Checks) → OpensRight checks → LinksRight checks
    → (one two : List Row) (host did : List ℕ) (steps : List Step) (rest : List (List ℕ))
    → IsJournal one → AreGiven checks [] one → cursor host two ≡ 0
    → AreSteps checks two [] steps → AreOf host (messages_sent steps)
    → served (held_by one) (Some (cursor host two)) ≡ bytes_of_messages (messages_sent steps)
    ++ rest
    → (rest ≡ []) ⊎ (has_ended (ended_by_all steps []) host ≡ true)
    → list_all says_yes (rows steps) ≡ true
    → CanFollow did (is_shown one) one two (rows steps) → FollowsAll did one two (rows steps)

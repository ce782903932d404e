-- What may stand untold.
use Rattle.std.proofs.Common.{◌≡◌, ◌⊎◌, ⊎_elim, ℕ, subst, sym}
use Rattle.run_base.specs.declared.status.Status.{Status}
use Rattle.read_run.specs.Ends.{IsOfDisks}
use Rattle.relay_cli.specs.Ran.{HidesOutput}
use Rattle.relay_cli.specs.declared.command.Command.{Command}

-- where the disks ended a replay, its output may have failed too
pub replay_hides : (cursor : ℕ) (status : Status) → IsOfDisks status → HidesOutput (Command.Replay cursor) status
replay_hides cursor status of =
    ⊎_elim (λ (is : status ≡ Status.Disk). subst (HidesOutput (Command.Replay cursor)) (sym is) tt)
    (λ (at : (place : ℕ) × (status ≡ Status.BadLog place)). subst (HidesOutput (Command.Replay cursor)) (sym at.1) tt) of

use denote.Shadow.{shadow}
use denote.Text.{Utf8}
use Rattle.account_state.proofs.Left.{behind_count}
use Rattle.store_cut.proofs.Carried.{IsCarrying}
use Rattle.store_cut.proofs.carrying.carry_accounts.Given as goal

abbrev pub invariant-accounts : goal.invariant-accounts
invariant-accounts g l = IsCarrying g.D.Disk.tells l.core l.did l.initial.rewrite l.rewrite (g.D.Disk.view l.initial.other) (g.D.Disk.view l.other) × shadow (Utf8 l.did)

abbrev pub decreases-accounts : goal.decreases-accounts
decreases-accounts g l = behind_count l.did l.core.accounts

use Rattle.std.proofs.Common.{length}
use Rattle.store_cut.proofs.Recopied.{IsMoving}
use Rattle.store_cut.proofs.rereading.fold_rows.Given as goal

abbrev pub invariant-rows : goal.invariant-rows
invariant-rows l = IsMoving l.fn.rows.items l.left.items l.fn.core l.core

abbrev pub decreases-rows : goal.decreases-rows
decreases-rows l = length l.left.items

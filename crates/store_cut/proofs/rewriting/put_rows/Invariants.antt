use Rattle.std.proofs.Common.{length}
use Rattle.store_cut.proofs.Rewritten.{IsPutting}
use Rattle.store_cut.proofs.rewriting.put_rows.Given as goal

abbrev pub invariant-rows : goal.invariant-rows
invariant-rows g l = IsPutting g.D.Disk.tells l.fn.rows.items l.left.items l.initial.rewrite l.rewrite (g.D.Disk.view l.initial.other) (g.D.Disk.view l.other)

abbrev pub decreases-rows : goal.decreases-rows
decreases-rows g l = length l.left.items

use Rattle.std.proofs.Common.{take}
use Rattle.host_state.specs.Table.{listed}
use Rattle.cut_law.specs.Cut.{host_rows}
use Rattle.store_cut.specs.Rewriting.{IsCopied}
use Rattle.store_cut.proofs.carrying.carry_hosts.Given as goal

abbrev pub invariant-each : goal.invariant-each
invariant-each g l = IsCopied g.D.Disk.tells (host_rows (take l.place (listed l.hosts))) l.initial.rewrite l.rewrite (g.D.Disk.view l.initial.other) (g.D.Disk.view l.other)

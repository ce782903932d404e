use Rattle.std.proofs.Common.{List, ℕ, subst, sym}
use Rattle.relay_row.specs.declared.carried.Carried.{Carried}
use Rattle.relay_row.specs.declared.row.Row.{Row}
use Rattle.store_cut.specs.Rewriting.{IsShort}
use Rattle.store_cut.proofs.ShortCarried.{positive_short}
use Rattle.store_cut.proofs.carrying.carry_host.Goals as goal

pub put_row-requires-clause-short : goal.put_row-requires-clause-short
put_row-requires-clause-short g c =
    subst (λ (host : List ℕ). IsShort (Row.Carried (Carried.Host host c.args.cursor))) (sym c.in_ok-host.ensures) (positive_short c.args.name.now c.args.cursor c.if-cursor-eq0.false c.requires.short)

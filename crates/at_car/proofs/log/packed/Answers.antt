use Rattle.at_car.proofs.Logs.{told_again}
use Rattle.at_car.proofs.log.packed.Goals as goal

pub entries-preserved : goal.entries-preserved
entries-preserved c =
    told_again c.args.buffer.now c.entries.log c.put_again.new.log c.entries.rest.now c.entry-item.result _ c.in-len1-up.len_at_least c.entry-item.is c.in_ok-put_again.ensures c.entries.invariant.0 c.entries.invariant.1

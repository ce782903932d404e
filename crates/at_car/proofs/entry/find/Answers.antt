use Rattle.std.proofs.Common.{sym}
use Rattle.at_car.proofs.Searches.{absent}
use Rattle.at_car.proofs.entry.find.Goals as goal

pub returns-in-Err : goal.returns-in-Err
returns-in-Err c = sym (absent c.args.link.now c.args.entries.now c.in-Err.field-0 c.in-Err.ensures.absent)

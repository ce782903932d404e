use Rattle.std.proofs.Common.{ap, ◌∙◌}
use Rattle.std.specs.FinMap.{find}
use Rattle.at_cid.specs.Order.{key_cmp}
use Rattle.at_car.proofs.Logs.{same_found}
use Rattle.at_car.proofs.log.ScanLog.order.Goals as goal

pub invariant_of-self : goal.invariant_of-self
invariant_of-self c = c.settle.ensures.told c.self.inside.buffer c.self.invariant

pub returns-in_err-settle : goal.returns-in_err-settle
returns-in_err-settle c = λ link. same_found c.self.inside.buffer link c.self.inside.entries.items c.settle.new.entries.items (c.settle.ensures.places link) ∙ ap (find key_cmp link) c.self.view_is

pub invariant_of-self-2 : goal.invariant_of-self-2
invariant_of-self-2 c = c.settle.ensures.told c.self.inside.buffer c.self.invariant

pub returns : goal.returns
returns c = λ link. same_found c.self.inside.buffer link c.self.inside.entries.items c.settle.new.entries.items (c.settle.ensures.places link) ∙ ap (find key_cmp link) c.self.view_is

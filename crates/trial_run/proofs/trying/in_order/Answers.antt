use Rattle.std.proofs.Common.{[], refl}
use Rattle.trial_run.proofs.Orders.{all_of}
use Rattle.trial_run.proofs.Steps.{moved}
use Rattle.trial_run.proofs.trying.in_order.Goals as goal

pub returns : goal.returns
returns c = moved _ _ c.take_those.new.self c.take_those.new.self c.take_those.new.disk c.take_those.new.disk (all_of c.args.history.now.messages) refl refl (c.in_ok-take_those.ensures [] c.in_ok-merge.ensures)

use Rattle.std.proofs.Common.{sym, ap, ◌∙◌}
use Rattle.store_take.specs.declared.message.Message.{Message}
use Rattle.take_run.proofs.Living.{live_more}
use Rattle.take_run.proofs.live.front_without.Goals as goal

pub loop-n-preserved : goal.loop-n-preserved
loop-n-preserved c =
    live_more c.args.hosts.now c.args.group.now c.loop-n.n c.index-group-n.result c.as_str.result.now c.loop-n-test.true (c.as_str.ensures.value ∙ ap (λ (m : Message). m.host) c.index-group-n.is) c.loop-n.invariant (sym c.is_one_of.ensures ∙ c.if-is_one_of.false)

use Rattle.std.proofs.Common.{◌∙◌}
use Rattle.relay_core.proofs.Holding.{holds_on, hosts_same}
use Rattle.relay_core.proofs.journal_state.Core.learn.Goals as goal

pub returns-clause-ok : goal.returns-clause-ok
returns-clause-ok c = holds_on c.args.self.now _ c.args.row.now (record {
  entries = c.in_ok-learn.ensures.ok;
  listed = c.apply.ensures.listed ∙ hosts_same _ _ c.learn.new.row c.args.row.now c.touch_host.ensures.listed c.learn.ensures.host c.learn.ensures.host_seq;
  last = c.last_after-last.ensures;
  stage = c.stage_after-stage.ensures;
})

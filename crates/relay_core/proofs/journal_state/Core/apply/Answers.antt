use Rattle.relay_core.proofs.Holding.{holds_on}
use Rattle.relay_core.proofs.journal_state.Core.apply.Goals as goal

pub returns-clause-holds : goal.returns-clause-holds
returns-clause-holds c = holds_on c.args.self.now _ c.args.row (record {
  entries = c.apply-2.ensures.entries;
  listed = c.apply.ensures.listed;
  last = c.last_after-self.ensures;
  stage = c.stage_after-self.ensures;
})

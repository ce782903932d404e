use Rattle.std.proofs.Common.{◌∙◌}
use Rattle.relay_core.proofs.Holding.{next_tells}
use Rattle.relay_core.proofs.journal_state.Core.is_next.Goals as goal

pub returns : goal.returns
returns c = λ rows holds. c.follows.ensures ∙ next_tells c.args.self.now rows holds c.args.row.now

use Rattle.std.proofs.Common.{ap, ◌∙◌}
use Rattle.row_peek.specs.Peeking.{peeked_at}
use Rattle.row_peek.proofs.Seen.{sees}
use Rattle.row_peek.proofs.Within.{message_within}
use Rattle.row_peek.proofs.peeking.peek.Goals as goal

pub returns-clause-sees : goal.returns-clause-sees
returns-clause-sees c = λ row rest is e. sees row rest c.peek_at.result is (c.peek_at.ensures ∙ ap peeked_at e)

pub returns-clause-within : goal.returns-clause-within
returns-clause-within c = message_within c.args.bytes.now c.peek_at.result c.peek_at.ensures

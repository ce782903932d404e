use Rattle.std.proofs.Common.{arith}
use Rattle.at_event.proofs.Formed.{answer_whole, answer_formed, answer_only}
use Rattle.at_event.proofs.reading.read_frame.Goals as goal

pub returns-clause-whole : goal.returns-clause-whole
returns-clause-whole c = answer_whole c.args.message.now (λ i. omega (arith, c.type_inv.message i)) c.read_message.result c.read_message.ensures

pub returns-clause-only : goal.returns-clause-only
returns-clause-only c header payload h = answer_only c.args.message.now c.read_message.result header payload c.read_message.ensures h

pub returns-clause-formed : goal.returns-clause-formed
returns-clause-formed c = answer_formed c.args.message.now (λ i. omega (arith, c.type_inv.message i)) c.read_message.result c.read_message.ensures

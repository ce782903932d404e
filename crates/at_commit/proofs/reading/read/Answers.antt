use Rattle.std.proofs.Common.{arith}
use Rattle.at_commit.proofs.Nodes.{answer_whole, answer_only, answer_data, answer_did}
use Rattle.at_commit.proofs.reading.read.Goals as goal

pub returns-clause-whole : goal.returns-clause-whole
returns-clause-whole c = answer_whole c.args.block.now (λ i. omega (arith, c.type_inv.block i)) c.read_block.result c.read_block.ensures.commit

pub returns-clause-only : goal.returns-clause-only
returns-clause-only c i fits e short = answer_only c.args.block.now c.read_block.result i c.read_block.ensures.commit fits e short

pub returns-clause-data : goal.returns-clause-data
returns-clause-data c = answer_data c.args.block.now (λ i. omega (arith, c.type_inv.block i)) c.read_block.result c.read_block.ensures.commit

pub returns-clause-did : goal.returns-clause-did
returns-clause-did c = answer_did c.args.block.now (λ i. omega (arith, c.type_inv.block i)) c.read_block.result c.read_block.ensures.commit

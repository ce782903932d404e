use Rattle.std.proofs.Common.{arith, sym}
use Rattle.mst_node.proofs.Encoded.{front_within}
use Rattle.mst_node.proofs.taking.take_node.Goals as goal

pub returns-clause-room : goal.returns-clause-room
returns-clause-room g c =
    let within = front_within c.args.block.now (c.in-Some.count, c.in-Some.rest.now) (λ i. omega (arith, c.type_inv.block i)) (sym c.in-Some.ensures) in
    let room = c.in_ok-entries.ensures.room in
    omega arith

use Rattle.std.proofs.Common.{arith}
use Rattle.at_car.proofs.Standings.{section_stopped, section_took}
use Rattle.at_car.proofs.advancing.take_section.Goals as goal

pub returns-in-Err-clause-took : goal.returns-in-Err-clause-took
returns-in-Err-clause-took g c = section_stopped c.args.place c.args.left.now c.in-Err.fault c.in_ok-fault-in-Err.fault c.requires c.in_ok-fault-in-Err.ensures.0 c.in_ok-fault-in-Err.ensures.1 c.in-Err.ensures.is

pub returns-clause-took : goal.returns-clause-took
returns-clause-took g c =
    section_took g.S.Sieve.picks c.args.root.now c.args.place c.args.left.now c.in-Ok.section.link c.in-Ok.section.block.now c.in-Ok.section.rest.now c.args.sifted.now c.sift.new.sifted
    c.requires (λ i. omega (arith, c.type_inv.left i)) c.in-Ok.ensures.is c.in_ok-sift.ensures.ok

use Rattle.std.proofs.Common.{arith}
use Rattle.std.proofs.lemmas.List.{length-drop}
use Rattle.at_car.specs.Standing.{root_of}
use Rattle.at_car.proofs.Sifts.{sifted_out}
use Rattle.at_car.proofs.Standings.{end_fault, end_header, end_cut, end_whole}
use Rattle.at_car.proofs.scan.finish.Goals as goal

pub returns-in-Some : goal.returns-in-Some
returns-in-Some c = λ picks bytes h. end_fault picks bytes c.args.progress c.in-Some.fault c.in-Some.is h

pub returns-in_default-roots : goal.returns-in_default-roots
returns-in_default-roots c = λ picks bytes h. end_header picks bytes c.args.progress c.in_default.is c.in_default-roots.is (c.requires c.in_default.is) h

pub returns-then-start-len : goal.returns-then-start-len
returns-then-start-len c = λ picks bytes h.
    end_cut picks bytes c.args.progress c.in-Some-roots.roots c.in_default.is c.in-Some-roots.is (c.requires c.in_default.is)
    (omega (arith, c.if-start-len.true, c.len.ensures, length-drop c.args.progress.start c.args.progress.held)) h

pub returns : goal.returns
returns c = λ picks bytes h.
    let whole = end_whole picks bytes c.args.progress c.in-Some-roots.roots c.in_default.is c.in-Some-roots.is (omega (arith, c.if-start-len.false, c.len.ensures, length-drop c.args.progress.start c.args.progress.held)) h in
    (whole.0, whole.1, sifted_out picks (root_of c.in-Some-roots.roots) whole.0 c.args.progress.sifted c.in_ok-nodes.nodes c.in_ok-nodes.others c.in_ok-nodes.ensures.held c.in_ok-nodes.ensures.let_go whole.2)

use Rattle.std.proofs.Common.{drop, refl, ap, ◌∙◌, arith}
use Rattle.at_car.specs.Standing.{left_of}
use Rattle.at_car.proofs.Extends.{some_bytes}
use Rattle.at_car.proofs.Standings.{same_stands, section_next}
use Rattle.at_car.proofs.advancing.read_next.Goals as goal

pub returns-in_err-taken-clause-stands : goal.returns-in_err-taken-clause-stands
returns-in_err-taken-clause-stands g c = λ bytes h. same_stands g.S.Sieve.picks bytes c.args.progress.now _ refl refl c.in_err-taken.ensures.err refl refl h

pub returns-in-Section-clause-stands : goal.returns-in-Section-clause-stands
returns-in-Section-clause-stands g c = λ bytes h.
    section_next g.S.Sieve.picks bytes c.args.progress.now c.pass.new.self c.first_root-root.result c.in-Section.used c.split_at.result.1.now c.take_section.new.sifted c.in_ok-taken.taken c.requires.well c.requires.begun c.first_root-root.ensures
    c.in_ok-taken.ensures.took c.in-Section.is (c.split_at.ensures.back ∙ ap (drop c.args.progress.now.start) c.as_slice.ensures.value) c.pass.ensures.sifted
    (c.pass.ensures.fault ∙ c.requires.well) c.pass.ensures.roots c.pass.ensures.place c.pass.ensures.left h

pub returns-in-Fault-clause-shorter : goal.returns-in-Fault-clause-shorter
returns-in-Fault-clause-shorter g c = let some = some_bytes (left_of c.args.progress.now) c.requires.uncut in rw c.fail.ensures.left (omega (arith, some))

use Rattle.std.proofs.Common.{sym, ap, ◌∙◌, cond}
use Rattle.at_car.proofs.Sifts.{sift_next}
use Rattle.at_car.proofs.sifting.sift.Goals as goal

pub returns-then-is_some-clause-ok : goal.returns-then-is_some-clause-ok
returns-then-is_some-clause-ok g c = λ blocks h.
    sift_next g.S.Sieve.picks c.args.root.now blocks c.args.sifted.now _ c.args.link c.args.block.now c.in_ok-picked.picked c.in_ok-first.first c.in_ok-picked.ensures c.in_ok-first.ensures
    (ap (λ t. cond t c.in_ok-first.first c.args.sifted.now.first) (sym (sym c.is_some.ensures ∙ c.if-is_some.true))) c.in_ok-put.ensures.ok h

pub returns-else-is_some-clause-ok : goal.returns-else-is_some-clause-ok
returns-else-is_some-clause-ok g c = λ blocks h.
    sift_next g.S.Sieve.picks c.args.root.now blocks c.args.sifted.now _ c.args.link c.args.block.now c.in_ok-picked.picked c.in_ok-first.first c.in_ok-picked.ensures c.in_ok-first.ensures
    (ap (λ t. cond t c.in_ok-first.first c.args.sifted.now.first) (sym (sym c.is_some.ensures ∙ c.if-is_some.false))) c.in_ok-put.ensures.ok h

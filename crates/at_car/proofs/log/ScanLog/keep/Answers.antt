use Rattle.std.proofs.Common.{◌++◌, ◌∷◌, [], List, Some, ap, ◌∙◌, arith, refl}
use Rattle.std.proofs.lemmas.Result.{err_from_is_err_and}
use Rattle.at_car.specs.Logs.{Told}
use Rattle.at_car.proofs.Logs.{nothing_told, block_told}
use Rattle.at_car.proofs.log.ScanLog.keep.Goals as goal

pub returns-in_err-place-clause-err : goal.returns-in_err-place-clause-err
returns-in_err-place-clause-err c =
    let longer = c.lay_behind.ensures.longer in
    let left = nothing_told c.self.inside.buffer c.lay_behind.new.buffer longer.0 c.self.inside.entries.items longer.1 c.self.invariant c.self.inside.entries.items refl in
    rw (err_from_is_err_and c.from_residual.result c.from_residual.ensures.1).1 (left.1 ∙ c.self.view_is)

pub invariant_of-self-in_err-push : goal.invariant_of-self-in_err-push
invariant_of-self-in_err-push c =
    let longer = c.lay_behind.ensures.longer in
    let left = nothing_told c.self.inside.buffer c.lay_behind.new.buffer longer.0 c.self.inside.entries.items longer.1 c.self.invariant c.push.new.self.items c.in_err-push.ensures.items in
    left.0

pub returns-in_err-push-clause-err : goal.returns-in_err-push-clause-err
returns-in_err-push-clause-err c =
    let longer = c.lay_behind.ensures.longer in
    let left = nothing_told c.self.inside.buffer c.lay_behind.new.buffer longer.0 c.self.inside.entries.items longer.1 c.self.invariant c.push.new.self.items c.in_err-push.ensures.items in
    rw (err_from_is_err_and c.from_residual-in_err-push.result c.from_residual-in_err-push.ensures.1).1 (left.1 ∙ c.self.view_is)

pub invariant_of-self-2 : goal.invariant_of-self-2
invariant_of-self-2 c =
    let longer = c.lay_behind.ensures.longer in
    let left = block_told c.self.inside.buffer c.lay_behind.new.buffer longer.0 c.self.inside.entries.items longer.1 c.self.invariant c.push.new.self.items c.args.link c.args.block.now c.in_ok-place.place
    c.in_ok-push.ensures.items c.in_ok-place.ensures.is c.in_ok-place.ensures.within c.in_ok-place.ensures.behind
    (record { link = c.ghost_link.ensures; bytes = λ i. omega (arith, c.type_inv.block i); digest = c.requires }) in
    left.0

pub returns-clause-ok : goal.returns-clause-ok
returns-clause-ok c =
    let longer = c.lay_behind.ensures.longer in
    let left = block_told c.self.inside.buffer c.lay_behind.new.buffer longer.0 c.self.inside.entries.items longer.1 c.self.invariant c.push.new.self.items c.args.link c.args.block.now c.in_ok-place.place
    c.in_ok-push.ensures.items c.in_ok-place.ensures.is c.in_ok-place.ensures.within c.in_ok-place.ensures.behind
    (record { link = c.ghost_link.ensures; bytes = λ i. omega (arith, c.type_inv.block i); digest = c.requires }) in
    left.1 ∙ ap (λ (l : List Told). l ++ (c.args.link, Some c.args.block.now) ∷ []) c.self.view_is

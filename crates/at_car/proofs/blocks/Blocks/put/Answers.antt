use Rattle.std.proofs.Common.{◌≡◌, List, sym, ap, ◌∙◌, subst, arith, true, refl}
use Rattle.std.specs.Option.{is_some}
use Rattle.std.proofs.lemmas.Result.{err_from_is_err_and}
use Rattle.std.specs.FinMap.{contains_key}
use Rattle.at_car.specs.declared.entry.ScanEntry.{ScanEntry}
use Rattle.at_car.specs.Blocks.{kept}
use Rattle.at_car.specs.Entries.{place_of}
use Rattle.at_car.proofs.Searches.{IsGap}
use Rattle.at_car.proofs.Places.{nothing_put, put_absent, has_laid}
use Rattle.at_car.proofs.blocks.Blocks.put.Goals as goal

pub returns-in_err-insert-in-Err-clause-err : goal.returns-in_err-insert-in-Err-clause-err
returns-in_err-insert-in-Err-clause-err c =
    let left = nothing_put c.self.inside.buffer c.args.block.now c.lay.new.buffer c.self.inside.entries.items c.in_ok-place-in-Err.ensures.ok c.self.invariant c.insert.new.self.items c.in_err-insert-in-Err.ensures.items in
    rw (err_from_is_err_and c.from_residual-in_err-insert-in-Err.result c.from_residual-in_err-insert-in-Err.ensures.1).1 (left.1 ∙ c.self.view_is)

pub returns-in-Ok-clause-ok : goal.returns-in-Ok-clause-ok
returns-in-Ok-clause-ok c =
    let any : ScanEntry = record { link = c.args.cid; place = record { start = 0; len = 0 } } in
    let there : contains_key c.args.self.now c.args.cid ≡ true =
    ap (λ m. contains_key m c.args.cid) (sym c.self.view_is) ∙ has_laid c.self.inside.buffer c.args.cid c.self.inside.entries.items
    ∙ ap is_some (ap (place_of c.args.cid) (sym c.as_slice.ensures.value) ∙ c.in-Ok.ensures.there any) in
    rw there refl

pub invariant_of-self-in-Err : goal.invariant_of-self-in-Err
invariant_of-self-in-Err c =
    let left = put_absent c.self.inside.buffer c.args.block.now c.lay.new.buffer c.self.inside.entries.items c.in_ok-place-in-Err.ensures.ok c.self.invariant
    c.insert.new.self.items c.in-Err.index (record { link = c.args.cid; place = c.in_ok-place-in-Err.place }) c.in_ok-place-in-Err.ensures.is c.in_ok-place-in-Err.ensures.within
    (record { link = c.ghost_link.ensures; bytes = λ i. omega (arith, c.type_inv.block i); digest = c.requires })
    (subst (λ (l : List ScanEntry). IsGap c.args.cid l c.in-Err.index) c.as_slice.ensures.value c.in-Err.ensures.absent) c.in_ok-insert-in-Err.ensures.items in
    left.0

pub returns-in_ok-insert-in-Err-clause-ok : goal.returns-in_ok-insert-in-Err-clause-ok
returns-in_ok-insert-in-Err-clause-ok c =
    let left = put_absent c.self.inside.buffer c.args.block.now c.lay.new.buffer c.self.inside.entries.items c.in_ok-place-in-Err.ensures.ok c.self.invariant
    c.insert.new.self.items c.in-Err.index (record { link = c.args.cid; place = c.in_ok-place-in-Err.place }) c.in_ok-place-in-Err.ensures.is c.in_ok-place-in-Err.ensures.within
    (record { link = c.ghost_link.ensures; bytes = λ i. omega (arith, c.type_inv.block i); digest = c.requires })
    (subst (λ (l : List ScanEntry). IsGap c.args.cid l c.in-Err.index) c.as_slice.ensures.value c.in-Err.ensures.absent) c.in_ok-insert-in-Err.ensures.items in
    left.1 ∙ ap (λ m. kept m c.args.cid c.args.block.now) c.self.view_is

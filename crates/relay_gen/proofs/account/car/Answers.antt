use Rattle.std.proofs.Common.{map, sym, ap, ◌∙◌}
use Rattle.std.specs.FinMap as finite
use Rattle.at_cid.specs.Link.{cid, digest_of}
use Rattle.at_car.specs.Blocks.{kept}
use Rattle.at_car.specs.Writing.{written}
use Rattle.relay_gen.specs.Covers.{blocks_given}
use Rattle.relay_gen.specs.Messages.{car_with, with_blocks}
use Rattle.relay_gen.specs.Records.{item_of, op_of}
use Rattle.relay_gen.specs.Walks.{given_for}
use Rattle.relay_gen.proofs.Givens.{given_is}
use Rattle.relay_gen.proofs.Ways.{digest_cid}
use Rattle.relay_gen.proofs.account.car.Goals as goal

pub put-requires : goal.put-requires
put-requires c = ap digest_of c.cid_of-commit.ensures ∙ digest_cid c.args.object.now

pub returns-clause-car : goal.returns-clause-car
unfolding car_with
returns-clause-car c =
    let s = map item_of c.args.records.now in let ops = map op_of c.args.changes.now in let object = c.args.object.now in let link = c.cid_of-commit.result in
    c.in_ok-car.ensures.encoded
    ∙ ap (written link) (c.in_ok-cover.ensures
    ∙ ap (λ m. with_blocks m (given_for s c.as_slice.result.now)) (c.in_ok-put.ensures.ok ∙ ap (λ m. kept m link object) c.new-blocks.ensures)
    ∙ ap (λ k. with_blocks (kept finite.empty link object) (given_for s k)) (c.as_slice.ensures.value ∙ c.in_ok-paths.ensures)
    ∙ ap (with_blocks (kept finite.empty link object)) (given_is s ops))
    ∙ ap (λ l. written l (with_blocks (kept finite.empty l object) (blocks_given s ops))) c.cid_of-commit.ensures
    ∙ ap (λ t. written (cid object) (with_blocks (kept finite.empty (cid object) object) (blocks_given t ops))) (sym c.requires)

use Rattle.std.proofs.Common.{List, sym, ap, ◌∙◌, subst}
use Rattle.std.proofs.lemmas.Result.{on_ok_weaker}
use Rattle.at_cid.specs.Link.{digest_of}
use Rattle.mst_list.specs.declared.item.Item.{Item}
use Rattle.mst_list.specs.Lists.{KeysOnly}
use Rattle.mst_view.specs.Value.{Layered}
use Rattle.mst_view.specs.StubTree.{IsTop, top_items}
use Rattle.std.specs.Prelude.{Option}
use Rattle.relay_gen.proofs.Givens.{empty_block, empty_given}
use Rattle.relay_gen.proofs.Sorted.{keys_only}
use Rattle.relay_gen.proofs.Ways.{between_ends, digest_cid}
use Rattle.relay_gen.proofs.covering.cover.Goals as goal

pub put-requires : goal.put-requires
put-requires c = ap digest_of c.cid_of.ensures ∙ digest_cid empty_block

pub returns-then-is_empty : goal.returns-then-is_empty
returns-then-is_empty c =
    on_ok_weaker c.put.result (λ e. e ∙ empty_given c.args.records.now c.args.paths.now c.args.blocks.now c.cid_of.result (sym c.is_empty.ensures ∙ c.if-is_empty.true) c.cid_of.ensures) c.put.ensures.ok

pub cover_branch-requires : goal.cover_branch-requires
cover_branch-requires c =
    let v = c.in-Some.branch in
    let T : Option Layered → Type 0 = λ o. IsTop o in let K : List Item → Type 0 = λ F. KeysOnly F in
    let top = subst T c.in-Some.is c.requires.top in
    record {
      keys_only = subst K (sym (sym (ap top_items c.in-Some.is) ∙ c.requires.items)) (keys_only c.args.records.now);
      ascends = top.0.ascends;
      between = between_ends v.items;
    }

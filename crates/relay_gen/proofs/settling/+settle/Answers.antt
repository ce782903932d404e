use Rattle.std.proofs.Common.{◌≡◌, List, [], ◌∷◌, ◌++◌, sym, ap, ◌∙◌, subst, arith}
use Rattle.mst_list.specs.declared.item.Item.TheVariants.{Key}
use Rattle.mst_view.specs.declared.branch.Part.{Part}
use Rattle.at_cid.specs.Link.{cid}
use Rattle.mst_node.specs.NodeBytes.{node_bytes}
use Rattle.mst_view.specs.Layered.{AllAt, below_link, entries_of, rest_items}
use Rattle.mst_view.proofs.Encoded.{encoded_node}
use Rattle.mst_view.proofs.Steps.{at_pushed, items_pushed}
use Rattle.relay_gen.proofs.settling.+settle.Goals as goal

pub settle_rest-settle_below-requires : goal.settle_rest-settle_below-requires
settle_rest-settle_below-requires t c =
    let A : List Part → Type 0 = λ x. AllAt c.args.layer x in
    (omega arith, (subst A c.in-Some.ensures.items c.parts.invariant.left).1)

pub settle_rest-parts-preserved : goal.settle_rest-parts-preserved
settle_rest-parts-preserved t c =
    let h = c.args.layer in let p = c.in-Some.part in let more = c.pop_front.new.self.items in let done = c.parts.settled.items in
    let here : c.parts.left.items ≡ p ∷ more = c.in-Some.ensures.items in
    let q : Part = record { key = p.key; value = p.value; below = c.in_ok-below.below } in
    let pushed : c.push.new.self.items ≡ done ++ q ∷ [] = c.in_ok-push.ensures.items in
    let A : List Part → Type 0 = λ x. AllAt h x in let at = subst A here c.parts.invariant.left in
    record {
      done = subst A (sym pushed) (at_pushed h done q c.parts.invariant.done at.0 c.in_ok-below.ensures.lies);
      left = at.2;
      items = ap (λ x. rest_items h x ++ rest_items h more) pushed ∙ items_pushed h done q (rest_items h more)
          ∙ ap (λ x. rest_items h done ++ (Key p.key p.value ∷ (x ++ rest_items h more))) c.in_ok-below.ensures.items
          ∙ ap (λ x. rest_items h done ++ rest_items h x) (sym here) ∙ c.parts.invariant.items;
    }

pub settle_branch-invariant_of-result-2 : goal.settle_branch-invariant_of-result-2
settle_branch-invariant_of-result-2 t c =
    record {
      first_lies = c.in_ok-first.ensures.lies;
      all_at = c.in_ok-rest.ensures.at;
      kept_is = c.cid_of.ensures ∙ ap cid (c.as_slice-2.ensures.value ∙ c.in_ok-block.ensures
          ∙ ap (λ (x : List Part). node_bytes (below_link c.in_ok-first.first) (entries_of x)) c.as_slice.ensures.value
          ∙ sym (encoded_node _ c.in_ok-first.first c.in_ok-rest.rest.items c.in_ok-first.ensures.lies c.in_ok-rest.ensures.at));
    }

use Rattle.std.proofs.Common.{ℕ, List, sym, ap, ◌∙◌, subst, arith, Option}
use Rattle.std.specs.List.{remove}
use Rattle.mst_list.specs.Edits.{put}
use Rattle.mst_list.specs.Lists.{Neighbours}
use Rattle.mst_view.specs.Layered.{LiesBelow}
use Rattle.mst_view.proofs.Steps.{part_at_height}
use Rattle.mst_view.specs.declared.branch.Below.{Below}
use Rattle.mst_view.specs.declared.branch.Below.TheVariants.{Empty}
use Rattle.mst_view.specs.declared.branch.Part.{Part}
use Rattle.mst_undo.specs.Gaps.{IsFilled, gap_at, node_items}
use Rattle.mst_undo.proofs.Searches.{all_at_found}
use Rattle.mst_undo.proofs.Nodes.{at_set, node_without, filled_node, filled_length, gap_lies, key_in_range, length_without}
use Rattle.mst_undo.proofs.Edited.{changed_items, sides_near, removed_items}
use Rattle.mst_undo.proofs.putting.undo_at.Goals as goal

pub index_mut-part-requires : goal.index_mut-part-requires
index_mut-part-requires c = let low = key_in_range c.args.op.now.key c.args.at c.args.rest.now.items c.requires.key in omega arith

pub returns-in-Some-clause-node : goal.returns-in-Some-clause-node
returns-in-Some-clause-node c =
    let h = c.args.layer in let n = c.args.at in let ps = c.args.rest.now.items in let p = c.index_mut-part.result.now in
    let low = key_in_range c.args.op.now.key n ps c.requires.key in
    record {
      first_lies = c.requires.node.first_lies;
      all_at = at_set h n ps (record { key = p.key; value = c.in-Some.value; below = p.below }) c.requires.node.all_at (part_at_height h ps n p c.requires.node.all_at low c.index_mut-part.ensures.value) (all_at_found h ps n p low c.index_mut-part.ensures.value c.requires.node.all_at).1;
    }

pub returns-in-Some-clause-items : goal.returns-in-Some-clause-items
returns-in-Some-clause-items c =
    let h = c.args.layer in let f = c.args.first.now in let ps = c.args.rest.now.items in
    changed_items h c.args.op.now.key c.args.at f ps c.requires.key c.requires.safe.ascends c.index_mut-part.result.now c.index_mut-part.ensures.value c.in-Some.value ∙ ap (λ o. put c.args.op.now.key o (node_items h f ps)) (sym c.in-Some.is)

pub remove-behind-requires : goal.remove-behind-requires
remove-behind-requires c = let low = key_in_range c.args.op.now.key c.args.at c.args.rest.now.items c.requires.key in omega arith

pub join_below-requires-clause-left_lies : goal.join_below-requires-clause-left_lies
join_below-requires-clause-left_lies c =
    let h = c.args.layer in let n = c.args.at in let f = c.args.first.now in let ps = c.args.rest.now.items in
    let L : Below → Type 0 = λ x. LiesBelow h x in
    subst L (sym (c.replace_gap-before.ensures.gap ∙ ap (gap_at n f) c.remove-behind.ensures.items)) (gap_lies h n f (remove ps n) (node_without h n f ps c.requires.node))

pub join_below-requires-clause-right_lies : goal.join_below-requires-clause-right_lies
join_below-requires-clause-right_lies c =
    let h = c.args.layer in let n = c.args.at in let ps = c.args.rest.now.items in
    (all_at_found h ps n c.remove-behind.result (key_in_range c.args.op.now.key n ps c.requires.key) c.remove-behind.ensures.value c.requires.node.all_at).1

pub join_below-requires-clause-near : goal.join_below-requires-clause-near
join_below-requires-clause-near c =
    let h = c.args.layer in let k = c.args.op.now.key in let n = c.args.at in let f = c.args.first.now in let ps = c.args.rest.now.items in
    let N : Option (List ℕ) → Type 0 = λ o. Neighbours (put k o (node_items h f ps)) in
    sides_near h k n f ps c.requires.key c.requires.safe.ascends c.remove-behind.result c.remove-behind.ensures.value c.replace_gap-before.result (c.replace_gap-before.ensures.gap ∙ ap (gap_at n f) c.remove-behind.ensures.items) (subst N c.in-None.is c.requires.safe.near)

pub returns-in_err-joined-in-None-clause-node : goal.returns-in_err-joined-in-None-clause-node
returns-in_err-joined-in-None-clause-node c =
    let h = c.args.layer in let n = c.args.at in let f = c.args.first.now in let ps = c.args.rest.now.items in let g = c.replace_gap-before.new.first in let qs = c.replace_gap-before.new.rest.items in
    let M : List Part → Type 0 = λ x. IsFilled n Empty f x g qs in let one : IsFilled n Empty f (remove ps n) g qs = subst M c.remove-behind.ensures.items c.replace_gap-before.ensures.filled in
    filled_node h n Empty f (remove ps n) g qs one (node_without h n f ps c.requires.node) tt

pub replace_gap-requires : goal.replace_gap-requires
replace_gap-requires c =
    let h = c.args.layer in let n = c.args.at in let f = c.args.first.now in let ps = c.args.rest.now.items in let g = c.replace_gap-before.new.first in let qs = c.replace_gap-before.new.rest.items in
    let M : List Part → Type 0 = λ x. IsFilled n Empty f x g qs in let one : IsFilled n Empty f (remove ps n) g qs = subst M c.remove-behind.ensures.items c.replace_gap-before.ensures.filled in
    let low = length_without n ps (key_in_range c.args.op.now.key n ps c.requires.key) in
    let long = filled_length h n Empty f (remove ps n) g qs one in omega arith

pub returns-in_ok-joined-in-None-clause-node : goal.returns-in_ok-joined-in-None-clause-node
returns-in_ok-joined-in-None-clause-node c =
    let h = c.args.layer in let n = c.args.at in let f = c.args.first.now in let ps = c.args.rest.now.items in let g = c.replace_gap-before.new.first in let qs = c.replace_gap-before.new.rest.items in
    let M : List Part → Type 0 = λ x. IsFilled n Empty f x g qs in let one : IsFilled n Empty f (remove ps n) g qs = subst M c.remove-behind.ensures.items c.replace_gap-before.ensures.filled in
    filled_node h n c.in_ok-joined-in-None.joined g qs c.replace_gap.new.first c.replace_gap.new.rest.items c.replace_gap.ensures.filled (filled_node h n Empty f (remove ps n) g qs one (node_without h n f ps c.requires.node) tt) c.in_ok-joined-in-None.ensures.lies

pub returns-in_ok-joined-in-None-clause-items : goal.returns-in_ok-joined-in-None-clause-items
returns-in_ok-joined-in-None-clause-items c =
    let h = c.args.layer in let k = c.args.op.now.key in let n = c.args.at in let f = c.args.first.now in let ps = c.args.rest.now.items in let g = c.replace_gap-before.new.first in let qs = c.replace_gap-before.new.rest.items in
    let M : List Part → Type 0 = λ x. IsFilled n Empty f x g qs in let one : IsFilled n Empty f (remove ps n) g qs = subst M c.remove-behind.ensures.items c.replace_gap-before.ensures.filled in
    removed_items h k n f ps c.requires.key c.requires.safe.ascends c.remove-behind.result c.remove-behind.ensures.value c.replace_gap-before.result Empty c.in_ok-joined-in-None.joined g qs c.replace_gap.new.first c.replace_gap.new.rest.items
    (c.replace_gap-before.ensures.gap ∙ ap (gap_at n f) c.remove-behind.ensures.items) one c.replace_gap.ensures.filled c.in_ok-joined-in-None.ensures
    ∙ ap (λ o. put k o (node_items h f ps)) (sym c.in-None.is)

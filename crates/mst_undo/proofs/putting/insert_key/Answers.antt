use Rattle.std.proofs.Common.{◌≡◌, ℕ, List, refl, sym, ap, ◌∙◌, subst, arith}
use Rattle.mst_list.specs.Height.{height}
use Rattle.mst_view.specs.Layered.{LiesBelow, AllAt, below_items}
use Rattle.mst_view.specs.declared.branch.Below.{Below}
use Rattle.mst_view.specs.declared.branch.Below.TheVariants.{Empty}
use Rattle.mst_view.specs.declared.branch.Part.{Part}
use Rattle.mst_undo.specs.Cuts.{IsCut}
use Rattle.mst_undo.proofs.Nodes.{filled_node, filled_length, gap_in_range, gap_lies, insert_at}
use Rattle.mst_undo.proofs.Edited.{gap_ascends, inserted_items}
use Rattle.mst_undo.proofs.putting.insert_key.Goals as goal

pub replace_gap-below-requires : goal.replace_gap-below-requires
replace_gap-below-requires c = gap_in_range c.args.key.now c.args.at c.args.rest.now.items c.requires.gap

pub split_below-requires-clause-lies : goal.split_below-requires-clause-lies
split_below-requires-clause-lies c =
    let L : Below → Type 0 = λ x. LiesBelow c.args.layer x in
    subst L (sym c.replace_gap-below.ensures.gap) (gap_lies c.args.layer c.args.at c.args.first.now c.args.rest.now.items c.requires.node)

pub split_below-requires-clause-ascends : goal.split_below-requires-clause-ascends
split_below-requires-clause-ascends c = gap_ascends c.args.layer c.args.key.now c.args.at c.args.first.now c.args.rest.now.items c.requires.gap c.requires.ascends c.replace_gap-below.result c.replace_gap-below.ensures.gap

pub returns-in_err-before-clause-node : goal.returns-in_err-before-clause-node
returns-in_err-before-clause-node c =
    filled_node c.args.layer c.args.at Empty c.args.first.now c.args.rest.now.items c.replace_gap-below.new.first c.replace_gap-below.new.rest.items c.replace_gap-below.ensures.filled c.requires.node tt

pub replace_gap-requires : goal.replace_gap-requires
replace_gap-requires c =
    let low = gap_in_range c.args.key.now c.args.at c.args.rest.now.items c.requires.gap in
    let long = filled_length c.args.layer c.args.at Empty c.args.first.now c.args.rest.now.items c.replace_gap-below.new.first c.replace_gap-below.new.rest.items c.replace_gap-below.ensures.filled in
    omega arith

pub returns-in_err-key-clause-node : goal.returns-in_err-key-clause-node
returns-in_err-key-clause-node c =
    let one = filled_node c.args.layer c.args.at Empty c.args.first.now c.args.rest.now.items c.replace_gap-below.new.first c.replace_gap-below.new.rest.items c.replace_gap-below.ensures.filled c.requires.node tt in
    filled_node c.args.layer c.args.at c.in_ok-before.before c.replace_gap-below.new.first c.replace_gap-below.new.rest.items c.replace_gap.new.first c.replace_gap.new.rest.items c.replace_gap.ensures.filled one c.in_ok-before.ensures.left_lies

pub insert-requires : goal.insert-requires
insert-requires c =
    let low = gap_in_range c.args.key.now c.args.at c.args.rest.now.items c.requires.gap in
    let long = filled_length c.args.layer c.args.at Empty c.args.first.now c.args.rest.now.items c.replace_gap-below.new.first c.replace_gap-below.new.rest.items c.replace_gap-below.ensures.filled in
    let long' = filled_length c.args.layer c.args.at c.in_ok-before.before c.replace_gap-below.new.first c.replace_gap-below.new.rest.items c.replace_gap.new.first c.replace_gap.new.rest.items c.replace_gap.ensures.filled in
    omega arith

pub returns-in_err-insert-clause-node : goal.returns-in_err-insert-clause-node
returns-in_err-insert-clause-node c =
    let one = filled_node c.args.layer c.args.at Empty c.args.first.now c.args.rest.now.items c.replace_gap-below.new.first c.replace_gap-below.new.rest.items c.replace_gap-below.ensures.filled c.requires.node tt in
    let two = filled_node c.args.layer c.args.at c.in_ok-before.before c.replace_gap-below.new.first c.replace_gap-below.new.rest.items c.replace_gap.new.first c.replace_gap.new.rest.items c.replace_gap.ensures.filled one c.in_ok-before.ensures.left_lies in
    let W : List Part → Type 0 = λ x. AllAt c.args.layer x in
    record { first_lies = two.first_lies; all_at = subst W (sym c.in_err-insert.ensures.items) two.all_at }

pub returns-clause-node : goal.returns-clause-node
returns-clause-node c =
    let one = filled_node c.args.layer c.args.at Empty c.args.first.now c.args.rest.now.items c.replace_gap-below.new.first c.replace_gap-below.new.rest.items c.replace_gap-below.ensures.filled c.requires.node tt in
    let two = filled_node c.args.layer c.args.at c.in_ok-before.before c.replace_gap-below.new.first c.replace_gap-below.new.rest.items c.replace_gap.new.first c.replace_gap.new.rest.items c.replace_gap.ensures.filled one c.in_ok-before.ensures.left_lies in
    let p : Part = record { key = c.in_ok-key.key; value = c.args.value; below = c.in_ok-before.behind } in
    let high : height p.key ≡ c.args.layer = ap height (c.in_ok-key.ensures ∙ c.as_slice-2.ensures.value) ∙ c.requires.high in
    let W : List Part → Type 0 = λ x. AllAt c.args.layer x in
    record { first_lies = two.first_lies; all_at = subst W (sym c.in_ok-insert.ensures.items) (insert_at c.args.layer c.args.at c.replace_gap.new.rest.items p two.all_at high c.in_ok-before.ensures.right_lies) }

pub returns-clause-items : goal.returns-clause-items
returns-clause-items c =
    let p : Part = record { key = c.in_ok-key.key; value = c.args.value; below = c.in_ok-before.behind } in
    let C : List ℕ → Type 0 = λ x. IsCut c.args.layer x (below_items c.args.layer c.replace_gap-below.result) c.in_ok-before.before c.in_ok-before.behind in
    inserted_items c.args.layer c.args.key.now c.args.at c.args.first.now c.args.rest.now.items c.requires.gap c.requires.ascends c.replace_gap-below.result c.replace_gap-below.ensures.gap c.args.value Empty c.in_ok-before.before c.in_ok-before.behind
    c.replace_gap-below.new.first c.replace_gap-below.new.rest.items c.replace_gap.new.first c.replace_gap.new.rest.items p c.insert.new.self.items c.replace_gap-below.ensures.filled c.replace_gap.ensures.filled (subst C c.as_slice.ensures.value c.in_ok-before.ensures)
    (c.in_ok-key.ensures ∙ c.as_slice-2.ensures.value) refl refl c.in_ok-insert.ensures.items

use Rattle.std.proofs.Common.{◌≡◌, ◌≢◌, ℕ, List, sym, subst, arith}
use Rattle.mst_view.specs.Layered.{LiesBelow, below_items}
use Rattle.mst_view.specs.declared.branch.Below.{Below}
use Rattle.mst_view.specs.declared.branch.Below.TheVariants.{Empty}
use Rattle.mst_view.specs.declared.branch.Part.{Part}
use Rattle.mst_undo.specs.Gaps.{AreRising, IsGapOf}
use Rattle.mst_undo.proofs.Rising.{rising_behind}
use Rattle.mst_undo.proofs.Nodes.{filled_node, filled_length, gap_in_range, gap_lies}
use Rattle.mst_undo.proofs.Edited.{edited_items, gap_safe}
use Rattle.mst_undo.proofs.putting.+undo.Goals as goal

-- the gap that was found, as the clauses name its key and parts
the_gap : (j k : List ℕ) (n : ℕ) (qs ps : List Part) → j ≡ k → qs ≡ ps → IsGapOf j n qs → IsGapOf k n ps
the_gap j k n qs ps e f g = let A : List ℕ → Type 0 = λ x. IsGapOf x n qs in let B : List Part → Type 0 = λ x. IsGapOf k n x in subst B f (subst A e g)

pub undo_parts-place-requires : goal.undo_parts-place-requires
undo_parts-place-requires t c =
    let P : List Part → Type 0 = λ x. AreRising x in
    subst P (sym c.as_slice.ensures.value) (rising_behind c.args.layer (below_items c.args.layer c.args.first.now) c.args.rest.now.items c.requires.safe.ascends)

pub undo_parts-replace_gap-below-requires : goal.undo_parts-replace_gap-below-requires
undo_parts-replace_gap-below-requires t c =
    let k = c.args.op.now.key in let n = c.in-Err.at in let ps = c.args.rest.now.items in
    gap_in_range k n ps (the_gap c.as_slice-2.result.now k n c.as_slice.result.now ps c.as_slice-2.ensures.value c.as_slice.ensures.value c.in-Err.ensures.is)

pub undo_parts-undo_below-requires : goal.undo_parts-undo_below-requires
undo_parts-undo_below-requires t c =
    let h = c.args.layer in let k = c.args.op.now.key in let n = c.in-Err.at in let f = c.args.first.now in let ps = c.args.rest.now.items in
    let gap = the_gap c.as_slice-2.result.now k n c.as_slice.result.now ps c.as_slice-2.ensures.value c.as_slice.ensures.value c.in-Err.ensures.is in
    let L : Below → Type 0 = λ x. LiesBelow h x in (
      omega arith,
      (
        subst L (sym c.replace_gap-below.ensures.gap) (gap_lies h n f ps c.requires.node),
        (
          gap_safe h c.args.op.now n f ps c.replace_gap-below.result gap c.replace_gap-below.ensures.gap c.requires.safe,
          λ puts. let room = c.requires.room puts in let at_most = room.1 in let other : c.args.high ≢ h = c.in-None.ensures puts in (room.0, omega arith),
        ),
      ),
    )

pub undo_parts-returns-in_err-undone-in-None-clause-node :
    goal.undo_parts-returns-in_err-undone-in-None-clause-node
undo_parts-returns-in_err-undone-in-None-clause-node t c =
    filled_node c.args.layer c.in-Err.at Empty c.args.first.now c.args.rest.now.items c.replace_gap-below.new.first c.replace_gap-below.new.rest.items c.replace_gap-below.ensures.filled c.requires.node tt

pub undo_parts-replace_gap-requires : goal.undo_parts-replace_gap-requires
undo_parts-replace_gap-requires t c =
    let k = c.args.op.now.key in let n = c.in-Err.at in let ps = c.args.rest.now.items in
    let low = gap_in_range k n ps (the_gap c.as_slice-2.result.now k n c.as_slice.result.now ps c.as_slice-2.ensures.value c.as_slice.ensures.value c.in-Err.ensures.is) in
    let long = filled_length c.args.layer n Empty c.args.first.now ps c.replace_gap-below.new.first c.replace_gap-below.new.rest.items c.replace_gap-below.ensures.filled in omega arith

pub undo_parts-returns-in_ok-undone-in-None-clause-node :
    goal.undo_parts-returns-in_ok-undone-in-None-clause-node
undo_parts-returns-in_ok-undone-in-None-clause-node t c =
    filled_node c.args.layer c.in-Err.at c.in_ok-undone-in-None.undone c.replace_gap-below.new.first c.replace_gap-below.new.rest.items c.replace_gap.new.first c.replace_gap.new.rest.items c.replace_gap.ensures.filled
    (filled_node c.args.layer c.in-Err.at Empty c.args.first.now c.args.rest.now.items c.replace_gap-below.new.first c.replace_gap-below.new.rest.items c.replace_gap-below.ensures.filled c.requires.node tt)
    c.in_ok-undone-in-None.ensures.lies

pub undo_parts-returns-in_ok-undone-in-None-clause-items :
    goal.undo_parts-returns-in_ok-undone-in-None-clause-items
undo_parts-returns-in_ok-undone-in-None-clause-items t c =
    let h = c.args.layer in let k = c.args.op.now.key in let n = c.in-Err.at in let f = c.args.first.now in let ps = c.args.rest.now.items in
    let gap = the_gap c.as_slice-2.result.now k n c.as_slice.result.now ps c.as_slice-2.ensures.value c.as_slice.ensures.value c.in-Err.ensures.is in
    edited_items h k n f ps gap c.requires.safe.ascends c.replace_gap-below.result c.replace_gap-below.ensures.gap c.args.op.now.was Empty c.in_ok-undone-in-None.undone
    c.replace_gap-below.new.first c.replace_gap-below.new.rest.items c.replace_gap.new.first c.replace_gap.new.rest.items c.replace_gap-below.ensures.filled c.replace_gap.ensures.filled c.in_ok-undone-in-None.ensures

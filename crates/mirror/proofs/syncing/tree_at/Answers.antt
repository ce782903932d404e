use Rattle.std.proofs.Common.{sym, subst, List}
use Rattle.mst_list.specs.declared.item.Item.{Item}
use Rattle.mst_list.specs.Lists.{KeysOnly}
use Rattle.mirror.proofs.Maps.{no_tree}
use Rattle.mirror.proofs.syncing.tree_at.Goals as goal

pub returns-then-not-has_keys_only : goal.returns-then-not-has_keys_only
returns-then-not-has_keys_only c = λ F view keys.
    let P : List Item → Type 0 = λ x. KeysOnly x in
    no_tree _ _ _ _ c.in-Ok.ensures.view c.in_ok-list.ensures (λ all. c.has_keys_only.ensures.not_whole c.if-not-has_keys_only.true (subst P (sym c.as_slice.ensures.value) all)) F view keys

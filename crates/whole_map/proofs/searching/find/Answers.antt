use Rattle.std.proofs.Common.{rules, ◌≡◌}
use Rattle.std.proofs.lemmas.Fn.{always_returns_same}
use Rattle.mst_list.specs.declared.item.Item.{Item}
use Rattle.mst_list.specs.Maps.{order_of}
use Rattle.mst_list.proofs.Found.{found}
use Rattle.whole_map.proofs.searching.find.Goals as goal

pub returns : goal.returns
returns c =
    let k = c.args.key.now in
    found k c.args.items.now c.binary_search_by.result c.requires.ascends c.requires.whole c.binary_search_by.ensures.bound (c.binary_search_by.ensures.position (λ (x : Item). order_of k x) (always_returns_same _ (λ a r. r ≡ order_of k a.0.now) _ (λ a r f' q. search rules)))

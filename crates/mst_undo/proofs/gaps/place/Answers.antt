use Rattle.std.proofs.Common.{rules, ◌≡◌}
use Rattle.std.proofs.lemmas.Fn.{always_returns_same}
use Rattle.at_cid.specs.Order.{key_cmp}
use Rattle.mst_view.specs.declared.branch.Part.{Part}
use Rattle.mst_undo.proofs.Nodes.{place_found}
use Rattle.mst_undo.proofs.gaps.place.Goals as goal

pub returns-clause-is : goal.returns-clause-is
returns-clause-is c =
    let k = c.args.key.now in
    place_found k c.args.parts.now c.binary_search_by.result c.requires c.binary_search_by.ensures.bound (c.binary_search_by.ensures.position (λ (p : Part). key_cmp p.key k) (always_returns_same _ (λ a r. r ≡ key_cmp a.0.now.key k) _ (λ a r f' q. search rules)))

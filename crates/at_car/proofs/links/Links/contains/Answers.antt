use Rattle.std.proofs.Common.{ap, sym, ◌∙◌, subst}
use Rattle.std.specs.List.Sorted.{IsStrictlySortedBy}
use Rattle.at_cid.specs.Order.{key_cmp}
use Rattle.at_car.specs.Links.{has}
use Rattle.at_car.proofs.Searches.{has_found}
use Rattle.at_car.proofs.links.Links.contains.Goals as goal

pub returns : goal.returns
returns c =
    c.is_ok.ensures.value ∙ has_found c.args.link.now c.as_slice.result.now c.binary_search.result (subst (IsStrictlySortedBy key_cmp) (sym c.as_slice.ensures.value) c.self.invariant) c.binary_search.ensures.bound c.binary_search.ensures.position
    ∙ ap (λ l. has l c.args.link.now) (c.as_slice.ensures.value ∙ c.self.view_is)

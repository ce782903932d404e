-- The order of bytes is total, and ties only what is the same. The laws of `Ord` cite these.
use Rattle.std.specs.Prelude.{◌≡◌, ℕ, List, Some, nat_eq}
use Rattle.std.specs.Ordering.{eq_by_cmp}
use Rattle.std.specs.Cmp.{IsPartialOrder, IsTotalOrder, po}
use Rattle.std.specs.Cmp.Lexicographic.{nat_list_cmp_total, pointwise, texts_ties}
use Rattle.at_cid.specs.Order.{key_cmp}

pub key_total : IsTotalOrder key_cmp
unfolding key_cmp
key_total = nat_list_cmp_total

pub key_ties : (x y : List ℕ) → pointwise nat_eq x y ≡ eq_by_cmp key_cmp x y
unfolding key_cmp
key_ties = texts_ties

pub key_po : IsPartialOrder (pointwise nat_eq) (λ x y. Some (key_cmp x y))
key_po = po key_total key_ties

-- Links that compare as the same.
use Rattle.std.proofs.Common.{◌≡◌, ℕ, List, true, false, Less, Equal, Greater, refl, ap}
use Rattle.std.specs.Ordering.{is_eq, eq_by_cmp}
use Rattle.at_cid.specs.Order.{key_cmp}
use Rattle.at_cid.proofs.Order.{cmp_exact, cmp_same, cmp_above}

pub same_link : (q k : List ℕ) → eq_by_cmp key_cmp q k ≡ true → q ≡ k
same_link q k =
    elim (key_cmp q k) as (λ o. key_cmp q k ≡ o → is_eq o ≡ true → q ≡ k) [
      | Less ↦ λ o e. absurd cc
      | Equal ↦ λ o e. cmp_exact q k o
      | Greater ↦ λ o e. absurd cc
    ] refl

pub link_same : (q k : List ℕ) → q ≡ k → eq_by_cmp key_cmp q k ≡ true
link_same q k e = rw e (ap is_eq (cmp_same k))

-- one that is below or above isn't the same
pub below_differs : (q k : List ℕ) → key_cmp q k ≡ Less → eq_by_cmp key_cmp q k ≡ false
below_differs q k e = ap is_eq e

pub above_differs : (q k : List ℕ) → key_cmp k q ≡ Less → eq_by_cmp key_cmp q k ≡ false
above_differs q k e = ap is_eq (cmp_above k q e)

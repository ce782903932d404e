-- The first eight bytes of digests tell how links compare.
use Rattle.std.proofs.Common.{◌≡◌, ℕ, ◌+◌, ◌≤◌, List, length, take, drop, true, arith, w64, ◌∙◌}
use Rattle.std.specs.Prelude.{◌≢◌, slice_index}
use Rattle.std.specs.Int.{from_be_bytes}
use Rattle.std.specs.Ordering.{nat_cmp}
use Rattle.at_cid.specs.Link.{is_link, IsBytes}
use Rattle.at_cid.specs.Order.{key_cmp}
use Rattle.at_cid.proofs.Links.{link_length}
use Rattle.at_cid.proofs.Numbers.{apart}
use Rattle.at_cid.proofs.Order.{cmp_digests}

-- links of one kind compare as the numbers that the first eight bytes of their digests encode, where these differ
pub cmp_fronts : (x y : List ℕ) (a b : ℕ) → is_link x ≡ true → is_link y ≡ true → slice_index x 1 ≡ slice_index y 1 → IsBytes x → IsBytes y
    → a ≡ from_be_bytes w64 (take 8 (drop 4 x)) → b ≡ from_be_bytes w64 (take 8 (drop 4 y)) → (a ≢ b) → nat_cmp a b ≡ key_cmp x y
cmp_fronts x y a b h k kind g l left right f =
    let p : 4 + 8 ≤ length x = omega (arith, link_length x h) in
    let q : 4 + 8 ≤ length y = omega (arith, link_length y k) in
    apart 4 x y p q g l a b left right f ∙ cmp_digests x y h k kind

-- A digest is made of bytes, and the link over a block is a link.
use Rattle.std.proofs.Common.{ℕ, zero, suc, ◌<◌, ◌/◌, ◌^◌, List, [], ◌∷◌, ◌++◌, refl, ap, arith, mod-lt, lit<, w32, eqb}
use Rattle.std.specs.Int.{to_be_bytes, bytes_high_first, byte_at}
use Rattle.std.specs.Prelude.{slice_index}
use Rattle.sha2.specs.Sha256.{sha256, digest_bytes}
use Rattle.sha2.proofs.Facts256.{length-sha256}
use Rattle.at_cid.specs.Link.{IsBytes, cid, IsNodeLink}

abbrev AllBelow : List ℕ → Type 0
AllBelow [] = Unit {0}
AllBelow (b ∷ bs) = (b < 256) × AllBelow bs

each_below : (bs : List ℕ) → AllBelow bs → IsBytes bs
each_below [] h i = lit< tt
each_below (b ∷ bs) h zero = h.0
each_below (b ∷ bs) h (suc i) = each_below bs h.1 i

joined : (a b : List ℕ) → AllBelow a → AllBelow b → AllBelow (a ++ b)
joined [] b h g = g
joined (x ∷ a) b h g = (h.0, joined a b h.1 g)

byte_fits : (k n : ℕ) → byte_at k n < 256
byte_fits zero n = omega arith
byte_fits (suc k) n = mod-lt (n / 256 ^ suc k) (lit< tt)

high_first : (k n : ℕ) → AllBelow (bytes_high_first k n)
high_first zero n = tt
high_first (suc k) n = (byte_fits k n, high_first k n)

digest : (h : List ℕ) (n : ℕ) → AllBelow (digest_bytes h n)
unfolding digest_bytes
digest h zero = tt
digest h (suc n) = joined (digest_bytes h n) (to_be_bytes w32 (slice_index h n)) (digest h n) (high_first 4 (slice_index h n))

digest_below : (m : List ℕ) → AllBelow (sha256 m)
unfolding sha256
digest_below m = digest _ 8

pub bytes_sha256 : (m : List ℕ) → IsBytes (sha256 m)
bytes_sha256 m = each_below (sha256 m) (digest_below m)

-- the link over a block is one of kind Node
pub cid_is_link : (b : List ℕ) → IsNodeLink (cid b)
unfolding cid
cid_is_link b = record {
  link = ap (λ (n : ℕ). eqb n 32) (length-sha256 b);
  bytes = each_below (cid b) (lit< tt, (lit< tt, (lit< tt, (lit< tt, digest_below b))));
  node = refl;
}

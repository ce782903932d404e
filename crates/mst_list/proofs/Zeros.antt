-- No height is above the most.
use Rattle.std.proofs.Common.{ℕ, suc, ◌+◌, ◌*◌, ◌≤◌, List, [], ◌∷◌, length, eqb, cond, true, false, arith}
use Rattle.std.specs.Int as int
use Rattle.std.specs.Int.{w8}
use Rattle.std.proofs.lemmas.Nat.{leading_le}
use Rattle.sha2.specs.Sha256.{sha256}
use Rattle.sha2.proofs.Facts256.{length-sha256}
use Rattle.mst_list.specs.declared.limits.TheConstants.{MOST_HEIGHT}
use Rattle.mst_list.specs.Height.{leading_zeros, height}

zeros_most : (bs : List ℕ) → leading_zeros bs ≤ 8 * length bs
unfolding leading_zeros
zeros_most [] = omega arith
zeros_most (b ∷ bs) =
    elim (eqb b 0) as (λ t. cond t (8 + leading_zeros bs) (int.leading_zeros w8 b) ≤ 8 * suc (length bs)) [
      | true ↦ let low = zeros_most bs in omega arith
      | false ↦ let low : int.leading_zeros w8 b ≤ 8 = leading_le 8 b in omega arith
    ]

pub height_most : (k : List ℕ) → height k ≤ MOST_HEIGHT
unfolding height
height_most k = let low = zeros_most (sha256 k) in let len = length-sha256 k in omega arith

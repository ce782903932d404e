-- Steps of a reading.
use Rattle.std.proofs.Common.{◌≡◌, ℕ, zero, suc, ◌-◌, ◌<◌, Bool, true, false, List, [], ◌∷◌, refl, Option, Some, None, Result, Ok, Err, arith}
use Rattle.std.specs.FinMap as map
use Rattle.std.specs.FinMap.{FinMap}
use Rattle.at_cid.specs.Order.{key_cmp}
use Rattle.mst_list.specs.declared.item.Item.{Item}
use Rattle.mst_list.specs.declared.item.Item.TheVariants.{Hole}
use Rattle.mst_node.specs.FirstFault.{Extent, in_part, in_whole}
use Rattle.mst_node.specs.Fits.{node_fits}
use Rattle.mst_node.specs.Nodes.{Node}
use Rattle.mst_node.specs.TreeReading.{block_of, or_missing, parts_of, part_at}

module _ (extent : Extent) (r : List ℕ → Option Node) (B : FinMap key_cmp (List ℕ)) where
  pub at_zero : (low high c : Option (List ℕ)) → part_at extent r B zero low high c ≡ Ok []
  unfolding part_at
  at_zero low high c = refl

  pub at_none : (h : ℕ) (low high : Option (List ℕ)) → part_at extent r B h low high None ≡ Ok []
  unfolding part_at
  at_none zero low high = refl
  at_none (suc h) low high = refl

  pub at_link : (h : ℕ) (low high : Option (List ℕ)) (c : List ℕ) → part_at extent r B (suc h) low high (Some c) ≡ or_missing extent h c (λ b. block_of (node_fits h low high) (parts_of (part_at extent r B h) low high) c (r b)) (map.get B c)
  unfolding part_at
  at_link h low high c = refl

  pub at_block : (h : ℕ) (low high : Option (List ℕ)) (c b : List ℕ) → 0 < h → map.get B c ≡ Some b → part_at extent r B h low high (Some c) ≡ block_of (node_fits (h - 1) low high) (parts_of (part_at extent r B (h - 1)) low high) c (r b)
  unfolding part_at
  at_block zero low high c b n e = absurd (omega arith)
  at_block (suc h) low high c b n e = let one : suc h - 1 ≡ h = omega arith in rw (e, one) refl

module _ (r : List ℕ → Option Node) (B : FinMap key_cmp (List ℕ)) where
  pub at_hole : (h : ℕ) (low high : Option (List ℕ)) (c : List ℕ) → 0 < h → map.get B c ≡ None → part_at in_part r B h low high (Some c) ≡ Ok (Hole (h - 1) c ∷ [])
  unfolding part_at
  at_hole zero low high c n e = absurd (omega arith)
  at_hole (suc h) low high c n e = let one : suc h - 1 ≡ h = omega arith in rw (e, one) refl

  pub at_lack : (h : ℕ) (low high : Option (List ℕ)) (c : List ℕ) → 0 < h → map.get B c ≡ None → part_at in_whole r B h low high (Some c) ≡ Err c
  unfolding part_at
  at_lack zero low high c n e = absurd (omega arith)
  at_lack (suc h) low high c n e = rw e refl

pub block_bad : (passes : Node → Bool) (parts : Node → Result (List Item) (List ℕ)) (c : List ℕ) (o : Option Node) → o ≡ None → block_of passes parts c o ≡ Err c
block_bad passes parts c o e = rw e refl

pub block_unfit : (passes : Node → Bool) (parts : Node → Result (List Item) (List ℕ)) (c : List ℕ) (o : Option Node) (n : Node) → o ≡ Some n → passes n ≡ false → block_of passes parts c o ≡ Err c
block_unfit passes parts c o n e f = rw (e, f) refl

pub block_fit : (passes : Node → Bool) (parts : Node → Result (List Item) (List ℕ)) (c : List ℕ) (o : Option Node) (n : Node) → o ≡ Some n → passes n ≡ true → block_of passes parts c o ≡ parts n
block_fit passes parts c o n e f = rw (e, f) refl

-- What a part of a formed list is.
use Rattle.std.proofs.Common.{◌≡◌, ℕ, zero, suc, ◌<◌, List, [], ◌∷◌, length, get_or, sym, subst, arith}
use Rattle.mst_list.specs.declared.item.Item.TheVariants.{Key}
use Rattle.mst_list.specs.Lists.{IsFormed, AreFormed}
use Rattle.mst_list.proofs.Fills.{formed_parts}
use Rattle.mst_view.specs.declared.branch.Part.{Part}
use Rattle.mst_view.specs.Layered.{below_items, rest_items}

pub part_formed : (h : ℕ) (parts : List Part) (i : ℕ) (p : Part) → AreFormed (rest_items h parts) → i < length parts → p ≡ get_or parts i p → IsFormed (Key p.key p.value) × AreFormed (below_items h p.below)
part_formed h [] i p f low is = absurd (omega arith)
part_formed h (q ∷ parts) zero p f low is =
    let R : Part → Type 0 = λ x. IsFormed (Key x.key x.value) × AreFormed (below_items h x.below) in
    subst R (sym is) (f.0, (formed_parts (below_items h q.below) (rest_items h parts) f.1).0)
part_formed h (q ∷ parts) (suc i) p f low is = part_formed h parts i p (formed_parts (below_items h q.below) (rest_items h parts) f.1).1 (omega arith) is

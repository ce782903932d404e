-- The gaps of a node: one before its first key, and one behind each key.
use Rattle.std.specs.Prelude.{◌≡◌, ℕ, zero, suc, List, [], ◌∷◌, ◌++◌, Result, Ok, Err}
use Rattle.std.specs.List.{AllByRecursion}
use Rattle.std.specs.declared.cmp.Ordering.TheVariants.{Less, Greater}
use Rattle.at_cid.specs.Order.{key_cmp}
use Rattle.mst_list.specs.declared.item.Item.{Item}
use Rattle.mst_view.specs.Layered.{LiesBelow, AllAt, below_items, rest_items}
use Rattle.mst_view.specs.declared.branch.Below.{Below}
use Rattle.mst_view.specs.declared.branch.Part.{Part}

-- the list of a node at layer h
abbrev pub node_items : ℕ → Below → List Part → List Item
node_items h first parts = below_items h first ++ rest_items h parts

-- the parts are those of a node at layer h
pub record AreNode (h : ℕ) (first : Below) (parts : List Part) : Type 0 where
  pub first_lies : LiesBelow h first
  pub all_at : AllAt h parts

-- what lies in a gap
abbrev pub gap_at : ℕ → Below → List Part → Below
gap_at zero first parts = first
gap_at (suc n) first [] = first
gap_at (suc n) first (p ∷ parts) = gap_at n p.below parts

-- what lies before the first key, with x in a gap
abbrev pub first_with : ℕ → Below → Below → Below
first_with zero x first = x
first_with (suc n) x first = first

-- the parts, with x in a gap
abbrev pub parts_with : ℕ → Below → List Part → List Part
parts_with zero x parts = parts
parts_with (suc n) x [] = []
parts_with (suc n) x (p ∷ parts) =
    record { key = p.key; value = p.value; below = first_with n x p.below } ∷ parts_with n x parts

-- f' and ps' are f and ps with x in a gap
pub record IsFilled (n : ℕ) (x f : Below) (ps : List Part) (f' : Below)
    (ps' : List Part) : Type 0 where
  pub first : f' ≡ first_with n x f
  pub rest : ps' ≡ parts_with n x ps

-- the keys of the parts are above k
abbrev pub AreOver : List ℕ → List Part → Type 0
AreOver k parts = AllByRecursion (λ p. key_cmp k p.key ≡ Less) parts

-- each key is below those behind it
abbrev pub AreRising : List Part → Type 0
AreRising [] = Unit {0}
AreRising (p ∷ parts) = AreOver p.key parts × AreRising parts

-- the gap is that of k: the keys before it are below k, and the next one is above
abbrev pub IsGapOf : List ℕ → ℕ → List Part → Type 0
IsGapOf k zero [] = Unit {0}
IsGapOf k zero (p ∷ parts) = key_cmp p.key k ≡ Greater
IsGapOf k (suc n) [] = ⊥
IsGapOf k (suc n) (p ∷ parts) = (key_cmp p.key k ≡ Less) × IsGapOf k n parts

-- the part at a place has the key k
abbrev pub IsKeyAt : List ℕ → ℕ → List Part → Type 0
IsKeyAt k n [] = ⊥
IsKeyAt k zero (p ∷ parts) = p.key ≡ k
IsKeyAt k (suc n) (p ∷ parts) = IsKeyAt k n parts

-- what a search for k finds: the part that has it, or else its gap
abbrev pub IsPlace : List ℕ → List Part → Result ℕ ℕ → Type 0
IsPlace k parts (Ok n) = IsKeyAt k n parts
IsPlace k parts (Err n) = IsGapOf k n parts

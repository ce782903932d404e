-- What is kept of blocks.
use Rattle.std.specs.Prelude.{◌≡◌, ℕ, Bool, false, not, if◌then◌else◌, List, Option, Some, None, option_map}
use Rattle.std.specs.FinMap as map
use Rattle.std.specs.Str.{bytes_eq}
use Rattle.at_cid.specs.Order.{key_cmp}
use Rattle.at_car.specs.Blocks.{BlockMap}
use Rattle.at_car.specs.Links.{has}
use Rattle.at_car.specs.declared.sifting.Sifted.{Sifted}

-- the block, where it is one that is kept
abbrev pub picked : (List ℕ → Bool) → Option (List ℕ) → Option (List ℕ)
picked picks None = None
picked picks (Some b) = if picks b then Some b else None

-- there is a block, and it isn't kept
abbrev pub is_passed : (List ℕ → Bool) → Option (List ℕ) → Bool
is_passed picks None = false
is_passed picks (Some b) = not (picks b)

-- the root's block, where it is there
abbrev pub block_at : Option (List ℕ) → BlockMap → Option (List ℕ)
block_at None blocks = None
block_at (Some c) blocks = map.get blocks c

abbrev pub is_root : Option (List ℕ) → List ℕ → Bool
is_root None c = false
is_root (Some r) c = bytes_eq r c

-- what is held of the blocks, by a root and the choice of those that are kept
pub record IsSifted (picks : List ℕ → Bool) (root : Option (List ℕ)) (blocks : BlockMap)
    (first : Option (List ℕ)) (nodes : BlockMap) (others : List (List ℕ)) : Type 0 where
  pub first_is : first ≡ block_at root blocks
  pub nodes_are : (c : List ℕ) → map.get nodes c ≡ picked picks (map.get blocks c)
  pub others_are : (c : List ℕ) → has others c ≡ is_passed picks (map.get blocks c)

-- the block of a link is held where it is one that is kept
abbrev pub sift : (List ℕ → Bool) → List ℕ → Option (List ℕ)
sift picks b = if picks b then Some b else None

-- the same while blocks come, of which the first under a link counts
pub record HoldsSifted (picks : List ℕ → Bool) (root : Option (List ℕ))
    (blocks : BlockMap) (sifted : Sifted) : Type 0 where
  pub first_is : sifted.first ≡ block_at root blocks
  pub log_is : (c : List ℕ)
      → map.find key_cmp c sifted.log ≡ option_map (sift picks) (map.get blocks c)

-- The map of a repository of which its nodes are kept.
use Rattle.std.specs.Prelude.{◌≡◌, ℕ, List, Option, Some, None, Ok}
use Rattle.std.specs.FinMap as map
use Rattle.at_car.specs.Blocks.{BlockMap}
use Rattle.at_car.specs.Standing.{root_of}
use Rattle.at_commit.specs.Commit.{commit_of}
use Rattle.at_commit.specs.declared.commit.Commit.{Commit}
use Rattle.mst_list.specs.declared.item.Item.{Item}
use Rattle.mst_list.specs.Lists.{KeysOnly}
use Rattle.mst_node.specs.Trees.{IsView}
use Rattle.mirror.specs.Repository.{HasMap}

-- Of these roots and blocks: the first root is the link, and under it a commit object whose tree is
-- whole and has this map.
pub record HasMapUnder (roots : List (List ℕ)) (blocks : BlockMap) (link : List ℕ)
    (F : List Item) : Type 0 where
  pub block : List ℕ
  pub commit : Commit
  pub root : root_of roots ≡ Some link
  pub there : map.get blocks link ≡ Some block
  pub object : commit_of block ≡ Ok commit
  pub view : IsView blocks commit.data_root F
  pub whole : KeysOnly F

-- the blocks hold a whole tree at a root, of this map, or none
abbrev pub IsTreeAt : BlockMap → List ℕ → Option (List Item) → Type 0
IsTreeAt blocks r (Some F) = IsView blocks r F × KeysOnly F
IsTreeAt blocks r None = (F : List Item) → IsView blocks r F → KeysOnly F → ⊥

-- this is the map under a link, or there is none
abbrev pub IsMapUnder : List (List ℕ) → BlockMap → List ℕ → Option (List Item) → Type 0
IsMapUnder roots blocks link (Some F) = HasMapUnder roots blocks link F
IsMapUnder roots blocks link None = (F : List Item) → HasMapUnder roots blocks link F → ⊥

-- this is the map of a repository with a commit as first root, or it has none
abbrev pub IsMapOf : List ℕ → List ℕ → Option (List Item) → Type 0
IsMapOf bytes link (Some F) = HasMap bytes link F
IsMapOf bytes link None = (F : List Item) → HasMap bytes link F → ⊥

-- What a walk of a whole tree answers. (Repository specification, MST structure: a whole tree has
-- each of its nodes at hand.)
use Rattle.std.specs.Prelude.{◌≡◌, ℕ, Bool, is_some, List, length, Option, Some, None, Result, Ok, Err}
use Rattle.std.specs.FinMap as map
use Rattle.std.specs.FinMap.{FinMap}
use Rattle.at_cid.specs.Memory.{Gives}
use Rattle.at_cid.specs.Order.{key_cmp}
use Rattle.mst_list.specs.declared.item.Item.{Item}
use Rattle.mst_list.specs.Lists.{KeysOnly}
use Rattle.mst_node.specs.FirstFault.{in_whole, IsFirstTopFault}
use Rattle.mst_node.specs.Reading.{node_of}
use Rattle.mst_node.specs.Trees.{IsView}
use Rattle.mst_whole.specs.declared.walking.WalkFault.{WalkFault}

-- the blocks hold at r a view without holes that has so many keys
abbrev pub HasKeys : FinMap key_cmp (List ℕ) → List ℕ → ℕ → Type 0
HasKeys B r n = (F : List Item) × IsView B r F × KeysOnly F × (n ≡ length F)

-- the first fault of the whole tree at r, parents before what hangs below them and from left to
-- right, is a block that isn't there, or one that is and is no node that may stand at its place
abbrev pub IsWalkFault : FinMap key_cmp (List ℕ) → List ℕ → WalkFault → Type 0
IsWalkFault B r (WalkFault.NoBlock c) = (map.get B c ≡ None) × IsFirstTopFault in_whole B r c
IsWalkFault B r (WalkFault.BadNode c) =
    ((b : List ℕ) × (map.get B c ≡ Some b)) × IsFirstTopFault in_whole B r c
IsWalkFault B r WalkFault.Memory = Unit {0}

-- what a walk answers, but for running out of memory
abbrev pub IsWalked : FinMap key_cmp (List ℕ) → List ℕ → Result ℕ WalkFault → Type 0
IsWalked B r (Ok n) = HasKeys B r n
IsWalked B r (Err (WalkFault.NoBlock c)) = IsWalkFault B r (WalkFault.NoBlock c)
IsWalked B r (Err (WalkFault.BadNode c)) = IsWalkFault B r (WalkFault.BadNode c)
IsWalked B r (Err WalkFault.Memory) = ⊥

-- what is wrong, unless memory ran out
abbrev pub cause_of : WalkFault → Option WalkFault
cause_of (WalkFault.NoBlock c) = Some (WalkFault.NoBlock c)
cause_of (WalkFault.BadNode c) = Some (WalkFault.BadNode c)
cause_of WalkFault.Memory = None

-- the result is the answer of the walk, whichever that is, unless memory ran out
abbrev pub WalksExactly : FinMap key_cmp (List ℕ) → List ℕ → Result ℕ WalkFault → Type 0
WalksExactly B r result = (answer : Result ℕ WalkFault)
    → IsWalked B r answer → Gives (λ n. n) cause_of result answer

-- the block is that of a node
abbrev pub is_node_block : List ℕ → Bool
is_node_block block = is_some (node_of block)

-- The count of what is read of a whole tree, and what stopped it.
-- (What a walk answers is said without it; proofs/Walked.antt shows that it answers that.)
use Rattle.std.specs.Prelude.{ℕ, Bool, ◌||◌, is_some, if◌then◌else◌, List, length, Option, Some, None, Result, Ok, Err}
use Rattle.std.specs.FinMap as map
use Rattle.std.specs.FinMap.{FinMap}
use Rattle.at_cid.specs.Order.{key_cmp}
use Rattle.at_car.specs.Links.{has}
use Rattle.at_car.specs.declared.scan.Kept.{Kept}
use Rattle.mst_list.specs.declared.item.Item.{Item}
use Rattle.mst_node.specs.Reading.{node_of}
use Rattle.mst_node.specs.TreeReading.{go_on, whole_of}
use Rattle.mst_whole.specs.declared.counting.CountFault.{CountFault}
use Rattle.mst_whole.specs.declared.walking.WalkFault.{WalkFault}

-- how many items there are
abbrev pub count : Result (List Item) (List ℕ) → Result ℕ (List ℕ)
count read = go_on read (λ F. Ok (length F))

-- the link of the block at fault; running out of memory is no fault of a block
abbrev pub link_at_fault : CountFault → Option (List ℕ)
link_at_fault (CountFault.At c) = Some c
link_at_fault CountFault.Memory = None

-- the fault at a link: its block isn't there, or is a bad node
abbrev pub fault_at : List ℕ → Option (List ℕ) → WalkFault
fault_at c None = WalkFault.NoBlock c
fault_at c (Some b) = WalkFault.BadNode c

-- the same, by whether its block is there
abbrev pub fault_in : List ℕ → Bool → WalkFault
fault_in c there = if there then WalkFault.BadNode c else WalkFault.NoBlock c

-- what stopped a count
abbrev pub fault_of : FinMap key_cmp (List ℕ) → CountFault → WalkFault
fault_of B (CountFault.At c) = fault_at c (map.get B c)
fault_of B CountFault.Memory = WalkFault.Memory

-- the same over what was kept of the blocks
abbrev pub kept_fault_of : Kept → CountFault → WalkFault
kept_fault_of kept (CountFault.At c) =
    fault_in c (is_some (map.get kept.nodes c) || has kept.others c)
kept_fault_of kept CountFault.Memory = WalkFault.Memory

-- the number of keys, or the fault at the link that is named
abbrev pub told : FinMap key_cmp (List ℕ) → Result ℕ (List ℕ) → Result ℕ WalkFault
told B (Ok n) = Ok n
told B (Err c) = Err (fault_at c (map.get B c))

-- the number of keys of the tree at r, or its first fault
abbrev pub walked : FinMap key_cmp (List ℕ) → List ℕ → Result ℕ WalkFault
walked B r = told B (count (whole_of node_of B r))

-- What the steps of a reading hand on.
use Rattle.std.specs.Prelude.{◌≡◌, ℕ, List, ◌++◌, Option, Some, None, Result, Ok}
use Rattle.std.specs.List.{AllByRecursion}
use Rattle.mst_list.specs.declared.item.Item.{Item}
use Rattle.mst_list.specs.Height.{height}
use Rattle.mst_node.specs.declared.entry.Entry.{Entry}
use Rattle.mst_node.specs.Nodes.{IsChildLink}
use Rattle.mst_node.specs.TreeReading.{go_on}
use Rattle.mst_view.specs.declared.reading.ReadFault.{ReadFault}

-- the link of the block at fault; running out of memory is no fault of a block
abbrev pub link_at_fault : ReadFault → Option (List ℕ)
link_at_fault (ReadFault.BadNode c) = Some c
link_at_fault ReadFault.Memory = None

-- what is read, behind what was read before
abbrev pub with_front : List Item → Result (List Item) (List ℕ) → Result (List Item) (List ℕ)
with_front front r = go_on r (λ G. Ok (front ++ G))

-- the entries stand at layer h, and where it is 0 nothing hangs below
abbrev pub AllHang : ℕ → List Entry → Type 0
AllHang h es =
    AllByRecursion (λ e. (height e.key ≡ h) × IsChildLink e.right × (h ≡ 0 → e.right ≡ None)) es

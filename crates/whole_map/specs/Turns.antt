-- Operations in two turns: the creates first, which take memory and can be taken back, and then the
-- updates and deletes, which take none.
use Rattle.std.specs.Prelude.{◌≡◌, ℕ, List, [], ◌∷◌, Option, Some, None}
use Rattle.std.specs.List.{AllByRecursion}
use Rattle.mst_list.specs.declared.item.Item.{Item}
use Rattle.mst_list.specs.declared.op.Op.{Op}
use Rattle.mst_list.specs.Edits.{put, value_at}

-- the first list where there was nothing, else the other one
abbrev pub by_was : Option (List ℕ) → List Item → List Item → List Item
by_was None created other = created
by_was (Some v) created other = other

-- the map after an operation that creates; others leave it
abbrev pub created : Op → List Item → List Item
created op s = by_was op.was (put op.key op.now s) s

-- the map after an operation that doesn't create
abbrev pub changed : Op → List Item → List Item
changed op s = by_was op.was s (put op.key op.now s)

-- the map with the key of an operation that creates taken out again
abbrev pub taken_back : Op → List Item → List Item
taken_back op s = by_was op.was (put op.key None s) s

-- the map after all operations that create
abbrev pub all_created : List Item → List Op → List Item
all_created s [] = s
all_created s (op ∷ ops) = all_created (created op s) ops

-- the map after all others
abbrev pub all_changed : List Item → List Op → List Item
all_changed s [] = s
all_changed s (op ∷ ops) = all_changed (changed op s) ops

-- each operation that doesn't create finds at its key what it says was there
abbrev pub ChangeApplies : Option (List ℕ) → Option (List ℕ) → Type 0
ChangeApplies None found = Unit {0}
ChangeApplies (Some v) found = found ≡ Some v

abbrev pub ChangesApply : List Item → List Op → Type 0
ChangesApply s ops = AllByRecursion (λ op. ChangeApplies op.was (value_at op.key s)) ops

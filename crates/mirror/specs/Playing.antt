-- The operations of a commit, as they can be played.
use Rattle.std.specs.Prelude.{◌≡◌, ℕ, true, List, [], ◌∷◌, map, Option, Some, None}
use Rattle.std.specs.List.{list_all}
use Rattle.at_event.specs.declared.event.CommitEvent.{CommitEvent}
use Rattle.at_event.specs.declared.ops.EventOp.{EventOp}
use Rattle.commit_check.specs.Step.{edit_of, edits_of}
use Rattle.mst_list.specs.declared.item.Item.{Item}
use Rattle.mst_list.specs.declared.op.Op.{Op}
use Rattle.mst_list.specs.Edits.{AreApart, AreFormedOps}
use Rattle.mirror.specs.Held.{Continues, is_edit}

-- the keys of operations
abbrev pub keys_of : List Op → List (List ℕ)
keys_of [] = []
keys_of (op ∷ ops) = op.key ∷ keys_of ops

-- the operations can be played, as far as each shows by itself
abbrev pub ArePlayable : List EventOp → Type 0
ArePlayable ops = (list_all is_edit ops ≡ true) × AreFormedOps (map edit_of ops)

-- these are their edits, or they can't be played
abbrev pub IsEditsOf : List EventOp → Option (List Op) → Type 0
IsEditsOf ops (Some made) = (made ≡ map edit_of ops) × ArePlayable ops
IsEditsOf ops None = ArePlayable ops → ⊥

-- these are the edits of a commit, on different keys; or it continues no map
abbrev pub IsPlayableAs : CommitEvent → Option (List Op) → Type 0
IsPlayableAs c (Some made) = (made ≡ edits_of c) × ArePlayable c.ops × AreApart made
IsPlayableAs c None = (rev : Option ℕ) (s t : List Item) → Continues c rev s t → ⊥

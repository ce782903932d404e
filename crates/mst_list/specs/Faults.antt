-- The faults of undoing, and tests of lists.
use Rattle.std.specs.Prelude.{◌≡◌, ◌≢◌, ℕ, zero, suc, Bool, true, false, not, ◌&&◌, List, [], ◌∷◌, Option, Some, None, Result, Ok, Err, ◌⊎◌}
use Rattle.std.specs.List.{AllByRecursion}
use Rattle.mst_list.specs.declared.item.Item.{Item}
use Rattle.mst_list.specs.declared.item.Item.TheVariants.{Key, Hole}
use Rattle.mst_list.specs.declared.op.Op.{Op}
use Rattle.mst_list.specs.declared.judging.Verdict.{Verdict}
use Rattle.mst_list.specs.declared.judging.Verdict.TheVariants.{Fine, Other, Uncovered}
use Rattle.mst_list.specs.declared.undoing.UndoFault.{UndoFault}
use Rattle.mst_list.specs.declared.playing.PlayFault.{PlayFault}
use Rattle.at_cid.specs.Memory.{Gives}
use Rattle.at_cid.specs.Order.{key_cmp}
use Rattle.mst_list.specs.Edits.{by_order, before, after, value_at, put, EndsInHole, StartsWithHole, GuardedBy, IsGuarded, AllAgree, undone, Plays}

-- a hole stands at the front
abbrev pub starts_with_hole : List Item → Bool
starts_with_hole (Hole l c ∷ F) = true
starts_with_hole _ = false

-- no hole stands beside the place of k; `behind` says that a hole stands just before the list
abbrev pub clear_behind : Bool → List ℕ → List Item → Bool
clear_behind behind k [] = not behind
clear_behind behind k (Hole l c ∷ F) = clear_behind true k F
clear_behind behind k (Key j v ∷ F) = by_order (key_cmp j k)
    (clear_behind false k F) (not behind && not (starts_with_hole F)) (not behind)

-- a hole stands in the gap of k, which isn't visible
abbrev pub IsHidden : List ℕ → List Item → Type 0
IsHidden k F = (value_at k F ≡ None) × EndsInHole (before k F)

-- a create or update whose key is visible with another value, or isn't visible and no hole can hide
-- it, or a delete whose key is visible
abbrev pub Disagrees : List Item → Op → Type 0
Disagrees F op = (value_at op.key F ≢ op.now) × (IsHidden op.key F → ⊥)

-- a hole stands beside k
abbrev pub IsBesideHole : List ℕ → List Item → Type 0
IsBesideHole k F = EndsInHole (before k F) ⊎ StartsWithHole (after k F)

-- the operation doesn't disagree, and its key is hidden, or it is a create with a hole beside its
-- key
abbrev pub IsUncovered : List Item → Op → Type 0
IsUncovered F op = (Disagrees F op → ⊥)
    × (IsHidden op.key F ⊎ ((op.was ≡ None) × IsBesideHole op.key F))

-- the operation agrees with the list and is guarded
abbrev pub IsFine : List Item → Op → Type 0
IsFine F op = (value_at op.key F ≡ op.now) × GuardedBy op.key op.was op.now F

-- each operation is fine
abbrev pub AllFine : List Item → List Op → Type 0
AllFine F ops = AllByRecursion (IsFine F) ops

-- what a verdict says
abbrev pub IsJudged : List Item → Op → Verdict → Type 0
IsJudged F op Fine = IsFine F op
IsJudged F op Other = Disagrees F op
IsJudged F op Uncovered = IsUncovered F op

-- the operation at a place has a property, and those before it are fine
abbrev pub IsFirst : (List Item → Op → Type 0) → List Item → List Op → ℕ → Type 0
IsFirst P F [] i = ⊥
IsFirst P F (op ∷ ops) zero = P F op
IsFirst P F (op ∷ ops) (suc i) = IsFine F op × IsFirst P F ops i

-- the cause of a fault
abbrev pub IsCaused : List Item → List Op → UndoFault → Type 0
IsCaused F ops (UndoFault.OtherOp i) = IsFirst Disagrees F ops i
IsCaused F ops (UndoFault.NotCovered i) = IsFirst IsUncovered F ops i
IsCaused F ops UndoFault.Memory = Unit {0}

-- what an undoing answers, but for running out of memory: the list as it was, where each operation
-- agrees and is guarded, and else the first operation that disagrees or isn't covered
abbrev pub IsUndone : List Item → List Op → Result (List Item) UndoFault → Type 0
IsUndone F ops (Ok G) = AllAgree F ops × IsGuarded F ops × (G ≡ undone F ops)
IsUndone F ops (Err (UndoFault.OtherOp i)) = IsFirst Disagrees F ops i
IsUndone F ops (Err (UndoFault.NotCovered i)) = IsFirst IsUncovered F ops i
IsUndone F ops (Err UndoFault.Memory) = ⊥

-- a fault that is a cause
abbrev pub undo_cause : UndoFault → Option UndoFault
undo_cause (UndoFault.OtherOp i) = Some (UndoFault.OtherOp i)
undo_cause (UndoFault.NotCovered i) = Some (UndoFault.NotCovered i)
undo_cause UndoFault.Memory = None

-- the result is the answer of the undoing, whichever that is, unless memory ran out
abbrev pub UndoesExactly : List Item → List Op → Result (List Item) UndoFault → Type 0
UndoesExactly F ops result = (answer : Result (List Item) UndoFault)
    → IsUndone F ops answer → Gives (λ G. G) undo_cause result answer

-- the first operation that doesn't apply: those before it give t, in which its key hasn't the value
-- that it was to have
abbrev pub IsClash : List Item → List Op → ℕ → Type 0
IsClash s [] i = ⊥
IsClash s (op ∷ ops) zero = value_at op.key s ≢ op.was
IsClash s (op ∷ ops) (suc i) = (value_at op.key s ≡ op.was) × IsClash (put op.key op.now s) ops i

-- the cause of a fault of playing
abbrev pub IsPlayFault : List Item → List Op → PlayFault → Type 0
IsPlayFault s ops (PlayFault.Clash i) = IsClash s ops i
IsPlayFault s ops PlayFault.Memory = Unit {0}

-- what a playing answers, but for running out of memory
abbrev pub IsPlayed : List Item → List Op → Result (List Item) PlayFault → Type 0
IsPlayed s ops (Ok t) = Plays s ops t
IsPlayed s ops (Err (PlayFault.Clash i)) = IsClash s ops i
IsPlayed s ops (Err PlayFault.Memory) = ⊥

-- a fault that is a cause
abbrev pub play_cause : PlayFault → Option PlayFault
play_cause (PlayFault.Clash i) = Some (PlayFault.Clash i)
play_cause PlayFault.Memory = None

-- the result is the answer of the playing, whichever that is, unless memory ran out
abbrev pub PlaysExactly : List Item → List Op → Result (List Item) PlayFault → Type 0
PlaysExactly s ops result = (answer : Result (List Item) PlayFault)
    → IsPlayed s ops answer → Gives (λ t. t) play_cause result answer

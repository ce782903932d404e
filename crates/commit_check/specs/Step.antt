-- How a commit leads from a former root to its `data`, and why it doesn't.
use Rattle.std.specs.Prelude.{◌≡◌, ◌≢◌, ◌⊎◌, ℕ, List, [], ◌∷◌, ◌++◌, map, Bool, true, false, not, ◌&&◌, ◌||◌, ◌==◌, is_some, Option, Some, None}
use Rattle.std.specs.FinMap as finite
use Rattle.std.specs.List.{list_any}
use Rattle.at_car.specs.Blocks.{BlockMap}
use Rattle.at_car.specs.Sifting.{is_root}
use Rattle.at_event.specs.declared.event.CommitEvent.{CommitEvent}
use Rattle.at_event.specs.declared.ops.Action.{Action}
use Rattle.at_event.specs.declared.ops.EventOp.{EventOp}
use Rattle.at_event.specs.declared.refusal.Refusal.{Refusal}
use Rattle.mst_list.specs.declared.item.Item.{Item}
use Rattle.mst_list.specs.declared.op.Op.{Op}
use Rattle.mst_list.specs.Edits.{Plays, undone}
use Rattle.mst_list.specs.Lists.{IsMap}
use Rattle.mst_list.specs.Faults.{Disagrees, IsUncovered, IsFirst}
use Rattle.mst_node.specs.Covers.{HoldsCover, AreDistinct}
use Rattle.mst_node.specs.Trees.{root, nodes, Distinct, IsView}
use Rattle.mst_view.specs.ViewFault.{IsAtFault}
use Rattle.mst_law.specs.Laws.{IsStep}
use Rattle.commit_check.specs.declared.expect.Expect.{Expect}

-- the link of the empty tree
abbrev pub empty_root : List ℕ
empty_root = root []

-- an operation as an edit of a map: a create has no value before, a delete none after
abbrev pub edit_of : EventOp → Op
edit_of op = record { key = op.path; was = op.prev; now = op.cid }

abbrev pub edits_of : CommitEvent → List Op
edits_of e = map edit_of e.ops

-- an update or a delete that doesn't say what was there
abbrev pub is_change : Action → Bool
is_change Action.Create = false
is_change Action.Update = true
is_change Action.Delete = true
is_change Action.Other = false

abbrev pub lacks_prev : EventOp → Bool
lacks_prev op = is_change op.action && not (is_some op.prev)

abbrev pub is_since : Option ℕ → ℕ → Bool
is_since None rev = false
is_since (Some since) rev = since == rev

-- the event doesn't follow on what is expected: an account that is lost, another revision or `data`
-- than the last ones, or any where there was none
abbrev pub strays : CommitEvent → Expect → Bool
strays e Expect.Start = is_some e.since
    || (is_some e.prev_data && not (is_root e.prev_data empty_root))
strays e (Expect.After head) = not (is_since e.since head.rev && is_root e.prev_data head.data_root)
strays e Expect.Lost = true

-- there is a gap before the event
abbrev pub is_gap : CommitEvent → Expect → Bool
is_gap e expect = strays e expect || list_any lacks_prev e.ops

-- the root that the operations start from
abbrev pub root_before : Expect → List ℕ
root_before Expect.Start = empty_root
root_before (Expect.After head) = head.data_root
root_before Expect.Lost = empty_root

-- The commit leads from the former root to `data`: without operations they are one, and else the
-- blocks show the step.
abbrev pub LeadsBy : List Op → BlockMap → List ℕ → List ℕ → Type 0
LeadsBy [] blocks former later = later ≡ former
LeadsBy (op ∷ ops) blocks former later = (F : List Item) × IsStep blocks former later (op ∷ ops) F

abbrev pub Leads : CommitEvent → BlockMap → List ℕ → List ℕ → Type 0
Leads e blocks former later = LeadsBy (edits_of e) blocks former later

-- the block of `data` is missing, or the link is that of the first block at fault
abbrev pub IsBadTree : BlockMap → List ℕ → List ℕ → Type 0
IsBadTree blocks later link = ((link ≡ later) × (finite.get blocks later ≡ None))
    ⊎ IsAtFault blocks later link

-- undoing the operations on the blocks' view leads back to this root
pub record LeadsBack (blocks : BlockMap) (later : List ℕ) (ops : List Op)
    (former : List ℕ) : Type 0 where
  pub list : List Item
  pub step : IsStep blocks former later ops list

-- why operations don't lead from the former root to `data`: the first of these that applies
abbrev pub StopsAt : List Op → BlockMap → List ℕ → List ℕ → Refusal → Type 0
StopsAt [] blocks former later (Refusal.OtherData want got) = (want ≡ former) × (got ≡ later)
    × (later ≢ former)
StopsAt [] blocks former later refusal = ⊥
StopsAt (op ∷ ops) blocks former later (Refusal.BadNode link) = IsBadTree blocks later link
StopsAt (op ∷ ops) blocks former later (Refusal.OtherOp i) = (F : List Item) × IsView blocks later F
    × IsFirst Disagrees F (op ∷ ops) i
StopsAt (op ∷ ops) blocks former later (Refusal.NotCovered i) = (F : List Item)
    × IsView blocks later F × IsFirst IsUncovered F (op ∷ ops) i
StopsAt (op ∷ ops) blocks former later (Refusal.OtherData want got) = (want ≡ former)
    × LeadsBack blocks later (op ∷ ops) got × (got ≢ former)
StopsAt (op ∷ ops) blocks former later refusal = ⊥

abbrev pub Stops : CommitEvent → BlockMap → List ℕ → List ℕ → Refusal → Type 0
Stops e blocks former later refusal = StopsAt (edits_of e) blocks former later refusal

-- the blocks that a step names: those of the view with the operations undone, and none without
-- operations
abbrev pub blocks_named : List Op → List Item → List (List ℕ)
blocks_named [] F = []
blocks_named (op ∷ ops) F = nodes (undone F (op ∷ ops))

-- Soundness: on every map whose tree has the former root, the operations play, and what they give
-- is a map whose tree has the later root, unless different blocks of that map's tree and of those
-- that the step names share a digest.
abbrev pub ReplaysBy : List Op → BlockMap → List ℕ → List ℕ → Type 0
ReplaysBy ops blocks former later = (s : List Item) → IsMap s → root s ≡ former
    → ((F : List Item) → IsView blocks later F → Distinct (nodes s ++ blocks_named ops F))
    → (t : List Item) × IsMap t × Plays s ops t × (root t ≡ later)

-- the operations play from a map with the former root to one with the later root, whose cover the
-- blocks hold
pub record IsCoveredBy (ops : List Op) (blocks : BlockMap) (former later : List ℕ) : Type 0 where
  pub before : List Item
  pub after : List Item
  pub is_map : IsMap before
  pub former_root : root before ≡ former
  pub later_root : root after ≡ later
  pub plays : Plays before ops after
  pub cover : HoldsCover blocks after ops
  pub distinct : AreDistinct blocks after

-- What a link that fails says.
use Rattle.std.specs.Prelude.{◌≡◌, ℕ, List, [], ◌∷◌, Option, Some, None}
use Rattle.at_car.specs.Blocks.{BlockMap}
use Rattle.mst_list.specs.declared.item.Item.{Item}
use Rattle.mst_list.specs.declared.op.Op.{Op}
use Rattle.mst_node.specs.Trees.{IsView}
use Rattle.commit_check.specs.declared.expect.Expect.{Expect}
use Rattle.commit_check.specs.declared.fault.CheckFault.{CheckFault}
use Rattle.commit_check.specs.declared.opened.Opened.{Opened}
use Rattle.at_event.specs.declared.event.CommitEvent.{CommitEvent}
use Rattle.commit_check.specs.Order.{StopsPast}
use Rattle.commit_check.specs.Refusing.{Tells}
use Rattle.commit_check.specs.Step.{LeadsBack, StopsAt, is_gap, root_before}

-- the root before the operations: the later one, where there are none
abbrev pub IsRootBefore : BlockMap → List ℕ → List Op → List ℕ → Type 0
IsRootBefore blocks later [] former = former ≡ later
IsRootBefore blocks later (op ∷ ops) former = LeadsBack blocks later (op ∷ ops) former

-- a view of the blocks under the root, where there are operations
abbrev pub IsAtHand : BlockMap → List ℕ → List Op → Option (List Item) → Type 0
IsAtHand blocks later [] tree = tree ≡ None
IsAtHand blocks later (op ∷ ops) None = ⊥
IsAtHand blocks later (op ∷ ops) (Some F) = IsView blocks later F

-- why operations don't lead back
abbrev pub IsStopBy : List Op → BlockMap → List ℕ → List ℕ → CheckFault → Type 0
IsStopBy ops blocks former later = Tells (StopsAt ops blocks former later)

-- why the commit isn't linked to what is expected: the first refusal that applies
abbrev pub IsUnlinked : CommitEvent → Opened → Expect → CheckFault → Type 0
IsUnlinked e o expect =
    Tells (StopsPast (is_gap e expect) e o.car.blocks (root_before expect) o.head.data_root)

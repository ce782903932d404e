-- The laws of trees: from links to maps.
use Rattle.std.specs.Prelude.{◌≡◌, ◌≢◌, ℕ, List, [], ◌++◌}
use Rattle.std.specs.FinMap.{FinMap}
use Rattle.at_cid.specs.Order.{key_cmp}
use Rattle.mst_list.specs.declared.item.Item.{Item}
use Rattle.mst_list.specs.declared.op.Op.{Op}
use Rattle.mst_list.specs.Lists.{IsWellLaid, IsMap}
use Rattle.mst_list.specs.Edits.{undone, Plays, IsGuarded, AllAgree, AreApart, AreFormedOps}
use Rattle.mst_node.specs.Trees.{root, nodes, Distinct, Fills, IsView}
use Rattle.mst_node.specs.FirstFault.{HasTopFault, in_part}
use Rattle.mst_node.specs.Covers.{HoldsCover, AreUnderNodeLinks, AreDistinct}

-- A map with the root of a well-laid list is the list with each hole filled, unless different
-- blocks of the two trees share a digest.
abbrev pub FillingLaw : Type 0
FillingLaw = (U s : List Item) → IsWellLaid U → IsMap s
    → root s ≡ root U → Distinct (nodes s ++ nodes U) → Fills s U

-- What fills a well-laid list with its operations undone, which are on different keys, agree with
-- the list and are guarded on it, plays to what fills the list.
abbrev pub ReplayLaw : Type 0
ReplayLaw = (F s : List Item) (ops : List Op) → IsWellLaid F → AreApart ops → AllAgree F ops
    → IsGuarded F ops → Fills s (undone F ops) → (t : List Item) × Plays s ops t × Fills t F

-- A well-laid list and a map that fills it have one root.
abbrev pub OneRootLaw : Type 0
OneRootLaw = (F s : List Item) → IsWellLaid F → Fills s F → root s ≡ root F

-- A step of a repository: the blocks have a view at the later root with which the operations agree,
-- on which they are guarded, and from which they lead back to the former root.
pub record IsStep (B : FinMap key_cmp (List ℕ)) (former later : List ℕ)
    (ops : List Op) (F : List Item) : Type 0 where
  pub is_view : IsView B later F
  pub agrees : AllAgree F ops
  pub guarded : IsGuarded F ops
  pub leads_back : root (undone F ops) ≡ former

-- A step from the root of s to the root of t, on a view that t fills.
pub record IsCoveredBy (B : FinMap key_cmp (List ℕ))
    (s t : List Item) (ops : List Op) (F : List Item) : Type 0 where
  pub step : IsStep B (root s) (root t) ops F
  pub fills : Fills t F

-- Where operations, at least one and on different keys, play on s and give t, and the blocks hold
-- the cover of t and them, there is such a view, unless different blocks share a digest: blocks
-- under links of kind Node, and those of the tree of t.
abbrev pub CoveringLaw : Type 0
CoveringLaw = (B : FinMap key_cmp (List ℕ)) (s t : List Item) (ops : List Op) → IsMap s
    → AreFormedOps ops → AreApart ops → ops ≢ [] → Plays s ops t → HoldsCover B t ops
    → AreUnderNodeLinks B → AreDistinct B t → (F : List Item) × IsCoveredBy B s t ops F

-- At most one list is a view of blocks at a link.
abbrev pub OneViewLaw : Type 0
OneViewLaw = (B : FinMap key_cmp (List ℕ)) (r : List ℕ) (F G : List Item)
    → IsView B r F → IsView B r G → F ≡ G

-- Where a block is at fault, no list is a view.
abbrev pub FaultLaw : Type 0
FaultLaw = (B : FinMap key_cmp (List ℕ)) (r f : List ℕ) (F : List Item)
    → HasTopFault in_part B r f → IsView B r F → ⊥

-- Soundness of a link: on every map with the former root, linked operations on different keys play,
-- and give a map whose tree has the later root, unless different blocks of that map's tree and of
-- the undone view share a digest.
abbrev pub SoundLinkLaw : Type 0
SoundLinkLaw = (B : FinMap key_cmp (List ℕ)) (former later : List ℕ) (ops : List Op)
    (F s : List Item) → IsStep B former later ops F → AreFormedOps ops → AreApart ops
    → IsMap s → root s ≡ former → Distinct (nodes s ++ nodes (undone F ops))
    → (t : List Item) × IsMap t × Plays s ops t × (root t ≡ later)

-- Completeness of a link: operations, at least one and on different keys, that play and whose cover
-- the blocks hold are linked, unless different blocks share a digest.
abbrev pub CompleteLinkLaw : Type 0
CompleteLinkLaw = (B : FinMap key_cmp (List ℕ)) (s t : List Item) (ops : List Op) → IsMap s
    → AreFormedOps ops → AreApart ops → ops ≢ [] → Plays s ops t → HoldsCover B t ops
    → AreUnderNodeLinks B → AreDistinct B t → (F : List Item) × IsStep B (root s) (root t) ops F

-- What a link says of maps, both ways.
use Rattle.std.proofs.Common.{◌≡◌, ◌≢◌, ℕ, List, [], ◌∷◌, ◌++◌, refl, sym, ◌∙◌}
use Rattle.std.specs.FinMap.{FinMap}
use Rattle.at_cid.specs.Order.{key_cmp}
use Rattle.mst_list.specs.declared.item.Item.{Item}
use Rattle.mst_list.specs.declared.op.Op.{Op}
use Rattle.mst_list.specs.Lists.{IsMap}
use Rattle.mst_list.specs.Edits.{undone, Plays, AreApart, AreFormedOps}
use Rattle.mst_list.proofs.Laid.{kept, replayed}
use Rattle.mst_node.specs.Trees.{root, nodes, Distinct, HoldsNode}
use Rattle.mst_node.specs.Covers.{HoldsCover, AreUnderNodeLinks, AreDistinct}
use Rattle.mst_node.proofs.Filling.{one_root}
use Rattle.mst_law.specs.Laws.{IsCoveredBy, IsStep}
use Rattle.mst_law.proofs.FillingLaw.{filling_law}
use Rattle.mst_law.proofs.Covering.{covered}

pub covering : (B : FinMap key_cmp (List ℕ)) (s t : List Item) (ops : List Op) → IsMap s → AreFormedOps ops → AreApart ops → ops ≢ [] → Plays s ops t → HoldsCover B t ops → AreUnderNodeLinks B → AreDistinct B t → (F : List Item) × IsCoveredBy B s t ops F
covering B s t [] m forms apart some plays cover under distinct = absurd (some refl)
covering B s t (op ∷ ops) m forms apart some plays cover under distinct = covered B s t op ops m forms apart plays cover under distinct

pub complete_link : (B : FinMap key_cmp (List ℕ)) (s t : List Item) (ops : List Op) → IsMap s → AreFormedOps ops → AreApart ops → ops ≢ [] → Plays s ops t → HoldsCover B t ops → AreUnderNodeLinks B → AreDistinct B t
    → (F : List Item) × IsStep B (root s) (root t) ops F
complete_link B s t ops m forms apart some plays cover under distinct =
    let c = covering B s t ops m forms apart some plays cover under distinct in
    (c.0, c.1.step)

pub sound_link : (B : FinMap key_cmp (List ℕ)) (former later : List ℕ) (ops : List Op) (F s : List Item) → IsStep B former later ops F → AreFormedOps ops → AreApart ops
    → IsMap s → root s ≡ former → Distinct (nodes s ++ nodes (undone F ops)) → (t : List Item) × IsMap t × Plays s ops t × (root t ≡ later)
sound_link B former later ops F s link forms apart m e d =
    let v = link.is_view in
    let w = (kept F ops v.well_laid forms apart link.agrees link.guarded).well_laid in
    let R = replayed HoldsNode F s ops v.well_laid apart link.agrees link.guarded m (filling_law (undone F ops) s w m (e ∙ sym link.leads_back) d) in
    (R.result, R.is_map, R.plays, one_root F R.result v.well_laid R.fills ∙ v.root_is)

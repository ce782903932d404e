-- Marks at the places of blocks' links.
use Rattle.std.proofs.Common.{◌≡◌, ℕ, Bool, true, List, [], ◌∷◌, cond, sym, ap, ◌∙◌, Some, Less, Equal, Greater, refl}
use Rattle.std.specs.declared.cmp.Ordering.{Ordering}
use Rattle.std.specs.Ordering.{is_eq}
use Rattle.std.specs.FinMap as map
use Rattle.std.specs.FinMap.{find, get-entries}
use Rattle.std.specs.List.{All}
use Rattle.std.proofs.lemmas.List.Elements.{All-head, All-tail}
use Rattle.at_cid.specs.Order.{key_cmp}
use Rattle.at_cid.proofs.Order.{cmp_exact}
use Rattle.at_car.specs.Blocks.{BlockMap}
use Rattle.mst_view.specs.AtHand.{is_marked, AreMarked}

-- there is a mark for an entry's link
abbrev pub IsMarked : List Bool → List ℕ × List ℕ → Type 0
IsMarked marks entry = is_marked marks entry.0 ≡ true

found_marked : (marks : List Bool) (es : List (List ℕ × List ℕ)) (link block : List ℕ) → All (IsMarked marks) es → find key_cmp link es ≡ Some block → is_marked marks link ≡ true
found_marked marks [] link block marked is = absurd cc
found_marked marks (e ∷ es) link block marked is =
    elim (key_cmp link e.0) as (λ (o : Ordering). key_cmp link e.0 ≡ o → cond (is_eq o) (Some e.1) (find key_cmp link es) ≡ Some block → is_marked marks link ≡ true) [
      | Less ↦ λ o later. found_marked marks es link block (All-tail (IsMarked marks) e es marked) later
      | Equal ↦ λ o here. ap (is_marked marks) (cmp_exact link e.0 o) ∙ All-head (IsMarked marks) e es marked
      | Greater ↦ λ o later. found_marked marks es link block (All-tail (IsMarked marks) e es marked) later
    ] refl is

pub all_marked : (marks : List Bool) (blocks : BlockMap) → All (IsMarked marks) (map.entries blocks) → AreMarked marks blocks
all_marked marks blocks marked link block is = found_marked marks (map.entries blocks) link block marked (sym (get-entries blocks link) ∙ is)

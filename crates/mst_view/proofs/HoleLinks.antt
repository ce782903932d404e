-- Links of holes.
use Rattle.std.proofs.Common.{◌≡◌, ℕ, zero, suc, ◌+◌, ◌<◌, subst, arith, Bool, true, false, not, List, [], ◌∷◌, ◌++◌, length, drop, get_or, refl, sym, ap, ◌∙◌, drop-cons}
use Rattle.mst_list.specs.declared.item.Item.{Item}
use Rattle.mst_list.specs.declared.item.Item.TheVariants.{Key, Hole}
use Rattle.mst_view.specs.Layered.{LiesBelow, AllAt, below_items, rest_items}
use Rattle.mst_view.specs.declared.branch.Part.{Part}
use Rattle.mst_view.specs.HoleLinks.{hole_links}

pub links_joined : (F G : List Item) → hole_links (F ++ G) ≡ hole_links F ++ hole_links G
links_joined [] G = refl
links_joined (Key k v ∷ F) G = links_joined F G
links_joined (Hole l c ∷ F) G = ap (λ x. c ∷ x) (links_joined F G)

-- the links from a place on
pub from_place : (ds : List (List ℕ)) (i n : ℕ) (x : List ℕ) → i + 1 ≡ n → i < length ds → x ≡ get_or ds i x → drop i ds ≡ x ∷ drop n ds
from_place ds i n x e low is = let next : suc i ≡ n = omega arith in drop-cons ds i x low ∙ ap (λ y. y ∷ drop (suc i) ds) (sym is) ∙ ap (λ m. x ∷ drop m ds) next

pub not_not : (a b : Bool) → a ≡ not b → not a ≡ b
not_not a true e = rw e refl
not_not a false e = rw e refl

-- one part's holes
pub links_at : (h : ℕ) (parts : List Part) (i : ℕ) (p : Part) → i < length parts → p ≡ get_or parts i p → hole_links (rest_items h (drop i parts)) ≡ hole_links (below_items h p.below) ++ hole_links (rest_items h (drop (suc i) parts))
links_at h parts i p low is =
    ap (λ x. hole_links (rest_items h x)) (drop-cons parts i p low ∙ ap (λ x. x ∷ drop (suc i) parts) (sym is)) ∙ links_joined (below_items h p.below) (rest_items h (drop (suc i) parts))

pub part_lies : (h : ℕ) (parts : List Part) (i : ℕ) (p : Part) → AllAt h parts → i < length parts → p ≡ get_or parts i p → LiesBelow h p.below
part_lies h [] i p l low is = absurd (omega arith)
part_lies h (q ∷ parts) zero p l low is = let R : Part → Type 0 = λ x. LiesBelow h x.below in subst R (sym is) l.1
part_lies h (q ∷ parts) (suc i) p l low is = part_lies h parts i p l.2 (omega arith) is

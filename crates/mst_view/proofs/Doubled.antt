-- Holes whose links differ, or of which one stands twice.
use Rattle.std.proofs.Common.{◌≡◌, ℕ, true, false, not, List, [], ◌∷◌, refl, sym}
use Rattle.mst_list.specs.declared.item.Item.{Item}
use Rattle.mst_list.specs.declared.item.Item.TheVariants.{Key, Hole}
use Rattle.std.specs.Str.{bytes_eq}
use Rattle.std.proofs.lemmas.Slice.Eq.{bytes_eq-Decides}
use Rattle.at_cid.specs.Distinct.{is_absent, all_differ}
use Rattle.mst_list.specs.Lists.{NoHoleOf, HolesDiffer}
use Rattle.mst_node.proofs.Told.{both_true}
use Rattle.mst_view.specs.HoleLinks.{hole_links}

pub no_hole_true : (c : List ℕ) (F : List Item) → is_absent bytes_eq c (hole_links F) ≡ true → NoHoleOf c F
no_hole_true c [] e = tt
no_hole_true c (Key k v ∷ F) e = no_hole_true c F e
no_hole_true c (Hole l d ∷ F) e =
    let p = both_true (not (bytes_eq d c)) (is_absent bytes_eq c (hole_links F)) e in
    (λ same. let tied : bytes_eq d c ≡ true = (bytes_eq-Decides d c).1 (sym same) in let on : not (bytes_eq d c) ≡ false = rw tied refl in absurd (let first = p.0 in cc), no_hole_true c F p.1)

pub differ_true : (F : List Item) → all_differ bytes_eq (hole_links F) ≡ true → HolesDiffer F
differ_true [] e = tt
differ_true (Key k v ∷ F) e = differ_true F e
differ_true (Hole l c ∷ F) e = let p = both_true (is_absent bytes_eq c (hole_links F)) (all_differ bytes_eq (hole_links F)) e in (no_hole_true c F p.0, differ_true F p.1)

pub true_no_hole : (c : List ℕ) (F : List Item) → NoHoleOf c F → is_absent bytes_eq c (hole_links F) ≡ true
true_no_hole c [] h = refl
true_no_hole c (Key k v ∷ F) h = true_no_hole c F h
true_no_hole c (Hole l d ∷ F) h =
    let other : not (bytes_eq d c) ≡ true = elim (bytes_eq d c) as (λ o. bytes_eq d c ≡ o → not o ≡ true) [ true ↦ λ e. absurd (h.0 (sym ((bytes_eq-Decides d c).0 e))) | false ↦ λ e. refl ] refl in
    rw other (true_no_hole c F h.1)

pub true_differ : (F : List Item) → HolesDiffer F → all_differ bytes_eq (hole_links F) ≡ true
true_differ [] h = refl
true_differ (Key k v ∷ F) h = true_differ F h
true_differ (Hole l c ∷ F) h = rw (true_no_hole c F h.0) (true_differ F h.1)

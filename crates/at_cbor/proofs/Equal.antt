-- Lists of values that are compared place by place.
use Rattle.std.proofs.Common.{◌≡◌, ℕ, suc, Bool, true, false, ◌&&◌, List, [], ◌∷◌, length, map, refl, ap, ◌∙◌}
use Rattle.std.specs.Str.{bytes_eq}
use Rattle.at_cbor.specs.declared.value.Value.{Value}
use Rattle.at_cbor.specs.Equal.{item_eq, items_eq, fields_eq}
use Rattle.at_cbor.specs.Item.{items_of, fields_of}
use Rattle.at_cbor.specs.View.{item_of, pair_of}

nor_so : (a : Bool) → false ≡ (a && false)
nor_so true = refl
nor_so false = refl

-- lists of two lengths are not the same
pub values_differ : (vs ws : List Value) → (length vs ≡ length ws → ⊥) → false ≡ items_eq (items_of (map item_of vs)) (items_of (map item_of ws))
values_differ [] [] h = absurd (h refl)
values_differ [] (w ∷ ws) h = refl
values_differ (v ∷ vs) [] h = refl
values_differ (v ∷ vs) (w ∷ ws) h = nor_so (item_eq (item_of v) (item_of w)) ∙ ap (λ (b : Bool). item_eq (item_of v) (item_of w) && b) (values_differ vs ws (λ e. h (ap suc e)))

pub fields_differ : (fs gs : List (List ℕ × Value)) → (length fs ≡ length gs → ⊥) → false ≡ fields_eq (fields_of (map pair_of fs)) (fields_of (map pair_of gs))
fields_differ [] [] h = absurd (h refl)
fields_differ [] (g ∷ gs) h = refl
fields_differ (f ∷ fs) [] h = refl
fields_differ (f ∷ fs) (g ∷ gs) h =
    nor_so (bytes_eq f.0 g.0)
    ∙ ap (λ (b : Bool). bytes_eq f.0 g.0 && b) (nor_so (item_eq (item_of f.1) (item_of g.1)) ∙ ap (λ (b : Bool). item_eq (item_of f.1) (item_of g.1) && b) (fields_differ fs gs (λ e. h (ap suc e))))

-- Edits of a vector at a key's place.
use Rattle.std.proofs.Common.{◌≡◌, ℕ, ◌<◌, ◌≤◌, List, [], ◌∷◌, ◌++◌, length, set, insert, remove, refl, sym, ap, ◌∙◌, Option, Some, None, is_some, true, false, arith, length-append}
use Rattle.std.proofs.Math.Seq.{set-append_seam, take-append_seam, drop-append_seam}
use Rattle.mst_list.specs.declared.item.Item.{Item}
use Rattle.mst_list.specs.declared.item.Item.TheVariants.{Key}
use Rattle.mst_list.specs.Edits.{before, after, value_at, with_value, put}
use Rattle.mst_list.proofs.Places.{rebuilt}

-- the list round a visible key
pub visible_round : (k w : List ℕ) (F : List Item) → value_at k F ≡ Some w → F ≡ before k F ++ (Key k w ∷ after k F)
visible_round k w F e = sym (rebuilt k F) ∙ ap (λ o. before k F ++ (with_value k o ++ after k F)) e

-- the list round a key that isn't visible
pub absent_round : (k : List ℕ) (F : List Item) → value_at k F ≡ None → F ≡ before k F ++ after k F
absent_round k F e = sym (rebuilt k F) ∙ ap (λ o. before k F ++ (with_value k o ++ after k F)) e

pub place_at_most : (k : List ℕ) (F : List Item) → length (before k F) ≤ length F
place_at_most k F = let e = ap length (rebuilt k F) in let n = length-append (before k F) (with_value k (value_at k F) ++ after k F) in omega arith

pub place_below : (k w : List ℕ) (F : List Item) → value_at k F ≡ Some w → length (before k F) < length F
place_below k w F v = let e = ap length (visible_round k w F v) in let n = length-append (before k F) (Key k w ∷ after k F) in omega arith

set_round : (k w : List ℕ) (x : Item) (F : List Item) → value_at k F ≡ Some w → set F (length (before k F)) x ≡ before k F ++ (x ∷ after k F)
set_round k w x F e =
    ap (λ G. set G (length (before k F)) x) (visible_round k w F e) ∙ set-append_seam (before k F) (Key k w) (after k F) x

pub set_put : (k v w : List ℕ) (F : List Item) → value_at k F ≡ Some w → set F (length (before k F)) (Key k v) ≡ put k (Some v) F
set_put k v w F e = set_round k w (Key k v) F e

insert_seam : (A Y : List Item) (x : Item) → insert (A ++ Y) (length A) x ≡ A ++ (x ∷ Y)
insert_seam A Y x = rw (take-append_seam A Y, drop-append_seam A Y) refl

pub insert_round : (k : List ℕ) (x : Item) (F : List Item) → value_at k F ≡ None → insert F (length (before k F)) x ≡ before k F ++ (x ∷ after k F)
insert_round k x F e =
    ap (λ G. insert G (length (before k F)) x) (absent_round k F e) ∙ insert_seam (before k F) (after k F) x

pub insert_put : (k v : List ℕ) (F : List Item) → value_at k F ≡ None → insert F (length (before k F)) (Key k v) ≡ put k (Some v) F
insert_put k v F e = insert_round k (Key k v) F e

remove_seam : (A Y : List Item) (x : Item) → remove (A ++ (x ∷ Y)) (length A) ≡ A ++ Y
remove_seam [] Y x = refl
remove_seam (y ∷ A) Y x = ap (λ G. y ∷ G) (remove_seam A Y x)

pub remove_put : (k w : List ℕ) (F : List Item) → value_at k F ≡ Some w → remove F (length (before k F)) ≡ put k None F
remove_put k w F e =
    ap (λ G. remove G (length (before k F))) (visible_round k w F e) ∙ remove_seam (before k F) (after k F) (Key k w)

-- the same by what the program knows
pub record IsVisible (k : List ℕ) (F : List Item) : Type 0 where
  pub value : List ℕ
  pub is : value_at k F ≡ Some value

pub visible : (k : List ℕ) (F : List Item) → is_some (value_at k F) ≡ true → IsVisible k F
visible k F e = go (value_at k F) refl e
  where
    go : (o : Option (List ℕ)) → value_at k F ≡ o → is_some o ≡ true → IsVisible k F
    go (Some w) h e = record { value = w; is = h }
    go None h e = absurd (cc)

pub absent : (k : List ℕ) (F : List Item) → is_some (value_at k F) ≡ false → value_at k F ≡ None
absent k F e = go (value_at k F) refl e
  where
    go : (o : Option (List ℕ)) → value_at k F ≡ o → is_some o ≡ false → value_at k F ≡ None
    go (Some w) h e = absurd (cc)
    go None h e = h

pub in_range : (k : List ℕ) (F : List Item) → is_some (value_at k F) ≡ true → length (before k F) < length F
in_range k F e = let v = visible k F e in place_below k v.value F v.is

pub set_visible : (k : List ℕ) (x : Item) (F : List Item) → is_some (value_at k F) ≡ true → set F (length (before k F)) x ≡ before k F ++ (x ∷ after k F)
set_visible k x F e = let w = visible k F e in set_round k w.value x F w.is

pub put_visible : (k v : List ℕ) (F : List Item) → is_some (value_at k F) ≡ true → set F (length (before k F)) (Key k v) ≡ put k (Some v) F
put_visible k v F e = let w = visible k F e in set_put k v w.value F w.is

pub put_absent : (k v : List ℕ) (F : List Item) → is_some (value_at k F) ≡ false → insert F (length (before k F)) (Key k v) ≡ put k (Some v) F
put_absent k v F e = insert_put k v F (absent k F e)

pub cut_visible : (k : List ℕ) (F : List Item) → is_some (value_at k F) ≡ true → remove F (length (before k F)) ≡ put k None F
cut_visible k F e = let w = visible k F e in remove_put k w.value F w.is

pub cut_absent : (k : List ℕ) (F : List Item) → is_some (value_at k F) ≡ false → F ≡ put k None F
cut_absent k F e = absent_round k F (absent k F e)

-- A front of a list with one element more.
use Rattle.std.proofs.Common.{◌≡◌, ◌∙◌, ℕ, zero, suc, ◌+◌, add-one, List, [], ◌∷◌, ◌++◌, Some, sym, ap, take}
use Rattle.std.specs.List.{flat_map, slice_get}
use Rattle.std.proofs.lemmas.List.{flat_map_more}

take_more : {X : Type 0} (xs : List X) (n : ℕ) (x : X) → slice_get xs n ≡ Some x → take (suc n) xs ≡ take n xs ++ x ∷ []
take_more [] n x is = absurd (cc)
take_more (y ∷ xs) zero x is = cc
take_more {X = X} (y ∷ xs) (suc n) x is = ap (λ (l : List X). y ∷ l) (take_more xs n x is)

-- what is made of the front of a list, with one element more
pub made_more : {X : Type 0} (f : X → List ℕ) (xs : List X) (n : ℕ) (x : X) (made now : List ℕ) → slice_get xs n ≡ Some x → made ≡ flat_map f (take n xs) → now ≡ made ++ f x → now ≡ flat_map f (take (n + 1) xs)
made_more f xs n x made now is so_far more = more ∙ ap (λ (l : List ℕ). l ++ f x) so_far ∙ flat_map_more f [] (take n xs) x ∙ ap (flat_map f) (sym (ap (λ (m : ℕ). take m xs) (add-one n) ∙ take_more xs n x is))

-- What a comparison of two links, or of two values of a key, tells.
use Rattle.std.proofs.Common.{◌≡◌, ◌≢◌, ℕ, List, Bool, true, false, not, eqb, refl, sym, ap, ◌∙◌, Option, Some, None}
use Rattle.std.specs.Option.{option_eq}
use Rattle.std.specs.Cmp.Lexicographic.{pointwise}
use Rattle.std.proofs.lemmas.Bool.Decides.{Decides-eqb}
use Rattle.std.proofs.lemmas.Slice.Eq.{slice_eq-Decides}

yes : (b : Bool) → false ≡ not b → true ≡ b
yes true e = refl
yes false e = absurd cc

no_test : (b : Bool) → true ≡ not b → false ≡ b
no_test true e = absurd cc
no_test false e = refl

pub link_same : (r : Bool) (xs ys : List ℕ) → r ≡ not (pointwise eqb xs ys) → r ≡ false → xs ≡ ys
link_same r xs ys e is = (slice_eq-Decides Decides-eqb xs ys true (yes (pointwise eqb xs ys) (sym is ∙ e))).0 refl

link_differs : (xs ys : List ℕ) → true ≡ not (pointwise eqb xs ys) → xs ≢ ys
link_differs xs ys e same = let t = (slice_eq-Decides Decides-eqb xs ys false (no_test (pointwise eqb xs ys) e)).1 same in absurd cc

pub value_same : (r : Bool) (a b : Option (List ℕ)) → r ≡ not (option_eq (pointwise eqb) a b) → r ≡ false → a ≡ b
value_same r None None e is = refl
value_same r None (Some y) e is = absurd cc
value_same r (Some x) None e is = absurd cc
value_same r (Some x) (Some y) e is = ap Some (link_same r x y e is)

pub value_differs : (r : Bool) (a b : Option (List ℕ)) → r ≡ not (option_eq (pointwise eqb) a b) → r ≡ true → a ≢ b
value_differs r None None e is = absurd cc
value_differs r None (Some y) e is = λ same. absurd cc
value_differs r (Some x) None e is = λ same. absurd cc
value_differs r (Some x) (Some y) e is = λ same. link_differs x y (sym is ∙ e) (let inside : x ≡ y = cc in inside)

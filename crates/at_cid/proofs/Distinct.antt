-- Lists in which no two are equal, where those behind a place are held by a search tree.
use Rattle.std.proofs.Common.{◌≡◌, ℕ, zero, suc, Bool, true, false, not, cond, ◌&&◌, List, [], ◌∷◌, drop, refl, ap, ◌∙◌, nat_cmp}
use Rattle.std.specs.BTreeMap.{is_at}
use Rattle.std.specs.Cmp.Lexicographic.{slice_cmp}
use Rattle.std.specs.Str.{bytes_eq}
use Rattle.std.proofs.lemmas.Map.Text.{is_eq-slice_cmp}
use Rattle.at_cid.specs.Distinct.{is_absent, all_differ}
use Rattle.at_cid.specs.Order.{key_cmp}

and_false : (b : Bool) → b && false ≡ false
and_false true = refl
and_false false = refl

-- where two are equal behind a place, two are among all
pub equal_behind : {A : Type 0} (equal : A → A → Bool) (place : ℕ) (xs : List A) → all_differ equal (drop place xs) ≡ false → all_differ equal xs ≡ false
equal_behind equal zero xs e = e
equal_behind equal (suc place) [] e = e
equal_behind equal (suc place) (x ∷ xs) e = rw (equal_behind equal place xs e) (and_false (is_absent equal x xs))

one_more : (same : Bool) (b : Bool) → cond same true (not b) ≡ not (not same && b)
one_more true b = refl
one_more false b = refl

-- what a search tree of these lists of bytes tells of one, once another is put in
pub text_seen : (x put : List ℕ) (xs : List (List ℕ)) → cond (is_at (slice_cmp nat_cmp put) x) true (not (is_absent bytes_eq x xs)) ≡ not (is_absent bytes_eq x (put ∷ xs))
text_seen x put xs = ap (λ b. cond b true (not (is_absent bytes_eq x xs))) (is_eq-slice_cmp put x) ∙ one_more (bytes_eq put x) (is_absent bytes_eq x xs)

-- the same of links
pub link_seen : (x put : List ℕ) (xs : List (List ℕ)) → cond (is_at (key_cmp put) x) true (not (is_absent bytes_eq x xs)) ≡ not (is_absent bytes_eq x (put ∷ xs))
unfolding key_cmp
link_seen x put xs = text_seen x put xs

-- Numbers that are looked for by their marks.
use Rattle.std.proofs.Common.{◌≡◌, ℕ, suc, ◌+◌, ◌-◌, ◌<◌, ◌≤◌, ◌%◌, inl, inr, drop-cons, length-drop, take, Bool, true, false, not, ◌&&◌, ◌||◌, List, [], ◌∷◌, length, get_or, drop, refl, sym, ap, ◌∙◌, arith}
use Rattle.std.specs.Prelude.{nat_eq, slice_index_or, slice_set}
use Rattle.std.specs.List.{list_all, list_any}
use Rattle.std.proofs.Math.Seq.{take-length}
use Rattle.std.proofs.lemmas.Bool.{eqb-true}
use Rattle.std.proofs.lemmas.Bool.Decides.{eqb_tells}
use Rattle.std.proofs.lemmas.Grind.{get_or-set_at}
use Rattle.std.proofs.lemmas.List.{get_or-set_other}
use Rattle.at_cid.specs.Distinct.{is_absent}
use Rattle.mst_view.specs.declared.beginning.TheConstants.{WORD_MARKS}

-- whether there is a mark at the place of a number
abbrev pub is_word_marked : List Bool → ℕ → Bool
is_word_marked marks word = slice_index_or marks (word % WORD_MARKS) false

-- the numbers from a place on
pub from_word : (ws : List ℕ) (i n : ℕ) → i + 1 ≡ n → i < length ws → drop i ws ≡ get_or ws i 0 ∷ drop n ws
from_word ws i n e low = let next : suc i ≡ n = omega arith in drop-cons ws i 0 low ∙ ap (λ m. get_or ws i 0 ∷ drop m ws) next

-- those behind a place, as a slice
pub slice_from : (ws : List ℕ) (i n : ℕ) → i ≡ n → n ≤ length ws → take (length ws - i) (drop i ws) ≡ drop n ws
slice_from ws i n e low =
    ap (λ m. take (length ws - m) (drop m ws)) e ∙ ap (λ m. take m (drop n ws)) (sym (length-drop n ws)) ∙ take-length (drop n ws)

join : (a b : Bool) → a ≡ true → b ≡ true → a && b ≡ true
join a b e f = rw (e, f) refl

both : (a b : Bool) → (a && b) ≡ true → (a ≡ true) × (b ≡ true)
both true b e = (refl, e)
both false b e = absurd cc

neither : (a b : Bool) → (a || b) ≡ false → (a ≡ false) × (b ≡ false)
neither false b e = (refl, e)
neither true b e = absurd cc

-- a number that isn't among these is new
pub uncontained_new : (w : ℕ) (ws : List ℕ) → list_any (λ y. nat_eq y w) ws ≡ false → is_absent nat_eq w ws ≡ true
uncontained_new w [] e = refl
uncontained_new w (v ∷ ws) e =
    let n = neither (nat_eq v w) (list_any (λ y. nat_eq y w) ws) e in
    join (not (nat_eq v w)) (is_absent nat_eq w ws) (ap not n.0) (uncontained_new w ws n.1)

-- a number at whose place there is no mark is new
pub unmarked_new : (marks : List Bool) (w : ℕ) (ws : List ℕ) → list_all (is_word_marked marks) ws ≡ true → is_word_marked marks w ≡ false → is_absent nat_eq w ws ≡ true
unmarked_new marks w [] all un = refl
unmarked_new marks w (v ∷ ws) all un =
    let b = both (is_word_marked marks v) (list_all (is_word_marked marks) ws) all in
    join (not (nat_eq v w)) (is_absent nat_eq w ws) (apart (nat_eq v w) refl b.0) (unmarked_new marks w ws b.1 un)
  where
    apart : (t : Bool) → nat_eq v w ≡ t → is_word_marked marks v ≡ true → not t ≡ true
    apart false e m = refl
    apart true e m = let same : v ≡ w = eqb-true v w e in let twice : is_word_marked marks w ≡ true = ap (is_word_marked marks) (sym same) ∙ m in absurd cc

mark_more : (marks : List Bool) (p i : ℕ) → p < length marks → slice_index_or marks i false ≡ true → slice_index_or (slice_set marks p true) i false ≡ true
mark_more marks p i low m = elim (eqb_tells i p) [
  | inl e ↦ get_or-set_at marks p i true false e.1 low
  | inr e ↦ get_or-set_other marks p i true false e.1 ∙ m
]

-- more marks keep what is marked
pub marks_more : (marks : List Bool) (p : ℕ) (ws : List ℕ) → p < length marks → list_all (is_word_marked marks) ws ≡ true → list_all (is_word_marked (slice_set marks p true)) ws ≡ true
marks_more marks p [] low all = refl
marks_more marks p (v ∷ ws) low all =
    let b = both (is_word_marked marks v) (list_all (is_word_marked marks) ws) all in
    join (is_word_marked (slice_set marks p true) v) (list_all (is_word_marked (slice_set marks p true)) ws) (mark_more marks p (v % WORD_MARKS) low b.0) (marks_more marks p ws low b.1)

-- a number that is marked, and those behind it
pub marked_on : (marks : List Bool) (p w : ℕ) (ws : List ℕ) → p ≡ w % WORD_MARKS → p < length marks → list_all (is_word_marked marks) ws ≡ true → list_all (is_word_marked (slice_set marks p true)) (w ∷ ws) ≡ true
marked_on marks p w ws is low all =
    join (is_word_marked (slice_set marks p true) w) (list_all (is_word_marked (slice_set marks p true)) ws) (get_or-set_at marks p (w % WORD_MARKS) true false (sym is) low) (marks_more marks p ws low all)

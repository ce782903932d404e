-- Laws of the order of bytes.
use Rattle.std.proofs.Common.{◌≡◌, ℕ, List, [], ◌∷◌, length, true, refl, sym, ap, ◌∙◌, arith, Less, Equal, Greater}
use Rattle.std.specs.Prelude.{◌==◌, ◌&&◌, ◌||◌, slice_index}
use Rattle.std.proofs.lemmas.Bool.{false≢true}
use Rattle.std.proofs.lemmas.Bool.Decides.{nat_tests}
use Rattle.std.proofs.lemmas.Grind.{common_steps}
use Rattle.std.specs.Ordering.{ordering_reverse}
use Rattle.std.proofs.lemmas.Cmp.{nat_cmp_total, nat_list_cmp_total, tied_itself}
use Rattle.std.specs.FinMap.{slice_cmp-IsAntisymmetric, nat_cmp-IsAntisymmetric}
use Rattle.at_cid.specs.Link.{is_link, digest_of}
use Rattle.at_cid.specs.Order.{key_cmp}

pub cmp_trans : (a b c : List ℕ) → key_cmp a b ≡ Less → key_cmp b c ≡ Less → key_cmp a c ≡ Less
unfolding key_cmp
cmp_trans a b c p q = nat_list_cmp_total.trans a b c p q

pub cmp_same : (a : List ℕ) → key_cmp a a ≡ Equal
unfolding key_cmp
cmp_same a = tied_itself nat_list_cmp_total a

pub cmp_exact : (a b : List ℕ) → key_cmp a b ≡ Equal → a ≡ b
unfolding key_cmp
cmp_exact a b e = slice_cmp-IsAntisymmetric nat_cmp-IsAntisymmetric a b e

pub cmp_back : (a b : List ℕ) → key_cmp a b ≡ ordering_reverse (key_cmp b a)
unfolding key_cmp
cmp_back a b = nat_list_cmp_total.antisymm a b

pub cmp_above : (a b : List ℕ) → key_cmp a b ≡ Less → key_cmp b a ≡ Greater
cmp_above a b e = cmp_back b a ∙ ap ordering_reverse e

pub cmp_below : (a b : List ℕ) → key_cmp a b ≡ Greater → key_cmp b a ≡ Less
cmp_below a b e = cmp_back b a ∙ ap ordering_reverse e

-- what stands before a digest, besides the kind
record Front (a c d : ℕ) : Type 0 where
  version : a ≡ 1
  hash : c ≡ 0x12
  size : d ≡ 0x20

front_is : (a b c d : ℕ) (digest : List ℕ) → (a == 1 && (b == 0x71 || b == 0x55) && c == 0x12 && d == 0x20 && length digest == 32) ≡ true → Front a c d
front_is a b c d digest h = record { version = grind (arith, nat_tests, common_steps); hash = grind (arith, nat_tests, common_steps); size = grind (arith, nat_tests, common_steps) }

same_front : (a : ℕ) (x y : List ℕ) → key_cmp (a ∷ x) (a ∷ y) ≡ key_cmp x y
unfolding key_cmp
same_front a x y = rw (tied_itself nat_cmp_total a) refl

-- links of one kind compare as their digests
pub cmp_digests : (x y : List ℕ) → is_link x ≡ true → is_link y ≡ true → slice_index x 1 ≡ slice_index y 1 → key_cmp (digest_of x) (digest_of y) ≡ key_cmp x y
cmp_digests [] y h k e = absurd (false≢true h)
cmp_digests (a ∷ []) y h k e = absurd (false≢true h)
cmp_digests (a ∷ b ∷ []) y h k e = absurd (false≢true h)
cmp_digests (a ∷ b ∷ c ∷ []) y h k e = absurd (false≢true h)
cmp_digests (a ∷ b ∷ c ∷ d ∷ x) [] h k e = absurd (false≢true k)
cmp_digests (a ∷ b ∷ c ∷ d ∷ x) (p ∷ []) h k e = absurd (false≢true k)
cmp_digests (a ∷ b ∷ c ∷ d ∷ x) (p ∷ q ∷ []) h k e = absurd (false≢true k)
cmp_digests (a ∷ b ∷ c ∷ d ∷ x) (p ∷ q ∷ r ∷ []) h k e = absurd (false≢true k)
cmp_digests (a ∷ b ∷ c ∷ d ∷ x) (p ∷ q ∷ r ∷ s ∷ y) h k e =
    let f = front_is a b c d x h in let g = front_is p q r s y k in
    sym (
    ap (λ (n : ℕ). key_cmp (n ∷ b ∷ c ∷ d ∷ x) (p ∷ q ∷ r ∷ s ∷ y)) (f.version ∙ sym g.version) ∙ same_front p (b ∷ c ∷ d ∷ x) (q ∷ r ∷ s ∷ y)
    ∙ ap (λ (n : ℕ). key_cmp (n ∷ c ∷ d ∷ x) (q ∷ r ∷ s ∷ y)) e ∙ same_front q (c ∷ d ∷ x) (r ∷ s ∷ y)
    ∙ ap (λ (n : ℕ). key_cmp (n ∷ d ∷ x) (r ∷ s ∷ y)) (f.hash ∙ sym g.hash) ∙ same_front r (d ∷ x) (s ∷ y)
    ∙ ap (λ (n : ℕ). key_cmp (n ∷ x) (s ∷ y)) (f.size ∙ sym g.size) ∙ same_front s x y)

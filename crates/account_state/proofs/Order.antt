-- The order of DIDs.
use Rattle.std.proofs.Common.{◌≡◌, ℕ, Bool, true, false, List, refl, sym, ap, ◌∙◌, Less, Equal, Greater}
use Rattle.std.specs.Cmp.Lexicographic.{slice_cmp}
use Rattle.std.specs.Ordering.{nat_cmp, is_eq, is_lt, ordering_reverse}
use Rattle.std.specs.Str.{bytes_eq}
use Rattle.std.specs.declared.cmp.Ordering.{Ordering}
use Rattle.std.proofs.lemmas.Cmp.{nat_list_cmp_total}
use Rattle.std.proofs.lemmas.Map.Text.{is_eq-slice_cmp}
use Rattle.std.proofs.lemmas.Slice.Eq.{bytes_eq-Decides}
use Rattle.account_state.specs.Entries.{is_before}

abbrev pub cmp : List ℕ → List ℕ → Ordering
cmp a b = slice_cmp nat_cmp a b

less_from : (o : Ordering) → is_lt o ≡ true → o ≡ Less
less_from Less e = refl
less_from Equal e = absurd cc
less_from Greater e = absurd cc

pub less : (a b : List ℕ) → is_before a b ≡ true → cmp a b ≡ Less
less a b h = less_from (cmp a b) h

pub before_less : (a b : List ℕ) → cmp a b ≡ Less → is_before a b ≡ true
before_less a b h = ap is_lt h

pub before_greater : (a b : List ℕ) → cmp a b ≡ Greater → is_before b a ≡ true
before_greater a b h = before_less b a (nat_list_cmp_total.antisymm b a ∙ ap ordering_reverse h)

pub same_text : (a b : List ℕ) → bytes_eq a b ≡ true → a ≡ b
same_text a b h = (bytes_eq-Decides a b).0 h

pub is_text : (a b : List ℕ) → a ≡ b → bytes_eq a b ≡ true
is_text a b h = (bytes_eq-Decides a b).1 h

pub equal_is : (a b : List ℕ) → cmp a b ≡ Equal → a ≡ b
equal_is a b h = same_text a b (sym (is_eq-slice_cmp a b) ∙ ap is_eq h)

pub before_apart : (a b : List ℕ) → is_before a b ≡ true → bytes_eq a b ≡ false
before_apart a b h = sym (is_eq-slice_cmp a b) ∙ ap is_eq (less a b h)

above_is : (a b : List ℕ) → is_before a b ≡ true → cmp b a ≡ Greater
above_is a b h = nat_list_cmp_total.antisymm b a ∙ ap ordering_reverse (less a b h)

pub behind_apart : (a b : List ℕ) → is_before a b ≡ true → bytes_eq b a ≡ false
behind_apart a b h = sym (is_eq-slice_cmp b a) ∙ ap is_eq (above_is a b h)

-- none stands before what it stands behind
pub not_back : (a b : List ℕ) → is_before a b ≡ true → is_before b a ≡ false
not_back a b h = ap is_lt (above_is a b h)

pub before_trans : (a b c : List ℕ) → is_before a b ≡ true → is_before b c ≡ true → is_before a c ≡ true
before_trans a b c h k = before_less a c (nat_list_cmp_total.trans a b c (less a b h) (less b c k))

total_by : (a b : List ℕ) (o : Ordering) → cmp a b ≡ o → is_lt o ≡ false → is_eq o ≡ false → is_before b a ≡ true
total_by a b Less e h k = absurd cc
total_by a b Equal e h k = absurd cc
total_by a b Greater e h k = before_greater a b e

-- of two texts that differ one stands before the other
pub before_total : (a b : List ℕ) → is_before a b ≡ false → bytes_eq a b ≡ false → is_before b a ≡ true
before_total a b h k = total_by a b (cmp a b) refl h (is_eq-slice_cmp a b ∙ k)

true_or_false : (b : Bool) → b ≡ false → b ≡ true → ⊥
true_or_false true e h = absurd cc
true_or_false false e h = absurd cc

-- what isn't before a text isn't before what stands before that text
pub not_before : (a b c : List ℕ) → is_before a c ≡ false → is_before b c ≡ true → is_before a b ≡ false
not_before a b c h k =
    (elim (is_before a b) as (λ x. is_before a b ≡ x → x ≡ false) [
      | true ↦ λ e. absurd (true_or_false (is_before a c) h (before_trans a b c e k))
      | false ↦ λ e. refl
    ]) refl

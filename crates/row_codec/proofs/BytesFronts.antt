-- The front of bytes, made from that of a number.
use Rattle.std.proofs.Common.{◌≡◌, ℕ, suc, ◌+◌, ◌≤◌, ◌^◌, inl, inr, Bool, true, false, cond, ltb, List, [], ◌∷◌, ◌++◌, length, take, drop, slice_index_or, Fits, w8, refl, sym, ap, ◌∙◌, arith, append_assoc}
use Rattle.std.proofs.lemmas.Bool.{cases_lt, le-ltb, lt-ltb}
use Rattle.at_cbor.specs.declared.major.Major.{Major}
use Rattle.at_cbor.specs.Encoding.{front_of, info_of, tail_of}

info_or : (b : Bool) (x y : ℕ) → x ≤ 27 → y ≤ 27 → cond b x y ≤ 27
info_or true x y p q = p
info_or false x y p q = q

info_first : (n x : ℕ) → x ≤ 27 → cond (ltb n 24) n x ≤ 27
info_first n x small = elim (cases_lt n 24) [ inl lt ↦ rw (lt-ltb n 24 lt) (omega (arith, lt)) | inr le ↦ rw (le-ltb n 24 le) small ]

pub info_most : (n : ℕ) → info_of n ≤ 27
unfolding info_of
info_most n = info_first n _ (info_or (ltb n (2 ^ 8)) 24 _ (omega arith) (info_or (ltb n (2 ^ 16)) 25 _ (omega arith) (info_or (ltb n (2 ^ 32)) 26 27 (omega arith) (omega arith))))

index_first : (old tail : List ℕ) (x : ℕ) → slice_index_or (old ++ x ∷ tail) (length old) 0 ≡ x
index_first [] tail x = refl
index_first (y ∷ old) tail x = index_first old tail x

-- the first byte of a number's front
pub first_there : (old body : List ℕ) (n place : ℕ) → place ≡ length old → body ≡ old ++ front_of Major.Unsigned n → slice_index_or body place 0 ≡ info_of n
first_there old body n place here is =
    let same : 0 + info_of n ≡ info_of n = omega arith in
    rw (is, here) (index_first old (tail_of n) (0 + info_of n) ∙ same)

pub front_fits : (n : ℕ) → Fits w8 (64 + info_of n)
front_fits n = omega (arith, info_most n)

-- the front of so few bytes that one byte tells their number
short_front : (n : ℕ) → 24 ≤ n → n ≤ 255 → front_of Major.Bytes n ≡ 0x58 ∷ n ∷ []
unfolding info_of tail_of
short_front n some few = rw (le-ltb n 24 some, lt-ltb n (2 ^ 8) (omega (arith, few))) refl

-- one byte of two set between what stands before them and behind them
byte_set : (old behind : List ℕ) (a b c : ℕ) → take (suc (length old)) ((old ++ a ∷ b ∷ []) ++ behind) ++ ((c ∷ []) ++ drop (suc (suc (length old))) ((old ++ a ∷ b ∷ []) ++ behind)) ≡ old ++ a ∷ c ∷ behind
byte_set [] behind a b c = refl
byte_set (x ∷ old) behind a b c = ap (λ (l : List ℕ). x ∷ l) (byte_set old behind a b c)

-- bytes whose number was put into their front once they stood behind it
pub short_written : (old bytes there : List ℕ) (place behind n : ℕ) → place ≡ suc (length old) → behind ≡ suc (suc (length old)) → there ≡ (old ++ 0x58 ∷ 0 ∷ []) ++ bytes → n ≡ length bytes → 24 ≤ n → n ≤ 255
    → take place there ++ (n ∷ []) ++ drop behind there ≡ old ++ (front_of Major.Bytes (length bytes) ++ bytes)
short_written old bytes there place behind n at past is all some few =
    append_assoc (take place there) (n ∷ []) (drop behind there)
    ∙ rw (at, past, is) (byte_set old bytes 0x58 0 n)
    ∙ ap (λ (l : List ℕ). old ++ (l ++ bytes)) (sym (short_front n some few) ∙ ap (front_of Major.Bytes) all)

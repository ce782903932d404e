-- A link's text stands for the link's bytes, and for no others.
use Rattle.std.proofs.Common.{◌≡◌, ℕ, zero, suc, ◌+◌, ◌-◌, ◌*◌, ◌/◌, ◌%◌, ◌^◌, ◌<◌, true, false, eqb, List, [], ◌∷◌, ◌++◌, length, take, drop, set, get_or, Option, Some, None, refl, sym, ap, subst, ◌∙◌, arith}
use Rattle.std.specs.Cmp.Lexicographic.{pointwise}
use Rattle.std.proofs.lemmas.Slice.Eq.{bytes_eq-Decides}
use Rattle.std.proofs.lemmas.Bool.{false≢true}
use Rattle.std.proofs.lemmas.Bool.Decides.{nat_tests}
use Rattle.std.proofs.lemmas.List.{take_all, drop_all, append-nil}
use Rattle.std.proofs.lemmas.List.FromFn.{fill_by_all, get_or-map-range_with_len}
use Rattle.at_cid.specs.Link.{IsBytes, is_link, link_at}
use Rattle.at_cid.specs.Text.{letter_of, digit_of, five_bits, bits_of_pair, letter_at, text_of, octet_at, octets_of}
use borrow.Rule.Slice.PartMut.{put_mid}
use Rattle.at_cid.proofs.Links.{link_length}
use Rattle.at_cid.proofs.Bits.{in_two_bytes}

digit_of-letter_of : (bits : ℕ) → bits < 32 → digit_of (letter_of bits) ≡ bits
digit_of-letter_of bits h = grind (arith, nat_tests)

pub five_bits_below : (bytes : List ℕ) (k : ℕ) → five_bits bytes k < 32
unfolding five_bits
five_bits_below bytes k = omega arith

-- the letter at a place stands for the five bits there
read_digit : (bytes : List ℕ) (k at : ℕ) → k < 58 → at ≡ k + 1 → digit_of (get_or (text_of bytes) at 0) ≡ five_bits bytes k
unfolding letter_at
read_digit bytes k at h e =
    let place : at ≡ suc k = omega arith in
    rw (place, get_or-map-range_with_len (letter_at bytes) 0 58 k k 0 h (omega arith)) (digit_of-letter_of (five_bits bytes k) (five_bits_below bytes k))

digit_below : (letter : ℕ) → digit_of letter < 32
digit_below letter = grind (arith, nat_tests)

pair_at : (bytes : List ℕ) → IsBytes bytes → (k p q s : ℕ) → 5 * k / 8 ≡ p → p + 1 ≡ q → 11 - 5 * k % 8 ≡ s → five_bits bytes k ≡ (get_or bytes p 0 * 256 + get_or bytes q 0) / 2 ^ s % 32
unfolding bits_of_pair
pair_at bytes fits k p q s e f g = in_two_bytes bytes fits k ∙ rw (e, f, g) refl

triple_at : (text : List ℕ) (i at s x y z : ℕ) → 8 * i / 5 + 1 ≡ at → 7 - 8 * i % 5 ≡ s → digit_of (get_or text at 0) ≡ x → digit_of (get_or text (at + 1) 0) ≡ y → digit_of (get_or text (at + 2) 0) ≡ z
    → octet_at text i ≡ (x * 1024 + y * 32 + z) / 2 ^ s % 256
unfolding octet_at
triple_at text i at s x y z e f p q r = rw (e, f, p, q, r) refl

bits_0 : (a b x : ℕ) → a < 256 → b < 256 → x < 32 → ((a * 256 + b) / 2048 % 32 * 1024 + (a * 256 + b) / 64 % 32 * 32 + x) / 128 % 256 ≡ a
bits_0 a b x ha hb hx = omega arith

bits_1 : (a b c : ℕ) → a < 256 → b < 256 → c < 256 → ((a * 256 + b) / 64 % 32 * 1024 + (b * 256 + c) / 512 % 32 * 32 + (b * 256 + c) / 16 % 32) / 16 % 256 ≡ b
bits_1 a b c ha hb hc = omega arith

bits_2 : (b c d e : ℕ) → b < 256 → c < 256 → d < 256 → e < 256 → ((b * 256 + c) / 16 % 32 * 1024 + (c * 256 + d) / 128 % 32 * 32 + (d * 256 + e) / 1024 % 32) / 64 % 256 ≡ c
bits_2 b c d e hb hc hd he = omega arith

bits_3 : (c d e : ℕ) → c < 256 → d < 256 → e < 256 → ((c * 256 + d) / 128 % 32 * 1024 + (d * 256 + e) / 1024 % 32 * 32 + (d * 256 + e) / 32 % 32) / 8 % 256 ≡ d
bits_3 c d e hc hd he = omega arith

bits_4 : (d e f x : ℕ) → d < 256 → e < 256 → f < 256 → x < 32 → ((d * 256 + e) / 32 % 32 * 1024 + (e * 256 + f) / 256 % 32 * 32 + x) / 32 % 256 ≡ e
bits_4 d e f x hd he hf hx = omega arith

module _ (bytes : List ℕ) (fits : IsBytes bytes) (q : ℕ) where
  byte : ℕ → ℕ
  byte k = get_or bytes (5 * q + k) 0

  quint : (k p s : ℕ) → 5 * (8 * q + k) / 8 ≡ 5 * q + p → 11 - 5 * (8 * q + k) % 8 ≡ s → five_bits bytes (8 * q + k) ≡ (byte p * 256 + byte (p + 1)) / 2 ^ s % 32
  unfolding byte
  quint k p s e f = pair_at bytes fits (8 * q + k) (5 * q + p) (5 * q + (p + 1)) s e (omega arith) f

  letter : (k at : ℕ) → 8 * q + k < 58 → at ≡ 8 * q + k + 1 → digit_of (get_or (text_of bytes) at 0) ≡ five_bits bytes (8 * q + k)
  letter k at h e = read_digit bytes (8 * q + k) at h e

  byte_below : (k : ℕ) → byte k < 256
  unfolding byte
  byte_below k = fits (5 * q + k)

  third : ℕ → ℕ
  third at = digit_of (get_or (text_of bytes) (at + 2) 0)

  at_0 : 5 * q + 0 < 36 → octet_at (text_of bytes) (5 * q + 0) ≡ byte 0
  unfolding third
  at_0 h =
      triple_at (text_of bytes) (5 * q + 0) (8 * q + 1) 7 (five_bits bytes (8 * q + 0)) (five_bits bytes (8 * q + 1)) (third (8 * q + 1)) (omega arith) (omega arith)
      (letter 0 (8 * q + 1) (omega arith) (omega arith)) (letter 1 (8 * q + 1 + 1) (omega arith) (omega arith)) refl
      ∙ rw (quint 0 0 11 (omega arith) (omega arith), quint 1 0 6 (omega arith) (omega arith))
      (bits_0 (byte 0) (byte 1) (third (8 * q + 1)) (byte_below 0) (byte_below 1) (digit_below (get_or (text_of bytes) (8 * q + 1 + 2) 0)))

  at_1 : 5 * q + 1 < 36 → octet_at (text_of bytes) (5 * q + 1) ≡ byte 1
  at_1 h =
      triple_at (text_of bytes) (5 * q + 1) (8 * q + 2) 4 (five_bits bytes (8 * q + 1)) (five_bits bytes (8 * q + 2)) (five_bits bytes (8 * q + 3)) (omega arith) (omega arith)
      (letter 1 (8 * q + 2) (omega arith) (omega arith)) (letter 2 (8 * q + 2 + 1) (omega arith) (omega arith)) (letter 3 (8 * q + 2 + 2) (omega arith) (omega arith))
      ∙ rw (quint 1 0 6 (omega arith) (omega arith), quint 2 1 9 (omega arith) (omega arith), quint 3 1 4 (omega arith) (omega arith))
      (bits_1 (byte 0) (byte 1) (byte 2) (byte_below 0) (byte_below 1) (byte_below 2))

  at_2 : 5 * q + 2 < 36 → octet_at (text_of bytes) (5 * q + 2) ≡ byte 2
  at_2 h =
      triple_at (text_of bytes) (5 * q + 2) (8 * q + 4) 6 (five_bits bytes (8 * q + 3)) (five_bits bytes (8 * q + 4)) (five_bits bytes (8 * q + 5)) (omega arith) (omega arith)
      (letter 3 (8 * q + 4) (omega arith) (omega arith)) (letter 4 (8 * q + 4 + 1) (omega arith) (omega arith)) (letter 5 (8 * q + 4 + 2) (omega arith) (omega arith))
      ∙ rw (quint 3 1 4 (omega arith) (omega arith), quint 4 2 7 (omega arith) (omega arith), quint 5 3 10 (omega arith) (omega arith))
      (bits_2 (byte 1) (byte 2) (byte 3) (byte 4) (byte_below 1) (byte_below 2) (byte_below 3) (byte_below 4))

  at_3 : 5 * q + 3 < 36 → octet_at (text_of bytes) (5 * q + 3) ≡ byte 3
  at_3 h =
      triple_at (text_of bytes) (5 * q + 3) (8 * q + 5) 3 (five_bits bytes (8 * q + 4)) (five_bits bytes (8 * q + 5)) (five_bits bytes (8 * q + 6)) (omega arith) (omega arith)
      (letter 4 (8 * q + 5) (omega arith) (omega arith)) (letter 5 (8 * q + 5 + 1) (omega arith) (omega arith)) (letter 6 (8 * q + 5 + 2) (omega arith) (omega arith))
      ∙ rw (quint 4 2 7 (omega arith) (omega arith), quint 5 3 10 (omega arith) (omega arith), quint 6 3 5 (omega arith) (omega arith))
      (bits_3 (byte 2) (byte 3) (byte 4) (byte_below 2) (byte_below 3) (byte_below 4))

  at_4 : 5 * q + 4 < 36 → octet_at (text_of bytes) (5 * q + 4) ≡ byte 4
  unfolding third
  at_4 h =
      triple_at (text_of bytes) (5 * q + 4) (8 * q + 7) 5 (five_bits bytes (8 * q + 6)) (five_bits bytes (8 * q + 7)) (third (8 * q + 7)) (omega arith) (omega arith)
      (letter 6 (8 * q + 7) (omega arith) (omega arith)) (letter 7 (8 * q + 7 + 1) (omega arith) (omega arith)) refl
      ∙ rw (quint 6 3 5 (omega arith) (omega arith), quint 7 4 8 (omega arith) (omega arith))
      (bits_4 (byte 3) (byte 4) (byte 5) (third (8 * q + 7)) (byte_below 3) (byte_below 4) (byte_below 5) (digit_below (get_or (text_of bytes) (8 * q + 7 + 2) 0)))

  of_rest : (r : ℕ) → r < 5 → 5 * q + r < 36 → octet_at (text_of bytes) (5 * q + r) ≡ get_or bytes (5 * q + r) 0
  unfolding byte
  of_rest zero lt h = at_0 h
  of_rest (suc zero) lt h = at_1 h
  of_rest (suc (suc zero)) lt h = at_2 h
  of_rest (suc (suc (suc zero))) lt h = at_3 h
  of_rest (suc (suc (suc (suc zero)))) lt h = at_4 h
  of_rest (suc (suc (suc (suc (suc r))))) lt h = absurd (omega arith)

-- each byte is read again from the text
octet_again : (bytes : List ℕ) → IsBytes bytes → (i : ℕ) → i < 36 → octet_at (text_of bytes) i ≡ get_or bytes i 0
octet_again bytes fits i h =
    let split : 5 * (i / 5) + i % 5 ≡ i = omega arith in
    subst (λ (k : ℕ). octet_at (text_of bytes) k ≡ get_or bytes k 0) split (of_rest bytes fits (i / 5) (i % 5) (omega arith) (omega arith))

pub octets_again : (bytes : List ℕ) → length bytes ≡ 36 → IsBytes bytes → octets_of (text_of bytes) ≡ bytes
octets_again bytes len fits = sym (fill_by_all (octet_at (text_of bytes)) bytes 36 0 len (λ k h. sym (octet_again bytes fits k h)))

-- the text of a link is read as that link
pub text_again : (text link : List ℕ) → is_link link ≡ true → IsBytes link → text ≡ text_of link → link_at (octets_of text) ≡ Some link
text_again text link is fits e =
    let len = link_length link is in
    let whole : take 36 link ≡ link = take_all 36 link (omega arith) in
    let still : is_link (take 36 link) ≡ true = ap is_link whole ∙ is in
    let found : link_at link ≡ Some link = rw still (ap Some whole) in
    subst (λ (x : List ℕ). link_at x ≡ Some link) (sym (ap octets_of e ∙ octets_again link len fits)) found

-- no link has the text where none is read from it
pub none_encoded : (text octets link : List ℕ) (read : Option (List ℕ)) → read ≡ None → read ≡ link_at octets → octets ≡ octets_of text → is_link link ≡ true → IsBytes link → text ≡ text_of link → ⊥
none_encoded text octets link read none e f is fits g =
    let found : read ≡ Some link = e ∙ ap link_at f ∙ text_again text link is fits g in
    absurd cc

-- no link has the text where another text is that of the link that is read from it
pub other_encoded : (text octets link found : List ℕ) (read : Option (List ℕ)) → read ≡ Some found → read ≡ link_at octets → octets ≡ octets_of text → pointwise eqb (text_of found) text ≡ false
    → is_link link ≡ true → IsBytes link → text ≡ text_of link → ⊥
other_encoded text octets link found read some e f differs is fits g =
    let again : read ≡ Some link = e ∙ ap link_at f ∙ text_again text link is fits g in
    let one : found ≡ link = cc in
    let same : text_of found ≡ text = ap text_of one ∙ sym g in
    false≢true (sym differs ∙ (bytes_eq-Decides (text_of found) text).1 same)

-- `b` written at the front, and the letters behind it
pub framed : (out letters : List ℕ) → length out ≡ 59 → put_mid 1 58 (set out 0 98) letters ≡ 98 ∷ letters
framed [] letters h = absurd (omega (arith, h))
framed (x ∷ out) letters h =
    let none : drop 58 out ≡ [] = drop_all 58 out (omega (arith, h)) in
    ap (λ (t : List ℕ). 98 ∷ (letters ++ t)) none ∙ ap (λ (t : List ℕ). 98 ∷ t) (append-nil letters)

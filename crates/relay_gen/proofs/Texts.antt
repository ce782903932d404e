-- Paths and DIDs are texts.
use Rattle.std.proofs.Common.{◌≡◌, ℕ, zero, suc, ◌+◌, ◌/◌, ◌%◌, ◌^◌, ◌<◌, ◌&&◌, true, false, ltb, List, [], ◌∷◌, ◌++◌, length, codes, refl, ap, arith, lit<}
use Rattle.std.proofs.lemmas.Bool.{and_from, lt-ltb}
use Rattle.at_cbor.specs.Encoding.{IsText}
use Rattle.at_event.proofs.Texts.{ascii_text, is_ascii_text}
use Rattle.mst_list.specs.Lists.{IsKey}
use Rattle.relay_gen.specs.Names.{generated_did, digits, generated_path}

digits_ascii : (k n : ℕ) → is_ascii_text (digits k n) ≡ true
digits_ascii zero n = refl
digits_ascii (suc k) n = let low : 48 + n / 10 ^ k % 10 < 128 = omega arith in and_from (ltb (48 + n / 10 ^ k % 10) 128) (is_ascii_text (digits k n)) (lt-ltb (48 + n / 10 ^ k % 10) 128 low) (digits_ascii k n)

ascii_joined : (A B : List ℕ) → is_ascii_text A ≡ true → is_ascii_text B ≡ true → is_ascii_text (A ++ B) ≡ true
ascii_joined [] B a b = b
ascii_joined (c ∷ A) B a b =
    elim (ltb c 128) as (λ x. (x && is_ascii_text A) ≡ true → (x && is_ascii_text (A ++ B)) ≡ true) [
      | true ↦ λ t. ascii_joined A B t b
      | false ↦ λ t. absurd cc
    ] a

length_digits : (k n : ℕ) → length (digits k n) ≡ k
length_digits zero n = refl
length_digits (suc k) n = ap suc (length_digits k n)

length_path : (n : ℕ) → length (generated_path n) ≡ 21
unfolding generated_path
length_path n = ap (λ m. 13 + m) (length_digits 8 n)

path_ascii : (n : ℕ) → is_ascii_text (generated_path n) ≡ true
unfolding generated_path
path_ascii n = ascii_joined (codes "app.gen.item/") (digits 8 n) refl (digits_ascii 8 n)

pub path_text : (n : ℕ) → IsText (generated_path n)
path_text n = let long = length_path n in ascii_text (generated_path n) (path_ascii n) (omega arith)

pub did_text : (a : ℕ) → a < 16 → IsText (generated_did a)
unfolding generated_did
did_text a low =
    let small : 97 + a < 128 = omega arith in
    ascii_text (codes "did:plc:gen" ++ (97 + a) ∷ []) (ascii_joined (codes "did:plc:gen") ((97 + a) ∷ []) refl (and_from (ltb (97 + a) 128) true (lt-ltb (97 + a) 128 small) refl)) (lit< tt)

pub path_key : (n : ℕ) → IsKey (generated_path n)
path_key n = let long = length_path n in let text = path_text n in record { least = omega arith; most = omega arith; bytes = text.0.1 }

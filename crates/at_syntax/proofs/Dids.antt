-- The grammar of DIDs and its test say the same.
use Rattle.std.proofs.Common.{◌≡◌, ◌≢◌, ℕ, ◌+◌, ◌-◌, ◌<◌, ◌≤◌, Bool, true, false, ◌&&◌, eqb, List, [], ◌∷◌, ◌++◌, length, take, get_or, refl, sym, ap, ◌∙◌, arith}
use Rattle.std.specs.Prelude.{IsTrue, ◌↔◌, nat_lt, nat_le, codes}
use Rattle.std.specs.List.{list_all, position_or_len, before_first, after_first}
use Rattle.std.specs.Str.{bytes_eq}
use Rattle.std.proofs.lemmas.Bool.{and_parts, and_from, and_right, false≢true, ltb-true, leb-true, le-leb, lt-ltb}
use Rattle.std.proofs.lemmas.Slice.Eq.{bytes_eq-Decides}
use Rattle.std.proofs.lemmas.List.{length-append, length_push, take_more, take_all}
use Rattle.std.proofs.Math.Seq.{take-append_seam, get_or-append_seam}
use Rattle.at_syntax.specs.Characters.{is_lower}
use Rattle.at_syntax.specs.Did.{IsDid, is_did, is_colon, is_did_scheme, is_method, is_identifier, is_identifier_character, is_final_character, scheme_of, method_of, identifier_of}
use Rattle.at_syntax.proofs.Splits.{after_none, part_before, part_after, parts_again}

no_identifier : (b : Bool) (rest : List ℕ) → rest ≡ [] → (b && is_identifier rest) ≡ false
no_identifier b rest e = and_right b (is_identifier rest) (ap is_identifier e)

pub one_colon : (scheme rest : List ℕ) → position_or_len (λ c. eqb c 58) rest ≡ length rest → is_did_scheme scheme rest ≡ false
one_colon scheme rest h = no_identifier (bytes_eq scheme (codes "did") && is_method (before_first is_colon rest)) (after_first is_colon rest) (after_none 58 rest h)

pub no_colon : (text : List ℕ) → position_or_len (λ c. eqb c 58) text ≡ length text → is_did text ≡ false
unfolding is_did
no_colon text h = and_right (nat_le (length text) 2048) (is_did_scheme (scheme_of text) (after_first is_colon text)) (rw (after_none 58 text h) (and_right (bytes_eq (scheme_of text) (codes "did") && false) false refl))

-- a DID has two colons
pub colon_there : (text : List ℕ) → is_did text ≡ true → position_or_len (λ c. eqb c 58) text ≡ length text → ⊥
colon_there text is h = false≢true (sym (no_colon text h) ∙ is)

pub second_there : (text rest : List ℕ) → rest ≡ after_first is_colon text → is_did text ≡ true → position_or_len (λ c. eqb c 58) rest ≡ length rest → ⊥
unfolding is_did
second_there text rest e is h =
    let none : is_did_scheme (scheme_of text) (after_first is_colon text) ≡ false = ap (is_did_scheme (scheme_of text)) (sym e) ∙ one_colon (scheme_of text) rest h in
    false≢true (sym (and_right (nat_le (length text) 2048) (is_did_scheme (scheme_of text) (after_first is_colon text)) none) ∙ is)

last_again : (xs : List ℕ) → 0 < length xs → take (length xs - 1) xs ++ get_or xs (length xs - 1) 0 ∷ [] ≡ xs
last_again xs h =
    let whole : length xs - 1 + 1 ≡ length xs = omega arith in
    sym (take_more xs (length xs - 1) 0 (omega arith)) ∙ ap (λ (n : ℕ). take n xs) whole ∙ take_all (length xs) xs (omega arith)

record Parts (text : List ℕ) : Type 0 where
  short : length text ≤ 2048
  scheme : scheme_of text ≡ codes "did"
  method : is_method (method_of text) ≡ true
  identifier : is_identifier (identifier_of text) ≡ true

parts : (text : List ℕ) → is_did text ≡ true → Parts text
unfolding is_did
parts text h =
    let whole = and_parts (nat_le (length text) 2048) (is_did_scheme (scheme_of text) (after_first is_colon text)) h in
    let named = and_parts (bytes_eq (scheme_of text) (codes "did") && is_method (method_of text)) (is_identifier (identifier_of text)) whole.1 in
    let front = and_parts (bytes_eq (scheme_of text) (codes "did")) (is_method (method_of text)) named.0 in
    record {
      short = leb-true (length text) 2048 whole.0;
      scheme = (bytes_eq-Decides (scheme_of text) (codes "did")).0 front.0;
      method = front.1;
      identifier = named.1;
    }

from_parts : (text : List ℕ) → Parts text → is_did text ≡ true
unfolding is_did
from_parts text p =
    and_from (nat_le (length text) 2048) (is_did_scheme (scheme_of text) (after_first is_colon text)) (le-leb (length text) 2048 p.short)
    (and_from (bytes_eq (scheme_of text) (codes "did") && is_method (method_of text)) (is_identifier (identifier_of text))
    (and_from (bytes_eq (scheme_of text) (codes "did")) (is_method (method_of text)) ((bytes_eq-Decides (scheme_of text) (codes "did")).1 p.scheme) p.method) p.identifier)

record MethodParts (text : List ℕ) : Type 0 where
  there : 0 < length text
  letters : list_all is_lower text ≡ true

method_parts : (text : List ℕ) → is_method text ≡ true → MethodParts text
method_parts text h =
    let both = and_parts (nat_lt 0 (length text)) (list_all is_lower text) h in
    record { there = ltb-true 0 (length text) both.0; letters = both.1 }

record IdentifierParts (text : List ℕ) : Type 0 where
  there : 0 < length text
  front : list_all is_identifier_character (take (length text - 1) text) ≡ true
  final : is_final_character (get_or text (length text - 1) 0) ≡ true

identifier_parts : (text : List ℕ) → is_identifier text ≡ true → IdentifierParts text
identifier_parts text h =
    let both = and_parts (nat_lt 0 (length text) && list_all is_identifier_character (take (length text - 1) text)) (is_final_character (get_or text (length text - 1) 0)) h in
    let front = and_parts (nat_lt 0 (length text)) (list_all is_identifier_character (take (length text - 1) text)) both.0 in
    record { there = ltb-true 0 (length text) front.0; front = front.1; final = both.1 }

identifier_from : (front : List ℕ) (final : ℕ) → list_all is_identifier_character front ≡ true → is_final_character final ≡ true → is_identifier (front ++ final ∷ []) ≡ true
identifier_from front final each last =
    let long : length (front ++ final ∷ []) - 1 ≡ length front = omega (arith, length_push front final) in
    let there : 0 < length (front ++ final ∷ []) = omega (arith, length_push front final) in
    and_from (nat_lt 0 (length (front ++ final ∷ [])) && list_all is_identifier_character (take (length (front ++ final ∷ []) - 1) (front ++ final ∷ []))) (is_final_character (get_or (front ++ final ∷ []) (length (front ++ final ∷ []) - 1) 0))
    (and_from (nat_lt 0 (length (front ++ final ∷ []))) (list_all is_identifier_character (take (length (front ++ final ∷ []) - 1) (front ++ final ∷ []))) (lt-ltb 0 (length (front ++ final ∷ [])) there)
    (rw (long, take-append_seam front (final ∷ [])) each))
    (rw (long, get_or-append_seam front final [] 0) last)

did_parts : (text : List ℕ) → is_did text ≡ true → IsDid text
did_parts text h =
    let p = parts text h in
    let m = method_parts (method_of text) p.method in
    let i = identifier_parts (identifier_of text) p.identifier in
    let inner = parts_again 58 (after_first is_colon text) i.there in
    let behind : 0 < length (after_first is_colon text) = omega (arith, ap length inner, length-append (method_of text) (58 ∷ identifier_of text)) in
    record {
      method = method_of text;
      front = take (length (identifier_of text) - 1) (identifier_of text);
      final = get_or (identifier_of text) (length (identifier_of text) - 1) 0;
      encoded = parts_again 58 text behind ∙ ap (λ (s : List ℕ). s ++ 58 ∷ after_first is_colon text) p.scheme
          ∙ ap (λ (s : List ℕ). codes "did:" ++ s) (inner ∙ ap (λ (s : List ℕ). method_of text ++ 58 ∷ s) (sym (last_again (identifier_of text) i.there)));
      method_there = m.there;
      method_letters = m.letters;
      front_characters = i.front;
      final_character = i.final;
      short = p.short;
    }

pub method_named : (text : List ℕ) → (named : IsDid text) → method_of text ≡ named.method
method_named text named = ap method_of named.encoded ∙ part_before 58 is_lower refl named.method (named.front ++ named.final ∷ []) named.method_letters

identifier_named : (text : List ℕ) → (named : IsDid text) → identifier_of text ≡ named.front ++ named.final ∷ []
identifier_named text named = ap identifier_of named.encoded ∙ part_after 58 is_lower refl named.method (named.front ++ named.final ∷ []) named.method_letters

method_from : (text : List ℕ) → 0 < length text → list_all is_lower text ≡ true → is_method text ≡ true
method_from text there each = and_from (nat_lt 0 (length text)) (list_all is_lower text) (lt-ltb 0 (length text) there) each

did_tested : (text : List ℕ) → IsDid text → is_did text ≡ true
did_tested text named = from_parts text (record {
  short = named.short;
  scheme = ap scheme_of named.encoded;
  method = ap is_method (method_named text named) ∙ method_from named.method named.method_there named.method_letters;
  identifier = ap is_identifier (identifier_named text named) ∙ identifier_from named.front named.final named.front_characters named.final_character;
})

pub did_grammar : (text : List ℕ) (test : Bool) → test ≡ is_did text → IsTrue test ↔ IsDid text
did_grammar text test e = (λ h. did_parts text (sym e ∙ h), λ named. e ∙ did_tested text named)

not_true : (b : Bool) → (b ≡ true → ⊥) → b ≡ false
not_true false never = refl
not_true true never = absurd (never refl)

-- a text that doesn't begin with `did:` is none
pub no_scheme : (text : List ℕ) → ((rest : List ℕ) → text ≢ codes "did:" ++ rest) → is_did text ≡ false
no_scheme text none = not_true (is_did text) (λ is. let named = did_parts text is in none (named.method ++ 58 ∷ (named.front ++ named.final ∷ [])) named.encoded)

-- what it comes to behind `did:`
pub behind_scheme : (text rest : List ℕ) → text ≡ codes "did:" ++ rest
    → is_did text ≡ (nat_le (length text) 2048 && (is_method (before_first is_colon rest) && is_identifier (after_first is_colon rest)))
unfolding is_did
behind_scheme text rest is = rw is refl

-- a rest without a colon is no method and identifier
pub no_method : (text rest : List ℕ) → text ≡ codes "did:" ++ rest → position_or_len (λ c. eqb c 58) rest ≡ length rest → is_did text ≡ false
no_method text rest is none =
    behind_scheme text rest is
    ∙ and_right (nat_le (length text) 2048) (is_method (before_first is_colon rest) && is_identifier (after_first is_colon rest))
    (no_identifier (is_method (before_first is_colon rest)) (after_first is_colon rest) (after_none 58 rest none))

-- by its parts
pub did_by : (text rest method identifier : List ℕ) (fits is_the_method is_the_identifier : Bool) → text ≡ codes "did:" ++ rest
    → method ≡ before_first is_colon rest → identifier ≡ after_first is_colon rest
    → fits ≡ nat_le (length text) 2048 → is_the_method ≡ is_method method → is_the_identifier ≡ is_identifier identifier
    → is_did text ≡ (fits && (is_the_method && is_the_identifier))
did_by text rest method identifier fits is_the_method is_the_identifier is front behind short first then =
    behind_scheme text rest is ∙ sym (rw (short, first, then, front, behind) refl)

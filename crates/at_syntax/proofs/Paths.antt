-- The grammar of paths and its test say the same.
use Rattle.std.proofs.Common.{◌≡◌, ℕ, ◌<◌, Bool, true, false, ◌&&◌, eqb, List, [], ◌∷◌, length, refl, sym, ap, ◌∙◌, arith}
use Rattle.std.specs.Prelude.{IsTrue, ◌↔◌, nat_lt, nat_le}
use Rattle.std.specs.List.{list_all, position_or_len}
use Rattle.std.proofs.lemmas.Bool.{and_parts, and_from, and_right}
use Rattle.at_syntax.specs.Path.{IsPath, is_path, is_collection, is_record_key, is_collection_character, collection_of, record_key_of}
use Rattle.at_syntax.proofs.Splits.{after_none, part_before, part_after, parts_again}

pub no_slash : (text : List ℕ) → position_or_len (λ c. eqb c 47) text ≡ length text → is_path text ≡ false
unfolding is_path
no_slash text h = and_right (is_collection (collection_of text)) (is_record_key (record_key_of text)) (rw (after_none 47 text h) refl)

key_there : (key : List ℕ) → is_record_key key ≡ true → 0 < length key
key_there [] h = absurd cc
key_there (c ∷ key) h = omega arith

collection_letters : (collection : List ℕ) → is_collection collection ≡ true → list_all is_collection_character collection ≡ true
collection_letters collection h = (and_parts (nat_lt 0 (length collection) && nat_le (length collection) 317) (list_all is_collection_character collection) h).1

path_parts : (text : List ℕ) → is_path text ≡ true → IsPath text
unfolding is_path
path_parts text h =
    let parts = and_parts (is_collection (collection_of text)) (is_record_key (record_key_of text)) h in
    record {
      collection = collection_of text;
      record_key = record_key_of text;
      encoded = parts_again 47 text (key_there (record_key_of text) parts.1);
      of_collection = parts.0;
      of_record_key = parts.1;
    }

path_tested : (text : List ℕ) → IsPath text → is_path text ≡ true
unfolding is_path
path_tested text p =
    let letters = collection_letters p.collection p.of_collection in
    let before : collection_of text ≡ p.collection = ap collection_of p.encoded ∙ part_before 47 is_collection_character refl p.collection p.record_key letters in
    let after : record_key_of text ≡ p.record_key = ap record_key_of p.encoded ∙ part_after 47 is_collection_character refl p.collection p.record_key letters in
    and_from (is_collection (collection_of text)) (is_record_key (record_key_of text)) (ap is_collection before ∙ p.of_collection) (ap is_record_key after ∙ p.of_record_key)

pub path_grammar : (text : List ℕ) (test : Bool) → test ≡ is_path text → IsTrue test ↔ IsPath text
path_grammar text test e = (λ h. path_parts text (sym e ∙ h), λ p. e ∙ path_tested text p)

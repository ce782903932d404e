-- The list of hosts after the table was written.
use Rattle.std.proofs.Common.{◌≡◌, ℕ, Bool, true, false, cond, List, [], ◌∷◌, Option, Some, None, position, slice_get, refl, sym, ap, ◌∙◌, subst}
use Rattle.std.specs.Global.{Global}
use Rattle.std.specs.List.{IsDistinct}
use Rattle.std.specs.Map.{lookup, lookup_key, keys_of, values_of}
use Rattle.std.specs.Option.{is_some, unwrap_or}
use Rattle.std.specs.Prelude.{map, String}
use Rattle.std.specs.Str.{bytes_eq}
use Rattle.std.specs.String.{string_bytes, string_eq, string_eq_equiv}
use Rattle.std.proofs.lemmas.Map.Made.{lookup_key_passes}
use Rattle.std.proofs.lemmas.Slice.Eq.{bytes_eq-Decides}
use Rattle.indexmap.proofs.CallerLemmas.{keys-with_value_at}
use Rattle.indexmap.proofs.MapLemmas.{Found-position, Missing-position, index-first, insert_entry-first, some_index}
use Rattle.indexmap.proofs.RemoveLemmas.{own_first}
use Rattle.indexmap.specs.IndexMap.{IndexMap, insert_entry, set_value_at}
use Rattle.host_state.specs.Folds.{set_cursor, cursor_of}
use Rattle.host_state.specs.Table.{pair}

abbrev pub Entry : Type 0
Entry = String Global × ℕ

-- whether a key is this text
abbrev pub at_text : List ℕ → String Global → Bool
at_text host k = bytes_eq host (string_bytes k)

-- a name that isn't there goes last, and one that is there keeps its place
pub insert_lists : (k : String Global) (n : ℕ) (es : List Entry) → map pair (insert_entry string_eq es k n) ≡ set_cursor (map pair es) (string_bytes k) n
insert_lists k n [] = refl
insert_lists k n (e ∷ es) =
    elim (string_eq k e.0) as (λ b. map pair (cond b ((e.0, n) ∷ es) (e ∷ insert_entry string_eq es k n)) ≡ cond b ((string_bytes e.0, n) ∷ map pair es) (pair e ∷ set_cursor (map pair es) (string_bytes k) n)) [
      | true ↦ refl
      | false ↦ ap (λ (rest : List (List ℕ × ℕ)). pair e ∷ rest) (insert_lists k n es)
    ]

none_there : false ≡ true → ⊥
none_there e = absurd cc

-- a name that is there keeps its place, whatever the key that is put
put_lists : (host : List ℕ) (n : ℕ) (k : String Global) (es : List Entry) → is_some (lookup (at_text host) es) ≡ true → map pair (insert_entry (λ a b. at_text host b) es k n) ≡ set_cursor (map pair es) host n
put_lists host n k [] = λ found. absurd (none_there found)
put_lists host n k (e ∷ es) =
    elim (at_text host e.0) as (λ b. is_some (cond b (Some e.1) (lookup (at_text host) es)) ≡ true → map pair (cond b ((e.0, n) ∷ es) (e ∷ insert_entry (λ a b. at_text host b) es k n)) ≡ cond b ((string_bytes e.0, n) ∷ map pair es) (pair e ∷ set_cursor (map pair es) host n)) [
      | true ↦ λ found. refl
      | false ↦ λ found. ap (λ (rest : List (List ℕ × ℕ)). pair e ∷ rest) (put_lists host n k es found)
    ]

-- a write at a name's place sets its cursor
pub write_lists : (host : List ℕ) (n : ℕ) (es : List Entry) (i : ℕ) → position (at_text host) (keys_of es) ≡ Some i → map pair (set_value_at es i n) ≡ set_cursor (map pair es) host n
write_lists host n [] i at = absurd (none_there (ap is_some at))
write_lists host n (e ∷ es) i at =
    ap (λ (l : List Entry). map pair l) (sym (insert_entry-first (λ a b. at_text host b) e.0 n (e ∷ es) i (Found-position (at_text host) (e ∷ es) i at).first))
    ∙ put_lists host n e.0 (e ∷ es) (sym (some_index (at_text host) (e ∷ es)) ∙ ap is_some at)

-- and leaves all names
pub write_rooms : {S : Type 0} (m : IndexMap (String Global) ℕ S) (i : ℕ) (n : ℕ) (name : List ℕ) → is_some (lookup (at_text name) (set_value_at m.entries i n)) ≡ is_some (lookup (at_text name) m.entries)
write_rooms m i n name =
    sym (some_index (at_text name) (set_value_at m.entries i n))
    ∙ ap (λ (ks : List (String Global)). is_some (position (at_text name) ks)) (keys-with_value_at m i n)
    ∙ some_index (at_text name) m.entries

-- where keys are distinct, a search for the text of one ends at its place
pub place_is : (host : List ℕ) (es : List Entry) (i : ℕ) (k : String Global) (n : ℕ) → IsDistinct string_eq (keys_of es) → slice_get es i ≡ Some (k, n) → string_bytes k ≡ host → position (at_text host) (keys_of es) ≡ Some i
place_is host es i k n unique there is =
    subst (λ (text : List ℕ). position (at_text text) (keys_of es) ≡ Some i) is (index-first (string_eq k) es i (own_first string_eq string_eq_equiv es i k n unique there))

-- a place that was found is that of a name that is there
pub found_at : (host : List ℕ) (es : List Entry) (i : ℕ) → position (at_text host) (keys_of es) ≡ Some i → true ≡ is_some (lookup (at_text host) es)
found_at host es i at = sym (ap is_some at) ∙ some_index (at_text host) es

-- the cursor that the table tells
pub cursor_listed : (host : List ℕ) (es : List Entry) → unwrap_or (lookup (at_text host) es) 0 ≡ cursor_of (map pair es) host
cursor_listed host [] = refl
cursor_listed host (e ∷ es) =
    elim (at_text host e.0) as (λ b. unwrap_or (cond b (Some e.1) (lookup (at_text host) es)) 0 ≡ cond b e.1 (cursor_of (map pair es) host)) [
      | true ↦ refl
      | false ↦ cursor_listed host es
    ]

-- what the table tells at a name's place
pub cursor_placed : (host : List ℕ) (es : List Entry) (i : ℕ) (n : ℕ) → position (at_text host) (keys_of es) ≡ Some i → slice_get (values_of es) i ≡ Some n → n ≡ cursor_of (map pair es) host
cursor_placed host es i n at there =
    ap (λ (o : Option ℕ). unwrap_or o 0) (sym ((Found-position (at_text host) es i at).value ∙ there)) ∙ cursor_listed host es

-- and where there is none
pub cursor_missing : (host : List ℕ) (es : List Entry) → position (at_text host) (keys_of es) ≡ None → 0 ≡ cursor_of (map pair es) host
cursor_missing host es at = ap (λ (o : Option ℕ). unwrap_or o 0) (sym (Missing-position (at_text host) es at).value) ∙ cursor_listed host es

-- a key that was found is the text
pub key_found : {X : Type 0} (host : List ℕ) (es : List (String Global × X)) (k : String Global) → lookup_key (at_text host) es ≡ Some k → string_bytes k ≡ host
key_found host es k e = sym ((bytes_eq-Decides host (string_bytes k)).0 (lookup_key_passes (at_text host) es k e))

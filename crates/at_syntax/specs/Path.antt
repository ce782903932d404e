-- A record's path, as the AT Protocol's specifications of NSIDs and record keys have its parts: a
-- collection, `/` and a record key.
use Rattle.std.specs.Prelude.{◌≡◌, ℕ, List, ◌++◌, length, Bool, not, ◌&&◌, ◌||◌, ◌==◌, nat_le, nat_lt, IsTrue, codes}
use Rattle.std.specs.List.{list_all, before_first, after_first}
use Rattle.std.specs.Str.{bytes_eq}
use Rattle.at_syntax.specs.Characters.{is_alphanumeric}
use Rattle.at_syntax.specs.declared.path.TheConstants.{LONGEST_COLLECTION, LONGEST_RECORD_KEY}

-- what a collection is made of: letters, digits, `.` and `-`
abbrev pub is_collection_character : ℕ → Bool
is_collection_character c = is_alphanumeric c || c == 46 || c == 45

-- what a record key is made of: letters, digits, `_`, `~`, `.`, `:` and `-`
abbrev pub is_record_key_character : ℕ → Bool
is_record_key_character c =
    is_alphanumeric c || c == 95 || c == 126 || c == 46 || c == 58 || c == 45

-- 1 to as many characters of a collection as it has at most, whose segments aren't looked at
abbrev pub is_collection : List ℕ → Bool
is_collection text = nat_lt 0 (length text) && nat_le (length text) LONGEST_COLLECTION
    && list_all is_collection_character text

-- 1 to as many characters of a record key as it has at most, but neither `.` nor `..`
abbrev pub is_record_key : List ℕ → Bool
is_record_key text = nat_lt 0 (length text) && nat_le (length text) LONGEST_RECORD_KEY
    && list_all is_record_key_character text
    && not (bytes_eq text (codes ".")) && not (bytes_eq text (codes ".."))

-- the text is a path
pub record IsPath (text : List ℕ) : Type 0 where
  pub collection : List ℕ
  pub record_key : List ℕ
  pub encoded : text ≡ collection ++ (codes "/" ++ record_key)
  pub of_collection : IsTrue (is_collection collection)
  pub of_record_key : IsTrue (is_record_key record_key)

-- the same as a test, by the first slash

abbrev pub is_slash : ℕ → Bool
is_slash c = c == 47

-- what stands before the first slash
abbrev pub collection_of : List ℕ → List ℕ
collection_of text = before_first is_slash text

-- what stands behind the first slash
abbrev pub record_key_of : List ℕ → List ℕ
record_key_of text = after_first is_slash text

unfoldable pub is_path : List ℕ → Bool
is_path text = is_collection (collection_of text) && is_record_key (record_key_of text)

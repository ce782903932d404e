-- What a table in memory answers, and the lines for which it stands.
use Rattle.std.specs.Prelude.{◌≡◌, ℕ, List, ◌++◌, Bool, true, ◌||◌, Option, option_map, string_bytes, codes}
use Rattle.std.specs.BTreeMap.{get_by_text}
use Rattle.std.specs.BTreeSet.{contains_text}
use Rattle.hex.specs.Hex.{encode_lower}
use Rattle.at_authority.specs.declared.table.Table.{Table}
use Rattle.at_authority.specs.declared.line.Line.{Line}
use Rattle.at_authority.specs.Queries.{Query, asks_home, asks_verdict}
use Rattle.at_authority.specs.Tables.{is_line, first_field, other_fields, home_in, has_line, is_named, trust_line, signed_part}

-- the home that a table has for a DID
abbrev pub home_of : Table → List ℕ → Option (List ℕ)
home_of table did = option_map string_bytes (get_by_text table.homes did)

-- what it answers
abbrev pub answer_of : Table → Query → Bool
answer_of table (asks_home did host) = is_named host (home_of table did)
answer_of table (asks_verdict did digest sig) = contains_text table.trusted did
    || contains_text table.good (signed_part did (encode_lower digest) (encode_lower sig))

-- it has what these lines say, and nothing else
pub record StandsFor (lines : List (List ℕ)) (table : Table) : Type 0 where
  pub homes : (did : List ℕ) → home_of table did ≡ home_in did lines
  pub trusted : (did : List ℕ) → contains_text table.trusted did ≡ has_line (trust_line did) lines
  pub good : (part : List ℕ)
      → contains_text table.good part ≡ has_line (codes "good " ++ part) lines

-- the line has this kind and these fields
pub record IsOfKind (text kind rest : List ℕ) : Type 0 where
  pub line : is_line text ≡ true
  pub first : first_field text ≡ kind
  pub others : rest ≡ other_fields text

abbrev pub IsRead : List ℕ → Line → Type 0
IsRead text (Line.Home did host) = IsOfKind text (codes "home") (other_fields text)
    × (did.now ≡ first_field (other_fields text)) × (host.now ≡ other_fields (other_fields text))
IsRead text (Line.Trust did) = IsOfKind text (codes "trust") did.now
IsRead text (Line.Good part) = IsOfKind text (codes "good") part.now

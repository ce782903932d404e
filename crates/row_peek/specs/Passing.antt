-- The bytes behind items (own). That they are those that are left where such an item stands in
-- front is proved of them.
use Rattle.std.specs.Prelude.{ℕ, zero, suc, ◌/◌, ◌%◌, Bool, true, false, ◌&&◌, ◌||◌, ◌==◌, nat_le, nat_lt, if◌then◌else◌, List, [], ◌∷◌, length, drop, Option, Some, None}
use Rattle.at_cbor.specs.Heads.{argument_at}
use Rattle.at_cbor.specs.Taking.{◌>>=◌, number_at}
use Rattle.at_cbor.specs.declared.major.Major.{Major}
use Rattle.row_peek.specs.declared.passing.TheConstants.{TAGGED}

-- the bytes behind so many
abbrev pub past : ℕ → List ℕ → Option (List ℕ)
past n bytes = if nat_lt (length bytes) n then None else Some (drop n bytes)

-- the bytes behind what a head's major type and argument announce
abbrev pub content_behind : ℕ → ℕ → List ℕ → Option (List ℕ)
content_behind major n bytes = if major == 2 || major == 3 then past n bytes
    else (if major == 6 then past TAGGED bytes else Some bytes)

-- the bytes behind a head and what it announces
abbrev pub behind_head : (ℕ → ℕ → List ℕ → Option (List ℕ)) → List ℕ → Option (List ℕ)
behind_head content [] = None
behind_head content (first ∷ bytes) = argument_at (first % 32) bytes
    >>= λ a. content (first / 32) a.0 a.1

-- the bytes behind so many of what a step passes
abbrev pub times : ℕ → (List ℕ → Option (List ℕ)) → List ℕ → Option (List ℕ)
times zero step bytes = Some bytes
times (suc n) step bytes = step bytes >>= λ rest. times n step rest

-- the bytes behind an item that is no list
unfoldable pub scalar_behind : List ℕ → Option (List ℕ)
scalar_behind bytes = behind_head content_behind bytes

-- the bytes behind so many of these
unfoldable pub scalars_behind : ℕ → List ℕ → Option (List ℕ)
scalars_behind n bytes = times n scalar_behind bytes

-- a list is passed with its items, which are no lists
abbrev pub item_content_behind : ℕ → ℕ → List ℕ → Option (List ℕ)
item_content_behind major n bytes = if major == 4 then scalars_behind n bytes
    else content_behind major n bytes

-- the bytes behind an item of a row
unfoldable pub item_behind : List ℕ → Option (List ℕ)
item_behind bytes = behind_head item_content_behind bytes

-- the bytes behind so many items of a row
unfoldable pub items_behind : ℕ → List ℕ → Option (List ℕ)
items_behind n bytes = times n item_behind bytes

-- the bytes behind a list of items of a row
unfoldable pub row_behind : List ℕ → Option (List ℕ)
row_behind bytes = number_at Major.List bytes >>= λ n. items_behind n.0 n.1

-- no bytes, or such as begin with a list
abbrev pub ends_before : List ℕ → Bool
ends_before [] = true
ends_before (first ∷ bytes) = nat_le 128 first && nat_lt first 160

-- the bytes behind the row in front, which ends with the bytes or where another list begins
unfoldable pub ended_row : List ℕ → Option (List ℕ)
ended_row bytes = row_behind bytes >>= λ rest. if ends_before rest then Some rest else None

-- The DIDs that the rows of a journal name, in the order of bytes, and their accounts (own).
use Rattle.std.specs.Prelude.{◌≡◌, ℕ, true, List, [], ◌∷◌, Option, Some, None, map, if◌then◌else◌}
use Rattle.std.specs.List.{list_any}
use Rattle.std.specs.Str.{bytes_eq}
use Rattle.relay_row.specs.Folds.{did_of_row, is_named, names}
use Rattle.relay_row.specs.declared.row.Row.{Row}
use Rattle.account_state.specs.Entries.{is_before}
use Rattle.account_state.specs.Folds.{account}
use Rattle.account_state.specs.State.{State}

-- a DID among others in ascending order, once
abbrev pub put_did : List ℕ → List (List ℕ) → List (List ℕ)
put_did did [] = did ∷ []
put_did did (first ∷ others) = if is_before did first then did ∷ first ∷ others
    else (if bytes_eq did first then first ∷ others else first ∷ put_did did others)

-- the DIDs that rows name, in ascending order. The empty text names nothing
abbrev pub dids : List Row → List (List ℕ)
dids [] = []
dids (row ∷ rows) = if bytes_eq (did_of_row row) [] then dids rows
    else put_did (did_of_row row) (dids rows)

-- the accounts that rows name, each with its DID, in ascending order of these
abbrev pub accounts : List Row → List (List ℕ × State)
accounts rows = map (λ did. (did, account did rows)) (dids rows)

-- the account of a DID, where a row names it
abbrev pub named_account : List Row → List ℕ → Option State
named_account rows did = if is_named did rows then Some (account did rows) else None

-- ascending DIDs behind one
abbrev pub AreBehind : List ℕ → List (List ℕ) → Type 0
AreBehind did [] = Unit {0}
AreBehind did (first ∷ others) = (is_before did first ≡ true) × AreBehind first others

-- The DIDs of a journal ascend, so that each is there once, and they are those that its rows name.
pub record DidsAreNamed : Type 0 where
  pub ascend : (rows : List Row) → AreBehind [] (dids rows)
  pub named : (did : List ℕ) (rows : List Row)
      → list_any (names did) (dids rows) ≡ is_named did rows

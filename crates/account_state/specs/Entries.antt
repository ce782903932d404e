-- What the table of accounts tells of a DID.
use Rattle.std.specs.Ordering.{nat_cmp, is_lt}
use Rattle.std.specs.Cmp.Lexicographic.{slice_cmp}
use Rattle.std.specs.Map.{lookup}
use Rattle.std.specs.Prelude.{◌≡◌, ℕ, Bool, true, ◌&&◌, List, [], ◌∷◌, ◌++◌, Option, Some, None, if◌then◌else◌}
use Rattle.std.specs.List.{AllByRecursion}
use Rattle.std.specs.Option.{is_some, unwrap_or}
use Rattle.std.specs.Str.{bytes_eq}
use Rattle.relay_row.specs.declared.row.Row.{Row}
use Rattle.relay_row.specs.Folds.{names, did_of_row}
use Rattle.account_state.specs.declared.account.Account.{Account}
use Rattle.account_state.specs.Folds.{moved, fresh}
use Rattle.account_state.specs.State.{State, known}

-- a DID with its account, which a row may not name yet
abbrev pub Entry : Type 0
Entry = List ℕ × Account

abbrev pub found_entry : List ℕ → List Entry → Option Account
found_entry did es = lookup (bytes_eq did) es

abbrev pub known_in : Option Account → Option State
known_in None = None
known_in (Some a) = known a

-- the account of a DID that a row named, or nothing
abbrev pub entry : List Entry → List ℕ → Option State
entry es did = known_in (found_entry did es)

-- whether there is room for a DID
abbrev pub has_room : List Entry → List ℕ → Bool
has_room es did = is_some (found_entry did es)

-- what a row makes of the entry of a DID
abbrev pub entry_after : List ℕ → Option State → Row → Option State
entry_after did o row = if names did (did_of_row row) then Some (moved (unwrap_or o fresh) row)
    else o

-- a name stands before another, in the order of bytes
abbrev pub is_before : List ℕ → List ℕ → Bool
is_before name other = is_lt (slice_cmp nat_cmp name other)

abbrev pub AllBehind : List ℕ → List Entry → Type 0
AllBehind did es = AllByRecursion (λ e. is_before did e.0 ≡ true) es

-- each DID stands before all later ones
abbrev pub IsSorted : List Entry → Type 0
IsSorted [] = Unit {0}
IsSorted (e ∷ es) = AllBehind e.0 es × IsSorted es

-- an entry put before the first one that it stands before
abbrev pub put : Entry → List Entry → List Entry
put e [] = e ∷ []
put e (first ∷ es) = if is_before e.0 first.0 then e ∷ first ∷ es else first ∷ put e es

-- the first entry behind a DID that a row named
abbrev pub next_in : List ℕ → List Entry → Option Entry
next_in did [] = None
next_in did (e ∷ es) = if is_before did e.0 && e.1.named then Some e else next_in did es

-- the account under a DID follows a row, and all else stays
pub record Follows (did : List ℕ) (row : Row) (old new : List Entry) : Type 0 where
  pub front : List Entry
  pub back : List Entry
  pub before : Account
  pub after : Account
  pub was : old ≡ front ++ (did, before) ∷ back
  pub is : new ≡ front ++ (did, after) ∷ back
  pub moves : known after ≡ Some (moved (unwrap_or (known before) fresh) row)

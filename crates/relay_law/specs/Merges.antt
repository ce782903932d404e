-- Merges of hosts' streams, and what two journals of the same streams have in common.
use Rattle.std.specs.Prelude.{◌≡◌, ◌⊎◌, ℕ, true, List, [], ◌∷◌, ◌++◌, Some, Ok, Err}
use Rattle.std.specs.List.{filter}
use Rattle.std.specs.Str.{bytes_eq}
use Rattle.at_event.specs.declared.frame.Frame.{Frame}
use Rattle.relay_row.specs.Folds.{cursor, host_in}
use Rattle.relay_row.specs.declared.row.Row.{Row}
use Rattle.relay_row.specs.declared.taken.Taken.{Taken}
use Rattle.account_state.specs.Folds.{account}
use Rattle.account_state.specs.State.{State}
use Rattle.relay_core.specs.Decide.{Checks, Outside, decided}
use Rattle.relay_core.specs.Runs.{Message}
use Rattle.relay_core.specs.Worlds.{World}

-- the messages of one host
abbrev pub only : List ℕ → List Message → List Message
only host messages = filter (λ m. bytes_eq host m.0) messages

-- Two lists have of each host the same messages, in the same order.
abbrev pub Merge : List Message → List Message → Type 0
Merge one other = (host : List ℕ) → only host one ≡ only host other

-- a frame is an event of the account of this DID
abbrev pub IsOf : Frame → List ℕ → Type 0
IsOf (Frame.Event e) did = e.did ≡ did
IsOf (Frame.Faulty seq) did = ⊥
IsOf Frame.Info did = ⊥
IsOf Frame.Error did = ⊥
IsOf Frame.Unknown did = ⊥

abbrev pub TellsOf : Message → List ℕ → Type 0
TellsOf (host, Ok frame) did = IsOf frame did
TellsOf (host, Err fault) did = ⊥

-- among these messages there is one in which a host tells of an account
abbrev pub Names : List Message → List ℕ → List ℕ → Type 0
Names [] host did = ⊥
Names (m ∷ messages) host did = ((m.0 ≡ host) × TellsOf m did) ⊎ Names messages host did

-- No two hosts that tell of an account are both its home.
abbrev pub OneHome : World → List Message → Type 0
OneHome w messages = (did one other : List ℕ) → Names messages one did → Names messages other did
    → w.home did one ≡ true → w.home did other ≡ true → one ≡ other

-- Both are what is decided of one message of a host, for one account and the same answers, each
-- behind a last number of its own: they differ in the numbers that were given alone, also inside
-- the messages that go out.
pub record DifferInNumbers (checks : Checks) (one other : Taken) : Type 0 where
  pub host : List ℕ
  pub frame : Frame
  pub before : State
  pub answers : Outside
  pub one_last : ℕ
  pub other_last : ℕ
  pub one_is : decided checks one_last before host frame answers ≡ Some one
  pub other_is : decided checks other_last before host frame answers ≡ Some other

abbrev pub AreAlike : Checks → Row → Row → Type 0
AreAlike checks (Row.Taken one) (Row.Taken other) = DifferInNumbers checks one other
AreAlike checks one other = ⊥

-- as many rows, and each pair alike
abbrev pub AllAlike : Checks → List Row → List Row → Type 0
AllAlike checks [] [] = Unit {0}
AllAlike checks [] (other ∷ others) = ⊥
AllAlike checks (one ∷ ones) [] = ⊥
AllAlike checks (one ∷ ones) (other ∷ others) = AreAlike checks one other
    × AllAlike checks ones others

-- the rows of a host
abbrev pub rows_of : List ℕ → List Row → List Row
rows_of host rows = filter (λ row. bytes_eq host (host_in row)) rows

-- What two lists of rows behind one journal agree on: each account, each host's cursor, and, aside
-- from the numbers given, the rows of each host.
pub record Agree (checks : Checks) (J ones others : List Row) : Type 0 where
  pub accounts : (did : List ℕ) → account did (J ++ ones) ≡ account did (J ++ others)
  pub cursors : (host : List ℕ) → cursor host (J ++ ones) ≡ cursor host (J ++ others)
  pub rows : (host : List ℕ) → AllAlike checks (rows_of host ones) (rows_of host others)

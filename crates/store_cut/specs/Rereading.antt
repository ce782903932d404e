-- What is read back of a log, and what its rows come to (own).
use Rattle.std.specs.Prelude.{◌≡◌, ◌<◌, ◌++◌, ◌∷◌, ℕ, Bool, List, length, true, IsTrue}
use Rattle.std.specs.List.{list_all}
use Rattle.relay_disk.specs.Disk.{View}
use Rattle.gate_log.specs.Image.{made}
use Rattle.gate_log.specs.Log.{LogState, HoldsBodies as HasBodies}
use Rattle.relay_row.specs.Folds.{last_seq}
use Rattle.relay_row.specs.Journal.{IsJournal}
use Rattle.relay_row.specs.Rules.{is_row}
use Rattle.relay_row.specs.declared.row.Row.{Row}
use Rattle.relay_core.specs.declared.journal_state.Core.{Core}
use Rattle.relay_core.specs.Entries.{Holds}
use Rattle.relay_store.specs.Journals.{AllBodies, bytes_of}
use Rattle.relay_store.specs.Store.{IsOf}

-- where the disk tells, the log has the bodies that it had
abbrev pub StillHolds : Bool → LogState → View → View → Type 0
StillHolds tells log old new = IsTrue tells → (bodies : List (List ℕ)) → HasBodies bodies log old
    → HasBodies bodies log new

-- This is so of all bodies of a log: of those before a place, and of those from there on.
abbrev pub OfBodiesFrom : Bool → LogState → View → ℕ
    → (List (List Row) → List (List Row) → Type 0) → Type 0
OfBodiesFrom tells log v place P = IsTrue tells → (before after : List (List Row))
    → AllBodies (before ++ after) → HasBodies (bytes_of (before ++ after)) log v
    → place ≡ length (made log.format (bytes_of before)) → P before after

-- This is so of all bodies of a log: of those before a place, of the one there, and of those after it.
abbrev pub OfBodyAt : Bool → LogState → View → ℕ
    → (List (List Row) → List Row → List (List Row) → Type 0) → Type 0
OfBodyAt tells log v place P = IsTrue tells
    → (before : List (List Row)) (there : List Row) (after : List (List Row))
    → AllBodies (before ++ there ∷ after) → HasBodies (bytes_of (before ++ there ∷ after)) log v
    → place ≡ length (made log.format (bytes_of before)) → P before there after

-- These rows come behind every journal that the state is of: with them it is a journal.
abbrev pub GrowsInOrder : List Row → Core → Type 0
GrowsInOrder rows state = (J : List Row) → Holds state J → IsJournal J → list_all is_row rows ≡ true
    → IsJournal (J ++ rows)

-- They don't, whatever comes behind them.
abbrev pub BreaksOrder : List Row → Core → Type 0
BreaksOrder rows state = (J behind : List Row) → Holds state J → IsJournal (J ++ (rows ++ behind))
    → ⊥

-- The state is of some journal.
abbrev pub IsOfSome : Core → Type 0
IsOfSome state = (J : List Row) × IsOf J state

-- The state is of a journal that is cut: of what carries some journal over, where that has a
-- number, and of rows behind it.
abbrev pub IsOfSomeCut : Core → Type 0
IsOfSomeCut state = (front : List Row) × IsJournal front × (0 < last_seq front → IsOfSome state)

-- A store as contracts see it, and the journal that it has (own).
use Rattle.std.specs.Prelude.{◌≡◌, List}
use Rattle.event_window.specs.declared.place.Place.{Place}
use Rattle.relay_disk.specs.Disk.{View}
use Rattle.gate_log.specs.Log.{LogState}
use Rattle.gate_log.specs.Log.{HoldsBodies as HasBodies}
use Rattle.gate_log.specs.declared.picking.Side.{Side}
use Rattle.relay_row.specs.Journal.{IsJournal}
use Rattle.relay_row.specs.declared.row.Row.{Row}
use Rattle.relay_core.specs.declared.journal_state.Core.{Core}
use Rattle.relay_core.specs.Entries.{Holds}
use Rattle.relay_store.specs.Journals.{AreBodiesOf, bytes_of}
use Rattle.relay_store.specs.Places.{places_of}
use Rattle.relay_store.specs.declared.store.Store.{Store}

-- the log, the disk of the pair that it is on, the state, and the places of the events
pub record StoreState : Type 0 where
  pub log : LogState
  pub side : Side
  pub core : Core
  pub window : List Place

-- the store as contracts see it, of its parts
abbrev pub seen : LogState → Side → Core → List Place → StoreState
seen log side core window = record { log = log; side = side; core = core; window = window }

abbrev pub seen_in : Store → StoreState
seen_in s = seen s.log s.side s.core s.window.places

-- What the store knows is of this journal.
pub record IsOf (J : List Row) (state : Core) : Type 0 where
  pub holds : Holds state J
  pub journal : IsJournal J

-- The disk is the one that the store is open on, and it holds this journal: so do its content and
-- all that a crash may leave. What the store knows is of this journal.
pub record Keeps (J : List Row) (s : StoreState) (v : View) : Type 0 where
  pub bodies : List (List Row)
  pub are : AreBodiesOf J bodies
  pub holds : HasBodies (bytes_of bodies) s.log v
  pub core : Holds s.core J
  pub window : s.window ≡ places_of s.log.format bodies

-- The disk is the one that the store is open on.
abbrev pub IsKept : StoreState → View → Type 0
IsKept s v = (J : List Row) × Keeps J s v

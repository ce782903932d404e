-- The events that a store holds stay those of its journal.
use Rattle.std.proofs.Common.{◌≡◌, List}
use Rattle.event_window.specs.Held.{Held}
use Rattle.relay_disk.specs.Disk.{View}
use Rattle.gate_log.specs.Log.{HoldsBodies as HasBodies}
use Rattle.relay_row.specs.Folds.{events}
use Rattle.relay_row.specs.declared.row.Row.{Row}
use Rattle.store_read.specs.Events.{HasEvents, IsBufferOf, BufferState}
use Rattle.relay_store.specs.Journals.{bytes_of}
use Rattle.relay_store.specs.Shown.{held_by}
use Rattle.relay_store.specs.Store.{StoreState, Keeps}

-- the bodies are still there
pub still_kept : (J : List Row) (s : StoreState) (v w : View) (keeps : Keeps J s v) → HasBodies (bytes_of keeps.bodies) s.log w → Keeps J s w
still_kept J s v w keeps holds = record { bodies = keeps.bodies; are = keeps.are; holds = holds; core = keeps.core; window = keeps.window }

-- and so are the events, whichever buffer was read last
pub still_has : (J : List Row) (s : StoreState) (v w : View) (buffer : BufferState) (held : Held) (keeps : Keeps J s v) → HasBodies (bytes_of keeps.bodies) s.log w → held ≡ held_by J
    → IsBufferOf s.log.format keeps.bodies buffer → HasEvents s w buffer held
unfolding still_kept
still_has J s v w buffer held keeps holds is fits = (J, still_kept J s v w keeps holds, is, fits)

-- A body that is put together in a room.
use Rattle.std.specs.Prelude.{ℕ, List, ◌++◌, drop}
use Rattle.gate_log.specs.declared.pending_bodies.TheConstants.{AHEAD}

-- the body of a head and of what was put into a room behind the bytes that are left for what stands
-- ahead of it
abbrev pub body_in : List ℕ → List ℕ → List ℕ
body_in head room = head ++ drop AHEAD room

-- What a wire in memory tells.
use Rattle.std.specs.Prelude.{ℕ, List, [], ◌∷◌, drop, map, nat_le, Bool, false}
use Rattle.std.specs.Vec.{vec_capacity}
use Rattle.at_cid.specs.declared.failures.Failures.{Failures}
use Rattle.relay_io.specs.declared.memory_wire.MemoryWire.{MemoryWire}
use Rattle.relay_io.specs.declared.wire.Exchange.{Exchange}

abbrev pub requests_of : MemoryWire → List (List ℕ)
requests_of wire = drop wire.place wire.requests.items

abbrev pub exchanges_of : MemoryWire → List Exchange
exchanges_of wire = wire.exchanges.items

-- the calls of `next`
abbrev pub wire_calls : MemoryWire → Failures
wire_calls wire = wire.failures

-- the calls of `send`
abbrev pub send_calls : MemoryWire → Failures
send_calls wire = wire.send_failures

-- how many bytes each of the rooms has that are left for replies
abbrev pub rooms_of : MemoryWire → List ℕ
rooms_of wire = map vec_capacity wire.rooms.items

-- there is a last one of them, and it has so many bytes
abbrev pub has_room : ℕ → List ℕ → Bool
has_room bytes [] = false
has_room bytes (room ∷ []) = nat_le bytes room
has_room bytes (room ∷ next ∷ rooms) = has_room bytes (next ∷ rooms)

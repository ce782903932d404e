use Rattle.std.proofs.Common.{◌≡◌, ◌++◌, ◌∷◌, []}
use Rattle.std.specs.List.{repeat}
use Rattle.relay_io.specs.MemoryExchanges.{exchanges_of, requests_of, rooms_of, send_calls, wire_calls}
use Rattle.relay_io.proofs.memory_wire.MemoryWire.reserve.Given as goal

abbrev pub invariant-loop-made : goal.invariant-loop-made
invariant-loop-made l = record {
  rooms : rooms_of l.self ≡ rooms_of l.fn.self ++ repeat l._made (l.bytes ∷ []);
  requests : requests_of l.self ≡ requests_of l.fn.self;
  exchanges : exchanges_of l.self ≡ exchanges_of l.fn.self;
  wire : wire_calls l.self ≡ wire_calls l.fn.self;
  send : send_calls l.self ≡ send_calls l.fn.self;
}

use Rattle.std.proofs.Common.{◌≡◌, ◌++◌, ◌∷◌, [], nat_le, true, false, sym, rules, arith}
use Rattle.std.specs.Vec.{vec_capacity}
use Rattle.std.proofs.lemmas.Bool.Decides.{nat_tests}
use Rattle.relay_io.proofs.Rooms.{room_found}
use Rattle.relay_io.proofs.memory_wire.MemoryWire.take_room.Goals as goal

pub returns-then-capacity-bytes-clause-found : goal.returns-then-capacity-bytes-clause-found
returns-then-capacity-bytes-clause-found c =
    let few : nat_le c.args.bytes (vec_capacity c.in-Some.room) ≡ false = grind (arith, nat_tests) in
    sym (room_found vec_capacity c.args.bytes c.args.self.now.rooms.items c.pop.new.self.items c.in-Some.room false (search rules) few)

pub returns-clause-found : goal.returns-clause-found
returns-clause-found c =
    let enough : nat_le c.args.bytes (vec_capacity c.in-Some.room) ≡ true = grind (arith, nat_tests) in
    sym (room_found vec_capacity c.args.bytes c.args.self.now.rooms.items c.pop.new.self.items c.in-Some.room true (search rules) enough)

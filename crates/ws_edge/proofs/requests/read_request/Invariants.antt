use Rattle.std.proofs.Common.{length, ◌≤◌}
use Rattle.relay_io.specs.declared.wire.TheConstants.{LONGEST_REQUEST}
use Rattle.ws_edge.proofs.requests.read_request.Given as goal

abbrev pub invariant-pieces : goal.invariant-pieces
invariant-pieces g l = length l.request ≤ LONGEST_REQUEST

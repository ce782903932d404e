use Rattle.std.proofs.Common.{◌≡◌, ◌≤◌, List}
use Rattle.relay_core.specs.Entries.{Holds}
use Rattle.relay_row.specs.declared.row.Row.{Row}
use Rattle.read_run.specs.AtWire.{at_wire}
use Rattle.read_run.proofs.Querying.{IsQuerying}
use Rattle.read_run.proofs.answering.answer_all.Given as goal

abbrev pub invariant-requests : goal.invariant-requests
invariant-requests g l =
    record {
      querying : (J : List Row) → Holds l.core J → IsQuerying g.W.Wire.tells g.O.Sink.tells J l.answered
          (at_wire (g.W.Wire.requests l.fn.wire) (g.W.Wire.exchanges l.fn.wire) (g.W.Wire.send_faults l.fn.wire))
          (at_wire (g.W.Wire.requests l.wire) (g.W.Wire.exchanges l.wire) (g.W.Wire.send_faults l.wire))
          (g.O.Sink.written l.fn.out) (g.O.Sink.written l.out);
      wire : g.W.Wire.faults l.wire ≡ g.W.Wire.faults l.fn.wire;
      sends : g.W.Wire.send_faults l.fn.wire ≤ g.W.Wire.send_faults l.wire;
      output : g.O.Sink.faults l.out ≡ g.O.Sink.faults l.fn.out;
    }

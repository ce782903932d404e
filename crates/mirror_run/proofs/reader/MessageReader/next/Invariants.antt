use Rattle.std.proofs.Common.{◌≡◌, ◌≤◌, ◌-◌, IsTrue}
use Rattle.mirror_run.specs.Reading.{coming, taken}
use Rattle.mirror_run.proofs.reader.MessageReader.next.Given as goal

abbrev pub invariant-pieces : goal.invariant-pieces
invariant-pieces g l =
    let left = g.I.Source.left in
    let faults = g.I.Source.faults in
    record {
      stays : IsTrue g.I.Source.tells → coming l.self (left l.source) ≡ coming l.fn.self (left l.fn.source);
      place : l.self.place ≡ l.fn.self.place;
      most : l.self.most ≡ l.fn.self.most;
      counts : faults l.fn.source ≤ faults l.source;
      steady : faults l.source ≡ faults l.fn.source;
    }

abbrev pub decreases-pieces : goal.decreases-pieces
decreases-pieces g l = l.self.most - taken l.self

use Rattle.std.proofs.Common.{◌-◌, ◌≤◌, ◌≡◌}
use Rattle.gate_log.specs.Pick.{other_side}
use Rattle.relay_store.specs.Store.{seen_in}
use Rattle.run_base.specs.Place.{IsLater, disk_of, faults_of, place_of, tells_of}
use Rattle.take_run.specs.Going.{IsReady, NothingFailed, at}
use Rattle.take_run.proofs.WholeGroups.{IsReading}
use Rattle.take_run.proofs.taping.OutsideTapes.take_tape.Given as goal

abbrev pub invariant-groups : goal.invariant-groups
invariant-groups g l =
    let place = place_of g.D.Disk.view g.P.Judges.panel g.C.Clock.moments g.R.Repos.repository g.O.Sink.written g.R.Repos.faults g.C.Clock.faults g.O.Sink.faults in
    let faults = faults_of g.D.Disk.view g.R.Repos.faults g.C.Clock.faults g.O.Sink.faults in
    let tells = (tells_of g.D.Disk.tells g.C.Clock.tells g.R.Repos.tells g.O.Sink.tells) in
    let left = g.I.Source.left in
    record {
      reading : IsReading g.I.Source.tells (left l.fn.input) l.tape (left l.input) tells (at l.fn.run (place l.fn.self)) (at l.run (place l.self));
      ready : IsReady tells (at l.run (place l.self));
      side : (seen_in l.run.store).side ≡ (seen_in l.fn.run.store).side;
      beside : disk_of (other_side (seen_in l.fn.run.store).side) l.self.pair ≡ disk_of (other_side (seen_in l.fn.run.store).side) l.fn.self.pair;
      most : l.tape.most ≡ l.limit;
      few : l.run.tally.messages ≤ l.tape.place;
      nothing : NothingFailed (place l.fn.self) (place l.self);
      still : g.I.Source.faults l.input ≡ g.I.Source.faults l.fn.input;
      later : IsLater faults l.fn.self l.self;
    }

abbrev pub decreases-groups : goal.decreases-groups
decreases-groups g l = l.limit - l.tape.place

use Rattle.std.proofs.Common.{◌≤◌, ◌≡◌}
use Rattle.gate_log.specs.Pick.{other_side}
use Rattle.relay_store.specs.Store.{seen_in}
use Rattle.run_base.specs.Place.{IsLater, disk_of, faults_of, place_of, tells_of}
use Rattle.take_run.specs.Going.{IsReady, NothingFailed, at}
use Rattle.take_run.proofs.FeedSteps.{IsFollowing}
use Rattle.take_run.proofs.streaming.OutsideStreams.take_stream.Given as goal

abbrev pub invariant-messages : goal.invariant-messages
invariant-messages g l =
    let place = place_of g.D.Disk.view g.P.Judges.panel g.C.Clock.moments g.R.Repos.repository g.O.Sink.written g.R.Repos.faults g.C.Clock.faults g.O.Sink.faults in
    let faults = faults_of g.D.Disk.view g.R.Repos.faults g.C.Clock.faults g.O.Sink.faults in
    let tells = (tells_of g.D.Disk.tells g.C.Clock.tells g.R.Repos.tells g.O.Sink.tells) in
    record {
      following : IsFollowing l.host (g.S.Stream.leaves l.fn.stream) (g.S.Stream.leaves l.stream) tells (at l.fn.run (place l.fn.self)) (at l.run (place l.self)) l.counter;
      ready : IsReady tells (at l.run (place l.self));
      side : (seen_in l.run.store).side ≡ (seen_in l.fn.run.store).side;
      beside : disk_of (other_side (seen_in l.fn.run.store).side) l.self.pair ≡ disk_of (other_side (seen_in l.fn.run.store).side) l.fn.self.pair;
      few : l.run.tally.messages ≤ l.counter;
      nothing : NothingFailed (place l.fn.self) (place l.self);
      steady : g.S.Stream.faults l.stream ≡ g.S.Stream.faults l.fn.stream;
      stream : g.S.Stream.later l.fn.stream l.stream;
      stream_ready : g.S.Stream.ready l.stream;
      later : IsLater faults l.fn.self l.self;
    }

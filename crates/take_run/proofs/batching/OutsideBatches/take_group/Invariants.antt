use Rattle.std.proofs.Common.{List, length, ◌-◌, ◌+◌, ◌<◌, ◌≤◌, ◌≡◌, take, drop}
use Rattle.gate_log.specs.Pick.{other_side}
use Rattle.relay_row.specs.declared.row.Row.{Row}
use Rattle.relay_store.specs.Store.{IsOf, seen_in}
use Rattle.run_base.specs.Place.{IsLater, disk_of, faults_of, place_of, tells_of}
use Rattle.take_run.specs.Going.{Going, IsReady, NothingFailed, at}
use Rattle.take_run.specs.Said.{AreLive, FirstHasEnded}
use Rattle.take_run.proofs.batching.OutsideBatches.take_group.Given as goal

abbrev pub invariant-batches : goal.invariant-batches
invariant-batches g l =
    let place = place_of g.D.Disk.view g.P.Judges.panel g.C.Clock.moments g.R.Repos.repository g.O.Sink.written g.R.Repos.faults g.C.Clock.faults g.O.Sink.faults in
    let faults = faults_of g.D.Disk.view g.R.Repos.faults g.C.Clock.faults g.O.Sink.faults in
    let tells = (tells_of g.D.Disk.tells g.C.Clock.tells g.R.Repos.tells g.O.Sink.tells) in
    record {
      within : l.done ≤ length l.group;
      live_within : l.live ≤ length (drop l.done l.group);
      live : AreLive l.run.tally.ended.items (take l.live (drop l.done l.group));
      first : 0 < length (drop l.done l.group) → l.live ≡ 0 → FirstHasEnded l.run.tally.ended.items (drop l.done l.group);
      ready : IsReady tells (at l.run (place l.self));
      side : (seen_in l.run.store).side ≡ (seen_in l.fn.run.store).side;
      beside : disk_of (other_side (seen_in l.fn.run.store).side) l.self.pair ≡ disk_of (other_side (seen_in l.fn.run.store).side) l.fn.self.pair;
      count : l.run.tally.messages ≤ l.fn.run.tally.messages + l.done;
      going : (J : List Row) → IsOf J l.fn.run.store.core → Going tells J (take l.done l.group) (at l.fn.run (place l.fn.self)) (at l.run (place l.self));
      nothing : NothingFailed (place l.fn.self) (place l.self);
      later : IsLater faults l.fn.self l.self;
    }

abbrev pub decreases-batches : goal.decreases-batches
decreases-batches g l = length l.group - l.done

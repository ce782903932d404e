use Rattle.std.proofs.Common.{refl, rules}
use Rattle.relay_store.specs.Shown.{held_by}
use Rattle.read_run.proofs.EventsRead.{disk_read}
use Rattle.read_run.proofs.replaying.replay_from.Goals as goal

pub replay_events-requires : goal.replay_events-requires
replay_events-requires g c = λ told. let kept = c.requires told in (
  held_by kept.0,
  c.events-events.ensures.held told
      kept.0 kept.1,
)

pub returns-clause-replayed : goal.returns-clause-replayed
returns-clause-replayed g c = λ told J keeps. c.replay_events.ensures.replayed told (held_by J)
    (c.events-events.ensures.held told J keeps)

pub returns-clause-read : goal.returns-clause-read
returns-clause-read g c =
    disk_read _ _ _ _ _ _ g.D.Disk.view c.args.disk.now c.events-events.result.disk.now
    c.replay_events.new.events.disk.now _ c.replay_events.result c.events-events.ensures.disk (search rules)
    c.replay_events.ensures.later.2.goes refl refl
    (λ told. let kept = c.requires told in (held_by kept.0, c.events-events.ensures.held told kept.0 kept.1))
    c.replay_events.ensures.read

use Rattle.std.proofs.Common.{refl, rules}
use Rattle.relay_store.specs.Shown.{held_by}
use Rattle.read_run.proofs.EventsRead.{disk_read}
use Rattle.read_run.proofs.serving.serve_from.Goals as goal

pub serve_guests-requires : goal.serve_guests-requires
serve_guests-requires g c = λ told. let kept = c.requires told in (
  held_by kept.0,
  c.events-events.ensures.held told
      kept.0 kept.1,
)

pub returns-clause-served : goal.returns-clause-served
returns-clause-served g c = λ told J keeps. c.serve_guests.ensures.served told (held_by J)
    (c.events-events.ensures.held told J keeps)

pub returns-clause-read : goal.returns-clause-read
returns-clause-read g c =
    disk_read _ _ _ _ _ _ g.D.Disk.view c.args.disk.now c.events-events.result.disk.now
    c.serve_guests.new.events.disk.now _ c.serve_guests.result c.events-events.ensures.disk (search rules)
    c.serve_guests.ensures.later.2.goes refl refl (λ told. let kept = c.requires told in
    (held_by kept.0, c.events-events.ensures.held told kept.0 kept.1)) c.serve_guests.ensures.read

use Rattle.std.proofs.Common.{refl, rules}
use Rattle.relay_store.specs.Shown.{held_by}
use Rattle.read_run.proofs.EventsRead.{disk_read}
use Rattle.read_run.proofs.writing.lines_from.Goals as goal

pub write_lines-requires : goal.write_lines-requires
write_lines-requires g c = λ told. let kept = c.requires told in (
  held_by kept.0,
  c.events-events.ensures.held told
      kept.0 kept.1,
)

pub returns-clause-lined : goal.returns-clause-lined
returns-clause-lined g c = λ told J keeps. c.write_lines.ensures.lined told (held_by J)
    (c.events-events.ensures.held told J keeps)

pub returns-clause-read : goal.returns-clause-read
returns-clause-read g c =
    disk_read _ _ _ _ _ _ g.D.Disk.view c.args.disk.now c.events-events.result.disk.now
    c.write_lines.new.events.disk.now _ c.write_lines.result c.events-events.ensures.disk (search rules)
    c.write_lines.ensures.later.2.goes refl refl (λ told. let kept = c.requires told in
    (held_by kept.0, c.events-events.ensures.held told kept.0 kept.1)) c.write_lines.ensures.read

use Rattle.read_run.proofs.EventsRead.{done_spares, read_replaying, read_well}
use Rattle.read_run.proofs.Messages.{of_reading, replay_counts, replay_done, replay_failed, replay_may}
use Rattle.read_run.proofs.replaying.replay_events.Goals as goal

pub returns-in-Ok-clause-replayed : goal.returns-in-Ok-clause-replayed
returns-in-Ok-clause-replayed g c = λ told held holds. replay_done g.O.Sink.tells _ held c.args.cursor _ _
    (c.in-Ok.ensures.written told held holds).whole

pub returns-in-Err-clause-replayed : goal.returns-in-Err-clause-replayed
returns-in-Err-clause-replayed g c = λ told held holds.
    replay_failed g.O.Sink.tells _ held c.args.cursor _ _ c.in-Err.fault c.status_of_replay.result
    c.status_of_replay.ensures (c.in-Err.ensures.written told held holds).front
    (λ of out. c.in-Err.ensures.unbroken of told held holds out)

pub returns-in-Err-clause-upto : goal.returns-in-Err-clause-upto
returns-in-Err-clause-upto g c = λ of. c.in-Err.ensures.upto
    (of_reading c.in-Err.fault c.status_of_replay.result c.status_of_replay.ensures of)

pub returns-in-Err-clause-may : goal.returns-in-Err-clause-may
returns-in-Err-clause-may g c = replay_may c.in-Err.fault c.status_of_replay.result c.status_of_replay.ensures

pub returns-in-Ok-clause-read : goal.returns-in-Ok-clause-read
returns-in-Ok-clause-read g c =
    read_well g.E.Events.tells g.E.Events.holds g.E.Events.faults g.E.Events.damage c.args.events.now
    c.replay.new.events _ done_spares c.in-Ok.ensures.same (c.in-Ok.ensures.event_steady (λ is. absurd cc))
    c.in-Ok.ensures.damaged

pub returns-in-Err-clause-read : goal.returns-in-Err-clause-read
returns-in-Err-clause-read g c =
    read_replaying g.E.Events.tells g.E.Events.holds g.E.Events.faults g.E.Events.damage c.args.events.now
    c.replay.new.events c.in-Err.ensures.same c.in-Err.ensures.event_counts
    c.in-Err.fault c.status_of_replay.result c.status_of_replay.ensures c.in-Err.ensures.disk
    c.in-Err.ensures.event_steady c.in-Err.ensures.damaged c.in-Err.ensures.no_bad_log

pub returns-in-Err-clause-output : goal.returns-in-Err-clause-output
returns-in-Err-clause-output g c = replay_counts c.in-Err.fault c.status_of_replay.result _ _ c.status_of_replay.ensures
    c.in-Err.ensures.failed c.in-Err.ensures.memory_steady c.in-Err.ensures.counts

use Rattle.mirror_run.proofs.Stopping.{may_early, may_late, mirrored_all, mirrored_front}
use Rattle.mirror_run.proofs.mirroring.mirror.Goals as goal

pub returns-in-Ok-clause-mirrored : goal.returns-in-Ok-clause-mirrored
returns-in-Ok-clause-mirrored g c =
    mirrored_all g.I.Source.tells g.O.Sink.tells g.R.Repos.tells c.args.limit (g.R.Repos.repository c.args.repos.now) (g.I.Source.left c.args.input.now) (g.O.Sink.written c.args.out.now) (g.O.Sink.written c.write_text.new.out) c.write_text.result
    c.in-Ok.taken.mirror c.in-Ok.taken.events c.in-Ok.ensures.taken c.write_text.ensures.wrote (λ told dids are. c.write_text.ensures.written told dids are)

pub returns-in-Ok-clause-may : goal.returns-in-Ok-clause-may
returns-in-Ok-clause-may g c = may_late c.write_text.result c.write_text.ensures.wrote

pub returns-in-Err-clause-mirrored : goal.returns-in-Err-clause-mirrored
returns-in-Err-clause-mirrored g c =
    mirrored_front g.I.Source.tells g.O.Sink.tells g.R.Repos.tells c.args.limit (g.R.Repos.repository c.args.repos.now) (g.I.Source.left c.args.input.now) (g.O.Sink.written c.args.out.now) c.in-Err.status c.in-Err.ensures.stopped c.in-Err.ensures.early

pub returns-in-Err-clause-may : goal.returns-in-Err-clause-may
returns-in-Err-clause-may g c = may_early c.in-Err.status c.in-Err.ensures.early

use Rattle.std.proofs.Common.{inl, map, string_bytes, sym}
use Rattle.relay_cli.proofs.Encoded.{one_command}
use Rattle.relay_cli.proofs.Handed.{causes_at, parts_same, ran_at}
use Rattle.relay_cli.proofs.Words.{ran_as}
use Rattle.relay_cli.proofs.running.relay.Goals as goal

pub returns-in-Ok-clause-ran : goal.returns-in-Ok-clause-ran
returns-in-Ok-clause-ran g c =
    let same = parts_same g.D.Disk.view g.P.Judges.panel g.C.Clock.moments g.R.Repos.repository g.O.Sink.written g.R.Repos.faults g.C.Clock.faults g.O.Sink.faults _ _ _ _ (c.disk-1.given.1 (sym c.run.ensures.later.pair.one)) (c.other-1.given.1 (sym c.run.ensures.later.pair.two)) (c.panel-1.given.1 (sym c.run.ensures.later.asked.judges)) (c.repos-1.given.1 (sym c.run.ensures.later.asked.repos)) (c.clock-1.given.1 (sym c.run.ensures.later.asked.clock)) (c.out-1.given.1 (sym c.run.ensures.later.out)) in
    inl (λ command encoded. (
      ran_at _ _ _ _ _ _ _ _ _ _ _ _ same (ran_as _ _ _ _ _ _ _ _ (sym (one_command (map string_bytes c.args.words.now) c.in-Ok.command command c.in-Ok.ensures.encoded encoded)) c.run.ensures.ran.0),
      causes_at _ _ _ _ same c.run.ensures.ran.1,
    ))

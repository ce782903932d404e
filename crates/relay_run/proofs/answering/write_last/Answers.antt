use Rattle.std.proofs.Common.{[], ◌∷◌}
use Rattle.report_lines.specs.Lines.{numbered}
use Rattle.report_lines.proofs.Writing.{front_of_second}
use Rattle.relay_run.proofs.Counts.{counted_last}
use Rattle.relay_run.proofs.answering.write_last.Goals as goal

pub returns-clause-front : goal.returns-clause-front
returns-clause-front g c = λ told.
    front_of_second (g.O.Sink.written c.args.out.now) (g.O.Sink.written c.write_number.new.out) (g.O.Sink.written c.write_all.new.out) (numbered c.args.command.now c.args.number) (10 ∷ []) (c.in_ok-write_number.ensures.written told) (c.write_all.ensures.front told)

pub returns-clause-counts : goal.returns-clause-counts
returns-clause-counts g c = counted_last c.write_all.result _ _ _ (c.in_ok-write_number.ensures.counts.steady (λ is. absurd cc)) c.write_all.ensures.counts c.write_all.ensures.steady c.write_all.ensures.failed

use Rattle.std.proofs.Common.{[], ◌∷◌, ◌++◌, codes}
use Rattle.report_lines.specs.Lines.{numbered}
use Rattle.report_lines.proofs.Writing.{front_of_second}
use Rattle.relay_run.proofs.Counts.{counted_then}
use Rattle.relay_run.proofs.answering.write_synced.Goals as goal

pub returns-clause-front : goal.returns-clause-front
returns-clause-front g c = λ told.
    front_of_second (g.O.Sink.written c.args.out.now) (g.O.Sink.written c.write_number.new.out) (g.O.Sink.written c.write_last.new.out) (numbered (codes "synced ") c.args.seq) (numbered (codes " records ") c.args.records ++ 10 ∷ []) (c.in_ok-write_number.ensures.written told) (c.write_last.ensures.front told)

pub returns-clause-counts : goal.returns-clause-counts
returns-clause-counts g c = counted_then _ _ _ _ (c.in_ok-write_number.ensures.counts.steady (λ is. absurd cc)) c.write_last.ensures.counts

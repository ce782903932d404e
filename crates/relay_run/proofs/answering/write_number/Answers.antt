use Rattle.std.proofs.Common.{ℕ, List, ◌∙◌, subst, decimal}
use Rattle.relay_io.specs.Streams.{AddsFront}
use Rattle.report_lines.proofs.Writing.{front_of_second}
use Rattle.relay_run.proofs.Counts.{counted_last}
use Rattle.relay_run.proofs.answering.write_number.Goals as goal

pub returns-clause-front : goal.returns-clause-front
returns-clause-front g c = λ told.
    front_of_second (g.O.Sink.written c.args.out.now) (g.O.Sink.written c.write_all.new.out) (g.O.Sink.written c.write_all-2.new.out) c.args.command.now (decimal c.args.number) (c.in_ok-write_all.ensures.written told)
    (subst (λ (l : List ℕ). AddsFront (g.O.Sink.written c.write_all.new.out) (g.O.Sink.written c.write_all-2.new.out) l) (c.as_bytes.ensures.value ∙ c.format.ensures.text) (c.write_all-2.ensures.front told))

pub returns-clause-counts : goal.returns-clause-counts
returns-clause-counts g c = counted_last c.write_all-2.result _ _ _ c.in_ok-write_all.ensures.steady c.write_all-2.ensures.counts c.write_all-2.ensures.steady c.write_all-2.ensures.failed

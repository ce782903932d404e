use Rattle.mirror_run.specs.Lines.{mirror_end_line}
use Rattle.mirror_run.specs.Printing.{lines_in}
use Rattle.mirror_run.proofs.Printed.{ended}
use Rattle.mirror_run.proofs.printing.write_text.Goals as goal

pub returns-in-Ok-clause-written : goal.returns-in-Ok-clause-written
returns-in-Ok-clause-written g c = λ told dids are.
    ended c.write_end.result (lines_in c.args.mirror.now dids) c.write_accounts.new.text (mirror_end_line c.args.events) (g.O.Sink.written c.args.out.now) (g.O.Sink.written c.write_accounts.new.out) (g.O.Sink.written c.write_end.new.out)
    c.write_end.ensures.wrote (c.in-Ok.ensures.written told dids are) (c.write_end.ensures.written told)

use Rattle.std.specs.Prelude.{OnOk, Result, Ok, Err}
use Rattle.take_run.proofs.answering.skip.Goals as goal

on_ok : {A E : Type 0} (r : Result A E) (P : Type 0) → P → OnOk r P
on_ok (Ok x) P h = h
on_ok (Err y) P h = tt

pub returns-clause-noted : goal.returns-clause-noted
returns-clause-noted g c = on_ok c.write_lines.result _ (c.skip.ensures c.args.host.now)

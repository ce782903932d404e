use Rattle.std.proofs.Common.{List, subst}
use Rattle.gate_log.specs.Log.{HoldsBodies as HasBodies}
use Rattle.relay_row.specs.declared.row.Row.{Row}
use Rattle.relay_store.specs.Journals.{AllBodies, bytes_of}
use Rattle.store_read.proofs.Buffering.{some_place}
use Rattle.relay_store.proofs.InBodies.{each_at}
use Rattle.store_read.proofs.buffer.Buffer.turn.Goals as goal

pub returns-in_err-self-inside-clause-fits : goal.returns-in_err-self-inside-clause-fits
returns-in_err-self-inside-clause-fits g c = λ tells bodies each holds before there after split here. absurd (some_place c.args.log.now.format (bytes_of before) here)

pub returns-clause-fits : goal.returns-clause-fits
returns-clause-fits g c = λ tells bodies each holds before there after split here.
    c.in_ok-self-inside.ensures.rows tells before there after (each_at before there after (subst AllBodies split each))
    (subst (λ (bs : List (List Row)). HasBodies (bytes_of bs) c.args.log.now (g.D.Disk.view c.args.disk.now)) split holds) here

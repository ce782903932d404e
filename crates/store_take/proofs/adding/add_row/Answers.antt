use Rattle.std.proofs.Common.{◌∙◌}
use Rattle.std.proofs.lemmas.Result.{on_ok_weaker, on_err_weaker}
use Rattle.row_codec.specs.Bodies.{row_encoding}
use Rattle.store_take.proofs.Rooms.{cut_again, fits_again, full_of}
use Rattle.store_take.proofs.adding.add_row.Goals as goal

pub take_in-taken-requires-clause-fits : goal.take_in-taken-requires-clause-fits
take_in-taken-requires-clause-fits c = fits_again c.args.log.now c.args.pending.now _ c.requires.fits (cut_again _ c.args.pending.now.body (row_encoding c.args.row) _ c.len-start.ensures c.in-Ok.ensures.written)

pub returns-in-Ok-clause-ok : goal.returns-in-Ok-clause-ok
returns-in-Ok-clause-ok c =
    on_ok_weaker c.take_in-taken.result (λ applied. record {
      core = applied.core;
      window = applied.window;
      body = applied.body ∙ c.in-Ok.ensures.written;
      count = applied.count;
    }) c.take_in-taken.ensures.ok

pub returns-in-Ok-clause-as_before : goal.returns-in-Ok-clause-as_before
returns-in-Ok-clause-as_before c =
    on_err_weaker c.take_in-taken.result (λ same. record {
      core = same.core;
      window = same.window;
      body = same.body ∙ cut_again _ c.args.pending.now.body (row_encoding c.args.row) _ c.len-start.ensures c.in-Ok.ensures.written;
      count = same.count;
    }) c.take_in-taken.ensures.as_before

pub returns-in-Ok-clause-full : goal.returns-in-Ok-clause-full
returns-in-Ok-clause-full c = λ e is rows has. full_of c.args.log.now rows c.args.row c.args.pending.now _ _ e has c.len-start.ensures c.in-Ok.ensures.written (c.take_in-taken.ensures.full e is)

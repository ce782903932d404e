use Rattle.std.proofs.Common.{◌≡◌, arith}
use Rattle.store_take.proofs.Rooms.{past_end, length_more}
use Rattle.store_take.proofs.adding.fit_row.Goals as goal

pub returns-in-Err-clause-full : goal.returns-in-Err-clause-full
returns-in-Err-clause-full c = λ e is.
    let same : c.own_end.result ≡ e = cc in
    let past = past_end _ _ _ c.fits.ensures.full c.fits.ensures.no_disk c.fits.ensures.no_bad_log c.fits.ensures.no_memory c.in-Err.field-0 c.in-Err.is in
    record {
      there = omega (arith, same, c.own_end.ensures);
      past = omega (arith, past, length_more c.args.pending.now, c.len-rows.ensures, c.saturating_add-len.ensures, c.list_front_len.ensures.len, c.if-len-ge-BODY_LENGTHS.false);
    }

use Rattle.std.proofs.Common.{refl, arith}
use Rattle.store_take.proofs.Rooms.{fits_more}
use Rattle.store_take.proofs.adding.take_in.Goals as goal

pub returns-in-Ok-clause-fits : goal.returns-in-Ok-clause-fits
returns-in-Ok-clause-fits c = fits_more c.args.log.now c.args.pending.now _ (omega (arith, c.requires.begun, c.requires.within)) c.in-Ok.ensures.fits refl refl

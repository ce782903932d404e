use Rattle.std.proofs.Common.{◌-◌, arith}
use Rattle.std.proofs.lemmas.Bool.Decides.{nat_tests}
use Rattle.event_window.proofs.Searches.{begins}
use Rattle.event_window.proofs.window.begins_at.Goals as goal

pub returns-else-index-eq0-clause-begins : goal.returns-else-index-eq0-clause-begins
returns-else-index-eq0-clause-begins c = λ is above.
    begins c.args.seq 0 c.args.places.now (c.args.index - 1) c.args.index (record { seq = 0; place = 0; index = 0 }) (record { seq = 0; place = 0; index = 0 }) above (omega (arith, c.if-index-eq0.false)) c.if-index-places.false (grind (arith, nat_tests, is)) c.if-places-index.false

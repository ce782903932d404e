-- What doesn't hold of a command or of a status.
use Rattle.std.proofs.Common.{◌≡◌, ◌≢◌, true, false, ap, sym, ◌∙◌}
use Rattle.run_base.specs.declared.status.Status.{Status}
use Rattle.relay_cli.specs.Ran.{makes_no_row}

pub off : false ≡ true → ⊥
off are = cc

-- where no row was made, it ended neither well nor by a failure of the output
pub rowless : (status end : Status) → makes_no_row end ≡ false → makes_no_row status ≡ true → status ≢ end
rowless status end made on is = off (sym made ∙ (sym (ap makes_no_row is) ∙ on))

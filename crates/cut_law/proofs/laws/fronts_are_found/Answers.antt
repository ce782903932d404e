use Rattle.std.proofs.Common.{refl}
use Rattle.cut_law.specs.Cut.{is_old}
use Rattle.cut_law.proofs.Fronts.{front_taken, grown, rest_left}
use Rattle.cut_law.proofs.laws.fronts_are_found.Goals as goal

pub returns : goal.returns
returns c = record { grows = λ at rows row. grown at row (is_old at row) refl rows; front_is = front_taken; rest_is = rest_left }

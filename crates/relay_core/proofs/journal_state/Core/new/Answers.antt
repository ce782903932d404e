use Rattle.std.proofs.Common.{refl}
use Rattle.relay_core.proofs.Holding.{none_holds}
use Rattle.relay_core.proofs.journal_state.Core.new.Goals as goal

pub returns : goal.returns
returns c = none_holds _ c.new.ensures.entries c.new-2.ensures refl refl

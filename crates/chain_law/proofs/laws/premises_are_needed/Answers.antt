use Rattle.chain_law.proofs.Needing.{premises_needed}
use Rattle.chain_law.proofs.laws.premises_are_needed.Goals as goal

pub returns : goal.returns
returns c = premises_needed

use Rattle.relay_core.proofs.Returning.{block_returns}
use Rattle.relay_core.proofs.laws.blocks_return.Goals as goal

pub returns : goal.returns
returns c = block_returns

use Rattle.relay_core.proofs.Asking.{ask_open}
use Rattle.relay_core.proofs.laws.asks_once.Goals as goal

pub returns : goal.returns
returns c = ask_open

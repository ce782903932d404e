use Rattle.std.proofs.Common.{arith}
use Rattle.std.proofs.lemmas.Map.Text.{text_keys}
use Rattle.host_state.proofs.hosts.Hosts.touch.Goals as goal

pub returns-clause-kept : goal.returns-clause-kept
returns-clause-kept c = λ name room. grind (arith, text_keys)

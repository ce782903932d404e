use Rattle.std.proofs.Common.{arith}
use Rattle.std.proofs.lemmas.Map.Text.{text_keys}
use Rattle.mirror.proofs.keeping.Mirror.put.Goals as goal

pub returns-clause-put : goal.returns-clause-put
returns-clause-put c = λ name. grind (arith, text_keys)

pub returns-clause-known : goal.returns-clause-known
returns-clause-known c = λ name. grind (arith, text_keys)

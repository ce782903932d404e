use Rattle.at_syntax.proofs.Dids.{did_grammar}
use Rattle.at_syntax.proofs.did.did_ok.Goals as goal

pub returns-clause-grammar : goal.returns-clause-grammar
returns-clause-grammar c = did_grammar c.args.text.now c.is_did.result c.is_did.ensures

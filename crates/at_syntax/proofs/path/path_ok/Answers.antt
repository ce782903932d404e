use Rattle.at_syntax.proofs.Paths.{path_grammar}
use Rattle.at_syntax.proofs.path.path_ok.Goals as goal

pub returns-clause-grammar : goal.returns-clause-grammar
returns-clause-grammar c = path_grammar c.args.text.now c.is_path.result c.is_path.ensures

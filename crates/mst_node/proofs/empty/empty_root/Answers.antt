use Rattle.std.proofs.Common.{ℕ, List, [], Option, sym, ap, ◌∙◌}
use Rattle.std.specs.Option.{unwrap_or}
use Rattle.mst_node.proofs.EmptyTree.{empty_linked}
use Rattle.mst_node.proofs.empty.empty_root.Goals as goal

pub returns : goal.returns
returns c = ap (λ (o : Option (List ℕ)). unwrap_or o []) (sym c.in-Some.is ∙ c.parse_binary.ensures) ∙ empty_linked

use Rattle.mst_view.proofs.Heights.{top_deep}
use Rattle.mst_view.proofs.stub_tree.StubTree.into_top.Goals as goal

pub returns-clause-layer : goal.returns-clause-layer
returns-clause-layer c = top_deep c.self.inside.top c.self.invariant

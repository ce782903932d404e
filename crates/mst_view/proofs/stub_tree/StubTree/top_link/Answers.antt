use Rattle.std.proofs.Common.{sym, ap, ◌∙◌}
use Rattle.mst_node.specs.Trees.{root}
use Rattle.mst_view.specs.StubTree.{top_items}
use Rattle.mst_view.proofs.stub_tree.StubTree.top_link.Goals as goal

pub returns-in-None : goal.returns-in-None
returns-in-None c = c.empty_root.ensures ∙ ap (λ x. root (top_items x)) (sym c.in-None.is) ∙ ap root c.self.view_is

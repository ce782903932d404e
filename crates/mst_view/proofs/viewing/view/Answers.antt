use Rattle.mst_view.proofs.NoView.{no_view}
use Rattle.mst_view.proofs.viewing.view.Goals as goal

pub returns-clause-none : goal.returns-clause-none
returns-clause-none c = rw (← c.of.ensures) (no_view c.of.result c.args.root.now c.view_at.result c.view_at.ensures.fault)

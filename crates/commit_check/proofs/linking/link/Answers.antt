use Rattle.std.proofs.Common.{ℕ, List, sym, subst}
use Rattle.commit_check.specs.Step.{edits_of, IsCoveredBy}
use Rattle.commit_check.proofs.Exact.{only_covered}
use Rattle.commit_check.proofs.Objects.{root_is_node}
use Rattle.commit_check.proofs.linking.link.Goals as goal

pub lead_back-requires-clause-kind : goal.lead_back-requires-clause-kind
lead_back-requires-clause-kind c = root_is_node c.args.event.now c.args.opened.now c.ghost_linked.ensures c.requires.opened

pub returns-clause-covered : goal.returns-clause-covered
returns-clause-covered c = λ no_gap covered.
    let P : List ℕ → Type 0 = λ r. IsCoveredBy (edits_of c.args.event.now) c.args.opened.now.car.blocks r c.args.opened.now.head.data_root in
    only_covered c.args.event.now c.in_ok-ops.ops c.args.opened.now.car.blocks c.root_before-former.result c.args.opened.now.head.data_root c.lead_back.result c.in_ok-ops.ensures.edits c.in_ok-ops.ensures.formed c.in_ok-ops.ensures.apart
    c.ghost_linked.ensures c.lead_back.ensures.stops (subst P (sym c.root_before-former.ensures) covered)

use Rattle.std.proofs.Common.{sym, ◌∙◌, rules}
use Rattle.commit_check.specs.declared.checked.Checked.{Checked}
use Rattle.commit_check.proofs.Accepting.{accepted, accepted_alone, gap_refused, only_accepted, only_covered, replays, stop_refused, told_exactly}
use Rattle.commit_check.proofs.checking.check.Goals as goal

pub returns-then-has_gap-clause-refused : goal.returns-then-has_gap-clause-refused
returns-then-has_gap-clause-refused c = gap_refused c.args.event.now c.in_ok-content.content c.in_ok-content.ensures.shown (sym c.has_gap.ensures ∙ c.if-has_gap.true) c.in_ok-content.ensures.content

pub returns-in_err-tree-clause-refused : goal.returns-in_err-tree-clause-refused
returns-in_err-tree-clause-refused c =
    let told = stop_refused c.args.event.now c.in_ok-content.content c.in_ok-ops.ops c.start_of-from.result c.in_err-tree.field-0.0 c.in_ok-content.ensures.shown (sym c.has_gap.ensures ∙ c.if-has_gap.false) c.in_ok-content.ensures.content c.start_of-from.ensures c.in_ok-ops.ensures.edits (c.in_err-tree.ensures.stops c.start_of-from.result) in
    search (rules, told)

pub returns-in_err-tree-clause-exact : goal.returns-in_err-tree-clause-exact
returns-in_err-tree-clause-exact c = λ refusal applies.
    let told = stop_refused c.args.event.now c.in_ok-content.content c.in_ok-ops.ops c.start_of-from.result c.in_err-tree.field-0.0 c.in_ok-content.ensures.shown (sym c.has_gap.ensures ∙ c.if-has_gap.false) c.in_ok-content.ensures.content c.start_of-from.ensures c.in_ok-ops.ensures.edits (c.in_err-tree.ensures.stops c.start_of-from.result) in
    let exact = told_exactly Checked c.args.event.now c.in_err-tree.field-0.0 refusal told applies in
    search (rules, exact)

pub returns-in_err-tree-clause-only : goal.returns-in_err-tree-clause-only
returns-in_err-tree-clause-only c = λ from to accepts.
    let told = stop_refused c.args.event.now c.in_ok-content.content c.in_ok-ops.ops c.start_of-from.result c.in_err-tree.field-0.0 c.in_ok-content.ensures.shown (sym c.has_gap.ensures ∙ c.if-has_gap.false) c.in_ok-content.ensures.content c.start_of-from.ensures c.in_ok-ops.ensures.edits (c.in_err-tree.ensures.stops c.start_of-from.result) in
    let memory = only_accepted c.args.event.now c.in_err-tree.field-0.0 from to told accepts in
    search (rules, memory)

pub returns-in_err-tree-clause-covered : goal.returns-in_err-tree-clause-covered
returns-in_err-tree-clause-covered c = λ covers.
    let told = stop_refused c.args.event.now c.in_ok-content.content c.in_ok-ops.ops c.start_of-from.result c.in_err-tree.field-0.0 c.in_ok-content.ensures.shown (sym c.has_gap.ensures ∙ c.if-has_gap.false) c.in_ok-content.ensures.content c.start_of-from.ensures c.in_ok-ops.ensures.edits (c.in_err-tree.ensures.stops c.start_of-from.result) in
    let memory = only_covered c.args.event.now c.in_ok-content.content c.in_ok-ops.ops c.in_err-tree.field-0.0 c.in_ok-content.ensures.content c.in_ok-ops.ensures.edits c.in_ok-ops.ensures.formed c.in_ok-ops.ensures.apart c.ghost_linked.ensures told covers in
    search (rules, memory)

pub returns-in_err-lead_from-clause-refused : goal.returns-in_err-lead_from-clause-refused
returns-in_err-lead_from-clause-refused c =
    let told = stop_refused c.args.event.now c.in_ok-content.content c.in_ok-ops.ops c.start_of-from.result c.in_err-lead_from.field-0.0 c.in_ok-content.ensures.shown (sym c.has_gap.ensures ∙ c.if-has_gap.false) c.in_ok-content.ensures.content c.start_of-from.ensures c.in_ok-ops.ensures.edits (c.in_err-lead_from.ensures.stops c.in_ok-content.content.car.blocks c.in_ok-tree.ensures.held) in
    search (rules, told)

pub returns-in_err-lead_from-clause-exact : goal.returns-in_err-lead_from-clause-exact
returns-in_err-lead_from-clause-exact c = λ refusal applies.
    let told = stop_refused c.args.event.now c.in_ok-content.content c.in_ok-ops.ops c.start_of-from.result c.in_err-lead_from.field-0.0 c.in_ok-content.ensures.shown (sym c.has_gap.ensures ∙ c.if-has_gap.false) c.in_ok-content.ensures.content c.start_of-from.ensures c.in_ok-ops.ensures.edits (c.in_err-lead_from.ensures.stops c.in_ok-content.content.car.blocks c.in_ok-tree.ensures.held) in
    let exact = told_exactly Checked c.args.event.now c.in_err-lead_from.field-0.0 refusal told applies in
    search (rules, exact)

pub returns-in_err-lead_from-clause-only : goal.returns-in_err-lead_from-clause-only
returns-in_err-lead_from-clause-only c = λ from to accepts.
    let told = stop_refused c.args.event.now c.in_ok-content.content c.in_ok-ops.ops c.start_of-from.result c.in_err-lead_from.field-0.0 c.in_ok-content.ensures.shown (sym c.has_gap.ensures ∙ c.if-has_gap.false) c.in_ok-content.ensures.content c.start_of-from.ensures c.in_ok-ops.ensures.edits (c.in_err-lead_from.ensures.stops c.in_ok-content.content.car.blocks c.in_ok-tree.ensures.held) in
    let memory = only_accepted c.args.event.now c.in_err-lead_from.field-0.0 from to told accepts in
    search (rules, memory)

pub returns-in_err-lead_from-clause-covered : goal.returns-in_err-lead_from-clause-covered
returns-in_err-lead_from-clause-covered c = λ covers.
    let told = stop_refused c.args.event.now c.in_ok-content.content c.in_ok-ops.ops c.start_of-from.result c.in_err-lead_from.field-0.0 c.in_ok-content.ensures.shown (sym c.has_gap.ensures ∙ c.if-has_gap.false) c.in_ok-content.ensures.content c.start_of-from.ensures c.in_ok-ops.ensures.edits (c.in_err-lead_from.ensures.stops c.in_ok-content.content.car.blocks c.in_ok-tree.ensures.held) in
    let memory = only_covered c.args.event.now c.in_ok-content.content c.in_ok-ops.ops c.in_err-lead_from.field-0.0 c.in_ok-content.ensures.content c.in_ok-ops.ensures.edits c.in_ok-ops.ensures.formed c.in_ok-ops.ensures.apart c.ghost_linked.ensures told covers in
    search (rules, memory)

pub returns-clause-accepted : goal.returns-clause-accepted
returns-clause-accepted c =
    accepted c.args.event.now c.in_ok-content.content c.in_ok-ops.ops c.start_of-from.result c.in_ok-content.ensures.shown (sym c.has_gap.ensures ∙ c.if-has_gap.false) c.in_ok-content.ensures.content c.start_of-from.ensures c.in_ok-ops.ensures.edits (c.in_ok-lead_from.ensures.leads c.in_ok-content.content.car.blocks c.in_ok-tree.ensures.held)

pub returns-clause-exact : goal.returns-clause-exact
returns-clause-exact c = λ refusal applies.
    let accepts = accepted c.args.event.now c.in_ok-content.content c.in_ok-ops.ops c.start_of-from.result c.in_ok-content.ensures.shown (sym c.has_gap.ensures ∙ c.if-has_gap.false) c.in_ok-content.ensures.content c.start_of-from.ensures c.in_ok-ops.ensures.edits (c.in_ok-lead_from.ensures.leads c.in_ok-content.content.car.blocks c.in_ok-tree.ensures.held) in
    absurd (accepted_alone c.args.event.now c.start_of-from.result c.in_ok-content.content.data_root refusal accepts applies)

pub returns-clause-replays : goal.returns-clause-replays
returns-clause-replays c = replays c.args.event.now c.in_ok-content.content c.in_ok-ops.ops c.start_of-from.result c.in_ok-content.ensures.content c.in_ok-ops.ensures.edits c.in_ok-ops.ensures.formed c.in_ok-ops.ensures.apart (c.in_ok-lead_from.ensures.leads c.in_ok-content.content.car.blocks c.in_ok-tree.ensures.held)

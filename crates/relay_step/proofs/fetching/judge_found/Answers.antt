use Rattle.std.proofs.Common.{false, sym, true, ◌∙◌}
use Rattle.relay_step.proofs.Vain.{plain_failed}
use Rattle.relay_step.proofs.Fetched.{judged_ahead, judged_near, head_kept, linked_to}
use Rattle.relay_step.proofs.fetching.judge_found.Goals as goal

pub returns-then-is_ahead-clause-judged : goal.returns-then-is_ahead-clause-judged
returns-then-is_ahead-clause-judged g c = judged_ahead c.args.did.now c.args.moment c.args.found.now (g.P.Judges.panel c.args.judges.now) (sym c.is_ahead.ensures ∙ c.if-is_ahead.true)

pub returns-in-Ok-true-clause-judged : goal.returns-in-Ok-true-clause-judged
returns-in-Ok-true-clause-judged g c =
    judged_near c.args.did.now c.args.moment true c.in-Ok-true.field-0 c.args.found.now c.as_slice.result.now (g.P.Judges.panel c.args.judges.now) (g.P.Judges.panel c.ask_verdict.new.judges) (sym c.is_ahead.ensures ∙ c.if-is_ahead.false) c.in-Ok-true.field-0-test c.as_slice.ensures.value
    c.in-Ok-true.ensures.call

pub returns-in-Ok-true-clause-may : goal.returns-in-Ok-true-clause-may
returns-in-Ok-true-clause-may g c =
    (head_kept c.args.did.now c.requires.whole.0 c.args.found.now c.requires.whole.1 c.ghost_value.ensures, c.requires.records, linked_to c.args.did.now c.requires.whole.0 c.args.found.now c.requires.whole.1)

pub returns-in-Ok-false-clause-judged : goal.returns-in-Ok-false-clause-judged
returns-in-Ok-false-clause-judged g c =
    judged_near c.args.did.now c.args.moment false c.in-Ok-false.field-0 c.args.found.now c.as_slice.result.now (g.P.Judges.panel c.args.judges.now) (g.P.Judges.panel c.ask_verdict.new.judges) (sym c.is_ahead.ensures ∙ c.if-is_ahead.false) c.in-Ok-false.field-0-test c.as_slice.ensures.value
    c.in-Ok-false.ensures.call

pub returns-in-Err-clause-in_vain : goal.returns-in-Err-clause-in_vain
returns-in-Err-clause-in_vain g c = plain_failed (g.P.Judges.panel c.args.judges.now) (g.P.Judges.panel c.ask_verdict.new.judges) c.args.did.now c.in-Err.ensures.call

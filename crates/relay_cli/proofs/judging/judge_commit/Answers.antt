use Rattle.relay_cli.proofs.Verdicts.{accepts_alone, judged}
use Rattle.relay_cli.proofs.judging.judge_commit.Goals as goal

pub returns-in-Ok : goal.returns-in-Ok
returns-in-Ok c = (c.in-Ok.ensures.accepted, c.in-Ok.ensures.replays, c.in-Ok.ensures.counted, λ refusal applies. accepts_alone refusal c.in-Ok.checked (c.in-Ok.ensures.exact refusal applies))

pub returns-in-Err-Refused : goal.returns-in-Err-Refused
returns-in-Err-Refused c =
    judged c.args.event.now c.in-Err-Refused.field-0 c.in-Err-Refused.refusal c.in-Err-Refused.field-0-is c.in-Err-Refused.ensures.refused c.in-Err-Refused.ensures.exact c.in-Err-Refused.ensures.only c.in-Err-Refused.ensures.covered

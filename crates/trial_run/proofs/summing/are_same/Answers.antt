use Rattle.std.proofs.Common.{ap, sym, ◌∙◌}
use Rattle.relay_gen.specs.Names.{generated_did}
use Rattle.report_lines.specs.StateLines.{account_text}
use Rattle.trial_run.proofs.summing.are_same.Goals as goal

pub returns-then-not-branch-clause-same : goal.returns-then-not-branch-clause-same
returns-then-not-branch-clause-same c = λ J K one other same.
    sym c.if-not-branch.true ∙ (c.in_ok-is_same.ensures J K one other).1 (ap (account_text (generated_did c.loop-account.account)) (same (generated_did c.loop-account.account)))

pub returns-then-not-branch-clause-exact : goal.returns-then-not-branch-clause-exact
returns-then-not-branch-clause-exact c = λ J K one other. (
  λ no a few. absurd cc,
  λ all. sym c.if-not-branch.true ∙ (c.in_ok-is_same.ensures J K one other).1 (all c.loop-account.account c.loop-account-test.true),
)

use Rattle.std.proofs.Common.{◌≡◌, ◌≤◌}
use Rattle.relay_step.specs.Causes.{SpendsNone}
use Rattle.relay_step.specs.Questions.{AreAskedAbout, IsReadFor, open_count}
use Rattle.relay_step.proofs.asking.ask_all.Given as goal

abbrev pub invariant-asking : goal.invariant-asking
invariant-asking g l = record {
  asked : AreAskedAbout g.C.Clock.tells l.core l.host l.event l.answers (g.P.Judges.panel l.fn.judges) (g.C.Clock.moments l.fn.clock) (g.P.Judges.panel l.judges) (g.C.Clock.moments l.clock);
  read : IsReadFor l.event.body l.answers.opened l.read;
  counts : g.C.Clock.faults l.fn.clock ≤ g.C.Clock.faults l.clock;
  unspent : SpendsNone (g.P.Judges.panel l.fn.judges) (g.P.Judges.panel l.judges);
  steady : g.C.Clock.faults l.clock ≡ g.C.Clock.faults l.fn.clock;
}

abbrev pub decreases-asking : goal.decreases-asking
decreases-asking g l = open_count l.answers

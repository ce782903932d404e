use Rattle.std.proofs.Common.{◌≡◌, ◌≤◌, drop}
use Rattle.relay_step.specs.Around.{SameAsked, around_of}
use Rattle.relay_step.specs.Causes.{SpendsNone}
use Rattle.store_take.specs.Taking.{IsGathering}
use Rattle.store_take.proofs.gathering.gather.Given as goal

abbrev pub invariant-group : goal.invariant-group
invariant-group g l = record {
  taken : IsGathering g.C.Clock.tells g.R.Repos.tells l.log l.group (drop l.message-index l.group) l.fn.core l.core l.fn.window.places l.window.places l.pending
      (around_of g.P.Judges.panel g.C.Clock.moments g.R.Repos.repository l.fn.asked) (around_of g.P.Judges.panel g.C.Clock.moments g.R.Repos.repository l.asked) l.outcomes.items;
  clock_counts : g.C.Clock.faults l.fn.asked.clock.now ≤ g.C.Clock.faults l.asked.clock.now;
  repos_count : g.R.Repos.faults l.fn.asked.repos.now ≤ g.R.Repos.faults l.asked.repos.now;
  clock_steady : g.C.Clock.faults l.asked.clock.now ≡ g.C.Clock.faults l.fn.asked.clock.now;
  repos_steady : g.R.Repos.faults l.asked.repos.now ≡ g.R.Repos.faults l.fn.asked.repos.now;
  unspent : SpendsNone (g.P.Judges.panel l.fn.asked.judges.now) (g.P.Judges.panel l.asked.judges.now);
  same : SameAsked l.fn.asked l.asked;
}

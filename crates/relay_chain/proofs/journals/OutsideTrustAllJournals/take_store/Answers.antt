use Rattle.std.proofs.Common.{ℕ, subst, rules}
use Rattle.at_authority.specs.Trusting.{trusting}
use Rattle.relay_store.specs.Shown.{held_by}
use Rattle.at_cid.specs.Counts.{Counted}
use Rattle.run_base.specs.Place.{place_of}
use Rattle.take_run.proofs.FeedSteps.{value_at}
use Rattle.relay_chain.specs.Ends.{ChainTold}
use Rattle.relay_chain.proofs.journals.OutsideTrustAllJournals.take_store.Goals as goal

pub take_events-requires-clause-known : goal.take_events-requires-clause-known
take_events-requires-clause-known g c = λ told. let kept = c.requires.source told in (held_by kept.0, c.events-events.ensures.held told kept.0 kept.1)

pub returns-clause-taken : goal.returns-clause-taken
returns-clause-taken g c = λ told one keeps. c.take_events.ensures.taken told (held_by one) (c.events-events.ensures.held told one keeps)

pub returns-clause-told : goal.returns-clause-told
returns-clause-told g c =
    let place = place_of g.S.Disk.view (λ _ _. trusting) g.C.Clock.moments g.R.Repos.repository g.O.Sink.written g.R.Repos.faults g.C.Clock.faults g.O.Sink.faults in
    subst (λ (n : ℕ). ChainTold (λ failed. Counted failed (g.D.Disk.view c.args.disk.now).faults n) (place c.args.self.now) (place c.take_events.new.self) c.take_events.result) (value_at (λ d. (g.D.Disk.view d).faults) c.take_events.new.events.disk.now _ (search rules))
    (subst (λ (n : ℕ). ChainTold (λ failed. Counted failed n (g.D.Disk.view c.take_events.new.events.disk.now).faults) (place c.args.self.now) (place c.take_events.new.self) c.take_events.result) (value_at (λ d. (g.D.Disk.view d).faults) c.events-events.result.disk.now c.args.disk.now c.events-events.ensures.disk)
    c.take_events.ensures.told)

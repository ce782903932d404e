use Rattle.std.proofs.Common.{◌∙◌, ◌⊎◌, map, string_bytes, refl, sym}
use Rattle.at_cid.specs.Counts.{Rose}
use Rattle.gate_log.specs.declared.picking.Side.TheVariants.{One, Two}
use Rattle.relay_store.specs.Opening.{BothOnlyRead}
use Rattle.run_base.specs.Place.{the_clock, the_output, the_repos}
use Rattle.relay_chain.proofs.SecondPair.{both_still}
use Rattle.relay_chain.proofs.Hosts.{at_both, disks_same, none_so, place_same, ran_for, usage_for}
use Rattle.relay_chain.proofs.running.chain.Goals as goal

pub returns-in-Some-clause-ran : goal.returns-in-Some-clause-ran
returns-in-Some-clause-ran g c = λ host are.
    let repos = c.repos-1.given.1 (sym c.chain.ensures.later.asked.repos) in
    let clock = c.clock-1.given.1 (sym c.chain.ensures.later.asked.clock) in
    let out = c.out-1.given.1 (sym c.chain.ensures.later.out) in
    ran_for _ (map string_bytes c.args.words.now) c.in-Some.host.now host _ _ _ _ _ _ _ _ c.chain.result c.in-Some.ensures are
    (disks_same g.D.Disk.tells g.D.Disk.view (c.first-1.given.1 (sym c.chain.ensures.first.one)) (c.first_other-1.given.1 (sym c.chain.ensures.first.two)))
    (place_same g.D.Disk.view g.C.Clock.moments g.R.Repos.repository g.O.Sink.written g.R.Repos.faults g.C.Clock.faults g.O.Sink.faults (c.second-1.given.1 (sym c.chain.ensures.later.pair.one)) (c.second_other-1.given.1 (sym c.chain.ensures.later.pair.two)) repos clock out)
    (λ stays. (repos ∙ stays the_repos, clock ∙ stays the_clock, out ∙ stays the_output)) c.chain.ensures.ran

pub returns-in-Some-clause-usage : goal.returns-in-Some-clause-usage
returns-in-Some-clause-usage g c = usage_for (map string_bytes c.args.words.now) c.in-Some.host.now c.chain.result c.in-Some.ensures c.chain.ensures.ran.may

pub returns-in-Some-clause-disks : goal.returns-in-Some-clause-disks
returns-in-Some-clause-disks g c = none_so c.chain.result c.chain.ensures.ran.may

pub returns-in-Some-clause-others : goal.returns-in-Some-clause-others
returns-in-Some-clause-others g c = none_so c.chain.result c.chain.ensures.ran.may

pub returns-in-Some-clause-no_first_journal : goal.returns-in-Some-clause-no_first_journal
returns-in-Some-clause-no_first_journal g c = λ told none.
    let h = c.chain.ensures.no_first_journal told none in (
      λ not. at_both (λ x y. BothOnlyRead (g.D.Disk.view c.args.first.now) (g.D.Disk.view c.args.first_other.now) (g.D.Disk.view x) (g.D.Disk.view y)) (c.first-1.given.1 (sym c.chain.ensures.first.one)) (c.first_other-1.given.1 (sym c.chain.ensures.first.two)) (h.0 not),
      c.second-1.given.1 (sym c.chain.ensures.later.pair.one) ∙ h.1 One,
      c.second_other-1.given.1 (sym c.chain.ensures.later.pair.two) ∙ h.1 Two,
      c.repos-1.given.1 (sym c.chain.ensures.later.asked.repos) ∙ h.2 the_repos,
      c.clock-1.given.1 (sym c.chain.ensures.later.asked.clock) ∙ h.2 the_clock,
      c.out-1.given.1 (sym c.chain.ensures.later.out) ∙ h.2 the_output,
    )

pub returns-in-Some-clause-no_second_journal : goal.returns-in-Some-clause-no_second_journal
returns-in-Some-clause-no_second_journal g c = λ told none.
    let h = c.chain.ensures.no_second_journal (told, none) in
    let one = g.D.Disk.view c.args.second.now in
    let two = g.D.Disk.view c.args.second_other.now in (
      at_both (λ x y. (Rose one.faults (g.D.Disk.view x).faults ⊎ Rose two.faults (g.D.Disk.view y).faults → ⊥) → BothOnlyRead one two (g.D.Disk.view x) (g.D.Disk.view y)) (c.second-1.given.1 (sym c.chain.ensures.later.pair.one)) (c.second_other-1.given.1 (sym c.chain.ensures.later.pair.two)) h.0,
      c.repos-1.given.1 (sym c.chain.ensures.later.asked.repos) ∙ h.1 the_repos,
      c.clock-1.given.1 (sym c.chain.ensures.later.asked.clock) ∙ h.1 the_clock,
      c.out-1.given.1 (sym c.chain.ensures.later.out) ∙ h.1 the_output,
    )

pub returns-in-None-clause-no_first_journal : goal.returns-in-None-clause-no_first_journal
returns-in-None-clause-no_first_journal g c = λ told none. (λ not. both_still (g.D.Disk.view c.args.first.now) (g.D.Disk.view c.args.first_other.now), refl, refl, refl, refl, refl)

pub returns-in-None-clause-no_second_journal : goal.returns-in-None-clause-no_second_journal
returns-in-None-clause-no_second_journal g c = λ told none. (λ whole. both_still (g.D.Disk.view c.args.second.now) (g.D.Disk.view c.args.second_other.now), refl, refl, refl)

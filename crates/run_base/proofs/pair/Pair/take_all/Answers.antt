use Rattle.std.proofs.Common.{◌≡◌, sym, subst}
use Rattle.gate_log.specs.declared.picking.Side.{Side}
use Rattle.gate_log.specs.declared.picking.Side.TheVariants.{One, Two}
use Rattle.relay_step.specs.Around.{around_of}
use Rattle.relay_step.specs.Causes.{SpendsNone}
use Rattle.store_take.specs.Batches.{DiskFailed, scene}
use Rattle.relay_store.specs.Pairs.{of_pair}
use Rattle.relay_store.specs.Store.{seen_in}
use Rattle.run_base.proofs.AfterCut.{first_there, second_there}
use Rattle.run_base.proofs.pair.Pair.take_all.Goals as goal

on_one : {D : Type 0} (P : D → D → Type 0) (side : Side) → side ≡ One → (a b c d : D) → P a c → P (of_pair side a b) (of_pair side c d)
on_one P side is a b c d holds = subst (λ (s : Side). P (of_pair s a b) (of_pair s c d)) (sym is) holds

on_two : {D : Type 0} (P : D → D → Type 0) (side : Side) → side ≡ Two → (a b c d : D) → P b d → P (of_pair side a b) (of_pair side c d)
on_two P side is a b c d holds = subst (λ (s : Side). P (of_pair s a b) (of_pair s c d)) (sym is) holds

pub returns-in-One-clause-on : goal.returns-in-One-clause-on
returns-in-One-clause-on g c = λ other told. let kept = c.take_all.ensures.on other told in (kept.0, first_there c.args.store.now.side c.in-One.ensures (g.D.Disk.view c.take_all.new.disk) (g.D.Disk.view c.args.self.now.two.now) kept.0 (seen_in c.take_all.new.store) kept.1)

pub returns-in-Two-clause-on : goal.returns-in-Two-clause-on
returns-in-Two-clause-on g c = λ other told. let kept = c.take_all-in-Two.ensures.on other told in (kept.0, second_there c.args.store.now.side c.in-Two.ensures (g.D.Disk.view c.args.self.now.one.now) (g.D.Disk.view c.take_all-in-Two.new.disk) kept.0 (seen_in c.take_all-in-Two.new.store) kept.1)

pub returns-in-One-clause-disk_failed : goal.returns-in-One-clause-disk_failed
returns-in-One-clause-disk_failed g c = λ failed J of.
    on_one (λ x y. DiskFailed g.D.Disk.view g.D.Disk.tells g.C.Clock.tells g.R.Repos.tells J c.args.group.now
    (scene (seen_in c.args.store.now) x (around_of g.P.Judges.panel g.C.Clock.moments g.R.Repos.repository c.args.asked.now))
    (scene (seen_in c.take_all.new.store) y (around_of g.P.Judges.panel g.C.Clock.moments g.R.Repos.repository c.take_all.new.asked))
    ((g.C.Clock.faults c.take_all.new.asked.clock.now ≡ g.C.Clock.faults c.args.asked.now.clock.now) × (g.R.Repos.faults c.take_all.new.asked.repos.now ≡ g.R.Repos.faults c.args.asked.now.repos.now) × SpendsNone (g.P.Judges.panel c.args.asked.now.judges.now) (g.P.Judges.panel c.take_all.new.asked.judges.now)))
    c.args.store.now.side (sym c.in-One.ensures) c.args.self.now.one.now c.args.self.now.two.now c.take_all.new.disk c.args.self.now.two.now (c.take_all.ensures.disk_failed failed J of)

pub returns-in-Two-clause-disk_failed : goal.returns-in-Two-clause-disk_failed
returns-in-Two-clause-disk_failed g c = λ failed J of.
    on_two (λ x y. DiskFailed g.D.Disk.view g.D.Disk.tells g.C.Clock.tells g.R.Repos.tells J c.args.group.now
    (scene (seen_in c.args.store.now) x (around_of g.P.Judges.panel g.C.Clock.moments g.R.Repos.repository c.args.asked.now))
    (scene (seen_in c.take_all-in-Two.new.store) y (around_of g.P.Judges.panel g.C.Clock.moments g.R.Repos.repository c.take_all-in-Two.new.asked))
    ((g.C.Clock.faults c.take_all-in-Two.new.asked.clock.now ≡ g.C.Clock.faults c.args.asked.now.clock.now) × (g.R.Repos.faults c.take_all-in-Two.new.asked.repos.now ≡ g.R.Repos.faults c.args.asked.now.repos.now) × SpendsNone (g.P.Judges.panel c.args.asked.now.judges.now) (g.P.Judges.panel c.take_all-in-Two.new.asked.judges.now)))
    c.args.store.now.side (sym c.in-Two.ensures) c.args.self.now.one.now c.args.self.now.two.now c.args.self.now.one.now c.take_all-in-Two.new.disk (c.take_all-in-Two.ensures.disk_failed failed J of)

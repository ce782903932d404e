use Rattle.std.proofs.Common.{inl, inr, Err, refl, ap}
use Rattle.relay_store.specs.Store.{seen_in}
use Rattle.relay_store.specs.declared.fault.StoreFault.{StoreFault}
use Rattle.run_base.specs.Place.{tells_of}
use Rattle.run_base.proofs.Ended.{all_stay, counted_pair_fault, opening_read}
use Rattle.run_base.proofs.Reading.{opened_read, other_read}
use Rattle.take_run.proofs.OnTwo.{opened_of, unopened}
use Rattle.take_run.proofs.Telling.{done_not_fault, opened_nothing, opening_faults, same_faults}
use Rattle.relay_chain.specs.Disks.{disks_of}
use Rattle.relay_chain.proofs.FirstPair.{again_opened, again_unopened, read_opened}
use Rattle.relay_chain.proofs.SecondPair.{both_still, chained_on, fell_disks, fell_here, fell_on, ran, untouched}
use Rattle.relay_chain.proofs.Showing.{both_show, first_shows, second_shows}
use Rattle.relay_chain.proofs.Telling.{both_told, first_told, opening_may, second_told, unfailed}
use Rattle.relay_chain.proofs.commands.OutsideTrustAllChains.chain.Goals as goal

-- ---- the first pair wasn't opened

pub returns-in-Err-clause-ran : goal.returns-in-Err-clause-ran
returns-in-Err-clause-ran g c =
    let t = tells_of g.S.Disk.tells g.C.Clock.tells g.R.Repos.tells g.O.Sink.tells in
    let fault = c.in-Err.fault in
    let few = c.in-Err.ensures.few fault refl in
    let old = disks_of g.D.Disk.tells g.D.Disk.view c.args.first.now in
    let new = disks_of g.D.Disk.tells g.D.Disk.view c.open.new.self in
    let one_is = g.met.D.Disk.is_disk c.open.new.self.one.now in
    let two_is = g.met.D.Disk.is_disk c.open.new.self.two.now in
    ran t c.args.host.now c.args.most old new _ _ _ c.from.result
    (λ told two has.
    inl (untouched t c.args.most fault two _ _ (g.met.S.Disk.is_disk c.args.self.now.pair.one.now) (g.met.S.Disk.is_disk c.args.self.now.pair.two.now) has.1 _ _ _ c.from.result c.from.ensures few, all_stay _ _ refl refl refl refl))
    (λ told one image. again_unopened old new fault c.from.result one one_is two_is c.in-Err.ensures.opened told few c.from.ensures)
    (opening_may fault c.from.result c.from.ensures few)
    (λ told other. first_shows fault c.from.result _ _ c.from.ensures few (λ p is. c.in-Err.ensures.bad_log p (ap Err is) told))
    (first_told fault c.from.result _ old new c.from.ensures few (counted_pair_fault fault StoreFault.Disk _ _ _ _ c.in-Err.ensures.counts))
    (fell_here _)
    (λ told not. inl (opening_read g.D.Disk.tells old.one old.two new.one new.two fault c.from.result c.in-Err.ensures.opened told c.from.ensures not))
    (λ told not. inl (both_still _ _))

pub returns-in-Err-clause-no_first_journal : goal.returns-in-Err-clause-no_first_journal
returns-in-Err-clause-no_first_journal g c = λ told none. (
  λ not. opening_read g.D.Disk.tells (g.D.Disk.view c.args.first.now.one.now) (g.D.Disk.view c.args.first.now.two.now) (g.D.Disk.view c.open.new.self.one.now) (g.D.Disk.view c.open.new.self.two.now) c.in-Err.fault c.from.result c.in-Err.ensures.opened told c.from.ensures not,
  λ side. refl,
  all_stay _ _ refl refl refl refl,
)

pub returns-in-Err-clause-no_second_journal : goal.returns-in-Err-clause-no_second_journal
returns-in-Err-clause-no_second_journal g c = λ none. (λ whole. both_still _ _, all_stay _ _ refl refl refl refl)

-- ---- the second wasn't

pub returns-in-Err-open-clause-ran : goal.returns-in-Err-open-clause-ran
returns-in-Err-open-clause-ran g c =
    let t = tells_of g.S.Disk.tells g.C.Clock.tells g.R.Repos.tells g.O.Sink.tells in
    let fault = c.in-Err-open.fault in
    let few = c.in-Err-open.ensures.few fault refl in
    let counted = counted_pair_fault fault StoreFault.Disk _ _ _ _ c.in-Err-open.ensures.counts in
    let old = disks_of g.D.Disk.tells g.D.Disk.view c.args.first.now in
    let new = disks_of g.D.Disk.tells g.D.Disk.view c.open.new.self in
    ran t c.args.host.now c.args.most old new _ _ _ c.from-in-Err-open.result
    (λ told two has.
    inl (
      unopened t c.args.most (g.S.Disk.view c.args.self.now.pair.one.now) (g.S.Disk.view c.args.self.now.pair.two.now) (g.S.Disk.view c.open-2.new.self.one.now) (g.S.Disk.view c.open-2.new.self.two.now) fault two _ _ _ _ c.from-in-Err-open.result
          (g.met.S.Disk.is_disk c.open-2.new.self.one.now) (g.met.S.Disk.is_disk c.open-2.new.self.two.now) c.in-Err-open.ensures.opened has.0 has.1 few c.from-in-Err-open.ensures,
      all_stay _ _ refl refl refl refl,
    ))
    (λ told one image.
    again_opened old new new c.in-Ok.source c.in-Ok.ensures.opened told (both_still new.one new.two) one _ (g.met.D.Disk.is_disk c.open.new.self.one.now) (g.met.D.Disk.is_disk c.open.new.self.two.now) image)
    (opening_may fault c.from-in-Err-open.result c.from-in-Err-open.ensures few)
    (λ told other.
    let kept = c.in-Ok.ensures.opened.keeps told in
    second_shows fault c.from-in-Err-open.result _ _ c.from-in-Err-open.ensures few kept.0 kept.1 (λ p is. c.in-Err-open.ensures.bad_log p (ap Err is) other))
    (second_told fault c.from-in-Err-open.result _ _ old new c.from-in-Err-open.ensures (unfailed old new _ c.in-Ok.ensures.counts (done_not_fault StoreFault.Disk))
    (opening_faults _ fault c.from-in-Err-open.result _ _ c.from-in-Err-open.ensures few counted refl refl refl (record { output = refl; input = refl; feed = refl; door = refl; wire = refl })))
    (fell_disks _ _ _ _ _ _ _ counted.one_kept counted.two_kept)
    (λ told not. inr (opened_read g.D.Disk.tells old.one old.two new.one new.two c.in-Ok.source c.in-Ok.ensures.opened told))
    (λ told not.
    inl (opening_read g.S.Disk.tells (g.S.Disk.view c.args.self.now.pair.one.now) (g.S.Disk.view c.args.self.now.pair.two.now) (g.S.Disk.view c.open-2.new.self.one.now) (g.S.Disk.view c.open-2.new.self.two.now) fault c.from-in-Err-open.result c.in-Err-open.ensures.opened told c.from-in-Err-open.ensures not))

pub returns-in-Err-open-clause-no_first_journal : goal.returns-in-Err-open-clause-no_first_journal
returns-in-Err-open-clause-no_first_journal g c = λ told none. let kept = c.in-Ok.ensures.opened.keeps told in absurd (none kept.0 kept.1)

pub returns-in-Err-open-clause-no_second_journal : goal.returns-in-Err-open-clause-no_second_journal
returns-in-Err-open-clause-no_second_journal g c = λ none. (
  λ whole. c.in-Err-open.ensures.opened.read c.in-Err-open.fault refl (λ is. whole (c.in-Err-open.ensures.counts.rose (ap Err is))) none.0,
  all_stay _ _ refl refl refl refl,
)

-- ---- both were

pub take_pair-requires-clause-ready : goal.take_pair-requires-clause-ready
take_pair-requires-clause-ready g c = record { is_open = c.in-Ok-open.ensures.open.0; on = λ told. let kept = c.in-Ok-open.ensures.opened.keeps told in (kept.0, kept.2) }

pub take_pair-requires-clause-new : goal.take_pair-requires-clause-new
take_pair-requires-clause-new g c = record { ended = c.new-tally.ensures.ended; messages = c.new-tally.ensures.messages; events = c.new-tally.ensures.events; refused = c.new-tally.ensures.refused }

pub take_pair-requires-clause-source : goal.take_pair-requires-clause-source
take_pair-requires-clause-source g c = λ told. let kept = c.in-Ok.ensures.opened.keeps told in (kept.0, kept.2)

pub returns-clause-ran : goal.returns-clause-ran
returns-clause-ran g c =
    let t = tells_of g.S.Disk.tells g.C.Clock.tells g.R.Repos.tells g.O.Sink.tells in
    let old = disks_of g.D.Disk.tells g.D.Disk.view c.args.first.now in
    let mid = disks_of g.D.Disk.tells g.D.Disk.view c.open.new.self in
    let new = disks_of g.D.Disk.tells g.D.Disk.view c.take_pair.new.first in
    let still = c.in-Ok-open.ensures.counts.steady (done_not_fault StoreFault.Disk) in
    ran t c.args.host.now c.args.most old new _ _ _ c.take_pair.result
    (λ told two has.
    let one = c.in-Ok.ensures.opened.keeps told in
    chained_on g.S.Disk.view (λ x. g.met.S.Disk.is_disk x) c.args.self.now.pair.one.now c.args.self.now.pair.two.now c.open-2.new.self.one.now c.open-2.new.self.two.now t has.0 c.in-Ok-open.store c.in-Ok-open.ensures.opened two has.1
    c.take_pair.new.self.pair.one.now c.take_pair.new.self.pair.two.now (seen_in c.take_pair.new.run.store) c.take_pair.ensures.side c.take_pair.ensures.beside c.args.most c.in-Ok-open.ensures.open.1 _ _ _ _ _ _ _ _ _
    (same_faults _ _ still refl refl (record { output = refl; input = refl; feed = refl; door = refl; wire = refl })) c.args.host.now one.0 c.take_pair.result
    (c.take_pair.ensures.taken told one.0 one.2 two
    (opened_of g.S.Disk.view (λ x. g.met.S.Disk.is_disk x) c.args.self.now.pair.one.now c.args.self.now.pair.two.now c.open-2.new.self.one.now c.open-2.new.self.two.now t has.0 c.in-Ok-open.store c.in-Ok-open.ensures.opened two has.1))
    old _ one.1 (λ name. refl) (λ name. refl))
    (λ told one image.
    again_opened old mid new c.in-Ok.source c.in-Ok.ensures.opened told c.take_pair.ensures.read one _ (g.met.D.Disk.is_disk c.open.new.self.one.now) (g.met.D.Disk.is_disk c.open.new.self.two.now) image)
    c.take_pair.ensures.may
    (λ told other.
    let one = c.in-Ok.ensures.opened.keeps told in
    let two = c.in-Ok-open.ensures.opened.keeps other in
    let taken = c.take_pair.ensures.taken told one.0 one.2 two.0
    (opened_of g.S.Disk.view (λ x. g.met.S.Disk.is_disk x) c.args.self.now.pair.one.now c.args.self.now.pair.two.now c.open-2.new.self.one.now c.open-2.new.self.two.now t other c.in-Ok-open.store c.in-Ok-open.ensures.opened two.0 two.1) in
    both_show c.take_pair.result taken.taking _ _ one.0 two.0 taken.is taken.taken.taken.good one.1 two.1)
    (both_told c.take_pair.result _ _ _ old mid new (unfailed old mid _ c.in-Ok.ensures.counts (done_not_fault StoreFault.Disk)) (opened_nothing _ _ still refl refl refl (record { output = refl; input = refl; feed = refl; door = refl; wire = refl })) c.take_pair.ensures.told)
    (fell_on _ _ _ (fell_disks _ _ _ _ _ _ _ c.in-Ok-open.ensures.counts.one_kept c.in-Ok-open.ensures.counts.two_kept) c.take_pair.ensures.later.counts)
    (λ told not. read_opened old mid new c.in-Ok.source c.in-Ok.ensures.opened told c.take_pair.ensures.read (g.met.D.Disk.is_disk c.args.first.now.one.now) (g.met.D.Disk.is_disk c.args.first.now.two.now))
    (λ told not.
    inr (other_read g.S.Disk.view c.args.self.now.pair.one.now c.args.self.now.pair.two.now c.open-2.new.self.one.now c.open-2.new.self.two.now c.take_pair.new.self.pair.one.now c.take_pair.new.self.pair.two.now g.S.Disk.tells c.in-Ok-open.store c.in-Ok-open.ensures.opened told c.take_pair.ensures.beside))

pub returns-clause-no_first_journal : goal.returns-clause-no_first_journal
returns-clause-no_first_journal g c = λ told none. let kept = c.in-Ok.ensures.opened.keeps told in absurd (none kept.0 kept.1)

pub returns-clause-no_second_journal : goal.returns-clause-no_second_journal
returns-clause-no_second_journal g c = λ none. let kept = c.in-Ok-open.ensures.opened.keeps none.0 in absurd (none.1 kept.0 kept.1)

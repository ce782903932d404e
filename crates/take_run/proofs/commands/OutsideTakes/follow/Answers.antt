use Rattle.std.proofs.Common.{inl, inr, Err, refl, ap}
use Rattle.relay_store.specs.Store.{seen_in}
use Rattle.relay_store.specs.declared.fault.StoreFault.{StoreFault}
use Rattle.run_base.specs.Place.{tells_of}
use Rattle.run_base.proofs.Ended.{all_stay, counted_pair_fault, opening_read, reading_shows}
use Rattle.run_base.proofs.Reading.{other_read}
use Rattle.take_run.proofs.OnTwo.{opened_of, still_shows, took, unopened, whole}
use Rattle.take_run.proofs.Telling.{done_not_fault, fault_stops, faults_on, opened_nothing, opening_faults, same_faults, stop_follows}
use Rattle.take_run.proofs.commands.OutsideTakes.follow.Goals as goal

pub returns-in-Err-clause-ran : goal.returns-in-Err-clause-ran
returns-in-Err-clause-ran g c = λ J has.
    inl (
      unopened (tells_of g.D.Disk.tells g.C.Clock.tells g.R.Repos.tells g.O.Sink.tells) c.args.most (g.D.Disk.view c.args.self.now.pair.one.now) (g.D.Disk.view c.args.self.now.pair.two.now) (g.D.Disk.view c.open.new.self.one.now) (g.D.Disk.view c.open.new.self.two.now) c.in-Err.fault J _ _ _ _ c.from.result
          (g.met.D.Disk.is_disk c.open.new.self.one.now) (g.met.D.Disk.is_disk c.open.new.self.two.now) c.in-Err.ensures.opened has.0 has.1 (c.in-Err.ensures.few c.in-Err.fault refl) c.from.ensures,
      refl,
      all_stay _ _ refl refl refl refl,
    )

pub returns-in-Err-clause-may : goal.returns-in-Err-clause-may
returns-in-Err-clause-may g c = stop_follows c.from.result (fault_stops c.in-Err.fault c.from.result c.from.ensures)

pub returns-in-Err-clause-shows : goal.returns-in-Err-clause-shows
returns-in-Err-clause-shows g c = λ told. reading_shows c.in-Err.fault c.from.result _ _ c.from.ensures (c.in-Err.ensures.few c.in-Err.fault refl) (λ p is. c.in-Err.ensures.bad_log p (ap Err is) told)

pub returns-in-Err-clause-faults : goal.returns-in-Err-clause-faults
returns-in-Err-clause-faults g c =
    opening_faults _ c.in-Err.fault c.from.result _ _ c.from.ensures (c.in-Err.ensures.few c.in-Err.fault refl) (counted_pair_fault c.in-Err.fault StoreFault.Disk _ _ _ _ c.in-Err.ensures.counts) refl refl refl (record { output = refl; input = refl; feed = refl; door = refl; wire = refl })

pub returns-in-Err-clause-no_journal : goal.returns-in-Err-clause-no_journal
returns-in-Err-clause-no_journal g c = λ none. (
  opening_read g.D.Disk.tells (g.D.Disk.view c.args.self.now.pair.one.now) (g.D.Disk.view c.args.self.now.pair.two.now) (g.D.Disk.view c.open.new.self.one.now) (g.D.Disk.view c.open.new.self.two.now) c.in-Err.fault c.from.result c.in-Err.ensures.opened none.0 c.from.ensures,
  refl,
  all_stay _ _ refl refl refl refl,
)

pub returns-in-Err-clause-beside : goal.returns-in-Err-clause-beside
returns-in-Err-clause-beside g c = λ told other. inl (opening_read g.D.Disk.tells (g.D.Disk.view c.args.self.now.pair.one.now) (g.D.Disk.view c.args.self.now.pair.two.now) (g.D.Disk.view c.open.new.self.one.now) (g.D.Disk.view c.open.new.self.two.now) c.in-Err.fault c.from.result c.in-Err.ensures.opened told c.from.ensures other)

pub take_feed-requires-clause-ready : goal.take_feed-requires-clause-ready
take_feed-requires-clause-ready g c = record { is_open = c.in-Ok.ensures.open.0; on = λ told. let kept = c.in-Ok.ensures.opened.keeps told in (kept.0, kept.2) }

pub take_feed-requires-clause-new : goal.take_feed-requires-clause-new
take_feed-requires-clause-new g c = record { ended = c.new-tally.ensures.ended; messages = c.new-tally.ensures.messages; events = c.new-tally.ensures.events; refused = c.new-tally.ensures.refused }

pub returns-clause-ran : goal.returns-clause-ran
returns-clause-ran g c = λ J has.
    let told = has.0 in
    let image = has.1 in
    let run = c.take_feed.ensures.taken J (opened_of g.D.Disk.view (λ x. g.met.D.Disk.is_disk x) c.args.self.now.pair.one.now c.args.self.now.pair.two.now c.open.new.self.one.now c.open.new.self.two.now (tells_of g.D.Disk.tells g.C.Clock.tells g.R.Repos.tells g.O.Sink.tells) told c.in-Ok.store c.in-Ok.ensures.opened J image) in
    inr (record {
      taken = whole g.D.Disk.view (λ x. g.met.D.Disk.is_disk x) c.args.self.now.pair.one.now c.args.self.now.pair.two.now c.open.new.self.one.now c.open.new.self.two.now (tells_of g.D.Disk.tells g.C.Clock.tells g.R.Repos.tells g.O.Sink.tells) told c.in-Ok.store c.in-Ok.ensures.opened J image c.take_feed.new.self.pair.one.now c.take_feed.new.self.pair.two.now (seen_in c.take_feed.new.run.store) c.take_feed.ensures.side c.take_feed.ensures.beside c.args.most c.in-Ok.ensures.open.1 _ _ _ _ _ _ _ _ _ (same_faults _ _ (c.in-Ok.ensures.counts.steady (done_not_fault StoreFault.Disk)) refl refl (record { output = refl; input = refl; feed = refl; door = refl; wire = refl })) c.take_feed.result run.taken run.ran;
      took = took g.D.Disk.view (λ x. g.met.D.Disk.is_disk x) c.args.self.now.pair.one.now c.args.self.now.pair.two.now c.open.new.self.one.now c.open.new.self.two.now (tells_of g.D.Disk.tells g.C.Clock.tells g.R.Repos.tells g.O.Sink.tells) told c.in-Ok.store c.in-Ok.ensures.opened J image c.take_feed.new.self.pair.one.now c.take_feed.new.self.pair.two.now (seen_in c.take_feed.new.run.store) c.take_feed.ensures.side c.take_feed.ensures.beside c.args.most c.in-Ok.ensures.open.1 _ _ _ _ _ _ _ _ _ (same_faults _ _ (c.in-Ok.ensures.counts.steady (done_not_fault StoreFault.Disk)) refl refl (record { output = refl; input = refl; feed = refl; door = refl; wire = refl })) c.take_feed.result run.taken run.ran;
      feed = record { hosts = run.stream.hosts; few = run.stream.few; live = run.stream.live; front = run.stream.front };
    })

pub returns-clause-shows : goal.returns-clause-shows
returns-clause-shows g c = λ told.
    let kept = c.in-Ok.ensures.opened.keeps told in
    let J = kept.0 in
    let image = kept.1 in
    let run = c.take_feed.ensures.taken J (opened_of g.D.Disk.view (λ x. g.met.D.Disk.is_disk x) c.args.self.now.pair.one.now c.args.self.now.pair.two.now c.open.new.self.one.now c.open.new.self.two.now (tells_of g.D.Disk.tells g.C.Clock.tells g.R.Repos.tells g.O.Sink.tells) told c.in-Ok.store c.in-Ok.ensures.opened J image) in
    still_shows c.take_feed.result _ _ J image run.taken.good

pub returns-clause-faults : goal.returns-clause-faults
returns-clause-faults g c =
    faults_on _ c.take_feed.result _ _ _ (opened_nothing _ _ (c.in-Ok.ensures.counts.steady (done_not_fault StoreFault.Disk)) refl refl refl (record { output = refl; input = refl; feed = refl; door = refl; wire = refl })) c.take_feed.ensures.faults

pub returns-clause-no_journal : goal.returns-clause-no_journal
returns-clause-no_journal g c = λ none. let kept = c.in-Ok.ensures.opened.keeps none.0 in absurd (none.1 kept.0 kept.1)

pub returns-clause-beside : goal.returns-clause-beside
returns-clause-beside g c = λ told other. inr (other_read g.D.Disk.view c.args.self.now.pair.one.now c.args.self.now.pair.two.now c.open.new.self.one.now c.open.new.self.two.now c.take_feed.new.self.pair.one.now c.take_feed.new.self.pair.two.now g.D.Disk.tells c.in-Ok.store c.in-Ok.ensures.opened told c.take_feed.ensures.beside)

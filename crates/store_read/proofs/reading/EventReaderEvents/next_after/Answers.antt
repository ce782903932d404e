use Rattle.std.proofs.Common.{List, refl, subst, sym}
use Rattle.std.proofs.lemmas.Result.{IfOk-weaker}
use Rattle.event_window.specs.Held.{Held, IsNext}
use Rattle.event_window.specs.declared.place.Place.{Place}
use Rattle.relay_store.specs.Events.{AllStand}
use Rattle.relay_store.specs.Journals.{bytes_of}
use Rattle.store_read.proofs.Searching.{read_from_part}
use Rattle.relay_store.proofs.Reread.{next_of, window_rises}
use Rattle.store_read.proofs.Reread.{still_has, still_kept}
use Rattle.store_read.proofs.reading.EventReaderEvents.next_after.Goals as goal

pub returns-clause-next : goal.returns-clause-next
returns-clause-next g c = IfOk-weaker c.find_shown-found.result _ _
    (λ found first tells held has.
    let keeps = has.1 in
    let near = next_of has.0 _ _ keeps c.args.seq in
    let stand = subst (λ (places : List Place). AllStand c.args.self.now.store.now.log.format keeps.bodies places near.0) (sym (c.above-places.ensures.above (window_rises has.0 _ _ keeps))) near.1 in
    subst (λ (h : Held). IsNext c.args.seq h.shown found c.find_shown-found.new.room) (sym has.2)
    (near.2 found c.find_shown-found.new.room (first tells keeps.bodies has.0 near.0 keeps.are.each keeps.holds keeps.core has.3 stand)))
    c.find_shown-found.ensures.first

pub returns-clause-no_bad_log : goal.returns-clause-no_bad_log
returns-clause-no_bad_log g c = λ place is tells held has.
    let keeps = has.1 in
    let near = next_of has.0 _ _ keeps c.args.seq in
    let stand = subst (λ (places : List Place). AllStand c.args.self.now.store.now.log.format keeps.bodies places near.0) (sym (c.above-places.ensures.above (window_rises has.0 _ _ keeps))) near.1 in
    c.find_shown-found.ensures.no_bad_log place is tells keeps.bodies near.0 keeps.are.each keeps.holds has.3 stand

pub returns-clause-same : goal.returns-clause-same
returns-clause-same g c = λ tells held has.
    let keeps = has.1 in
    still_has has.0 _ _ _ c.find_shown-found.new.buffer held keeps (c.find_shown-found.ensures.as_read.holds tells (bytes_of keeps.bodies) keeps.holds) has.2
    (c.find_shown-found.ensures.fits tells keeps.bodies keeps.are.each keeps.holds has.3)

pub returns-clause-later : goal.returns-clause-later
returns-clause-later g c = (
  refl,
  refl,
  record {
    goes = c.find_shown-found.ensures.as_read.goes;
    keeps = λ tells J keeps. still_kept J _ _ _ keeps (c.find_shown-found.ensures.as_read.holds tells (bytes_of keeps.bodies) keeps.holds);
  },
)

pub returns-clause-read : goal.returns-clause-read
returns-clause-read g c = IfOk-weaker c.find_shown-found.result _ _
    (λ found kept. read_from_part _ _ c.above-places.ensures.part _ _ found kept)
    c.find_shown-found.ensures.kept

pub returns-clause-counts : goal.returns-clause-counts
returns-clause-counts g c = c.find_shown-found.ensures.as_read.goes.counts

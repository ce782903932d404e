use Rattle.std.proofs.Common.{rules, ◌≡◌, ◌∙◌, ◌-◌, ℕ, Bool, Err, Option, List, ap, drop, length, refl, slice_index_or, subst, take}
use Rattle.event_window.specs.Held.{damage_after}
use Rattle.event_window.specs.declared.place.Place.{Place}
use Rattle.relay_disk.proofs.Moments.{still_again}
use Rattle.event_window.specs.declared.fault.EventsFault.{EventsFault}
use Rattle.store_read.specs.Events.{IsReadAs, IsToldOf}
use Rattle.relay_store.specs.Journals.{bytes_of}
use Rattle.relay_store.specs.Shown.{shown_of}
use Rattle.store_read.proofs.Searching.{damage_same, first_within, rest_first, rest_found, rest_more, rest_within, split_first}
use Rattle.store_read.proofs.finding.find_shown.Goals as goal

abbrev no_place : Place
no_place = record { seq = 0; place = 0; index = 0 }

abbrev first_of : List Place → Place
first_of left = slice_index_or left 0 no_place

abbrev others_of : List Place → List Place
others_of left = take (length left - 1) (drop 1 left)

pub returns-in_err-tell_shown_at-clause-no_bad_log : goal.returns-in_err-tell_shown_at-clause-no_bad_log
returns-in_err-tell_shown_at-clause-no_bad_log g c = λ p is tells bodies rows each holds buffer all.
    let failed : c.tell_shown_at.result ≡ Err (EventsFault.BadLog p) = search rules in
    let first = rest_first g.D.Disk.tells c.args.log.now c.args.core.now (g.D.Disk.view c.args.disk.now) bodies rows _ _ c.places.left.now (split_first c.places.left.now _ c.in-len1-up.len_at_least) (c.places.invariant.rest bodies rows buffer all) in
    c.tell_shown_at.ensures.no_bad_log p failed tells bodies first.row each (c.places.invariant.holds tells (bytes_of bodies) holds) (c.places.invariant.fits tells bodies each holds buffer) first.at

pub returns-then-branch-clause-first : goal.returns-then-branch-clause-first
returns-then-branch-clause-first g c = λ tells bodies J rows each holds of buffer all.
    let first = rest_first g.D.Disk.tells c.args.log.now c.args.core.now (g.D.Disk.view c.args.disk.now) bodies rows _ _ c.places.left.now (split_first c.places.left.now _ c.in-len1-up.len_at_least) (c.places.invariant.rest bodies rows buffer all) in
    let told = c.in_ok-tell_shown_at.ensures.told tells bodies J first.row each (c.places.invariant.holds tells (bytes_of bodies) holds) of (c.places.invariant.fits tells bodies each holds buffer) first.at in
    let shown = subst (λ (b : Bool). IsToldOf J first.row b c.tell_shown_at.new.room) c.if-branch.true told in
    (shown_of J first.others, rest_found g.D.Disk.tells c.args.log.now c.args.core.now (g.D.Disk.view c.args.disk.now) bodies rows _ _ first c.tell_shown_at.new.room tells J each holds of shown)

pub places-preserved : goal.places-preserved
places-preserved g c = record {
  undamaged = c.in_ok-tell_shown_at.ensures.damaged ∙ c.places.invariant.undamaged;
  goes = still_again _ _ _ (g.met.D.Disk.is_disk _) c.places.invariant.goes c.tell_shown_at.ensures.as_read.goes;
  holds = λ tells bodies held. c.tell_shown_at.ensures.as_read.holds tells bodies (c.places.invariant.holds tells bodies held);
  on = c.tell_shown_at.ensures.as_read.on;
  steady = c.in_ok-tell_shown_at.ensures.steady ∙ c.places.invariant.steady;
  within = λ p there. c.places.invariant.within p
      (rest_within (first_of c.places.left.now) (others_of c.places.left.now) c.places.left.now
      (split_first c.places.left.now no_place c.in-len1-up.len_at_least) p there);
  fits = λ tells bodies each holds buffer.
      c.tell_shown_at.ensures.fits tells bodies each (c.places.invariant.holds tells (bytes_of bodies) holds) (c.places.invariant.fits tells bodies each holds buffer);
  rest = λ bodies rows buffer all.
      let first = rest_first g.D.Disk.tells c.args.log.now c.args.core.now (g.D.Disk.view c.args.disk.now) bodies rows _ _ c.places.left.now (split_first c.places.left.now _ c.in-len1-up.len_at_least) (c.places.invariant.rest bodies rows buffer all) in
      rest_more g.D.Disk.tells c.args.log.now c.args.core.now (g.D.Disk.view c.args.disk.now) bodies rows _ _ first c.tell_shown_at.new.room
      (λ tells J each holds of. subst (λ (b : Bool). IsToldOf J first.row b c.tell_shown_at.new.room) c.if-branch.false
      (c.in_ok-tell_shown_at.ensures.told tells bodies J first.row each (c.places.invariant.holds tells (bytes_of bodies) holds) of (c.places.invariant.fits tells bodies each holds buffer) first.at));
}

pub returns-in_err-tell_shown_at-clause-fits : goal.returns-in_err-tell_shown_at-clause-fits
returns-in_err-tell_shown_at-clause-fits g c = λ tells bodies each holds buffer.
    c.tell_shown_at.ensures.fits tells bodies each (c.places.invariant.holds tells (bytes_of bodies) holds) (c.places.invariant.fits tells bodies each holds buffer)

pub returns-then-branch-clause-fits : goal.returns-then-branch-clause-fits
returns-then-branch-clause-fits g c = λ tells bodies each holds buffer.
    c.tell_shown_at.ensures.fits tells bodies each (c.places.invariant.holds tells (bytes_of bodies) holds) (c.places.invariant.fits tells bodies each holds buffer)

pub returns-then-branch-clause-kept : goal.returns-then-branch-clause-kept
returns-then-branch-clause-kept g c =
    let first = first_of c.places.left.now in (
      first,
      c.places.invariant.within first
          (first_within first (others_of c.places.left.now) c.places.left.now (split_first c.places.left.now no_place c.in-len1-up.len_at_least)),
      refl,
      subst (λ (b : Bool). IsReadAs c.tell_shown_at.new.buffer.left first.seq b c.tell_shown_at.new.room) c.if-branch.true c.in_ok-tell_shown_at.ensures.kept,
    )

pub returns-then-branch-clause-steady : goal.returns-then-branch-clause-steady
returns-then-branch-clause-steady g c = c.in_ok-tell_shown_at.ensures.steady ∙ c.places.invariant.steady

pub returns-in_err-tell_shown_at-clause-damaged : goal.returns-in_err-tell_shown_at-clause-damaged
returns-in_err-tell_shown_at-clause-damaged g c =
    let is : c.from_residual.result ≡ Err c.in_err-tell_shown_at.field-0.0 = search rules in
    damage_same Bool c.args.damage.now _ c.in_err-tell_shown_at.field-0.0 c.from_residual.result is
    (c.in_err-tell_shown_at.ensures.damaged ∙ ap (λ (d : Option ℕ). damage_after {A = Bool} d (Err c.in_err-tell_shown_at.field-0.0)) c.places.invariant.undamaged)

pub returns-then-branch-clause-damaged : goal.returns-then-branch-clause-damaged
returns-then-branch-clause-damaged g c = c.in_ok-tell_shown_at.ensures.damaged ∙ c.places.invariant.undamaged

pub returns-in_err-tell_shown_at-clause-as_read : goal.returns-in_err-tell_shown_at-clause-as_read
returns-in_err-tell_shown_at-clause-as_read g c = record {
  goes = still_again _ _ _ (g.met.D.Disk.is_disk _) c.places.invariant.goes c.tell_shown_at.ensures.as_read.goes;
  holds = λ tells bodies held. c.tell_shown_at.ensures.as_read.holds tells bodies (c.places.invariant.holds tells bodies held);
  on = c.tell_shown_at.ensures.as_read.on;
}

pub returns-then-branch-clause-as_read : goal.returns-then-branch-clause-as_read
returns-then-branch-clause-as_read g c = record {
  goes = still_again _ _ _ (g.met.D.Disk.is_disk _) c.places.invariant.goes c.tell_shown_at.ensures.as_read.goes;
  holds = λ tells bodies held. c.tell_shown_at.ensures.as_read.holds tells bodies (c.places.invariant.holds tells bodies held);
  on = c.tell_shown_at.ensures.as_read.on;
}

pub returns-in_default-clause-as_read : goal.returns-in_default-clause-as_read
returns-in_default-clause-as_read g c = record { goes = c.places.invariant.goes; holds = c.places.invariant.holds; on = c.places.invariant.on }

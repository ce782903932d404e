use Rattle.std.proofs.Common.{◌∙◌, Err, refl, ap, arith}
use Rattle.relay_disk.specs.Disk.{Same}
use Rattle.relay_disk.proofs.Moments.{time_called}
use Rattle.gate_log.specs.declared.picking.Side.TheVariants.{One, Two}
use Rattle.relay_store.specs.Store.{seen_in}
use Rattle.cut_law.specs.Cut.{cut}
use Rattle.relay_store.proofs.Beside.{kept_front, kept_stands}
use Rattle.relay_store.proofs.OnDisk.{pair_has_room}
use Rattle.run_base.proofs.AfterCut.{cut_came, cut_not, err_not, first_each, first_here, first_live, first_now, first_there, first_unlive, not_disk, on_fault, second_each, second_here, second_live, second_now, second_there, second_unlive, side_stays, written_anew}
use Rattle.run_base.proofs.pair.Pair.cut.Goals as goal

pub cut-requires-clause-live : goal.cut-requires-clause-live
cut-requires-clause-live g c = λ told. first_live c.args.store.now.side c.in-One.ensures (g.D.Disk.view c.args.self.now.one.now) (g.D.Disk.view c.args.self.now.two.now) (c.requires.side told)

pub cut-requires-in-Two-clause-live : goal.cut-requires-in-Two-clause-live
cut-requires-in-Two-clause-live g c = λ told. second_live c.args.store.now.side c.in-Two.ensures (g.D.Disk.view c.args.self.now.one.now) (g.D.Disk.view c.args.self.now.two.now) (c.requires.side told)

pub returns-in-One-clause-came : goal.returns-in-One-clause-came
returns-in-One-clause-came g c = λ told J keeps.
    let here = first_here c.args.store.now.side c.in-One.ensures (g.D.Disk.view c.args.self.now.one.now) (g.D.Disk.view c.args.self.now.two.now) J (seen_in c.args.store.now) keeps in
    let there = first_there c.args.store.now.side c.in-One.ensures (g.D.Disk.view c.cut.new.disk) (g.D.Disk.view c.cut.new.other) J (seen_in c.args.store.now) (c.cut.ensures.kept told J here) in
    cut_came c.args.store.now.log.most J c.args.seq c.args.store.now.side (seen_in c.args.store.now) (g.D.Disk.view c.cut.new.disk) (g.D.Disk.view c.cut.new.other) (g.met.D.Disk.is_disk c.cut.new.disk) (g.met.D.Disk.is_disk c.cut.new.other) there c.cut.result
    (λ why is.
    let same = c.cut.ensures.untouched why is in (
      c.cut.ensures.refused why is told J here,
      side_stays g.D.Disk.view c.args.store.now.side c.args.self.now.one.now c.args.self.now.two.now c.cut.new.disk c.cut.new.other same.1 same.2 (c.requires.side told),
    ))
    (λ oldest last is.
    let anew = c.cut.ensures.anew oldest last is in
    let keeps_now = c.cut.ensures.keeps oldest last is told J here in
    let leaves = second_now c.args.store.now.side c.in-One.ensures (g.D.Disk.view c.cut.new.disk) (g.D.Disk.view c.cut.new.other) c.cut.new.store.side anew.0 (c.cut.ensures.live oldest last is told) in
    let picked = leaves (g.D.Disk.view c.cut.new.disk).content (g.D.Disk.view c.cut.new.other).content (g.met.D.Disk.is_disk c.cut.new.disk).possible (g.met.D.Disk.is_disk c.cut.new.other).possible in (
      (
        (c.cut.ensures.may (cut_not c.cut.result oldest last is) told J here).0,
        (c.cut.ensures.told oldest last is told J here).0,
        (c.cut.ensures.told oldest last is told J here).1,
        written_anew One c.args.store.now.log.most (cut J c.args.seq) c.args.store.now.log.format c.cut.new.store.log (g.D.Disk.view c.cut.new.disk).content (g.D.Disk.view c.cut.new.other).content (g.D.Disk.view c.cut.new.other) picked
            (kept_front J (seen_in c.args.store.now) (g.D.Disk.view c.cut.new.disk) (g.met.D.Disk.is_disk c.cut.new.disk) (c.cut.ensures.kept told J here)) refl
            anew.1 anew.2 (c.cut.ensures.room oldest last is told) (c.cut.ensures.bodies oldest last is told J here),
      ),
      kept_stands Two (cut J c.args.seq) (seen_in c.cut.new.store) (g.D.Disk.view c.cut.new.disk) (g.D.Disk.view c.cut.new.other) (g.met.D.Disk.is_disk c.cut.new.disk) (g.met.D.Disk.is_disk c.cut.new.other) leaves keeps_now,
      pair_has_room (cut J c.args.seq) (seen_in c.cut.new.store) Two (g.D.Disk.view c.cut.new.disk) (g.D.Disk.view c.cut.new.other) keeps_now picked c.args.store.now.log.most anew.2 (omega (arith, c.cut.ensures.room oldest last is told)),
    ))
    (λ f is. (
      (c.cut.ensures.may (err_not c.cut.result f is) told J here).0,
      c.cut.ensures.few f is,
      λ p bad. c.cut.ensures.no_bad_log p (is ∙ ap Err bad) told,
      λ other. first_unlive c.args.store.now.side c.in-One.ensures (g.D.Disk.view c.cut.new.disk) (g.D.Disk.view c.cut.new.other) ((on_fault c.cut.result f _ is c.cut.ensures.as_before (not_disk c.cut.result f is other)).1 told),
      λ e full. c.cut.ensures.full e (is ∙ ap Err full) told J here,
    ))

pub returns-in-One-clause-moments : goal.returns-in-One-clause-moments
returns-in-One-clause-moments g c = λ told J keeps. first_each c.args.store.now.side c.in-One.ensures (g.D.Disk.view c.cut.new.disk) (g.D.Disk.view c.cut.new.other) J (cut J c.args.seq) (g.D.Disk.view c.args.self.now.one.now) (g.D.Disk.view c.args.self.now.two.now) (c.cut.ensures.moments told J (first_here c.args.store.now.side c.in-One.ensures (g.D.Disk.view c.args.self.now.one.now) (g.D.Disk.view c.args.self.now.two.now) J (seen_in c.args.store.now) keeps))

pub returns-in-Two-clause-came : goal.returns-in-Two-clause-came
returns-in-Two-clause-came g c = λ told J keeps.
    let here = second_here c.args.store.now.side c.in-Two.ensures (g.D.Disk.view c.args.self.now.one.now) (g.D.Disk.view c.args.self.now.two.now) J (seen_in c.args.store.now) keeps in
    let there = second_there c.args.store.now.side c.in-Two.ensures (g.D.Disk.view c.cut-in-Two.new.other) (g.D.Disk.view c.cut-in-Two.new.disk) J (seen_in c.args.store.now) (c.cut-in-Two.ensures.kept told J here) in
    cut_came c.args.store.now.log.most J c.args.seq c.args.store.now.side (seen_in c.args.store.now) (g.D.Disk.view c.cut-in-Two.new.other) (g.D.Disk.view c.cut-in-Two.new.disk) (g.met.D.Disk.is_disk c.cut-in-Two.new.other) (g.met.D.Disk.is_disk c.cut-in-Two.new.disk) there c.cut-in-Two.result
    (λ why is.
    let same = c.cut-in-Two.ensures.untouched why is in (
      c.cut-in-Two.ensures.refused why is told J here,
      side_stays g.D.Disk.view c.args.store.now.side c.args.self.now.one.now c.args.self.now.two.now c.cut-in-Two.new.other c.cut-in-Two.new.disk same.2 same.1 (c.requires.side told),
    ))
    (λ oldest last is.
    let anew = c.cut-in-Two.ensures.anew oldest last is in
    let keeps_now = c.cut-in-Two.ensures.keeps oldest last is told J here in
    let leaves = first_now c.args.store.now.side c.in-Two.ensures (g.D.Disk.view c.cut-in-Two.new.other) (g.D.Disk.view c.cut-in-Two.new.disk) c.cut-in-Two.new.store.side anew.0 (c.cut-in-Two.ensures.live oldest last is told) in
    let picked = leaves (g.D.Disk.view c.cut-in-Two.new.other).content (g.D.Disk.view c.cut-in-Two.new.disk).content (g.met.D.Disk.is_disk c.cut-in-Two.new.other).possible (g.met.D.Disk.is_disk c.cut-in-Two.new.disk).possible in (
      (
        (c.cut-in-Two.ensures.may (cut_not c.cut-in-Two.result oldest last is) told J here).0,
        (c.cut-in-Two.ensures.told oldest last is told J here).0,
        (c.cut-in-Two.ensures.told oldest last is told J here).1,
        written_anew Two c.args.store.now.log.most (cut J c.args.seq) c.args.store.now.log.format c.cut-in-Two.new.store.log (g.D.Disk.view c.cut-in-Two.new.other).content (g.D.Disk.view c.cut-in-Two.new.disk).content (g.D.Disk.view c.cut-in-Two.new.other) picked
            (kept_front J (seen_in c.args.store.now) (g.D.Disk.view c.cut-in-Two.new.disk) (g.met.D.Disk.is_disk c.cut-in-Two.new.disk) (c.cut-in-Two.ensures.kept told J here)) refl
            anew.1 anew.2 (c.cut-in-Two.ensures.room oldest last is told) (c.cut-in-Two.ensures.bodies oldest last is told J here),
      ),
      kept_stands One (cut J c.args.seq) (seen_in c.cut-in-Two.new.store) (g.D.Disk.view c.cut-in-Two.new.other) (g.D.Disk.view c.cut-in-Two.new.disk) (g.met.D.Disk.is_disk c.cut-in-Two.new.other) (g.met.D.Disk.is_disk c.cut-in-Two.new.disk) leaves keeps_now,
      pair_has_room (cut J c.args.seq) (seen_in c.cut-in-Two.new.store) One (g.D.Disk.view c.cut-in-Two.new.other) (g.D.Disk.view c.cut-in-Two.new.disk) keeps_now picked c.args.store.now.log.most anew.2 (omega (arith, c.cut-in-Two.ensures.room oldest last is told)),
    ))
    (λ f is. (
      (c.cut-in-Two.ensures.may (err_not c.cut-in-Two.result f is) told J here).0,
      c.cut-in-Two.ensures.few f is,
      λ p bad. c.cut-in-Two.ensures.no_bad_log p (is ∙ ap Err bad) told,
      λ other. second_unlive c.args.store.now.side c.in-Two.ensures (g.D.Disk.view c.cut-in-Two.new.other) (g.D.Disk.view c.cut-in-Two.new.disk) ((on_fault c.cut-in-Two.result f _ is c.cut-in-Two.ensures.as_before (not_disk c.cut-in-Two.result f is other)).1 told),
      λ e full. c.cut-in-Two.ensures.full e (is ∙ ap Err full) told J here,
    ))

pub returns-in-Two-clause-moments : goal.returns-in-Two-clause-moments
returns-in-Two-clause-moments g c = λ told J keeps. second_each c.args.store.now.side c.in-Two.ensures (g.D.Disk.view c.cut-in-Two.new.other) (g.D.Disk.view c.cut-in-Two.new.disk) J (cut J c.args.seq) (g.D.Disk.view c.args.self.now.one.now) (g.D.Disk.view c.args.self.now.two.now) (c.cut-in-Two.ensures.moments told J (second_here c.args.store.now.side c.in-Two.ensures (g.D.Disk.view c.args.self.now.one.now) (g.D.Disk.view c.args.self.now.two.now) J (seen_in c.args.store.now) keeps))

pub returns-in-One-clause-time : goal.returns-in-One-clause-time
returns-in-One-clause-time g c = λ told. (time_called Same _ _ (g.met.D.Disk.is_disk c.args.self.now.one.now) (g.met.D.Disk.is_disk c.cut.new.disk) c.cut.ensures.goes, c.cut.ensures.time told)

pub returns-in-Two-clause-time : goal.returns-in-Two-clause-time
returns-in-Two-clause-time g c = λ told. (c.cut-in-Two.ensures.time told, time_called Same _ _ (g.met.D.Disk.is_disk c.args.self.now.two.now) (g.met.D.Disk.is_disk c.cut-in-Two.new.disk) c.cut-in-Two.ensures.goes)

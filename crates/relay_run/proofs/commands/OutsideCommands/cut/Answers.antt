use Rattle.std.proofs.Common.{◌∙◌, ℕ, Ok, Err, refl, ap, subst}
use Rattle.relay_store.specs.Store.{seen_in}
use Rattle.relay_store.specs.declared.fault.StoreFault.{StoreFault}
use Rattle.relay_store.proofs.Beside.{kept_stands, opened_keeps}
use Rattle.run_base.specs.Cutting.{CutCame}
use Rattle.run_base.specs.Place.{place_of, tells_of}
use Rattle.run_base.proofs.Ended.{all_stay, counted_behind, counted_pair_fault, fault_ended, image_shows, line_ended, ok_not, opening_read, reading_shows, uncounted}
use Rattle.relay_run.proofs.AtCut.{came_good, cut_answered, cut_unopened, cut_unwritten, still_run}
use Rattle.relay_run.proofs.Ending.{cut_line, fault_cutting, line_cutting, reading_asks, reading_rewrites, rewriting_asks}
use Rattle.relay_run.proofs.commands.OutsideCommands.cut.Goals as goal

pub returns-in-Err-clause-ran : goal.returns-in-Err-clause-ran
returns-in-Err-clause-ran g c = λ J has. cut_unopened (place_of g.D.Disk.view g.P.Judges.panel g.C.Clock.moments g.R.Repos.repository g.O.Sink.written g.R.Repos.faults g.C.Clock.faults g.O.Sink.faults) (record { pair = c.open.new.self; asked = c.args.self.now.asked; out = c.args.self.now.out }) (g.D.Disk.view c.args.self.now.pair.one.now) (g.D.Disk.view c.args.self.now.pair.two.now) (tells_of g.D.Disk.tells g.C.Clock.tells g.R.Repos.tells g.O.Sink.tells) has.0 c.args.most c.args.seq J (g.met.D.Disk.is_disk c.open.new.self.one.now) (g.met.D.Disk.is_disk c.open.new.self.two.now) has.1
    _ _ _ _ _ c.in-Err.fault c.from.result c.from.ensures c.in-Err.ensures.opened (c.in-Err.ensures.few c.in-Err.fault refl)

pub returns-in-Err-clause-ended : goal.returns-in-Err-clause-ended
returns-in-Err-clause-ended g c =
    let asks = reading_asks c.in-Err.fault (c.in-Err.ensures.few c.in-Err.fault refl) in
    fault_ended (tells_of g.D.Disk.tells g.C.Clock.tells g.R.Repos.tells g.O.Sink.tells) _ _ c.in-Err.fault c.from.result c.from.ensures (λ told. reading_shows c.in-Err.fault c.from.result _ _ c.from.ensures (c.in-Err.ensures.few c.in-Err.fault refl) (λ p is. c.in-Err.ensures.bad_log p (ap Err is) told)) refl
    (counted_pair_fault c.in-Err.fault StoreFault.Disk _ _ _ _ c.in-Err.ensures.counts) (λ is. absurd (asks.0.0 is)) (λ _ name spent. spent) (uncounted _ _ asks.0.1) (uncounted _ _ asks.1) (record { output = refl; input = refl; feed = refl; door = refl; wire = refl })

pub returns-in-Err-clause-no_journal : goal.returns-in-Err-clause-no_journal
returns-in-Err-clause-no_journal g c = λ none. (opening_read g.D.Disk.tells (g.D.Disk.view c.args.self.now.pair.one.now) (g.D.Disk.view c.args.self.now.pair.two.now) (g.D.Disk.view c.open.new.self.one.now) (g.D.Disk.view c.open.new.self.two.now) c.in-Err.fault c.from.result c.in-Err.ensures.opened none.0 c.from.ensures, all_stay _ _ refl refl refl refl)

pub returns-in-Ok-cut-clause-no_journal : goal.returns-in-Ok-cut-clause-no_journal
returns-in-Ok-cut-clause-no_journal g c = λ none. let kept = c.in-Ok.ensures.opened.keeps none.0 in absurd (none.1 kept.0 kept.1)

pub returns-clause-no_journal : goal.returns-clause-no_journal
returns-clause-no_journal g c = λ none. let kept = c.in-Ok.ensures.opened.keeps none.0 in absurd (none.1 kept.0 kept.1)

pub returns-in-Ok-cut-clause-ran : goal.returns-in-Ok-cut-clause-ran
returns-in-Ok-cut-clause-ran g c = λ J has.
    let keeps = (opened_keeps g.D.Disk.tells (g.D.Disk.view c.args.self.now.pair.one.now) (g.D.Disk.view c.args.self.now.pair.two.now) (g.D.Disk.view c.open.new.self.one.now) (g.D.Disk.view c.open.new.self.two.now) c.in-Ok.store c.in-Ok.ensures.opened has.0 J has.1) in
    cut_answered (place_of g.D.Disk.view g.P.Judges.panel g.C.Clock.moments g.R.Repos.repository g.O.Sink.written g.R.Repos.faults g.C.Clock.faults g.O.Sink.faults) (record { pair = c.open.new.self; asked = c.args.self.now.asked; out = c.args.self.now.out }) (g.D.Disk.view c.args.self.now.pair.one.now) (g.D.Disk.view c.args.self.now.pair.two.now) (tells_of g.D.Disk.tells g.C.Clock.tells g.R.Repos.tells g.O.Sink.tells) has.0 c.args.most c.args.seq J (g.met.D.Disk.is_disk c.open.new.self.one.now) (g.met.D.Disk.is_disk c.open.new.self.two.now) has.1
    _ _ _ _ _
    c.in-Ok.store c.in-Ok.ensures.opened (g.D.Disk.view c.cut.new.self.one.now) (g.D.Disk.view c.cut.new.self.two.now) (c.in-Ok-cut.ensures.moments has.0 J keeps) (c.in-Ok-cut.ensures.time has.0)
    c.in-Ok-cut.done c.answer_cut.result (g.O.Sink.written c.answer_cut.new.out)
    (λ why is. still_run g.D.Disk.view (λ x. g.met.D.Disk.is_disk x) c.open.new.self.one.now c.open.new.self.two.now c.cut.new.self.one.now c.cut.new.self.two.now J (c.in-Ok-cut.ensures.untouched why (ap Ok is)) (kept_stands c.in-Ok.store.side J (seen_in c.in-Ok.store) (g.D.Disk.view c.open.new.self.one.now) (g.D.Disk.view c.open.new.self.two.now) (g.met.D.Disk.is_disk c.open.new.self.one.now) (g.met.D.Disk.is_disk c.open.new.self.two.now) (c.in-Ok.ensures.opened.side has.0) keeps))
    (subst (λ (m : ℕ). CutCame m J c.args.seq (g.D.Disk.view c.cut.new.self.one.now) (g.D.Disk.view c.cut.new.self.two.now) (Ok c.in-Ok-cut.done)) c.in-Ok.ensures.open.1 (c.in-Ok-cut.ensures.came has.0 J keeps)) c.answer_cut.ensures.ends c.answer_cut.ensures.written

pub returns-clause-ran : goal.returns-clause-ran
returns-clause-ran g c = λ J has.
    let keeps = (opened_keeps g.D.Disk.tells (g.D.Disk.view c.args.self.now.pair.one.now) (g.D.Disk.view c.args.self.now.pair.two.now) (g.D.Disk.view c.open.new.self.one.now) (g.D.Disk.view c.open.new.self.two.now) c.in-Ok.store c.in-Ok.ensures.opened has.0 J has.1) in
    cut_unwritten (place_of g.D.Disk.view g.P.Judges.panel g.C.Clock.moments g.R.Repos.repository g.O.Sink.written g.R.Repos.faults g.C.Clock.faults g.O.Sink.faults) (record { pair = c.open.new.self; asked = c.args.self.now.asked; out = c.args.self.now.out }) (g.D.Disk.view c.args.self.now.pair.one.now) (g.D.Disk.view c.args.self.now.pair.two.now) (tells_of g.D.Disk.tells g.C.Clock.tells g.R.Repos.tells g.O.Sink.tells) has.0 c.args.most c.args.seq J (g.met.D.Disk.is_disk c.open.new.self.one.now) (g.met.D.Disk.is_disk c.open.new.self.two.now) has.1
    _ _ _ _ _
    c.in-Ok.store c.in-Ok.ensures.opened (g.D.Disk.view c.cut.new.self.one.now) (g.D.Disk.view c.cut.new.self.two.now) (c.in-Err-cut.ensures.moments has.0 J keeps) (c.in-Err-cut.ensures.time has.0)
    c.in-Err-cut.fault c.from-in-Err-cut.result c.from-in-Err-cut.ensures (subst (λ (m : ℕ). CutCame m J c.args.seq (g.D.Disk.view c.cut.new.self.one.now) (g.D.Disk.view c.cut.new.self.two.now) (Err c.in-Err-cut.fault)) c.in-Ok.ensures.open.1 (c.in-Err-cut.ensures.came has.0 J keeps))

pub returns-in-Ok-cut-clause-ended : goal.returns-in-Ok-cut-clause-ended
returns-in-Ok-cut-clause-ended g c =
    line_ended (tells_of g.D.Disk.tells g.C.Clock.tells g.R.Repos.tells g.O.Sink.tells) _ _ c.answer_cut.result (cut_line c.in-Ok-cut.done c.answer_cut.result c.answer_cut.ensures.ends) (λ told. let kept = c.in-Ok.ensures.opened.keeps told in (kept.0, kept.1)) c.answer_cut.ensures.quiet c.answer_cut.ensures.counts
    (record { disks = (let was = (c.in-Ok.ensures.counts.steady (ok_not c.in-Ok.store StoreFault.Disk)) in let now = c.in-Ok-cut.ensures.counts.steady (ok_not c.in-Ok-cut.done StoreFault.Disk) in (now.0 ∙ was.0, now.1 ∙ was.1)); unspent = λ name spent. spent; repos = refl; clock = refl; input = refl; feed = refl; door = refl; wire = refl })

pub returns-clause-ended : goal.returns-clause-ended
returns-clause-ended g c =
    let asks = rewriting_asks c.in-Err-cut.fault (c.in-Err-cut.ensures.few c.in-Err-cut.fault refl) in
    fault_ended (tells_of g.D.Disk.tells g.C.Clock.tells g.R.Repos.tells g.O.Sink.tells) _ _ c.in-Err-cut.fault c.from-in-Err-cut.result c.from-in-Err-cut.ensures
    (λ told. let kept = c.in-Ok.ensures.opened.keeps told in image_shows c.in-Err-cut.fault c.from-in-Err-cut.result _ _ kept.0 c.from-in-Err-cut.ensures kept.1 (λ p is. came_good _ kept.0 c.args.seq _ _ c.in-Err-cut.fault (c.in-Err-cut.ensures.came told kept.0 kept.2) p is))
    refl (counted_behind _ _ _ _ _ _ _ (c.in-Ok.ensures.counts.steady (ok_not c.in-Ok.store StoreFault.Disk)) (counted_pair_fault c.in-Err-cut.fault StoreFault.Disk _ _ _ _ c.in-Err-cut.ensures.counts))
    (λ is. absurd (asks.0.0 is)) (λ _ name spent. spent) (uncounted _ _ asks.0.1) (uncounted _ _ asks.1) (record { output = refl; input = refl; feed = refl; door = refl; wire = refl })

pub returns-in-Err-clause-may : goal.returns-in-Err-clause-may
returns-in-Err-clause-may g c = fault_cutting c.in-Err.fault c.from.result c.from.ensures (reading_rewrites c.in-Err.fault (c.in-Err.ensures.few c.in-Err.fault refl))

pub returns-in-Ok-cut-clause-may : goal.returns-in-Ok-cut-clause-may
returns-in-Ok-cut-clause-may g c = line_cutting c.answer_cut.result (cut_line c.in-Ok-cut.done c.answer_cut.result c.answer_cut.ensures.ends)

pub returns-clause-may : goal.returns-clause-may
returns-clause-may g c = fault_cutting c.in-Err-cut.fault c.from-in-Err-cut.result c.from-in-Err-cut.ensures (c.in-Err-cut.ensures.few c.in-Err-cut.fault refl)

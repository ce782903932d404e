use Rattle.std.proofs.Common.{◌≡◌, ◌∙◌, inl, inr, Ok, Err, IsTrue, refl, ap}
use Rattle.std.specs.Prelude.{⊤}
use Rattle.relay_step.specs.Causes.{OneTaken}
use Rattle.relay_step.specs.Commands.{OperatedAt}
use Rattle.chain_law.specs.Made.{GiveBytes}
use Rattle.relay_store.specs.Faults.{IsCause}
use Rattle.relay_store.specs.Store.{seen_in}
use Rattle.relay_store.specs.declared.fault.StoreFault.{StoreFault}
use Rattle.run_base.specs.Place.{tells_of}
use Rattle.run_base.proofs.Ended.{all_stay, counted_behind, counted_fault, counted_pair_fault, fault_ended, image_shows, line_ended, ok_not, opening_read, other_status, reading_shows, same_fault, uncounted}
use Rattle.run_base.proofs.Reading.{only_read, other_read}
use Rattle.relay_run.specs.Behind.{NumbersEndBehind, OperatedBehind}
use Rattle.relay_run.proofs.Behind.{numbers_end, operated_behind}
use Rattle.relay_run.proofs.Ending.{commanded_good, end_line, fault_operating, line_operating, operating_asks, reading_asks, same_judges, same_part}
use Rattle.relay_run.proofs.Given.{operated_gives}
use Rattle.relay_run.proofs.Sounds.{operated_stays, short_text}
use Rattle.relay_run.proofs.Uttered.{none_made, opened_holds, opened_of, ran_err, ran_ok, ran_unopened, untouched, vain_by}
use Rattle.relay_run.proofs.commands.OutsideCommands.operate.Goals as goal

pub returns-in-Err-clause-ran : goal.returns-in-Err-clause-ran
returns-in-Err-clause-ran g c = λ J has.
    ran_unopened (tells_of g.D.Disk.tells g.C.Clock.tells g.R.Repos.tells g.O.Sink.tells) (g.D.Disk.view c.args.self.now.pair.one.now) (g.D.Disk.view c.args.self.now.pair.two.now) (g.D.Disk.view c.open.new.self.one.now) (g.D.Disk.view c.open.new.self.two.now) _ _ _ _ _ c.in-Err.fault c.from.result J _ _ _ c.args.most
    (g.met.D.Disk.is_disk c.open.new.self.one.now) (g.met.D.Disk.is_disk c.open.new.self.two.now) c.in-Err.ensures.opened has.0 has.1 c.from.ensures (c.in-Err.ensures.few c.in-Err.fault refl) refl

pub returns-in-Err-clause-ended : goal.returns-in-Err-clause-ended
returns-in-Err-clause-ended g c =
    let asks = reading_asks c.in-Err.fault (c.in-Err.ensures.few c.in-Err.fault refl) in
    fault_ended (tells_of g.D.Disk.tells g.C.Clock.tells g.R.Repos.tells g.O.Sink.tells) _ _ c.in-Err.fault c.from.result c.from.ensures (λ told. reading_shows c.in-Err.fault c.from.result _ _ c.from.ensures (c.in-Err.ensures.few c.in-Err.fault refl) (λ p is. c.in-Err.ensures.bad_log p (ap Err is) told)) refl
    (counted_pair_fault c.in-Err.fault StoreFault.Disk _ _ _ _ c.in-Err.ensures.counts) (λ is. absurd (asks.0.0 is)) (λ _ name spent. spent) (uncounted _ _ asks.0.1) (uncounted _ _ asks.1) (record { output = refl; input = refl; feed = refl; door = refl; wire = refl })

pub returns-in-Err-clause-no_journal : goal.returns-in-Err-clause-no_journal
returns-in-Err-clause-no_journal g c = λ none. (opening_read g.D.Disk.tells (g.D.Disk.view c.args.self.now.pair.one.now) (g.D.Disk.view c.args.self.now.pair.two.now) (g.D.Disk.view c.open.new.self.one.now) (g.D.Disk.view c.open.new.self.two.now) c.in-Err.fault c.from.result c.in-Err.ensures.opened none.0 c.from.ensures, all_stay _ _ refl refl refl refl)

pub returns-in-Ok-operate-clause-no_journal : goal.returns-in-Ok-operate-clause-no_journal
returns-in-Ok-operate-clause-no_journal g c = λ none. let kept = c.in-Ok.ensures.opened.keeps none.0 in absurd (none.1 kept.0 kept.1)

pub returns-clause-no_journal : goal.returns-clause-no_journal
returns-clause-no_journal g c = λ none. let kept = c.in-Ok.ensures.opened.keeps none.0 in absurd (none.1 kept.0 kept.1)

pub returns-in-Ok-operate-clause-ran : goal.returns-in-Ok-operate-clause-ran
returns-in-Ok-operate-clause-ran g c = λ J has.
    ran_ok g.D.Disk.view (λ x. g.met.D.Disk.is_disk x) c.args.self.now.pair.one.now c.args.self.now.pair.two.now c.open.new.self.one.now c.open.new.self.two.now (tells_of g.D.Disk.tells g.C.Clock.tells g.R.Repos.tells g.O.Sink.tells) has.0 c.in-Ok.store c.in-Ok.ensures.opened J has.1
    c.operate.new.self.one.now c.operate.new.self.two.now c.operate.new.store c.in-Ok-operate.ensures.beside
    (λ core command. OperatedAt g.C.Clock.tells core c.args.did.now c.args.down c.args.time.now (g.C.Clock.moments c.args.self.now.asked.clock.now) command (g.C.Clock.moments c.operate.new.asked.clock.now))
    (λ command. OperatedBehind g.C.Clock.tells J c.args.did.now c.args.down c.args.time.now (g.C.Clock.moments c.args.self.now.asked.clock.now) command (g.C.Clock.moments c.operate.new.asked.clock.now))
    (IsTrue g.C.Clock.tells → OneTaken (g.C.Clock.moments c.args.self.now.asked.clock.now) (g.C.Clock.moments c.operate.new.asked.clock.now)) ((g.C.Clock.moments c.operate.new.asked.clock.now) ≡ (g.C.Clock.moments c.args.self.now.asked.clock.now)) (λ fault. (IsTrue g.C.Clock.tells → OneTaken (g.C.Clock.moments c.args.self.now.asked.clock.now) (g.C.Clock.moments c.operate.new.asked.clock.now)) × IsCause (NumbersEndBehind J c.args.did.now c.args.down) ⊤ ⊤ ⊤ fault) _ _ _ _ c.args.most c.in-Ok.ensures.open.1
    (λ core holds command at. operated_behind core J holds g.C.Clock.tells c.args.did.now c.args.down c.args.time.now (g.C.Clock.moments c.args.self.now.asked.clock.now) command (g.C.Clock.moments c.operate.new.asked.clock.now) at)
    (λ core holds command at. operated_stays g.C.Clock.tells core J c.args.did.now c.args.down c.args.time.now (g.C.Clock.moments c.args.self.now.asked.clock.now) (g.C.Clock.moments c.operate.new.asked.clock.now) (short_text c.args.time.now c.ghost_text.ensures.bytes c.ghost_text.ensures.length c.ghost_text.ensures.utf8 c.requires.time) holds command at)
    (λ core holds command at. operated_gives (IsTrue g.R.Repos.tells → GiveBytes (g.R.Repos.repository c.args.self.now.asked.repos.now)) g.C.Clock.tells core J c.args.did.now c.args.down c.args.time.now (g.C.Clock.moments c.args.self.now.asked.clock.now) (g.C.Clock.moments c.operate.new.asked.clock.now) (short_text c.args.time.now c.ghost_text.ensures.bytes c.ghost_text.ensures.length c.ghost_text.ensures.utf8 c.requires.time) holds command at)
    c.in-Ok-operate.done c.answer.result (g.O.Sink.written c.args.self.now.out.now) (g.O.Sink.written c.answer.new.out) (c.in-Ok-operate.ensures.commanded J (opened_of g.D.Disk.view (λ x. g.met.D.Disk.is_disk x) c.args.self.now.pair.one.now c.args.self.now.pair.two.now c.open.new.self.one.now c.open.new.self.two.now (tells_of g.D.Disk.tells g.C.Clock.tells g.R.Repos.tells g.O.Sink.tells) has.0 c.in-Ok.store c.in-Ok.ensures.opened J has.1)) c.answer.ensures.ends c.answer.ensures.written

pub returns-clause-ran : goal.returns-clause-ran
returns-clause-ran g c = λ J has.
    ran_err g.D.Disk.view (λ x. g.met.D.Disk.is_disk x) c.args.self.now.pair.one.now c.args.self.now.pair.two.now c.open.new.self.one.now c.open.new.self.two.now (tells_of g.D.Disk.tells g.C.Clock.tells g.R.Repos.tells g.O.Sink.tells) has.0 c.in-Ok.store c.in-Ok.ensures.opened J has.1
    c.operate.new.self.one.now c.operate.new.self.two.now c.operate.new.store c.in-Err-operate.ensures.beside
    (λ core command. OperatedAt g.C.Clock.tells core c.args.did.now c.args.down c.args.time.now (g.C.Clock.moments c.args.self.now.asked.clock.now) command (g.C.Clock.moments c.operate.new.asked.clock.now))
    (λ command. OperatedBehind g.C.Clock.tells J c.args.did.now c.args.down c.args.time.now (g.C.Clock.moments c.args.self.now.asked.clock.now) command (g.C.Clock.moments c.operate.new.asked.clock.now))
    (IsTrue g.C.Clock.tells → OneTaken (g.C.Clock.moments c.args.self.now.asked.clock.now) (g.C.Clock.moments c.operate.new.asked.clock.now)) ((g.C.Clock.moments c.operate.new.asked.clock.now) ≡ (g.C.Clock.moments c.args.self.now.asked.clock.now)) (λ fault. (IsTrue g.C.Clock.tells → OneTaken (g.C.Clock.moments c.args.self.now.asked.clock.now) (g.C.Clock.moments c.operate.new.asked.clock.now)) × IsCause (NumbersEndBehind J c.args.did.now c.args.down) ⊤ ⊤ ⊤ fault) _ _ _ _ c.args.most c.in-Ok.ensures.open.1
    (λ core holds command at. operated_behind core J holds g.C.Clock.tells c.args.did.now c.args.down c.args.time.now (g.C.Clock.moments c.args.self.now.asked.clock.now) command (g.C.Clock.moments c.operate.new.asked.clock.now) at)
    (λ core holds command at. operated_stays g.C.Clock.tells core J c.args.did.now c.args.down c.args.time.now (g.C.Clock.moments c.args.self.now.asked.clock.now) (g.C.Clock.moments c.operate.new.asked.clock.now) (short_text c.args.time.now c.ghost_text.ensures.bytes c.ghost_text.ensures.length c.ghost_text.ensures.utf8 c.requires.time) holds command at)
    (λ core holds command at. operated_gives (IsTrue g.R.Repos.tells → GiveBytes (g.R.Repos.repository c.args.self.now.asked.repos.now)) g.C.Clock.tells core J c.args.did.now c.args.down c.args.time.now (g.C.Clock.moments c.args.self.now.asked.clock.now) (g.C.Clock.moments c.operate.new.asked.clock.now) (short_text c.args.time.now c.ghost_text.ensures.bytes c.ghost_text.ensures.length c.ghost_text.ensures.utf8 c.requires.time) holds command at)
    c.in-Err-operate.fault c.from-in-Err-operate.result (g.O.Sink.written c.args.self.now.out.now) c.from-in-Err-operate.ensures (c.in-Err-operate.ensures.commanded J (opened_of g.D.Disk.view (λ x. g.met.D.Disk.is_disk x) c.args.self.now.pair.one.now c.args.self.now.pair.two.now c.open.new.self.one.now c.open.new.self.two.now (tells_of g.D.Disk.tells g.C.Clock.tells g.R.Repos.tells g.O.Sink.tells) has.0 c.in-Ok.store c.in-Ok.ensures.opened J has.1))
    (λ came. (came, vain_by _ _ c.in-Err-operate.fault (λ is. numbers_end (seen_in c.in-Ok.store).core J (opened_holds g.D.Disk.view (λ x. g.met.D.Disk.is_disk x) c.args.self.now.pair.one.now c.args.self.now.pair.two.now c.open.new.self.one.now c.open.new.self.two.now (tells_of g.D.Disk.tells g.C.Clock.tells g.R.Repos.tells g.O.Sink.tells) has.0 c.in-Ok.store c.in-Ok.ensures.opened J has.1) c.args.did.now c.args.down (c.in-Err-operate.ensures.seq_end (ap Err is))) (λ is. tt)))

pub returns-in-Ok-operate-clause-ended : goal.returns-in-Ok-operate-clause-ended
returns-in-Ok-operate-clause-ended g c =
    line_ended (tells_of g.D.Disk.tells g.C.Clock.tells g.R.Repos.tells g.O.Sink.tells) _ _ c.answer.result (end_line c.in-Ok-operate.done c.answer.result c.answer.ensures.ends) (λ told. let kept = c.in-Ok.ensures.opened.keeps told in (kept.0, kept.1)) c.answer.ensures.quiet c.answer.ensures.counts
    (record { disks = (let was = (c.in-Ok.ensures.counts.steady (ok_not c.in-Ok.store StoreFault.Disk)) in let now = c.in-Ok-operate.ensures.counts.steady (ok_not c.in-Ok-operate.done StoreFault.Disk) in (now.0 ∙ was.0, now.1 ∙ was.1)); unspent = same_judges g.P.Judges.panel c.args.self.now.asked.judges.now c.operate.new.asked.judges.now c.in-Ok-operate.ensures.unasked.0; repos = ap g.R.Repos.faults c.in-Ok-operate.ensures.unasked.1; clock = c.in-Ok-operate.ensures.clock.steady (ok_not c.in-Ok-operate.done StoreFault.Clock); input = refl; feed = refl; door = refl; wire = refl })

pub returns-clause-ended : goal.returns-clause-ended
returns-clause-ended g c =
    let asks = operating_asks c.in-Err-operate.fault (c.in-Err-operate.ensures.few c.in-Err-operate.fault refl) in
    fault_ended (tells_of g.D.Disk.tells g.C.Clock.tells g.R.Repos.tells g.O.Sink.tells) _ _ c.in-Err-operate.fault c.from-in-Err-operate.result c.from-in-Err-operate.ensures
    (λ told. let kept = c.in-Ok.ensures.opened.keeps told in image_shows c.in-Err-operate.fault c.from-in-Err-operate.result _ _ kept.0 c.from-in-Err-operate.ensures kept.1 (commanded_good g.D.Disk.view g.D.Disk.tells kept.0 _ _ (seen_in c.in-Ok.store) (seen_in c.operate.new.store) _ _ c.in-Err-operate.fault
    (c.in-Err-operate.ensures.commanded kept.0 (opened_of g.D.Disk.view (λ x. g.met.D.Disk.is_disk x) c.args.self.now.pair.one.now c.args.self.now.pair.two.now c.open.new.self.one.now c.open.new.self.two.now (tells_of g.D.Disk.tells g.C.Clock.tells g.R.Repos.tells g.O.Sink.tells) told c.in-Ok.store c.in-Ok.ensures.opened kept.0 kept.1))))
    refl (counted_behind _ _ _ _ _ _ _ (c.in-Ok.ensures.counts.steady (ok_not c.in-Ok.store StoreFault.Disk)) (counted_pair_fault c.in-Err-operate.fault StoreFault.Disk _ _ _ _ c.in-Err-operate.ensures.counts))
    (λ is. absurd (asks.0 is)) (λ _. same_judges g.P.Judges.panel c.args.self.now.asked.judges.now c.operate.new.asked.judges.now c.in-Err-operate.ensures.unasked.0) (same_part g.R.Repos.faults _ c.args.self.now.asked.repos.now c.operate.new.asked.repos.now c.in-Err-operate.ensures.unasked.1 asks.1) (counted_fault c.in-Err-operate.fault StoreFault.Clock _ _ c.in-Err-operate.ensures.clock) (record { output = refl; input = refl; feed = refl; door = refl; wire = refl })

pub returns-in-Err-clause-may : goal.returns-in-Err-clause-may
returns-in-Err-clause-may g c = let asks = reading_asks c.in-Err.fault (c.in-Err.ensures.few c.in-Err.fault refl) in fault_operating c.in-Err.fault c.from.result c.from.ensures asks.0.0 asks.0.1

pub returns-in-Ok-operate-clause-may : goal.returns-in-Ok-operate-clause-may
returns-in-Ok-operate-clause-may g c = line_operating c.answer.result (end_line c.in-Ok-operate.done c.answer.result c.answer.ensures.ends)

pub returns-clause-may : goal.returns-clause-may
returns-clause-may g c = let asks = operating_asks c.in-Err-operate.fault (c.in-Err-operate.ensures.few c.in-Err-operate.fault refl) in fault_operating c.in-Err-operate.fault c.from-in-Err-operate.result c.from-in-Err-operate.ensures asks.0 asks.1

pub returns-in-Err-clause-beside : goal.returns-in-Err-clause-beside
returns-in-Err-clause-beside g c = λ told other. inl (opening_read g.D.Disk.tells (g.D.Disk.view c.args.self.now.pair.one.now) (g.D.Disk.view c.args.self.now.pair.two.now) (g.D.Disk.view c.open.new.self.one.now) (g.D.Disk.view c.open.new.self.two.now) c.in-Err.fault c.from.result c.in-Err.ensures.opened told c.from.ensures other)

pub returns-in-Err-clause-unwritten : goal.returns-in-Err-clause-unwritten
returns-in-Err-clause-unwritten g c = λ told other done written. inl (opening_read g.D.Disk.tells (g.D.Disk.view c.args.self.now.pair.one.now) (g.D.Disk.view c.args.self.now.pair.two.now) (g.D.Disk.view c.open.new.self.one.now) (g.D.Disk.view c.open.new.self.two.now) c.in-Err.fault c.from.result c.in-Err.ensures.opened told c.from.ensures other)

pub returns-in-Ok-operate-clause-beside : goal.returns-in-Ok-operate-clause-beside
returns-in-Ok-operate-clause-beside g c = λ told other. inr (other_read g.D.Disk.view c.args.self.now.pair.one.now c.args.self.now.pair.two.now c.open.new.self.one.now c.open.new.self.two.now c.operate.new.self.one.now c.operate.new.self.two.now g.D.Disk.tells c.in-Ok.store c.in-Ok.ensures.opened told c.in-Ok-operate.ensures.beside)

pub returns-in-Ok-operate-clause-unwritten : goal.returns-in-Ok-operate-clause-unwritten
returns-in-Ok-operate-clause-unwritten g c = λ told other not_done not_written.
    let kept = c.in-Ok.ensures.opened.keeps told in
    inr (only_read g.D.Disk.view c.args.self.now.pair.one.now c.args.self.now.pair.two.now c.open.new.self.one.now c.open.new.self.two.now c.operate.new.self.one.now c.operate.new.self.two.now g.D.Disk.tells c.in-Ok.store c.in-Ok.ensures.opened told c.in-Ok-operate.ensures.beside
    (untouched g.D.Disk.view (λ x. g.met.D.Disk.is_disk x) c.args.self.now.pair.one.now c.args.self.now.pair.two.now c.open.new.self.one.now c.open.new.self.two.now (tells_of g.D.Disk.tells g.C.Clock.tells g.R.Repos.tells g.O.Sink.tells) told c.in-Ok.store c.in-Ok.ensures.opened kept.0 kept.1
    c.operate.new.self.one.now c.operate.new.self.two.now c.operate.new.store c.in-Ok-operate.ensures.beside _ _ (Ok c.in-Ok-operate.done) (c.in-Ok-operate.ensures.commanded kept.0 (opened_of g.D.Disk.view (λ x. g.met.D.Disk.is_disk x) c.args.self.now.pair.one.now c.args.self.now.pair.two.now c.open.new.self.one.now c.open.new.self.two.now (tells_of g.D.Disk.tells g.C.Clock.tells g.R.Repos.tells g.O.Sink.tells) told c.in-Ok.store c.in-Ok.ensures.opened kept.0 kept.1)) (ok_not c.in-Ok-operate.done StoreFault.Disk) (none_made c.in-Ok-operate.done c.answer.result c.answer.ensures.ends not_done not_written)))

pub returns-clause-beside : goal.returns-clause-beside
returns-clause-beside g c = λ told other. inr (other_read g.D.Disk.view c.args.self.now.pair.one.now c.args.self.now.pair.two.now c.open.new.self.one.now c.open.new.self.two.now c.operate.new.self.one.now c.operate.new.self.two.now g.D.Disk.tells c.in-Ok.store c.in-Ok.ensures.opened told c.in-Err-operate.ensures.beside)

pub returns-clause-unwritten : goal.returns-clause-unwritten
returns-clause-unwritten g c = λ told other not_done not_written.
    let kept = c.in-Ok.ensures.opened.keeps told in
    inr (only_read g.D.Disk.view c.args.self.now.pair.one.now c.args.self.now.pair.two.now c.open.new.self.one.now c.open.new.self.two.now c.operate.new.self.one.now c.operate.new.self.two.now g.D.Disk.tells c.in-Ok.store c.in-Ok.ensures.opened told c.in-Err-operate.ensures.beside
    (untouched g.D.Disk.view (λ x. g.met.D.Disk.is_disk x) c.args.self.now.pair.one.now c.args.self.now.pair.two.now c.open.new.self.one.now c.open.new.self.two.now (tells_of g.D.Disk.tells g.C.Clock.tells g.R.Repos.tells g.O.Sink.tells) told c.in-Ok.store c.in-Ok.ensures.opened kept.0 kept.1
    c.operate.new.self.one.now c.operate.new.self.two.now c.operate.new.store c.in-Err-operate.ensures.beside _ _ (Err c.in-Err-operate.fault) (c.in-Err-operate.ensures.commanded kept.0 (opened_of g.D.Disk.view (λ x. g.met.D.Disk.is_disk x) c.args.self.now.pair.one.now c.args.self.now.pair.two.now c.open.new.self.one.now c.open.new.self.two.now (tells_of g.D.Disk.tells g.C.Clock.tells g.R.Repos.tells g.O.Sink.tells) told c.in-Ok.store c.in-Ok.ensures.opened kept.0 kept.1)) (λ is. other_status c.in-Err-operate.fault StoreFault.Disk c.from-in-Err-operate.result c.from-in-Err-operate.ensures other (same_fault c.in-Err-operate.fault StoreFault.Disk is)) (λ command is. refl)))

use Rattle.std.proofs.Common.{◌≡◌, ◌∙◌, inl, inr, Ok, Err, refl, ap}
use Rattle.std.specs.Prelude.{⊤}
use Rattle.at_syntax.specs.Did.{method_of}
use Rattle.relay_step.specs.Around.{around}
use Rattle.relay_step.specs.Asked.{AskedInVain}
use Rattle.relay_step.specs.Causes.{CameToNothing}
use Rattle.relay_step.specs.Commands.{SyncedAt}
use Rattle.relay_store.specs.Faults.{IsCause}
use Rattle.relay_store.specs.Store.{seen_in}
use Rattle.relay_store.specs.declared.fault.StoreFault.{StoreFault}
use Rattle.run_base.specs.Place.{tells_of}
use Rattle.run_base.proofs.Ended.{all_stay, authority_fault, counted_behind, counted_fault, counted_pair_fault, fault_ended, image_shows, line_ended, line_not_authority, ok_not, opening_read, other_status, reading_shows, same_fault, uncounted}
use Rattle.run_base.proofs.Reading.{only_read, other_read}
use Rattle.relay_run.specs.Behind.{FetchEndsNumbers, FetchIsSpent, SyncedBehind}
use Rattle.relay_run.proofs.Behind.{fetch_ends, fetch_is_spent, synced_behind}
use Rattle.relay_run.proofs.Ending.{commanded_good, end_line, fault_syncing, line_syncing, reading_asks}
use Rattle.relay_run.proofs.Given.{synced_gives}
use Rattle.relay_run.proofs.Sounds.{short_text, synced_stays}
use Rattle.relay_run.proofs.Uttered.{none_made, opened_holds, opened_of, ran_err, ran_ok, ran_unopened, untouched, vain_by}
use Rattle.relay_run.proofs.commands.OutsideCommands.sync.Goals as goal

pub returns-in-Err-clause-ran : goal.returns-in-Err-clause-ran
returns-in-Err-clause-ran g c = λ J has.
    ran_unopened (tells_of g.D.Disk.tells g.C.Clock.tells g.R.Repos.tells g.O.Sink.tells) (g.D.Disk.view c.args.self.now.pair.one.now) (g.D.Disk.view c.args.self.now.pair.two.now) (g.D.Disk.view c.open.new.self.one.now) (g.D.Disk.view c.open.new.self.two.now) _ _ _ _ _ c.in-Err.fault c.from.result J _ _ _ c.args.most
    (g.met.D.Disk.is_disk c.open.new.self.one.now) (g.met.D.Disk.is_disk c.open.new.self.two.now) c.in-Err.ensures.opened has.0 has.1 c.from.ensures (c.in-Err.ensures.few c.in-Err.fault refl) refl

pub returns-in-Err-clause-ended : goal.returns-in-Err-clause-ended
returns-in-Err-clause-ended g c =
    let asks = reading_asks c.in-Err.fault (c.in-Err.ensures.few c.in-Err.fault refl) in
    fault_ended (tells_of g.D.Disk.tells g.C.Clock.tells g.R.Repos.tells g.O.Sink.tells) _ _ c.in-Err.fault c.from.result c.from.ensures (λ told. reading_shows c.in-Err.fault c.from.result _ _ c.from.ensures (c.in-Err.ensures.few c.in-Err.fault refl) (λ p is. c.in-Err.ensures.bad_log p (ap Err is) told)) refl
    (counted_pair_fault c.in-Err.fault StoreFault.Disk _ _ _ _ c.in-Err.ensures.counts) (λ is. absurd (asks.0.0 is)) (λ _ name spent. spent) (uncounted _ _ asks.0.1) (uncounted _ _ asks.1) (record { output = refl; input = refl; feed = refl; door = refl; wire = refl })

pub returns-in-Err-clause-no_journal : goal.returns-in-Err-clause-no_journal
returns-in-Err-clause-no_journal g c = λ none. (opening_read g.D.Disk.tells (g.D.Disk.view c.args.self.now.pair.one.now) (g.D.Disk.view c.args.self.now.pair.two.now) (g.D.Disk.view c.open.new.self.one.now) (g.D.Disk.view c.open.new.self.two.now) c.in-Err.fault c.from.result c.in-Err.ensures.opened none.0 c.from.ensures, all_stay _ _ refl refl refl refl)

pub returns-in-Ok-sync_now-clause-no_journal : goal.returns-in-Ok-sync_now-clause-no_journal
returns-in-Ok-sync_now-clause-no_journal g c = λ none. let kept = c.in-Ok.ensures.opened.keeps none.0 in absurd (none.1 kept.0 kept.1)

pub returns-clause-no_journal : goal.returns-clause-no_journal
returns-clause-no_journal g c = λ none. let kept = c.in-Ok.ensures.opened.keeps none.0 in absurd (none.1 kept.0 kept.1)

pub returns-in-Ok-sync_now-clause-ran : goal.returns-in-Ok-sync_now-clause-ran
returns-in-Ok-sync_now-clause-ran g c = λ J has.
    ran_ok g.D.Disk.view (λ x. g.met.D.Disk.is_disk x) c.args.self.now.pair.one.now c.args.self.now.pair.two.now c.open.new.self.one.now c.open.new.self.two.now (tells_of g.D.Disk.tells g.C.Clock.tells g.R.Repos.tells g.O.Sink.tells) has.0 c.in-Ok.store c.in-Ok.ensures.opened J has.1
    c.sync_now.new.self.one.now c.sync_now.new.self.two.now c.sync_now.new.store c.in-Ok-sync_now.ensures.beside
    (λ core command. SyncedAt g.C.Clock.tells g.R.Repos.tells core c.args.did.now c.args.time.now (around (g.P.Judges.panel c.args.self.now.asked.judges.now) (g.C.Clock.moments c.args.self.now.asked.clock.now) (g.R.Repos.repository c.args.self.now.asked.repos.now)) command (around (g.P.Judges.panel c.sync_now.new.asked.judges.now) (g.C.Clock.moments c.sync_now.new.asked.clock.now) (g.R.Repos.repository c.sync_now.new.asked.repos.now)))
    (λ command. SyncedBehind g.C.Clock.tells g.R.Repos.tells J c.args.did.now c.args.time.now (around (g.P.Judges.panel c.args.self.now.asked.judges.now) (g.C.Clock.moments c.args.self.now.asked.clock.now) (g.R.Repos.repository c.args.self.now.asked.repos.now)) command (around (g.P.Judges.panel c.sync_now.new.asked.judges.now) (g.C.Clock.moments c.sync_now.new.asked.clock.now) (g.R.Repos.repository c.sync_now.new.asked.repos.now)))
    (CameToNothing g.C.Clock.tells g.R.Repos.tells (AskedInVain (g.P.Judges.panel c.args.self.now.asked.judges.now) c.args.did.now (g.P.Judges.panel c.sync_now.new.asked.judges.now)) (around (g.P.Judges.panel c.args.self.now.asked.judges.now) (g.C.Clock.moments c.args.self.now.asked.clock.now) (g.R.Repos.repository c.args.self.now.asked.repos.now)) (around (g.P.Judges.panel c.sync_now.new.asked.judges.now) (g.C.Clock.moments c.sync_now.new.asked.clock.now) (g.R.Repos.repository c.sync_now.new.asked.repos.now))) ((around (g.P.Judges.panel c.sync_now.new.asked.judges.now) (g.C.Clock.moments c.sync_now.new.asked.clock.now) (g.R.Repos.repository c.sync_now.new.asked.repos.now)) ≡ (around (g.P.Judges.panel c.args.self.now.asked.judges.now) (g.C.Clock.moments c.args.self.now.asked.clock.now) (g.R.Repos.repository c.args.self.now.asked.repos.now))) (λ fault. (CameToNothing g.C.Clock.tells g.R.Repos.tells (AskedInVain (g.P.Judges.panel c.args.self.now.asked.judges.now) c.args.did.now (g.P.Judges.panel c.sync_now.new.asked.judges.now)) (around (g.P.Judges.panel c.args.self.now.asked.judges.now) (g.C.Clock.moments c.args.self.now.asked.clock.now) (g.R.Repos.repository c.args.self.now.asked.repos.now)) (around (g.P.Judges.panel c.sync_now.new.asked.judges.now) (g.C.Clock.moments c.sync_now.new.asked.clock.now) (g.R.Repos.repository c.sync_now.new.asked.repos.now))) × IsCause (FetchEndsNumbers g.C.Clock.tells g.R.Repos.tells J c.args.did.now (around (g.P.Judges.panel c.args.self.now.asked.judges.now) (g.C.Clock.moments c.args.self.now.asked.clock.now) (g.R.Repos.repository c.args.self.now.asked.repos.now)) (around (g.P.Judges.panel c.sync_now.new.asked.judges.now) (g.C.Clock.moments c.sync_now.new.asked.clock.now) (g.R.Repos.repository c.sync_now.new.asked.repos.now))) (FetchIsSpent g.C.Clock.tells g.R.Repos.tells J c.args.did.now (around (g.P.Judges.panel c.args.self.now.asked.judges.now) (g.C.Clock.moments c.args.self.now.asked.clock.now) (g.R.Repos.repository c.args.self.now.asked.repos.now)) (around (g.P.Judges.panel c.sync_now.new.asked.judges.now) (g.C.Clock.moments c.sync_now.new.asked.clock.now) (g.R.Repos.repository c.sync_now.new.asked.repos.now))) ⊤ ⊤ fault) _ _ _ _ c.args.most c.in-Ok.ensures.open.1
    (λ core holds command at. synced_behind core J holds g.C.Clock.tells g.R.Repos.tells c.args.did.now c.args.time.now (around (g.P.Judges.panel c.args.self.now.asked.judges.now) (g.C.Clock.moments c.args.self.now.asked.clock.now) (g.R.Repos.repository c.args.self.now.asked.repos.now)) command (around (g.P.Judges.panel c.sync_now.new.asked.judges.now) (g.C.Clock.moments c.sync_now.new.asked.clock.now) (g.R.Repos.repository c.sync_now.new.asked.repos.now)) at)
    (λ core holds command at. synced_stays g.C.Clock.tells g.R.Repos.tells core J c.args.did.now c.args.time.now (around (g.P.Judges.panel c.args.self.now.asked.judges.now) (g.C.Clock.moments c.args.self.now.asked.clock.now) (g.R.Repos.repository c.args.self.now.asked.repos.now)) (around (g.P.Judges.panel c.sync_now.new.asked.judges.now) (g.C.Clock.moments c.sync_now.new.asked.clock.now) (g.R.Repos.repository c.sync_now.new.asked.repos.now)) (short_text c.args.time.now c.ghost_text.ensures.bytes c.ghost_text.ensures.length c.ghost_text.ensures.utf8 c.requires.time) holds command at)
    (λ core holds command at. synced_gives g.C.Clock.tells g.R.Repos.tells core J c.args.did.now c.args.time.now (around (g.P.Judges.panel c.args.self.now.asked.judges.now) (g.C.Clock.moments c.args.self.now.asked.clock.now) (g.R.Repos.repository c.args.self.now.asked.repos.now)) (around (g.P.Judges.panel c.sync_now.new.asked.judges.now) (g.C.Clock.moments c.sync_now.new.asked.clock.now) (g.R.Repos.repository c.sync_now.new.asked.repos.now)) (short_text c.args.time.now c.ghost_text.ensures.bytes c.ghost_text.ensures.length c.ghost_text.ensures.utf8 c.requires.time) holds command at)
    c.in-Ok-sync_now.done c.answer.result (g.O.Sink.written c.args.self.now.out.now) (g.O.Sink.written c.answer.new.out) (c.in-Ok-sync_now.ensures.commanded J (opened_of g.D.Disk.view (λ x. g.met.D.Disk.is_disk x) c.args.self.now.pair.one.now c.args.self.now.pair.two.now c.open.new.self.one.now c.open.new.self.two.now (tells_of g.D.Disk.tells g.C.Clock.tells g.R.Repos.tells g.O.Sink.tells) has.0 c.in-Ok.store c.in-Ok.ensures.opened J has.1)) c.answer.ensures.ends c.answer.ensures.written

pub returns-clause-ran : goal.returns-clause-ran
returns-clause-ran g c = λ J has.
    ran_err g.D.Disk.view (λ x. g.met.D.Disk.is_disk x) c.args.self.now.pair.one.now c.args.self.now.pair.two.now c.open.new.self.one.now c.open.new.self.two.now (tells_of g.D.Disk.tells g.C.Clock.tells g.R.Repos.tells g.O.Sink.tells) has.0 c.in-Ok.store c.in-Ok.ensures.opened J has.1
    c.sync_now.new.self.one.now c.sync_now.new.self.two.now c.sync_now.new.store c.in-Err-sync_now.ensures.beside
    (λ core command. SyncedAt g.C.Clock.tells g.R.Repos.tells core c.args.did.now c.args.time.now (around (g.P.Judges.panel c.args.self.now.asked.judges.now) (g.C.Clock.moments c.args.self.now.asked.clock.now) (g.R.Repos.repository c.args.self.now.asked.repos.now)) command (around (g.P.Judges.panel c.sync_now.new.asked.judges.now) (g.C.Clock.moments c.sync_now.new.asked.clock.now) (g.R.Repos.repository c.sync_now.new.asked.repos.now)))
    (λ command. SyncedBehind g.C.Clock.tells g.R.Repos.tells J c.args.did.now c.args.time.now (around (g.P.Judges.panel c.args.self.now.asked.judges.now) (g.C.Clock.moments c.args.self.now.asked.clock.now) (g.R.Repos.repository c.args.self.now.asked.repos.now)) command (around (g.P.Judges.panel c.sync_now.new.asked.judges.now) (g.C.Clock.moments c.sync_now.new.asked.clock.now) (g.R.Repos.repository c.sync_now.new.asked.repos.now)))
    (CameToNothing g.C.Clock.tells g.R.Repos.tells (AskedInVain (g.P.Judges.panel c.args.self.now.asked.judges.now) c.args.did.now (g.P.Judges.panel c.sync_now.new.asked.judges.now)) (around (g.P.Judges.panel c.args.self.now.asked.judges.now) (g.C.Clock.moments c.args.self.now.asked.clock.now) (g.R.Repos.repository c.args.self.now.asked.repos.now)) (around (g.P.Judges.panel c.sync_now.new.asked.judges.now) (g.C.Clock.moments c.sync_now.new.asked.clock.now) (g.R.Repos.repository c.sync_now.new.asked.repos.now))) ((around (g.P.Judges.panel c.sync_now.new.asked.judges.now) (g.C.Clock.moments c.sync_now.new.asked.clock.now) (g.R.Repos.repository c.sync_now.new.asked.repos.now)) ≡ (around (g.P.Judges.panel c.args.self.now.asked.judges.now) (g.C.Clock.moments c.args.self.now.asked.clock.now) (g.R.Repos.repository c.args.self.now.asked.repos.now))) (λ fault. (CameToNothing g.C.Clock.tells g.R.Repos.tells (AskedInVain (g.P.Judges.panel c.args.self.now.asked.judges.now) c.args.did.now (g.P.Judges.panel c.sync_now.new.asked.judges.now)) (around (g.P.Judges.panel c.args.self.now.asked.judges.now) (g.C.Clock.moments c.args.self.now.asked.clock.now) (g.R.Repos.repository c.args.self.now.asked.repos.now)) (around (g.P.Judges.panel c.sync_now.new.asked.judges.now) (g.C.Clock.moments c.sync_now.new.asked.clock.now) (g.R.Repos.repository c.sync_now.new.asked.repos.now))) × IsCause (FetchEndsNumbers g.C.Clock.tells g.R.Repos.tells J c.args.did.now (around (g.P.Judges.panel c.args.self.now.asked.judges.now) (g.C.Clock.moments c.args.self.now.asked.clock.now) (g.R.Repos.repository c.args.self.now.asked.repos.now)) (around (g.P.Judges.panel c.sync_now.new.asked.judges.now) (g.C.Clock.moments c.sync_now.new.asked.clock.now) (g.R.Repos.repository c.sync_now.new.asked.repos.now))) (FetchIsSpent g.C.Clock.tells g.R.Repos.tells J c.args.did.now (around (g.P.Judges.panel c.args.self.now.asked.judges.now) (g.C.Clock.moments c.args.self.now.asked.clock.now) (g.R.Repos.repository c.args.self.now.asked.repos.now)) (around (g.P.Judges.panel c.sync_now.new.asked.judges.now) (g.C.Clock.moments c.sync_now.new.asked.clock.now) (g.R.Repos.repository c.sync_now.new.asked.repos.now))) ⊤ ⊤ fault) _ _ _ _ c.args.most c.in-Ok.ensures.open.1
    (λ core holds command at. synced_behind core J holds g.C.Clock.tells g.R.Repos.tells c.args.did.now c.args.time.now (around (g.P.Judges.panel c.args.self.now.asked.judges.now) (g.C.Clock.moments c.args.self.now.asked.clock.now) (g.R.Repos.repository c.args.self.now.asked.repos.now)) command (around (g.P.Judges.panel c.sync_now.new.asked.judges.now) (g.C.Clock.moments c.sync_now.new.asked.clock.now) (g.R.Repos.repository c.sync_now.new.asked.repos.now)) at)
    (λ core holds command at. synced_stays g.C.Clock.tells g.R.Repos.tells core J c.args.did.now c.args.time.now (around (g.P.Judges.panel c.args.self.now.asked.judges.now) (g.C.Clock.moments c.args.self.now.asked.clock.now) (g.R.Repos.repository c.args.self.now.asked.repos.now)) (around (g.P.Judges.panel c.sync_now.new.asked.judges.now) (g.C.Clock.moments c.sync_now.new.asked.clock.now) (g.R.Repos.repository c.sync_now.new.asked.repos.now)) (short_text c.args.time.now c.ghost_text.ensures.bytes c.ghost_text.ensures.length c.ghost_text.ensures.utf8 c.requires.time) holds command at)
    (λ core holds command at. synced_gives g.C.Clock.tells g.R.Repos.tells core J c.args.did.now c.args.time.now (around (g.P.Judges.panel c.args.self.now.asked.judges.now) (g.C.Clock.moments c.args.self.now.asked.clock.now) (g.R.Repos.repository c.args.self.now.asked.repos.now)) (around (g.P.Judges.panel c.sync_now.new.asked.judges.now) (g.C.Clock.moments c.sync_now.new.asked.clock.now) (g.R.Repos.repository c.sync_now.new.asked.repos.now)) (short_text c.args.time.now c.ghost_text.ensures.bytes c.ghost_text.ensures.length c.ghost_text.ensures.utf8 c.requires.time) holds command at)
    c.in-Err-sync_now.fault c.from-in-Err-sync_now.result (g.O.Sink.written c.args.self.now.out.now) c.from-in-Err-sync_now.ensures (c.in-Err-sync_now.ensures.commanded J (opened_of g.D.Disk.view (λ x. g.met.D.Disk.is_disk x) c.args.self.now.pair.one.now c.args.self.now.pair.two.now c.open.new.self.one.now c.open.new.self.two.now (tells_of g.D.Disk.tells g.C.Clock.tells g.R.Repos.tells g.O.Sink.tells) has.0 c.in-Ok.store c.in-Ok.ensures.opened J has.1))
    (λ came. (
      came,
      vain_by _ _ c.in-Err-sync_now.fault (λ is. fetch_ends (seen_in c.in-Ok.store).core J (opened_holds g.D.Disk.view (λ x. g.met.D.Disk.is_disk x) c.args.self.now.pair.one.now c.args.self.now.pair.two.now c.open.new.self.one.now c.open.new.self.two.now (tells_of g.D.Disk.tells g.C.Clock.tells g.R.Repos.tells g.O.Sink.tells) has.0 c.in-Ok.store c.in-Ok.ensures.opened J has.1) g.C.Clock.tells g.R.Repos.tells c.args.did.now (around (g.P.Judges.panel c.args.self.now.asked.judges.now) (g.C.Clock.moments c.args.self.now.asked.clock.now) (g.R.Repos.repository c.args.self.now.asked.repos.now)) (around (g.P.Judges.panel c.sync_now.new.asked.judges.now) (g.C.Clock.moments c.sync_now.new.asked.clock.now) (g.R.Repos.repository c.sync_now.new.asked.repos.now)) (c.in-Err-sync_now.ensures.seq_end (ap Err is)))
          (λ is. fetch_is_spent (seen_in c.in-Ok.store).core J (opened_holds g.D.Disk.view (λ x. g.met.D.Disk.is_disk x) c.args.self.now.pair.one.now c.args.self.now.pair.two.now c.open.new.self.one.now c.open.new.self.two.now (tells_of g.D.Disk.tells g.C.Clock.tells g.R.Repos.tells g.O.Sink.tells) has.0 c.in-Ok.store c.in-Ok.ensures.opened J has.1) g.C.Clock.tells g.R.Repos.tells c.args.did.now (around (g.P.Judges.panel c.args.self.now.asked.judges.now) (g.C.Clock.moments c.args.self.now.asked.clock.now) (g.R.Repos.repository c.args.self.now.asked.repos.now)) (around (g.P.Judges.panel c.sync_now.new.asked.judges.now) (g.C.Clock.moments c.sync_now.new.asked.clock.now) (g.R.Repos.repository c.sync_now.new.asked.repos.now)) (c.in-Err-sync_now.ensures.spent (ap Err is))),
    ))

pub returns-in-Ok-sync_now-clause-ended : goal.returns-in-Ok-sync_now-clause-ended
returns-in-Ok-sync_now-clause-ended g c =
    line_ended (tells_of g.D.Disk.tells g.C.Clock.tells g.R.Repos.tells g.O.Sink.tells) _ _ c.answer.result (end_line c.in-Ok-sync_now.done c.answer.result c.answer.ensures.ends) (λ told. let kept = c.in-Ok.ensures.opened.keeps told in (kept.0, kept.1)) c.answer.ensures.quiet c.answer.ensures.counts
    (record { disks = (let was = (c.in-Ok.ensures.counts.steady (ok_not c.in-Ok.store StoreFault.Disk)) in let now = c.in-Ok-sync_now.ensures.counts.steady (ok_not c.in-Ok-sync_now.done StoreFault.Disk) in (now.0 ∙ was.0, now.1 ∙ was.1)); unspent = c.in-Ok-sync_now.ensures.unspent (ok_not c.in-Ok-sync_now.done StoreFault.Authority); repos = c.in-Ok-sync_now.ensures.repos.steady (ok_not c.in-Ok-sync_now.done StoreFault.Repos); clock = c.in-Ok-sync_now.ensures.clock.steady (ok_not c.in-Ok-sync_now.done StoreFault.Clock); input = refl; feed = refl; door = refl; wire = refl })

pub returns-clause-ended : goal.returns-clause-ended
returns-clause-ended g c =
    fault_ended (tells_of g.D.Disk.tells g.C.Clock.tells g.R.Repos.tells g.O.Sink.tells) _ _ c.in-Err-sync_now.fault c.from-in-Err-sync_now.result c.from-in-Err-sync_now.ensures
    (λ told. let kept = c.in-Ok.ensures.opened.keeps told in image_shows c.in-Err-sync_now.fault c.from-in-Err-sync_now.result _ _ kept.0 c.from-in-Err-sync_now.ensures kept.1 (commanded_good g.D.Disk.view g.D.Disk.tells kept.0 _ _ (seen_in c.in-Ok.store) (seen_in c.sync_now.new.store) _ _ c.in-Err-sync_now.fault
    (c.in-Err-sync_now.ensures.commanded kept.0 (opened_of g.D.Disk.view (λ x. g.met.D.Disk.is_disk x) c.args.self.now.pair.one.now c.args.self.now.pair.two.now c.open.new.self.one.now c.open.new.self.two.now (tells_of g.D.Disk.tells g.C.Clock.tells g.R.Repos.tells g.O.Sink.tells) told c.in-Ok.store c.in-Ok.ensures.opened kept.0 kept.1))))
    refl (counted_behind _ _ _ _ _ _ _ (c.in-Ok.ensures.counts.steady (ok_not c.in-Ok.store StoreFault.Disk)) (counted_pair_fault c.in-Err-sync_now.fault StoreFault.Disk _ _ _ _ c.in-Err-sync_now.ensures.counts))
    (λ is. (method_of c.args.did.now, (c.in-Err-sync_now.ensures.spent (ap Err is)).spent)) (λ other. c.in-Err-sync_now.ensures.unspent (λ is. other (same_fault c.in-Err-sync_now.fault StoreFault.Authority is))) (counted_fault c.in-Err-sync_now.fault StoreFault.Repos _ _ c.in-Err-sync_now.ensures.repos) (counted_fault c.in-Err-sync_now.fault StoreFault.Clock _ _ c.in-Err-sync_now.ensures.clock) (record { output = refl; input = refl; feed = refl; door = refl; wire = refl })

pub returns-in-Err-clause-may : goal.returns-in-Err-clause-may
returns-in-Err-clause-may g c = fault_syncing c.in-Err.fault c.from.result c.from.ensures

pub returns-in-Ok-sync_now-clause-may : goal.returns-in-Ok-sync_now-clause-may
returns-in-Ok-sync_now-clause-may g c = line_syncing c.answer.result (end_line c.in-Ok-sync_now.done c.answer.result c.answer.ensures.ends)

pub returns-clause-may : goal.returns-clause-may
returns-clause-may g c = fault_syncing c.in-Err-sync_now.fault c.from-in-Err-sync_now.result c.from-in-Err-sync_now.ensures

pub returns-in-Err-clause-spent : goal.returns-in-Err-clause-spent
returns-in-Err-clause-spent g c = λ is. absurd ((reading_asks c.in-Err.fault (c.in-Err.ensures.few c.in-Err.fault refl)).0.0 (authority_fault c.in-Err.fault c.from.result c.from.ensures is))

pub returns-in-Ok-sync_now-clause-spent : goal.returns-in-Ok-sync_now-clause-spent
returns-in-Ok-sync_now-clause-spent g c = λ is. absurd (line_not_authority c.answer.result (end_line c.in-Ok-sync_now.done c.answer.result c.answer.ensures.ends) is)

pub returns-clause-spent : goal.returns-clause-spent
returns-clause-spent g c = λ is. (c.in-Err-sync_now.ensures.spent (ap Err (authority_fault c.in-Err-sync_now.fault c.from-in-Err-sync_now.result c.from-in-Err-sync_now.ensures is))).spent

pub returns-in-Err-clause-beside : goal.returns-in-Err-clause-beside
returns-in-Err-clause-beside g c = λ told other. inl (opening_read g.D.Disk.tells (g.D.Disk.view c.args.self.now.pair.one.now) (g.D.Disk.view c.args.self.now.pair.two.now) (g.D.Disk.view c.open.new.self.one.now) (g.D.Disk.view c.open.new.self.two.now) c.in-Err.fault c.from.result c.in-Err.ensures.opened told c.from.ensures other)

pub returns-in-Err-clause-unwritten : goal.returns-in-Err-clause-unwritten
returns-in-Err-clause-unwritten g c = λ told other done written. inl (opening_read g.D.Disk.tells (g.D.Disk.view c.args.self.now.pair.one.now) (g.D.Disk.view c.args.self.now.pair.two.now) (g.D.Disk.view c.open.new.self.one.now) (g.D.Disk.view c.open.new.self.two.now) c.in-Err.fault c.from.result c.in-Err.ensures.opened told c.from.ensures other)

pub returns-in-Ok-sync_now-clause-beside : goal.returns-in-Ok-sync_now-clause-beside
returns-in-Ok-sync_now-clause-beside g c = λ told other. inr (other_read g.D.Disk.view c.args.self.now.pair.one.now c.args.self.now.pair.two.now c.open.new.self.one.now c.open.new.self.two.now c.sync_now.new.self.one.now c.sync_now.new.self.two.now g.D.Disk.tells c.in-Ok.store c.in-Ok.ensures.opened told c.in-Ok-sync_now.ensures.beside)

pub returns-in-Ok-sync_now-clause-unwritten : goal.returns-in-Ok-sync_now-clause-unwritten
returns-in-Ok-sync_now-clause-unwritten g c = λ told other not_done not_written.
    let kept = c.in-Ok.ensures.opened.keeps told in
    inr (only_read g.D.Disk.view c.args.self.now.pair.one.now c.args.self.now.pair.two.now c.open.new.self.one.now c.open.new.self.two.now c.sync_now.new.self.one.now c.sync_now.new.self.two.now g.D.Disk.tells c.in-Ok.store c.in-Ok.ensures.opened told c.in-Ok-sync_now.ensures.beside
    (untouched g.D.Disk.view (λ x. g.met.D.Disk.is_disk x) c.args.self.now.pair.one.now c.args.self.now.pair.two.now c.open.new.self.one.now c.open.new.self.two.now (tells_of g.D.Disk.tells g.C.Clock.tells g.R.Repos.tells g.O.Sink.tells) told c.in-Ok.store c.in-Ok.ensures.opened kept.0 kept.1
    c.sync_now.new.self.one.now c.sync_now.new.self.two.now c.sync_now.new.store c.in-Ok-sync_now.ensures.beside _ _ (Ok c.in-Ok-sync_now.done) (c.in-Ok-sync_now.ensures.commanded kept.0 (opened_of g.D.Disk.view (λ x. g.met.D.Disk.is_disk x) c.args.self.now.pair.one.now c.args.self.now.pair.two.now c.open.new.self.one.now c.open.new.self.two.now (tells_of g.D.Disk.tells g.C.Clock.tells g.R.Repos.tells g.O.Sink.tells) told c.in-Ok.store c.in-Ok.ensures.opened kept.0 kept.1)) (ok_not c.in-Ok-sync_now.done StoreFault.Disk) (none_made c.in-Ok-sync_now.done c.answer.result c.answer.ensures.ends not_done not_written)))

pub returns-clause-beside : goal.returns-clause-beside
returns-clause-beside g c = λ told other. inr (other_read g.D.Disk.view c.args.self.now.pair.one.now c.args.self.now.pair.two.now c.open.new.self.one.now c.open.new.self.two.now c.sync_now.new.self.one.now c.sync_now.new.self.two.now g.D.Disk.tells c.in-Ok.store c.in-Ok.ensures.opened told c.in-Err-sync_now.ensures.beside)

pub returns-clause-unwritten : goal.returns-clause-unwritten
returns-clause-unwritten g c = λ told other not_done not_written.
    let kept = c.in-Ok.ensures.opened.keeps told in
    inr (only_read g.D.Disk.view c.args.self.now.pair.one.now c.args.self.now.pair.two.now c.open.new.self.one.now c.open.new.self.two.now c.sync_now.new.self.one.now c.sync_now.new.self.two.now g.D.Disk.tells c.in-Ok.store c.in-Ok.ensures.opened told c.in-Err-sync_now.ensures.beside
    (untouched g.D.Disk.view (λ x. g.met.D.Disk.is_disk x) c.args.self.now.pair.one.now c.args.self.now.pair.two.now c.open.new.self.one.now c.open.new.self.two.now (tells_of g.D.Disk.tells g.C.Clock.tells g.R.Repos.tells g.O.Sink.tells) told c.in-Ok.store c.in-Ok.ensures.opened kept.0 kept.1
    c.sync_now.new.self.one.now c.sync_now.new.self.two.now c.sync_now.new.store c.in-Err-sync_now.ensures.beside _ _ (Err c.in-Err-sync_now.fault) (c.in-Err-sync_now.ensures.commanded kept.0 (opened_of g.D.Disk.view (λ x. g.met.D.Disk.is_disk x) c.args.self.now.pair.one.now c.args.self.now.pair.two.now c.open.new.self.one.now c.open.new.self.two.now (tells_of g.D.Disk.tells g.C.Clock.tells g.R.Repos.tells g.O.Sink.tells) told c.in-Ok.store c.in-Ok.ensures.opened kept.0 kept.1)) (λ is. other_status c.in-Err-sync_now.fault StoreFault.Disk c.from-in-Err-sync_now.result c.from-in-Err-sync_now.ensures other (same_fault c.in-Err-sync_now.fault StoreFault.Disk is)) (λ command is. refl)))

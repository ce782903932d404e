use Rattle.std.proofs.Common.{◌∙◌, inl, inr, Err, refl, ap}
use Rattle.host_state.specs.Folds.{hosts as hosts_of}
use Rattle.report_lines.specs.StateLines.{hosts_text}
use Rattle.relay_run.proofs.Seen.{hosts_are, shown_opened, shown_unopened}
use Rattle.relay_store.specs.declared.fault.StoreFault.{StoreFault}
use Rattle.run_base.specs.Deeds.{answered, in_vain}
use Rattle.run_base.specs.Place.{tells_of}
use Rattle.run_base.specs.declared.status.Status.{Status}
use Rattle.run_base.proofs.Ended.{all_stay, counted_pair_fault, fault_ended, line_ended, memory_not_write, none_added, ok_not, opening_read, reading_shows, uncounted}
use Rattle.run_base.proofs.Reading.{opened_read}
use Rattle.relay_run.proofs.Ending.{done_line, done_not_memory, done_showing, fault_showing, reading_asks}
use Rattle.relay_run.proofs.commands.OutsideCommands.hosts.Goals as goal

pub returns-clause-ran : goal.returns-clause-ran
returns-clause-ran g c = λ J has.
    shown_unopened (tells_of g.D.Disk.tells g.C.Clock.tells g.R.Repos.tells g.O.Sink.tells) (g.D.Disk.view c.args.self.now.pair.one.now) (g.D.Disk.view c.args.self.now.pair.two.now) (g.D.Disk.view c.open.new.self.one.now) (g.D.Disk.view c.open.new.self.two.now) _ _ _ _ _ c.in-Err.fault c.from.result c.args.most J (hosts_text (hosts_of J))
    (g.met.D.Disk.is_disk c.open.new.self.one.now) (g.met.D.Disk.is_disk c.open.new.self.two.now) c.in-Err.ensures.opened has.0 has.1 c.from.ensures (c.in-Err.ensures.few c.in-Err.fault refl)

pub returns-clause-ended : goal.returns-clause-ended
returns-clause-ended g c =
    let asks = reading_asks c.in-Err.fault (c.in-Err.ensures.few c.in-Err.fault refl) in
    fault_ended (tells_of g.D.Disk.tells g.C.Clock.tells g.R.Repos.tells g.O.Sink.tells) _ _ c.in-Err.fault c.from.result c.from.ensures (λ told. reading_shows c.in-Err.fault c.from.result _ _ c.from.ensures (c.in-Err.ensures.few c.in-Err.fault refl) (λ p is. c.in-Err.ensures.bad_log p (ap Err is) told)) refl
    (counted_pair_fault c.in-Err.fault StoreFault.Disk _ _ _ _ c.in-Err.ensures.counts) (λ is. absurd (asks.0.0 is)) (λ _ name spent. spent) (uncounted _ _ asks.0.1) (uncounted _ _ asks.1) (record { output = refl; input = refl; feed = refl; door = refl; wire = refl })

pub returns-clause-no_journal : goal.returns-clause-no_journal
returns-clause-no_journal g c = λ none. (opening_read g.D.Disk.tells (g.D.Disk.view c.args.self.now.pair.one.now) (g.D.Disk.view c.args.self.now.pair.two.now) (g.D.Disk.view c.open.new.self.one.now) (g.D.Disk.view c.open.new.self.two.now) c.in-Err.fault c.from.result c.in-Err.ensures.opened none.0 c.from.ensures, all_stay _ _ refl refl refl refl)

pub returns-clause-may : goal.returns-clause-may
returns-clause-may g c = fault_showing c.in-Err.fault c.from.result c.from.ensures (c.in-Err.ensures.few c.in-Err.fault refl)

pub returns-in-Ok-clause-no_journal : goal.returns-in-Ok-clause-no_journal
returns-in-Ok-clause-no_journal g c = λ none. let kept = c.in-Ok.ensures.opened.keeps none.0 in absurd (none.1 kept.0 kept.1)

pub returns-in-Ok-host_lines-clause-no_journal : goal.returns-in-Ok-host_lines-clause-no_journal
returns-in-Ok-host_lines-clause-no_journal g c = λ none. let kept = c.in-Ok.ensures.opened.keeps none.0 in absurd (none.1 kept.0 kept.1)

pub returns-in-Ok-clause-ran : goal.returns-in-Ok-clause-ran
returns-in-Ok-clause-ran g c = λ J has.
    shown_opened (tells_of g.D.Disk.tells g.C.Clock.tells g.R.Repos.tells g.O.Sink.tells) (g.D.Disk.view c.args.self.now.pair.one.now) (g.D.Disk.view c.args.self.now.pair.two.now) (g.D.Disk.view c.open.new.self.one.now) (g.D.Disk.view c.open.new.self.two.now) (g.met.D.Disk.is_disk c.open.new.self.one.now) (g.met.D.Disk.is_disk c.open.new.self.two.now) c.in-Ok.store c.in-Ok.ensures.opened has.0 J has.1 _ _ _ _ _ _ c.args.most
    (hosts_text (hosts_of J)) (hosts_text (hosts_of J)) Status.Memory in_vain refl refl (λ _. none_added (g.O.Sink.written c.args.self.now.out.now) (hosts_text (hosts_of J)))

pub returns-in-Ok-host_lines-clause-ran : goal.returns-in-Ok-host_lines-clause-ran
returns-in-Ok-host_lines-clause-ran g c = λ J has.
    shown_opened (tells_of g.D.Disk.tells g.C.Clock.tells g.R.Repos.tells g.O.Sink.tells) (g.D.Disk.view c.args.self.now.pair.one.now) (g.D.Disk.view c.args.self.now.pair.two.now) (g.D.Disk.view c.open.new.self.one.now) (g.D.Disk.view c.open.new.self.two.now) (g.met.D.Disk.is_disk c.open.new.self.one.now) (g.met.D.Disk.is_disk c.open.new.self.two.now) c.in-Ok.store c.in-Ok.ensures.opened has.0 J has.1 _ _ _ _ _ _ c.args.most
    (hosts_text (hosts_of J)) c.as_slice.result.now c.show.result (answered tt) c.show.ensures.ends
    (hosts_are (tells_of g.D.Disk.tells g.C.Clock.tells g.R.Repos.tells g.O.Sink.tells) (g.D.Disk.view c.args.self.now.pair.one.now) (g.D.Disk.view c.args.self.now.pair.two.now) (g.D.Disk.view c.open.new.self.one.now) (g.D.Disk.view c.open.new.self.two.now) (g.met.D.Disk.is_disk c.open.new.self.one.now) (g.met.D.Disk.is_disk c.open.new.self.two.now) c.in-Ok.store c.in-Ok.ensures.opened has.0 J has.1 c.as_slice.result.now c.hosts.result.now (c.as_slice.ensures.value ∙ c.in-Ok-host_lines.ensures) c.hosts.ensures)
    c.show.ensures.written

pub returns-in-Ok-clause-ended : goal.returns-in-Ok-clause-ended
returns-in-Ok-clause-ended g c =
    line_ended (tells_of g.D.Disk.tells g.C.Clock.tells g.R.Repos.tells g.O.Sink.tells) _ _ Status.Memory (inr (inr (inr refl))) (λ told. let kept = c.in-Ok.ensures.opened.keeps told in (kept.0, kept.1)) (λ _ _. refl) (uncounted _ _ memory_not_write)
    (record { disks = (c.in-Ok.ensures.counts.steady (ok_not c.in-Ok.store StoreFault.Disk)); unspent = λ name spent. spent; repos = refl; clock = refl; input = refl; feed = refl; door = refl; wire = refl })

pub returns-in-Ok-host_lines-clause-ended : goal.returns-in-Ok-host_lines-clause-ended
returns-in-Ok-host_lines-clause-ended g c =
    line_ended (tells_of g.D.Disk.tells g.C.Clock.tells g.R.Repos.tells g.O.Sink.tells) _ _ c.show.result (done_line c.show.result c.show.ensures.ends) (λ told. let kept = c.in-Ok.ensures.opened.keeps told in (kept.0, kept.1)) (λ told is. absurd (done_not_memory c.show.result c.show.ensures.ends is)) c.show.ensures.counts
    (record { disks = (c.in-Ok.ensures.counts.steady (ok_not c.in-Ok.store StoreFault.Disk)); unspent = λ name spent. spent; repos = refl; clock = refl; input = refl; feed = refl; door = refl; wire = refl })

pub returns-in-Ok-host_lines-clause-may : goal.returns-in-Ok-host_lines-clause-may
returns-in-Ok-host_lines-clause-may g c = done_showing c.show.result c.show.ensures.ends

pub returns-clause-only_read : goal.returns-clause-only_read
returns-clause-only_read g c = λ told other. inl (opening_read g.D.Disk.tells (g.D.Disk.view c.args.self.now.pair.one.now) (g.D.Disk.view c.args.self.now.pair.two.now) (g.D.Disk.view c.open.new.self.one.now) (g.D.Disk.view c.open.new.self.two.now) c.in-Err.fault c.from.result c.in-Err.ensures.opened told c.from.ensures other)

pub returns-in-Ok-clause-only_read : goal.returns-in-Ok-clause-only_read
returns-in-Ok-clause-only_read g c = λ told other. inr (opened_read g.D.Disk.tells (g.D.Disk.view c.args.self.now.pair.one.now) (g.D.Disk.view c.args.self.now.pair.two.now) (g.D.Disk.view c.open.new.self.one.now) (g.D.Disk.view c.open.new.self.two.now) c.in-Ok.store c.in-Ok.ensures.opened told)

pub returns-in-Ok-host_lines-clause-only_read : goal.returns-in-Ok-host_lines-clause-only_read
returns-in-Ok-host_lines-clause-only_read g c = λ told other. inr (opened_read g.D.Disk.tells (g.D.Disk.view c.args.self.now.pair.one.now) (g.D.Disk.view c.args.self.now.pair.two.now) (g.D.Disk.view c.open.new.self.one.now) (g.D.Disk.view c.open.new.self.two.now) c.in-Ok.store c.in-Ok.ensures.opened told)

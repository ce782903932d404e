use Rattle.std.proofs.Common.{◌≡◌, inl, inr, Err, refl, ap, subst, sym}
use Rattle.std.specs.Prelude.{⊤}
use Rattle.relay_core.specs.Entries.{Holds}
use Rattle.relay_core.specs.declared.journal_state.Core.{Core}
use Rattle.relay_store.proofs.Beside.{opened_keeps}
use Rattle.relay_store.specs.declared.fault.StoreFault.{StoreFault}
use Rattle.run_base.specs.Place.{tells_of}
use Rattle.run_base.specs.declared.status.Status.{Status}
use Rattle.run_base.proofs.Ended.{all_stay, counted_pair_fault, ok_not, opening_read}
use Rattle.run_base.proofs.Reading.{opened_read}
use Rattle.read_run.specs.Queried.{queries_end, query_lines}
use Rattle.read_run.proofs.Ending.{ended_opened, ended_unopened, pair_counted, reading_may, uncounted_door}
use Rattle.read_run.proofs.Querying.{none_queried}
use Rattle.read_run.proofs.Reading.{both_here, opened_does, unopened_does}
use Rattle.read_run.proofs.commands.OutsideReads.query.Goals as goal

pub returns-in-Err-clause-ran : goal.returns-in-Err-clause-ran
returns-in-Err-clause-ran g c = λ J has. record {
  queried = none_queried g.W.Wire.tells c.args.count J _ c.in-Err.fault c.from.result c.from.ensures
      (c.in-Err.ensures.few c.in-Err.fault refl);
  does = unopened_does (tells_of g.D.Disk.tells g.C.Clock.tells g.R.Repos.tells g.O.Sink.tells) c.args.most J _ _ _
      c.in-Err.fault c.from.result (g.met.D.Disk.is_disk c.open.new.self.one.now)
      (g.met.D.Disk.is_disk c.open.new.self.two.now)
      c.in-Err.ensures.opened has.0 has.1 c.from.ensures (c.in-Err.ensures.few c.in-Err.fault refl)
      (λ p is. c.in-Err.ensures.bad_log p (ap Err is) has.0) refl;
}

pub returns-in-Err-clause-may : goal.returns-in-Err-clause-may
returns-in-Err-clause-may g c = reading_may ⊥ ⊤ c.in-Err.fault c.from.result c.from.ensures
    (c.in-Err.ensures.few c.in-Err.fault refl)

pub returns-in-Err-clause-ended : goal.returns-in-Err-clause-ended
returns-in-Err-clause-ended g c =
    ended_unopened ⊥ (tells_of g.D.Disk.tells g.C.Clock.tells g.R.Repos.tells g.O.Sink.tells) _ _ c.in-Err.fault
    c.from.result c.from.ensures (c.in-Err.ensures.few c.in-Err.fault refl)
    (λ told p is. c.in-Err.ensures.bad_log p (ap Err is) told)
    (counted_pair_fault c.in-Err.fault StoreFault.Disk _ _ _ _ c.in-Err.ensures.counts) refl refl refl
    (record { unspent = λ name spent. spent; repos = refl; clock = refl; input = refl; feed = refl })

pub returns-in-Err-clause-no_journal : goal.returns-in-Err-clause-no_journal
returns-in-Err-clause-no_journal g c = λ none. (
  opening_read g.D.Disk.tells (g.D.Disk.view c.args.self.now.pair.one.now) (g.D.Disk.view c.args.self.now.pair.two.now)
      (g.D.Disk.view c.open.new.self.one.now) (g.D.Disk.view c.open.new.self.two.now)
      c.in-Err.fault c.from.result c.in-Err.ensures.opened none.0 c.from.ensures,
  refl,
  all_stay _ _ refl refl refl refl,
)

pub returns-in-Err-clause-only_read : goal.returns-in-Err-clause-only_read
returns-in-Err-clause-only_read g c = λ told other. inl (
    opening_read g.D.Disk.tells (g.D.Disk.view c.args.self.now.pair.one.now)
    (g.D.Disk.view c.args.self.now.pair.two.now) (g.D.Disk.view c.open.new.self.one.now)
    (g.D.Disk.view c.open.new.self.two.now)
    c.in-Err.fault c.from.result c.in-Err.ensures.opened told c.from.ensures other)

pub returns-clause-ran : goal.returns-clause-ran
returns-clause-ran g c = λ J has.
    let keeps = opened_keeps g.D.Disk.tells (g.D.Disk.view c.args.self.now.pair.one.now)
    (g.D.Disk.view c.args.self.now.pair.two.now) (g.D.Disk.view c.open.new.self.one.now)
    (g.D.Disk.view c.open.new.self.two.now)
    c.in-Ok.store c.in-Ok.ensures.opened has.0 J has.1 in
    let done = c.answer_all.ensures.queried J (subst (λ (x : Core). Holds x J) (sym c.core.ensures) keeps.core) in
    record {
      queried = done.0;
      does = opened_does (tells_of g.D.Disk.tells g.C.Clock.tells g.R.Repos.tells g.O.Sink.tells) c.args.most J
          (query_lines done.0) (queries_end done.0) _ _ (g.D.Disk.view c.open.new.self.one.now)
          (g.D.Disk.view c.open.new.self.two.now)
          c.in-Ok.store c.answer_all.result (g.met.D.Disk.is_disk c.open.new.self.one.now)
          (g.met.D.Disk.is_disk c.open.new.self.two.now) c.in-Ok.ensures.opened has.0 has.1
          (both_here (g.D.Disk.view c.open.new.self.one.now) (g.D.Disk.view c.open.new.self.two.now)) done.1;
    }

pub returns-clause-ended : goal.returns-clause-ended
returns-clause-ended g c =
    ended_opened ⊥ ⊤ ⊥ (tells_of g.D.Disk.tells g.C.Clock.tells g.R.Repos.tells g.O.Sink.tells) _ _ c.answer_all.result
    c.answer_all.ensures.may
    (λ told. let kept = c.in-Ok.ensures.opened.keeps told in (kept.0, kept.1))
    (λ p is told. c.answer_all.ensures.not_disks (inr (p, is)))
    (record {
      disks = pair_counted (c.answer_all.result ≡ Status.Disk) _ _ _ _ (λ is. c.answer_all.ensures.not_disks (inl is))
          (c.in-Ok.ensures.counts.steady (ok_not c.in-Ok.store StoreFault.Disk));
      unwritten = c.answer_all.ensures.output.rose;
      output = λ _. c.answer_all.ensures.output.steady;
      door = uncounted_door ⊤ c.answer_all.result 0 c.answer_all.ensures.may;
      wire = c.answer_all.ensures.wire.own;
    })
    (record { unspent = λ name spent. spent; repos = refl; clock = refl; input = refl; feed = refl })

pub returns-clause-quiet : goal.returns-clause-quiet
returns-clause-quiet g c = λ of. absurd (c.answer_all.ensures.not_disks of)

pub returns-clause-no_journal : goal.returns-clause-no_journal
returns-clause-no_journal g c = λ none. let kept = c.in-Ok.ensures.opened.keeps none.0 in absurd (none.1 kept.0 kept.1)

pub returns-clause-only_read : goal.returns-clause-only_read
returns-clause-only_read g c = λ told other. inr (opened_read g.D.Disk.tells
    (g.D.Disk.view c.args.self.now.pair.one.now) (g.D.Disk.view c.args.self.now.pair.two.now)
    (g.D.Disk.view c.open.new.self.one.now) (g.D.Disk.view c.open.new.self.two.now) c.in-Ok.store c.in-Ok.ensures.opened
    told)

use Rattle.std.proofs.Common.{inl, Err, refl, ap, rules}
use Rattle.std.specs.Prelude.{⊤}
use Rattle.relay_store.specs.Shown.{held_by}
use Rattle.relay_store.proofs.Beside.{opened_keeps}
use Rattle.relay_store.specs.declared.fault.StoreFault.{StoreFault}
use Rattle.run_base.specs.Place.{tells_of}
use Rattle.run_base.proofs.Ended.{all_stay, counted_pair_fault, ok_not, opening_read}
use Rattle.read_run.specs.Guests.{session_lines, sessions_end}
use Rattle.read_run.proofs.Ending.{ended_opened, ended_unopened, reading_may, uncounted_wire}
use Rattle.read_run.proofs.Counting.{none_served}
use Rattle.read_run.proofs.Reading.{lent_counts, lent_keeps, lent_read, lent_same, level, opened_does, read_opened, unopened_does}
use Rattle.read_run.proofs.commands.OutsideReads.serve.Goals as goal

pub returns-in-Err-clause-ran : goal.returns-in-Err-clause-ran
returns-in-Err-clause-ran g c = λ J has. record {
  served = none_served g.G.Door.tells c.args.count (held_by J) _ c.in-Err.fault c.from.result c.from.ensures
      (c.in-Err.ensures.few c.in-Err.fault refl);
  does = unopened_does (tells_of g.D.Disk.tells g.C.Clock.tells g.R.Repos.tells g.O.Sink.tells) c.args.most J _ _ _
      c.in-Err.fault c.from.result (g.met.D.Disk.is_disk c.open.new.self.one.now)
      (g.met.D.Disk.is_disk c.open.new.self.two.now)
      c.in-Err.ensures.opened has.0 has.1 c.from.ensures (c.in-Err.ensures.few c.in-Err.fault refl)
      (λ p is. c.in-Err.ensures.bad_log p (ap Err is) has.0) refl;
}

pub returns-in-Err-clause-may : goal.returns-in-Err-clause-may
returns-in-Err-clause-may g c = reading_may ⊤ ⊥ c.in-Err.fault c.from.result c.from.ensures
    (c.in-Err.ensures.few c.in-Err.fault refl)

pub returns-in-Err-clause-ended : goal.returns-in-Err-clause-ended
returns-in-Err-clause-ended g c =
    ended_unopened ⊥ (tells_of g.D.Disk.tells g.C.Clock.tells g.R.Repos.tells g.O.Sink.tells) _ _ c.in-Err.fault
    c.from.result c.from.ensures (c.in-Err.ensures.few c.in-Err.fault refl)
    (λ told p is. c.in-Err.ensures.bad_log p (ap Err is) told)
    (counted_pair_fault c.in-Err.fault StoreFault.Disk _ _ _ _ c.in-Err.ensures.counts) refl refl refl
    (record { unspent = λ name spent. spent; repos = refl; clock = refl; input = refl; feed = refl })

pub returns-in-Err-clause-no_journal : goal.returns-in-Err-clause-no_journal
returns-in-Err-clause-no_journal g c = λ none. (
  opening_read g.D.Disk.tells (g.D.Disk.view c.args.self.now.pair.one.now) (g.D.Disk.view c.args.self.now.pair.two.now)
      (g.D.Disk.view c.open.new.self.one.now) (g.D.Disk.view c.open.new.self.two.now)
      c.in-Err.fault c.from.result c.in-Err.ensures.opened none.0 c.from.ensures,
  refl,
  all_stay _ _ refl refl refl refl,
)

pub returns-in-Err-clause-only_read : goal.returns-in-Err-clause-only_read
returns-in-Err-clause-only_read g c = λ told other. inl (
    opening_read g.D.Disk.tells (g.D.Disk.view c.args.self.now.pair.one.now)
    (g.D.Disk.view c.args.self.now.pair.two.now) (g.D.Disk.view c.open.new.self.one.now)
    (g.D.Disk.view c.open.new.self.two.now)
    c.in-Err.fault c.from.result c.in-Err.ensures.opened told c.from.ensures other)

pub serve_from-requires : goal.serve_from-requires
serve_from-requires g c = λ told.
    let kept = c.in-Ok.ensures.opened.keeps told in (
      kept.0,
      lent_keeps g.D.Disk.view kept.0 c.in-Ok.store c.side.result c.open.new.self c.picked.result.now
          c.side.ensures c.picked.ensures.value kept.2,
    )

pub returns-clause-ran : goal.returns-clause-ran
returns-clause-ran g c = λ J has.
    let keeps = opened_keeps g.D.Disk.tells (g.D.Disk.view c.args.self.now.pair.one.now)
    (g.D.Disk.view c.args.self.now.pair.two.now) (g.D.Disk.view c.open.new.self.one.now)
    (g.D.Disk.view c.open.new.self.two.now)
    c.in-Ok.store c.in-Ok.ensures.opened has.0 J has.1 in
    let done = c.serve_from.ensures.served has.0 J
    (lent_keeps g.D.Disk.view J c.in-Ok.store c.side.result c.open.new.self c.picked.result.now c.side.ensures
    c.picked.ensures.value keeps) in
    record {
      served = done.0;
      does = opened_does (tells_of g.D.Disk.tells g.C.Clock.tells g.R.Repos.tells g.O.Sink.tells) c.args.most J
          (session_lines done.0) (sessions_end done.0) _ _ (g.D.Disk.view c.open.new.self.one.now)
          (g.D.Disk.view c.open.new.self.two.now)
          c.in-Ok.store c.serve_from.result (g.met.D.Disk.is_disk c.open.new.self.one.now)
          (g.met.D.Disk.is_disk c.open.new.self.two.now) c.in-Ok.ensures.opened has.0 has.1
          (lent_read g.D.Disk.view c.side.result c.open.new.self c.picked.result.now _ c.serve_from.new.disk
          c.picked.ensures.value (search rules) g.D.Disk.tells c.serve_from.result c.serve_from.ensures.read) done.1;
    }

pub returns-clause-ended : goal.returns-clause-ended
returns-clause-ended g c =
    ended_opened ⊤ ⊥ ⊥ (tells_of g.D.Disk.tells g.C.Clock.tells g.R.Repos.tells g.O.Sink.tells) _ _ c.serve_from.result
    c.serve_from.ensures.may
    (λ told. let kept = c.in-Ok.ensures.opened.keeps told in (kept.0, kept.1)) c.serve_from.ensures.read.good
    (record {
      disks = lent_counts g.D.Disk.view c.side.result c.open.new.self c.picked.result.now _ c.serve_from.new.disk
          c.picked.ensures.value (search rules) g.D.Disk.tells c.serve_from.result c.serve_from.ensures.read
          _ _ (c.in-Ok.ensures.counts.steady (ok_not c.in-Ok.store StoreFault.Disk));
      unwritten = c.serve_from.ensures.output.rose;
      output = λ _. c.serve_from.ensures.output.steady;
      door = c.serve_from.ensures.door.own;
      wire = uncounted_wire ⊤ c.serve_from.result 0 c.serve_from.ensures.may;
    })
    (record { unspent = λ name spent. spent; repos = refl; clock = refl; input = refl; feed = refl })

pub returns-clause-no_journal : goal.returns-clause-no_journal
returns-clause-no_journal g c = λ none. let kept = c.in-Ok.ensures.opened.keeps none.0 in absurd (none.1 kept.0 kept.1)

pub returns-clause-only_read : goal.returns-clause-only_read
returns-clause-only_read g c = λ told other.
    let read = lent_read g.D.Disk.view c.side.result c.open.new.self c.picked.result.now _ c.serve_from.new.disk
    c.picked.ensures.value (search rules) g.D.Disk.tells c.serve_from.result c.serve_from.ensures.read in
    read_opened g.D.Disk.tells _ _ (g.D.Disk.view c.open.new.self.one.now) (g.D.Disk.view c.open.new.self.two.now) _ _
    c.in-Ok.store
    (g.met.D.Disk.is_disk c.args.self.now.pair.one.now) (g.met.D.Disk.is_disk c.args.self.now.pair.two.now)
    c.in-Ok.ensures.opened told read.first read.second

pub returns-clause-later : goal.returns-clause-later
returns-clause-later g c =
    let counts = lent_counts g.D.Disk.view c.side.result c.open.new.self c.picked.result.now _ c.serve_from.new.disk
    c.picked.ensures.value (search rules) g.D.Disk.tells c.serve_from.result c.serve_from.ensures.read
    _ _ (c.in-Ok.ensures.counts.steady (ok_not c.in-Ok.store StoreFault.Disk)) in
    record {
      pair = lent_same c.side.result _ c.open.new.self _ c.in-Ok.ensures.same;
      asked = record { judges = refl; repos = refl; clock = refl };
      out = refl;
      counts = record {
        one = counts.one_kept;
        two = counts.two_kept;
        repos = level _;
        clock = level _;
        output = c.serve_from.ensures.output.kept;
        input = level _;
        feed = level _;
        door = level _;
        wire = level _;
      };
    }

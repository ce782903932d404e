use Rattle.std.proofs.Common.{◌≡◌, ◌∙◌, ⊎_elim, ap, arith, false, inl, inr, refl, sym, true}
use Rattle.read_run.specs.AtWire.{at_wire}
use Rattle.relay_step.specs.Around.{around}
use Rattle.run_base.specs.Place.{Part, place_of, stays_of, the_clock, the_judges, the_output, the_repos}
use Rattle.run_base.specs.declared.outside.Outside.{Outside}
use Rattle.run_base.specs.declared.status.Status.{Status}
use Rattle.read_run.specs.AtDoor.{at_door}
use Rattle.relay_cli.proofs.Asking.{off, rowless}
use Rattle.relay_cli.proofs.Causing.{caused_check, caused_mirror, caused_trial}
use Rattle.relay_cli.proofs.Handed.{causes_door, causes_feed, causes_handed, causes_tape, causes_wire, cut_seen, told_door, told_feed, told_handed, told_replay, told_tape, told_wire}
use Rattle.relay_cli.proofs.Words.{followed_of, lines_of, operated_of, ran_as, shown_of, synced_of}
use Rattle.relay_cli.proofs.running.run.Given.{Over}
use Rattle.relay_cli.specs.Runs.{IsUntouched, Place, faults, place_seen}
use Rattle.relay_cli.proofs.running.run.Goals as goal

-- what the objects of the run hold
abbrev seen : (g : Over) → Outside g.row.D.Denot g.row.P.Denot g.row.R.Denot g.row.C.Denot g.row.O.Denot → g.row.I.Denot → g.row.F.Denot → g.row.G.Denot → g.row.W.Denot → Place
seen g = place_seen (place_of g.D.Disk.view g.P.Judges.panel g.C.Clock.moments g.R.Repos.repository g.O.Sink.written g.R.Repos.faults g.C.Clock.faults g.O.Sink.faults) g.I.Source.left g.I.Source.faults g.F.Feed.behind g.F.Feed.left g.F.Feed.faults
    (λ door. at_door (g.G.Door.guests door) (g.G.Door.turns door) (g.G.Door.session_faults door)) g.G.Door.faults
    (λ wire. at_wire (g.W.Wire.requests wire) (g.W.Wire.exchanges wire) (g.W.Wire.send_faults wire)) g.W.Wire.faults

-- all but the disks is as it was where the objects are
untouched : (g : Over) (was now : Outside g.row.D.Denot g.row.P.Denot g.row.R.Denot g.row.C.Denot g.row.O.Denot) (input input_now : g.row.I.Denot) (feed feed_now : g.row.F.Denot) (door door_now : g.row.G.Denot) (wire wire_now : g.row.W.Denot)
    → ((part : Part) → stays_of part was now) → input_now ≡ input → feed_now ≡ feed → door_now ≡ door → wire_now ≡ wire
    → IsUntouched (seen g was input feed door wire) (seen g now input_now feed_now door_now wire_now)
untouched g was now input input_now feed feed_now door door_now wire wire_now stays read fed met sent = record {
  around = λ i. around (g.P.Judges.panel (stays the_judges i)) (g.C.Clock.moments (stays the_clock i)) (g.R.Repos.repository (stays the_repos i));
  written = ap g.O.Sink.written (stays the_output);
  failed = λ i. faults (g.D.Disk.view now.pair.one.now).faults (g.D.Disk.view now.pair.two.now).faults (g.R.Repos.faults (stays the_repos i)) (g.C.Clock.faults (stays the_clock i)) (g.O.Sink.faults (stays the_output i))
      (g.I.Source.faults (read i)) (g.F.Feed.faults (fed i)) (g.G.Door.faults (met i)) (g.W.Wire.faults (sent i));
  left = ap g.I.Source.left read;
  given = ap g.F.Feed.behind fed;
  coming = ap g.F.Feed.left fed;
  door = ap (λ door. at_door (g.G.Door.guests door) (g.G.Door.turns door) (g.G.Door.session_faults door)) met;
  wire = ap (λ wire. at_wire (g.W.Wire.requests wire) (g.W.Wire.exchanges wire) (g.W.Wire.send_faults wire)) sent;
}

pub returns-in-Check-clause-ran : goal.returns-in-Check-clause-ran
returns-in-Check-clause-ran g c = (
  ran_as _ _ _ _ _ _ _ _ c.in-Check.is (record {
    does = c.check.ensures.checked;
    told = record {
      disks = λ not. (refl, refl);
      feed = λ not. refl;
      door = λ not. refl;
      wire = λ not. refl;
      clock = λ hidden not. refl;
      repos = λ hidden not. refl;
      unspent = λ hidden not name s. s;
      input = λ hidden not. c.check.ensures.input_steady not;
      output = λ hidden not. c.check.ensures.out_steady not;
    };
    beside = λ told on. absurd (off on);
    only_read = λ told on. absurd (off on);
    no_journal = λ none on. absurd (off on);
  }),
  (
    caused_check _ _ _ _ _ _ (λ rose. rose) (λ rose. rose) c.check.ensures.checked,
    record {
      one = omega arith;
      two = omega arith;
      repos = omega arith;
      clock = omega arith;
      output = c.check.ensures.out_counts;
      input = c.check.ensures.in_counts;
      feed = omega arith;
      door = omega arith;
      wire = omega arith;
    },
  ),
)

pub returns-in-Ingest-clause-ran : goal.returns-in-Ingest-clause-ran
returns-in-Ingest-clause-ran g c = (
  ran_as _ _ _ _ _ _ _ _ c.in-Ingest.is (record {
    does = record {
      commanded = record {
        may = c.ingest.ensures.may;
        shows = c.ingest.ensures.shows;
        came = λ J holds. ⊎_elim (λ alone. inl (alone.0, untouched g _ _ _ _ _ _ _ _ _ _ alone.2 alone.1 refl refl refl)) inr (c.ingest.ensures.ran J holds);
      };
      whole = c.ingest.ensures.whole;
    };
    told = told_tape _ _ _ refl refl refl c.ingest.ensures.faults;
    beside = λ told on. c.ingest.ensures.beside told;
    only_read = λ told on. absurd (off on);
    no_journal = λ none on. let alone = c.ingest.ensures.no_journal none in (alone.0, untouched g _ _ _ _ _ _ _ _ _ _ alone.2 alone.1 refl refl refl);
  }),
  causes_tape _ _ _ refl refl refl c.ingest.ensures.faults c.ingest.ensures.later.counts c.ingest.ensures.input_counts,
)

pub returns-in-Account-clause-ran : goal.returns-in-Account-clause-ran
returns-in-Account-clause-ran g c = (
  ran_as _ _ _ _ _ _ _ _ c.in-Account.is (record {
    does = shown_of _ _ _ _ _ _ c.as_str.ensures.value (
      (λ i. around (g.P.Judges.panel (c.account.ensures.unasked.0 i)) (g.C.Clock.moments (c.account.ensures.unasked.2 i)) (g.R.Repos.repository (c.account.ensures.unasked.1 i))),
      record {
        commanded = record { may = c.account.ensures.may; shows = c.account.ensures.ended.shows; came = c.account.ensures.ran };
        unread = refl;
        quiet = c.account.ensures.ended.quiet;
      },
    );
    told = told_handed _ _ _ _ (record { input = refl; feed = refl; door = refl; wire = refl }) c.account.ensures.ended.told;
    beside = λ told on. absurd (off on);
    only_read = λ told on. c.account.ensures.only_read told;
    no_journal = λ none on. let alone = c.account.ensures.no_journal none in (alone.0, untouched g _ _ _ _ _ _ _ _ _ _ alone.1 refl refl refl refl);
  }),
  causes_handed _ _ _ (record { input = refl; feed = refl; door = refl; wire = refl }) c.account.ensures.ended.caused c.account.ensures.later.counts,
)

pub returns-in-Hosts-clause-ran : goal.returns-in-Hosts-clause-ran
returns-in-Hosts-clause-ran g c = (
  ran_as _ _ _ _ _ _ _ _ c.in-Hosts.is (record {
    does = (
      (λ i. around (g.P.Judges.panel (c.hosts.ensures.unasked.0 i)) (g.C.Clock.moments (c.hosts.ensures.unasked.2 i)) (g.R.Repos.repository (c.hosts.ensures.unasked.1 i))),
      record {
        commanded = record { may = c.hosts.ensures.may; shows = c.hosts.ensures.ended.shows; came = c.hosts.ensures.ran };
        unread = refl;
        quiet = c.hosts.ensures.ended.quiet;
      },
    );
    told = told_handed _ _ _ _ (record { input = refl; feed = refl; door = refl; wire = refl }) c.hosts.ensures.ended.told;
    beside = λ told on. absurd (off on);
    only_read = λ told on. c.hosts.ensures.only_read told;
    no_journal = λ none on. let alone = c.hosts.ensures.no_journal none in (alone.0, untouched g _ _ _ _ _ _ _ _ _ _ alone.1 refl refl refl refl);
  }),
  causes_handed _ _ _ (record { input = refl; feed = refl; door = refl; wire = refl }) c.hosts.ensures.ended.caused c.hosts.ensures.later.counts,
)

pub returns-in-Takedown-clause-ran : goal.returns-in-Takedown-clause-ran
returns-in-Takedown-clause-ran g c = (
  ran_as _ _ _ _ _ _ _ _ c.in-Takedown.is (record {
    does = operated_of _ _ _ _ true _ _ _ _ c.as_str-in-Takedown.ensures.value c.as_str-in-Takedown-2.ensures.value (
      ap g.P.Judges.panel c.operate.ensures.unasked.0,
      record {
        commanded = record { may = c.operate.ensures.may; shows = c.operate.ensures.ended.shows; came = c.operate.ensures.ran };
        unread = refl;
        quiet = c.operate.ensures.ended.quiet;
      },
    );
    told = told_handed _ _ _ _ (record { input = refl; feed = refl; door = refl; wire = refl }) c.operate.ensures.ended.told;
    beside = λ told on. c.operate.ensures.beside told;
    only_read = λ told on not. c.operate.ensures.unwritten told not (rowless _ Status.Done refl on) (rowless _ Status.WriteFault refl on);
    no_journal = λ none on. let alone = c.operate.ensures.no_journal none in (alone.0, untouched g _ _ _ _ _ _ _ _ _ _ alone.1 refl refl refl refl);
  }),
  causes_handed _ _ _ (record { input = refl; feed = refl; door = refl; wire = refl }) c.operate.ensures.ended.caused c.operate.ensures.later.counts,
)

pub returns-in-Restore-clause-ran : goal.returns-in-Restore-clause-ran
returns-in-Restore-clause-ran g c = (
  ran_as _ _ _ _ _ _ _ _ c.in-Restore.is (record {
    does = operated_of _ _ _ _ false _ _ _ _ c.as_str-in-Restore.ensures.value c.as_str-in-Restore-2.ensures.value (
      ap g.P.Judges.panel c.operate-in-Restore.ensures.unasked.0,
      record {
        commanded = record { may = c.operate-in-Restore.ensures.may; shows = c.operate-in-Restore.ensures.ended.shows; came = c.operate-in-Restore.ensures.ran };
        unread = refl;
        quiet = c.operate-in-Restore.ensures.ended.quiet;
      },
    );
    told = told_handed _ _ _ _ (record { input = refl; feed = refl; door = refl; wire = refl }) c.operate-in-Restore.ensures.ended.told;
    beside = λ told on. c.operate-in-Restore.ensures.beside told;
    only_read = λ told on not. c.operate-in-Restore.ensures.unwritten told not (rowless _ Status.Done refl on) (rowless _ Status.WriteFault refl on);
    no_journal = λ none on. let alone = c.operate-in-Restore.ensures.no_journal none in (alone.0, untouched g _ _ _ _ _ _ _ _ _ _ alone.1 refl refl refl refl);
  }),
  causes_handed _ _ _ (record { input = refl; feed = refl; door = refl; wire = refl }) c.operate-in-Restore.ensures.ended.caused c.operate-in-Restore.ensures.later.counts,
)

pub returns-in-Sync-clause-ran : goal.returns-in-Sync-clause-ran
returns-in-Sync-clause-ran g c = (
  ran_as _ _ _ _ _ _ _ _ c.in-Sync.is (record {
    does = synced_of _ _ _ _ _ _ _ _ c.as_str-in-Sync.ensures.value c.as_str-in-Sync-2.ensures.value (
      c.sync.ensures.spent,
      record {
        commanded = record { may = c.sync.ensures.may; shows = c.sync.ensures.ended.shows; came = c.sync.ensures.ran };
        unread = refl;
        quiet = c.sync.ensures.ended.quiet;
      },
    );
    told = told_handed _ _ _ _ (record { input = refl; feed = refl; door = refl; wire = refl }) c.sync.ensures.ended.told;
    beside = λ told on. c.sync.ensures.beside told;
    only_read = λ told on not. c.sync.ensures.unwritten told not (rowless _ Status.Done refl on) (rowless _ Status.WriteFault refl on);
    no_journal = λ none on. let alone = c.sync.ensures.no_journal none in (alone.0, untouched g _ _ _ _ _ _ _ _ _ _ alone.1 refl refl refl refl);
  }),
  causes_handed _ _ _ (record { input = refl; feed = refl; door = refl; wire = refl }) c.sync.ensures.ended.caused c.sync.ensures.later.counts,
)

pub returns-in-Follow-clause-ran : goal.returns-in-Follow-clause-ran
returns-in-Follow-clause-ran g c = (
  ran_as _ _ _ _ _ _ _ _ c.in-Follow.is (record {
    does = followed_of _ _ _ _ _ _ _ c.as_str-in-Follow.ensures.value (
      refl,
      record {
        may = c.follow.ensures.may;
        shows = c.follow.ensures.shows;
        came = λ J holds. ⊎_elim (λ alone. inl (alone.0, untouched g _ _ _ _ _ _ _ _ _ _ alone.2 refl alone.1 refl refl)) inr (c.follow.ensures.ran J holds);
      },
    );
    told = told_feed _ _ _ _ _ refl refl refl c.follow.ensures.faults;
    beside = λ told on. c.follow.ensures.beside told;
    only_read = λ told on. absurd (off on);
    no_journal = λ none on. let alone = c.follow.ensures.no_journal none in (alone.0, untouched g _ _ _ _ _ _ _ _ _ _ alone.2 refl alone.1 refl refl);
  }),
  causes_feed _ _ _ refl refl refl c.follow.ensures.faults c.follow.ensures.later.counts c.follow.ensures.feed_counts,
)

pub returns-in-Cut-clause-ran : goal.returns-in-Cut-clause-ran
returns-in-Cut-clause-ran g c = (
  ran_as _ _ _ _ _ _ _ _ c.in-Cut.is (record {
    does = (
      (λ i. around (g.P.Judges.panel (c.cut.ensures.unasked.0 i)) (g.C.Clock.moments (c.cut.ensures.unasked.2 i)) (g.R.Repos.repository (c.cut.ensures.unasked.1 i))),
      record {
        commanded = record { may = c.cut.ensures.may; shows = c.cut.ensures.ended.shows; came = λ J holds. cut_seen g.D.Disk.view g.P.Judges.panel g.C.Clock.moments g.R.Repos.repository g.O.Sink.written g.R.Repos.faults g.C.Clock.faults g.O.Sink.faults (seen g c.args.outside.now c.args.input.now c.args.feed.now c.args.door.now c.args.wire.now).parts _ _ J _ _ _ _ (c.cut.ensures.ran J holds) };
        unread = refl;
        quiet = c.cut.ensures.ended.quiet;
      },
    );
    told = told_handed _ _ _ _ (record { input = refl; feed = refl; door = refl; wire = refl }) c.cut.ensures.ended.told;
    beside = λ told on. absurd (off on);
    only_read = λ told on. absurd (off on);
    no_journal = λ none on. let alone = c.cut.ensures.no_journal none in (alone.0, untouched g _ _ _ _ _ _ _ _ _ _ alone.1 refl refl refl refl);
  }),
  causes_handed _ _ _ (record { input = refl; feed = refl; door = refl; wire = refl }) c.cut.ensures.ended.caused c.cut.ensures.later.counts,
)

pub returns-in-Replay-clause-ran : goal.returns-in-Replay-clause-ran
returns-in-Replay-clause-ran g c = (
  ran_as _ _ _ _ _ _ _ _ c.in-Replay.is (record {
    does = record {
      commanded = record {
        may = c.replay.ensures.may;
        shows = c.replay.ensures.ended.shows;
        came = λ J holds. c.replay.ensures.ran J holds;
      };
      unasked = (λ i. around (g.P.Judges.panel (c.replay.ensures.unasked.0 i)) (g.C.Clock.moments (c.replay.ensures.unasked.2 i)) (g.R.Repos.repository (c.replay.ensures.unasked.1 i)));
      unread = refl;
    };
    told = told_replay _ _ _ _ _ (record { input = refl; feed = refl; door = refl; wire = refl }) (ap g.C.Clock.faults c.replay.ensures.unasked.2) (ap g.R.Repos.faults c.replay.ensures.unasked.1) (λ i. around (g.P.Judges.panel (c.replay.ensures.unasked.0 i)) (g.C.Clock.moments (c.replay.ensures.unasked.2 i)) (g.R.Repos.repository (c.replay.ensures.unasked.1 i))) c.replay.ensures.ended;
    beside = λ told on. absurd (off on);
    only_read = λ told on. c.replay.ensures.only_read told;
    no_journal = λ none on. let alone = c.replay.ensures.no_journal none in (alone.0, untouched g _ _ _ _ _ _ _ _ _ _ alone.1 refl refl refl refl);
  }),
  causes_handed _ _ _ (record { input = refl; feed = refl; door = refl; wire = refl }) c.replay.ensures.ended.caused c.replay.ensures.later.counts,
)

pub returns-in-Serve-clause-ran : goal.returns-in-Serve-clause-ran
returns-in-Serve-clause-ran g c = (
  ran_as _ _ _ _ _ _ _ _ c.in-Serve.is (record {
    does = record {
      commanded = record {
        may = c.serve.ensures.may;
        shows = c.serve.ensures.ended.shows;
        came = λ J holds. c.serve.ensures.ran J holds;
      };
      unasked = (λ i. around (g.P.Judges.panel (c.serve.ensures.unasked.0 i)) (g.C.Clock.moments (c.serve.ensures.unasked.2 i)) (g.R.Repos.repository (c.serve.ensures.unasked.1 i)));
      unread = refl;
    };
    told = told_door _ _ _ _ refl refl refl (c.serve.ensures.ended.told (λ no. no));
    beside = λ told on. absurd (off on);
    only_read = λ told on. c.serve.ensures.only_read told;
    no_journal = λ none on. let alone = c.serve.ensures.no_journal none in (alone.0, untouched g _ _ _ _ _ _ _ _ _ _ alone.2 refl refl alone.1 refl);
  }),
  causes_door _ _ _ refl refl refl c.serve.ensures.ended.caused c.serve.ensures.later.counts c.serve.ensures.door_counts.0,
)

pub returns-in-Trial-clause-ran : goal.returns-in-Trial-clause-ran
returns-in-Trial-clause-ran g c = (
  ran_as _ _ _ _ _ _ _ _ c.in-Trial.is (record {
    does = (c.trial.ensures.may, c.trial.ensures.tried);
    told = record {
      disks = λ not. (refl, refl);
      feed = λ not. refl;
      door = λ not. refl;
      wire = λ not. refl;
      clock = λ hidden not. refl;
      repos = λ hidden not. refl;
      unspent = λ hidden not name s. s;
      input = λ hidden not. refl;
      output = λ hidden not. c.trial.ensures.out.steady not;
    };
    beside = λ told on. absurd (off on);
    only_read = λ told on. absurd (off on);
    no_journal = λ none on. absurd (off on);
  }),
  (
    caused_trial c.trial.result _ _ c.trial.ensures.may c.trial.ensures.out,
    record {
      one = omega arith;
      two = omega arith;
      repos = omega arith;
      clock = omega arith;
      output = c.trial.ensures.out.kept;
      input = omega arith;
      feed = omega arith;
      door = omega arith;
      wire = omega arith;
    },
  ),
)

pub returns-in-Mirror-clause-ran : goal.returns-in-Mirror-clause-ran
returns-in-Mirror-clause-ran g c = (
  ran_as _ _ _ _ _ _ _ _ c.in-Mirror.is (record {
    does = (c.mirror.ensures.may, c.mirror.ensures.mirrored);
    told = record {
      disks = λ not. (refl, refl);
      feed = λ not. refl;
      door = λ not. refl;
      wire = λ not. refl;
      clock = λ hidden not. refl;
      repos = λ hidden not. c.mirror.ensures.repos.steady not;
      unspent = λ hidden not name s. s;
      input = λ hidden not. c.mirror.ensures.input.steady not;
      output = λ hidden not. c.mirror.ensures.out.steady not;
    };
    beside = λ told on. absurd (off on);
    only_read = λ told on. absurd (off on);
    no_journal = λ none on. absurd (off on);
  }),
  (
    caused_mirror c.mirror.result _ _ c.mirror.ensures.may c.mirror.ensures.input c.mirror.ensures.repos c.mirror.ensures.out,
    record {
      one = omega arith;
      two = omega arith;
      repos = c.mirror.ensures.repos.kept;
      clock = omega arith;
      output = c.mirror.ensures.out.kept;
      input = c.mirror.ensures.input.kept;
      feed = omega arith;
      door = omega arith;
      wire = omega arith;
    },
  ),
)

pub returns-in-Query-clause-ran : goal.returns-in-Query-clause-ran
returns-in-Query-clause-ran g c = (
  ran_as _ _ _ _ _ _ _ _ c.in-Query.is (record {
    does = (
      λ is. let same = c.query.ensures.quiet is in (ap (λ wire. at_wire (g.W.Wire.requests wire) (g.W.Wire.exchanges wire) (g.W.Wire.send_faults wire)) same.0, ap g.O.Sink.written same.1),
      record {
        commanded = record {
          may = c.query.ensures.may;
          shows = c.query.ensures.ended.shows;
          came = λ J holds. c.query.ensures.ran J holds;
        };
        unasked = (λ i. around (g.P.Judges.panel (c.query.ensures.unasked.0 i)) (g.C.Clock.moments (c.query.ensures.unasked.2 i)) (g.R.Repos.repository (c.query.ensures.unasked.1 i)));
        unread = refl;
      },
    );
    told = told_wire _ _ _ _ refl refl refl (c.query.ensures.ended.told (λ no. no));
    beside = λ told on. absurd (off on);
    only_read = λ told on. c.query.ensures.only_read told;
    no_journal = λ none on. let alone = c.query.ensures.no_journal none in (alone.0, untouched g _ _ _ _ _ _ _ _ _ _ alone.2 refl refl refl alone.1);
  }),
  causes_wire _ _ _ refl refl refl c.query.ensures.ended.caused c.query.ensures.later.counts c.query.ensures.wire_counts.0,
)

pub returns-in-Lines-clause-ran : goal.returns-in-Lines-clause-ran
returns-in-Lines-clause-ran g c = (
  ran_as _ _ _ _ _ _ _ _ c.in-Lines.is (record {
    does = lines_of _ _ _ _ _ _ _ c.text_in.ensures (record {
      commanded = record {
        may = c.lines.ensures.may;
        shows = c.lines.ensures.ended.shows;
        came = λ J holds. c.lines.ensures.ran J holds;
      };
      unasked = (λ i. around (g.P.Judges.panel (c.lines.ensures.unasked.0 i)) (g.C.Clock.moments (c.lines.ensures.unasked.2 i)) (g.R.Repos.repository (c.lines.ensures.unasked.1 i)));
      unread = refl;
    });
    told = told_handed _ _ _ _ (record { input = refl; feed = refl; door = refl; wire = refl }) (c.lines.ensures.ended.told (λ no. no));
    beside = λ told on. absurd (off on);
    only_read = λ told on. c.lines.ensures.only_read told;
    no_journal = λ none on. let alone = c.lines.ensures.no_journal none in (alone.0, untouched g _ _ _ _ _ _ _ _ _ _ alone.1 refl refl refl refl);
  }),
  causes_handed _ _ _ (record { input = refl; feed = refl; door = refl; wire = refl }) c.lines.ensures.ended.caused c.lines.ensures.later.counts,
)

use Rattle.std.proofs.Common.{length, inl, inr, refl, sym, ap, subst, ◌∙◌, arith, rules}
use Rattle.store_take.specs.Taking.{AreOfHosts}
use Rattle.run_base.specs.Place.{place_of, tells_of}
use Rattle.take_run.specs.Ends.{MayEndIngesting}
use Rattle.take_run.proofs.Groups.{beside_on, live_disk}
use Rattle.take_run.proofs.Records.{as_long, of_hosts}
use Rattle.take_run.proofs.WholeGroups.{reads_on, starts_reading, tape_ends, tape_finishes, tape_stops}
use Rattle.take_run.proofs.Telling.{faults_on, finish_faults, finish_ingests, input_still, nothing_here, nothing_on, only_output, read_on, stop_ingests, stop_with_input, tape_faults, tape_ingests, tape_steady, wrote_told}
use Rattle.take_run.proofs.taping.OutsideTapes.take_tape.Goals as goal

pub groups-init : goal.groups-init
groups-init g c = record {
  reading = starts_reading _ _ _ (tells_of g.D.Disk.tells g.C.Clock.tells g.R.Repos.tells g.O.Sink.tells) _ (live_disk g.D.Disk.view (λ x. g.met.D.Disk.is_disk x) _ _ _) c.new-tape.ensures.held c.new-tape.ensures.place;
  ready = c.requires.ready;
  side = refl;
  beside = refl;
  most = c.new-tape.ensures.most;
  few = omega (arith, c.requires.new.messages);
  nothing = nothing_here _;
  still = refl;
  later = search rules;
}

pub take_group-requires-clause-hosts : goal.take_group-requires-clause-hosts
take_group-requires-clause-hosts g c = subst AreOfHosts (sym c.as_slice.ensures.value) (of_hosts c.read_group-group.result.messages.items c.read_group-group.ensures.records)

pub take_group-requires-clause-room : goal.take_group-requires-clause-room
take_group-requires-clause-room g c =
    omega (
      arith,
      c.groups.invariant.few,
      c.groups.invariant.most,
      c.requires.limit,
      c.read_group-group.ensures.place,
      c.read_group-group.ensures.most,
      as_long c.read_group-group.result.messages.items,
      ap length c.as_slice.ensures.value,
      c.read_group-group.new.tape.within,
    )

pub groups-preserved : goal.groups-preserved
groups-preserved g c = record {
  reading = reads_on g.I.Source.tells (g.I.Source.left c.args.input.now) c.groups.tape c.read_group-group.new.tape (g.I.Source.left c.groups.input) (g.I.Source.left c.read_group-group.new.input) (tells_of g.D.Disk.tells g.C.Clock.tells g.R.Repos.tells g.O.Sink.tells) _ _ c.groups.invariant.reading
      c.read_group-group.result.messages.items c.as_slice.result.now c.read_group-group.result.rest c.as_slice.ensures.value c.read_group-group.ensures.read c.read_group-group.ensures.records c.read_group-group.ensures.place
      _ c.in-Ok.ensures.taken;
  ready = c.in-Ok.ensures.ready;
  side = c.take_group.ensures.side ∙ c.groups.invariant.side;
  beside = beside_on _ _ c.groups.invariant.side _ _ _ _ _ _ c.groups.invariant.beside c.take_group.ensures.beside;
  most = c.read_group-group.ensures.most ∙ c.groups.invariant.most;
  few = omega (arith, c.in-Ok.ensures.count, c.read_group-group.ensures.place, as_long c.read_group-group.result.messages.items, c.groups.invariant.few, ap length c.as_slice.ensures.value);
  nothing = (nothing_on _ _ _ c.groups.invariant.nothing c.in-Ok.ensures.part);
  still = read_on c.read_group-group.result.rest _ _ c.read_group-group.ensures.failed (inl c.in-More.is) ∙ c.groups.invariant.still;
  later = search rules;
}

pub returns-in-Err-clause-taken : goal.returns-in-Err-clause-taken
returns-in-Err-clause-taken g c = λ J of.
    tape_stops g.I.Source.tells (g.I.Source.left c.args.input.now) c.groups.tape c.read_group-group.new.tape (g.I.Source.left c.groups.input) (g.I.Source.left c.read_group-group.new.input) (tells_of g.D.Disk.tells g.C.Clock.tells g.R.Repos.tells g.O.Sink.tells) _ _ c.groups.invariant.reading
    c.read_group-group.result.messages.items c.as_slice.result.now c.read_group-group.result.rest c.as_slice.ensures.value c.read_group-group.ensures.read c.read_group-group.ensures.records c.read_group-group.ensures.place
    c.args.limit (c.read_group-group.ensures.most ∙ c.groups.invariant.most) J of c.requires.new _ _ c.groups.invariant.nothing _ c.in-Err.status c.in-Err.ensures.part.0 c.in-Err.ensures.taken

pub returns-in-Nothing-clause-taken : goal.returns-in-Nothing-clause-taken
returns-in-Nothing-clause-taken g c = λ J of.
    tape_finishes g.I.Source.tells (g.I.Source.left c.args.input.now) c.groups.tape c.read_group-group.new.tape (g.I.Source.left c.groups.input) (g.I.Source.left c.read_group-group.new.input) (tells_of g.D.Disk.tells g.C.Clock.tells g.R.Repos.tells g.O.Sink.tells) _ _ c.groups.invariant.reading
    c.read_group-group.result.messages.items c.as_slice.result.now c.read_group-group.result.rest c.as_slice.ensures.value c.read_group-group.ensures.read c.read_group-group.ensures.records c.read_group-group.ensures.place
    c.args.limit (c.read_group-group.ensures.most ∙ c.groups.invariant.most) J of c.requires.new _ _ _ _ _ _ _ _ _ _ _ (nothing_on _ _ _ c.groups.invariant.nothing c.in-Ok.ensures.part) c.in-Ok.ensures.taken c.in-Nothing.is (read_on c.read_group-group.result.rest _ _ c.read_group-group.ensures.failed (inr c.in-Nothing.is) ∙ c.groups.invariant.still)
    c.last_seq.result c.last_seq.ensures c.finish.result c.finish.ensures.ends (λ X. wrote_told X ⊥ c.finish.result _ _ (only_output _ _ refl refl refl refl refl refl refl refl refl) c.finish.ensures.counts) c.finish.ensures.written

pub returns-in-Fault-clause-taken : goal.returns-in-Fault-clause-taken
returns-in-Fault-clause-taken g c = λ J of.
    tape_ends g.I.Source.tells (g.I.Source.left c.args.input.now) c.groups.tape c.read_group-group.new.tape (g.I.Source.left c.groups.input) (g.I.Source.left c.read_group-group.new.input) (tells_of g.D.Disk.tells g.C.Clock.tells g.R.Repos.tells g.O.Sink.tells) _ _ c.groups.invariant.reading
    c.read_group-group.result.messages.items c.as_slice.result.now c.read_group-group.result.rest c.as_slice.ensures.value c.read_group-group.ensures.read c.read_group-group.ensures.records c.read_group-group.ensures.place
    c.args.limit (c.read_group-group.ensures.most ∙ c.groups.invariant.most) J of c.requires.new _ _ _ _ _ _ _ _ _ _ _ (nothing_on _ _ _ c.groups.invariant.nothing c.in-Ok.ensures.part) c.in-Ok.ensures.taken refl refl c.in-Fault.fault c.in-Fault.is c.status_of.result c.status_of.ensures
    (λ not. tape_steady _ _ c.read_group-group.result.rest c.in-Fault.fault c.in-Fault.is c.read_group-group.ensures.failed c.status_of.result c.status_of.ensures not ∙ c.groups.invariant.still)

pub returns-in-Err-clause-may : goal.returns-in-Err-clause-may
returns-in-Err-clause-may g c = stop_ingests c.in-Err.status c.in-Err.ensures.part.0

pub returns-in-Nothing-clause-may : goal.returns-in-Nothing-clause-may
returns-in-Nothing-clause-may g c = finish_ingests c.finish.result c.finish.ensures.ends

pub returns-in-Fault-clause-may : goal.returns-in-Fault-clause-may
returns-in-Fault-clause-may g c = subst MayEndIngesting (sym c.status_of.ensures) (tape_ingests c.in-Fault.fault)

pub returns-in-Err-clause-faults : goal.returns-in-Err-clause-faults
returns-in-Err-clause-faults g c = stop_with_input c.in-Err.status _ _ _ _ c.in-Err.ensures.part.0 (faults_on ⊥ c.in-Err.status _ _ _ c.groups.invariant.nothing c.in-Err.ensures.part.1)

pub returns-in-Nothing-clause-faults : goal.returns-in-Nothing-clause-faults
returns-in-Nothing-clause-faults g c =
    faults_on _ c.finish.result _ _ _ (input_still _ _ _ _ (nothing_on _ _ _ c.groups.invariant.nothing c.in-Ok.ensures.part) (read_on c.read_group-group.result.rest _ _ c.read_group-group.ensures.failed (inr c.in-Nothing.is) ∙ c.groups.invariant.still))
    (finish_faults _ c.finish.result _ _ c.finish.ensures.ends (only_output _ _ refl refl refl refl refl refl refl refl refl) c.finish.ensures.counts)

pub returns-in-Fault-clause-faults : goal.returns-in-Fault-clause-faults
returns-in-Fault-clause-faults g c =
    faults_on _ c.status_of.result _ _ _ (input_still _ _ _ _ (nothing_on _ _ _ c.groups.invariant.nothing c.in-Ok.ensures.part) c.groups.invariant.still)
    (tape_faults _ _ c.read_group-group.result.rest c.in-Fault.fault c.in-Fault.is c.read_group-group.ensures.failed c.status_of.result c.status_of.ensures (place_of g.D.Disk.view g.P.Judges.panel g.C.Clock.moments g.R.Repos.repository g.O.Sink.written g.R.Repos.faults g.C.Clock.faults g.O.Sink.faults c.take_group.new.self) _)

pub returns-in-Err-clause-beside : goal.returns-in-Err-clause-beside
returns-in-Err-clause-beside g c = beside_on _ _ c.groups.invariant.side _ _ _ _ _ _ c.groups.invariant.beside c.take_group.ensures.beside

pub returns-in-Nothing-clause-beside : goal.returns-in-Nothing-clause-beside
returns-in-Nothing-clause-beside g c = beside_on _ _ c.groups.invariant.side _ _ _ _ _ _ c.groups.invariant.beside c.take_group.ensures.beside

pub returns-in-Fault-clause-beside : goal.returns-in-Fault-clause-beside
returns-in-Fault-clause-beside g c = beside_on _ _ c.groups.invariant.side _ _ _ _ _ _ c.groups.invariant.beside c.take_group.ensures.beside

use Rattle.std.proofs.Common.{◌≢◌, ◌∙◌, Some, ap, arith, length, refl, take}
use Rattle.relay_store.specs.Store.{seen_in}
use Rattle.relay_store.specs.declared.fault.StoreFault.{StoreFault}
use Rattle.run_base.specs.Place.{tells_of}
use Rattle.run_base.specs.declared.status.Status.{Status}
use Rattle.take_run.specs.Said.{answered}
use Rattle.take_run.proofs.Answers.{answered_few, some_answered}
use Rattle.take_run.proofs.OneBatch.{answered_not, batch_fault, batch_goes, batch_unwritten, open_kept}
use Rattle.take_run.proofs.Living.{ended_grows}
use Rattle.take_run.proofs.Telling.{batch_faults, batch_nothing, batch_told, counted_status, done_not, failed_as, fault_stops, unwritten_faults, unwritten_stops, unwritten_told}
use Rattle.take_run.proofs.batching.OutsideBatches.take_live.Goals as goal

pub returns-in-Err-clause-taken : goal.returns-in-Err-clause-taken
returns-in-Err-clause-taken g c = λ J of.
    let not = answered_not _ _ c.take_all-batch.result.fault c.in-Err.ensures.some c.as_slice-outcomes.ensures.value c.take_all-batch.ensures.unanswered in
    batch_unwritten g.D.Disk.view (tells_of g.D.Disk.tells g.C.Clock.tells g.R.Repos.tells g.O.Sink.tells) J c.args.group.now (seen_in c.args.run.now.store) (seen_in c.take_all-batch.new.store) c.args.self.now.pair.one.now c.args.self.now.pair.two.now c.take_all-batch.new.self.one.now c.take_all-batch.new.self.two.now c.take_all-batch.ensures.side _ _ _ _ c.as_slice-outcomes.ensures.value c.take_all-batch.result.fault (c.take_all-batch.ensures.batched J of) _ _ c.requires.live _ _ _ _
    c.in-Err.ensures.some c.in-Err.status c.in-Err.ensures.unwritten c.in-Err.ensures.written (λ is. c.in-Err.ensures.nothing (ap failed_as is))
    (λ X x. unwritten_told c.take_all-batch.result.fault _ _ c.take_all-batch.ensures.counts c.take_all-batch.ensures.repos c.take_all-batch.ensures.clock c.take_all-batch.ensures.unspent refl refl refl refl X ⊥ c.in-Err.status x not (counted_status c.in-Err.status Status.WriteFault _ _ c.in-Err.ensures.counts))

pub returns-in-Err-clause-part : goal.returns-in-Err-clause-part
returns-in-Err-clause-part g c = (
  unwritten_stops c.in-Err.status c.in-Err.ensures.unwritten,
  unwritten_faults c.take_all-batch.result.fault _ _ c.take_all-batch.ensures.counts c.take_all-batch.ensures.repos c.take_all-batch.ensures.clock c.take_all-batch.ensures.unspent refl refl refl refl c.in-Err.status c.in-Err.ensures.unwritten (answered_not _ _ c.take_all-batch.result.fault c.in-Err.ensures.some c.as_slice-outcomes.ensures.value c.take_all-batch.ensures.unanswered)
      (counted_status c.in-Err.status Status.WriteFault _ _ c.in-Err.ensures.counts),
)

pub returns-in-None-clause-taken : goal.returns-in-None-clause-taken
returns-in-None-clause-taken g c = λ J of.
    batch_goes g.D.Disk.view (tells_of g.D.Disk.tells g.C.Clock.tells g.R.Repos.tells g.O.Sink.tells) J c.args.group.now (seen_in c.args.run.now.store) (seen_in c.take_all-batch.new.store) c.args.self.now.pair.one.now c.args.self.now.pair.two.now c.take_all-batch.new.self.one.now c.take_all-batch.new.self.two.now c.take_all-batch.ensures.side _ _ _ _ c.as_slice-outcomes.ensures.value c.take_all-batch.result.fault (c.take_all-batch.ensures.batched J of) _ _ c.requires.live _ _ _ _
    _ refl c.in-None.is c.in-Ok.ensures.noted c.in-Ok.ensures.written

pub returns-in-None-clause-part : goal.returns-in-None-clause-part
returns-in-None-clause-part g c = batch_nothing c.take_all-batch.result.fault _ _ c.take_all-batch.ensures.counts c.take_all-batch.ensures.repos c.take_all-batch.ensures.clock c.take_all-batch.ensures.unspent refl refl refl refl c.in-None.is (c.in-Ok.ensures.counts.steady (done_not Status.WriteFault))

pub returns-in-None-clause-ready : goal.returns-in-None-clause-ready
returns-in-None-clause-ready g c =
    let not : c.take_all-batch.result.fault ≢ Some StoreFault.Disk = λ disk. (let is = c.in-None.is in let no : ⊥ = cc in no) in
    open_kept (tells_of g.D.Disk.tells g.C.Clock.tells g.R.Repos.tells g.O.Sink.tells) _ _ c.take_all-batch.ensures.side (c.take_all-batch.ensures.open not) (c.take_all-batch.ensures.on not)

pub returns-in-None-clause-count : goal.returns-in-None-clause-count
returns-in-None-clause-count g c =
    let few = answered_few c.args.group.now c.as_slice-outcomes.result.now in
    omega (arith, c.in-Ok.ensures.noted.messages, few.1)

pub returns-in-None-clause-some : goal.returns-in-None-clause-some
returns-in-None-clause-some g c =
    let some = some_answered c.args.group.now c.take_all-batch.result.outcomes.items c.requires.some (c.take_all-batch.ensures.all c.in-None.is) in
    omega (arith, some, ap length c.as_slice-outcomes.ensures.value)

pub returns-in-None-clause-few : goal.returns-in-None-clause-few
returns-in-None-clause-few g c = omega (arith, c.take_all-batch.ensures.few, ap length c.as_slice-outcomes.ensures.value)

pub returns-in-None-clause-ended : goal.returns-in-None-clause-ended
returns-in-None-clause-ended g c = ap (take (length c.args.run.now.tally.ended.items)) c.in-Ok.ensures.noted.ends ∙ ended_grows c.args.run.now.tally.ended.items (answered c.args.group.now c.as_slice-outcomes.result.now)

pub returns-clause-taken : goal.returns-clause-taken
returns-clause-taken g c = λ J of.
    batch_fault g.D.Disk.view (tells_of g.D.Disk.tells g.C.Clock.tells g.R.Repos.tells g.O.Sink.tells) J c.args.group.now (seen_in c.args.run.now.store) (seen_in c.take_all-batch.new.store) c.args.self.now.pair.one.now c.args.self.now.pair.two.now c.take_all-batch.new.self.one.now c.take_all-batch.new.self.two.now c.take_all-batch.ensures.side _ _ _ _ c.as_slice-outcomes.ensures.value c.take_all-batch.result.fault (c.take_all-batch.ensures.batched J of) _ _ c.requires.live _ _ _ _
    c.in-Some.fault c.in-Some.is c.from.result c.from.ensures c.requires.some (g.met.D.Disk.is_disk _) c.requires.ready.is_open c.take_all-batch.ensures.closed c.take_all-batch.ensures.unanswered
    _ (λ is. c.take_all-batch.ensures.disk_failed is J of) c.in-Ok.ensures.written
    (batch_told c.take_all-batch.result.fault _ _ c.take_all-batch.ensures.counts c.take_all-batch.ensures.repos c.take_all-batch.ensures.clock c.take_all-batch.ensures.unspent refl refl refl refl c.in-Some.fault c.in-Some.is c.from.result c.from.ensures ⊥ (c.in-Ok.ensures.counts.steady (done_not Status.WriteFault)))
    (λ alone. alone)

pub returns-clause-part : goal.returns-clause-part
returns-clause-part g c = (
  fault_stops c.in-Some.fault c.from.result c.from.ensures,
  batch_faults c.take_all-batch.result.fault _ _ c.take_all-batch.ensures.counts c.take_all-batch.ensures.repos c.take_all-batch.ensures.clock c.take_all-batch.ensures.unspent refl refl refl refl c.in-Some.fault c.in-Some.is c.from.result c.from.ensures c.take_all-batch.ensures.spent (c.in-Ok.ensures.counts.steady (done_not Status.WriteFault)),
)

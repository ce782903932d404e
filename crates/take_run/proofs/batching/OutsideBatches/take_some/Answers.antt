use Rattle.std.proofs.Common.{◌≡◌, true, ap, ◌∙◌, sym, subst, refl, None, [], ◌∷◌, List, ℕ, ◌++◌, take, length}
use Rattle.relay_core.specs.Report.{over_line}
use Rattle.relay_core.specs.Runs.{has_ended}
use Rattle.relay_store.specs.Store.{seen_in}
use Rattle.store_take.specs.declared.message.Message.{Message}
use Rattle.run_base.specs.Ends.{Writes}
use Rattle.run_base.specs.Place.{tells_of}
use Rattle.run_base.specs.declared.status.Status.{Status}
use Rattle.take_run.specs.Said.{IsNoted}
use Rattle.take_run.proofs.OneBatch.{pass_goes, pass_unwritten}
use Rattle.take_run.proofs.Groups.{hosts_front, live_disk, took_longer}
use Rattle.take_run.proofs.Living.{ended_grows, first_ended}
use Rattle.take_run.proofs.Telling.{counted_status, done_not, failed_as, finish_faults, only_output, unwritten_finishes, unwritten_stops, wrote_nothing, wrote_told}
use Rattle.take_run.proofs.batching.OutsideBatches.take_some.Goals as goal

pub returns-in-Ok-clause-taken : goal.returns-in-Ok-clause-taken
returns-in-Ok-clause-taken g c = λ J of.
    let m = c.index-group-0.result in
    let first = sym c.index-group-0.is in
    let host : c.as_str.result.now ≡ m.host = c.as_str.ensures.value ∙ ap (λ (x : Message). x.host) first in
    let ended : has_ended c.args.run.now.tally.ended.items m.host ≡ true =
    first_ended c.args.run.now.tally.ended.items c.args.group.now m m.host (c.requires.ended c.if-live-eq0.true) (ap (λ (x : Message). x.host) (sym first)) in
    pass_goes (tells_of g.D.Disk.tells g.C.Clock.tells g.R.Repos.tells g.O.Sink.tells) J c.args.group.now m (seen_in c.args.run.now.store) _ _ _ _ _ _ _ _ _ c.requires.some first (live_disk g.D.Disk.view (λ x. g.met.D.Disk.is_disk x) (seen_in c.args.run.now.store).side _ _) of ended
    (subst (λ (h : List ℕ). IsNoted ((h, None) ∷ []) c.args.run.now.tally c.skip.new.tally) host c.in-Ok.ensures.noted)
    (λ told. c.in-Ok.ensures.written told ∙ ap (λ (h : List ℕ). g.O.Sink.written c.args.self.now.out.now ++ over_line h) host)

pub returns-in-Err-clause-taken : goal.returns-in-Err-clause-taken
returns-in-Err-clause-taken g c = λ J of.
    let m = c.index-group-0.result in
    let first = sym c.index-group-0.is in
    let host : c.as_str.result.now ≡ m.host = c.as_str.ensures.value ∙ ap (λ (x : Message). x.host) first in
    let ended : has_ended c.args.run.now.tally.ended.items m.host ≡ true =
    first_ended c.args.run.now.tally.ended.items c.args.group.now m m.host (c.requires.ended c.if-live-eq0.true) (ap (λ (x : Message). x.host) (sym first)) in
    pass_unwritten (tells_of g.D.Disk.tells g.C.Clock.tells g.R.Repos.tells g.O.Sink.tells) J c.args.group.now m (seen_in c.args.run.now.store) _ _ _ _ _ _ _ _ _ c.requires.some first (live_disk g.D.Disk.view (λ x. g.met.D.Disk.is_disk x) (seen_in c.args.run.now.store).side _ _) of ended
    c.in-Err.status c.in-Err.ensures.unwritten
    (λ told. subst (λ (h : List ℕ). Writes c.in-Err.status [] (over_line h) (g.O.Sink.written c.args.self.now.out.now) (g.O.Sink.written c.skip.new.out)) host (c.in-Err.ensures.written told))
    (λ is. c.in-Err.ensures.nothing (ap failed_as is))
    (λ X. wrote_told X ⊥ c.in-Err.status _ _ (only_output _ _ refl refl refl refl refl refl refl refl refl) (counted_status c.in-Err.status Status.WriteFault _ _ c.in-Err.ensures.counts))

pub take_live-requires-clause-hosts : goal.take_live-requires-clause-hosts
take_live-requires-clause-hosts g c = hosts_front c.args.group.now c.args.live c.requires.hosts

pub returns-clause-taken : goal.returns-clause-taken
returns-clause-taken g c = λ J of. took_longer (tells_of g.D.Disk.tells g.C.Clock.tells g.R.Repos.tells g.O.Sink.tells) J c.args.group.now c.args.live _ _ c.take_live.result c.take_live.ensures.few c.take_live.ensures.part (c.take_live.ensures.taken J of)

pub returns-in-Ok-clause-part : goal.returns-in-Ok-clause-part
returns-in-Ok-clause-part g c = wrote_nothing _ _ (only_output _ _ refl refl refl refl refl refl refl refl refl) (c.in-Ok.ensures.counts.steady (done_not Status.WriteFault))

pub returns-in-Err-clause-part : goal.returns-in-Err-clause-part
returns-in-Err-clause-part g c = (
  unwritten_stops c.in-Err.status c.in-Err.ensures.unwritten,
  finish_faults ⊥ c.in-Err.status _ _ (unwritten_finishes c.in-Err.status c.in-Err.ensures.unwritten) (only_output _ _ refl refl refl refl refl refl refl refl refl) (counted_status c.in-Err.status Status.WriteFault _ _ c.in-Err.ensures.counts),
)

pub returns-in-Ok-clause-ended : goal.returns-in-Ok-clause-ended
returns-in-Ok-clause-ended g c = ap (take (length c.args.run.now.tally.ended.items)) c.in-Ok.ensures.noted.ends ∙ ended_grows c.args.run.now.tally.ended.items ((c.as_str.result.now, None) ∷ [])

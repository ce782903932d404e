use Rattle.std.proofs.Common.{◌≡◌, ◌<◌, ◌≤◌, ◌+◌, List, length, take, refl, subst, ◌∙◌, arith, rules, length-take, length-drop}
use Rattle.store_take.specs.declared.message.Message.{Message}
use Rattle.run_base.specs.Place.{tells_of}
use Rattle.take_run.specs.Said.{AreLive, FirstHasEnded}
use Rattle.take_run.proofs.Groups.{all_left, beside_on, goes_on, hosts_left, live_disk, stops_on, taken_more}
use Rattle.take_run.proofs.Joining.{nothing_taken}
use Rattle.take_run.proofs.Living.{rest_whole, still_known}
use Rattle.take_run.proofs.Telling.{faults_on, nothing_here, nothing_on}
use Rattle.take_run.proofs.batching.OutsideBatches.take_group.Goals as goal

pub batches-init : goal.batches-init
batches-init g c = record {
  within = omega arith;
  live_within = c.live_front-live.ensures.within;
  live = c.live_front-live.ensures.live;
  first = c.live_front-live.ensures.ended;
  ready = c.requires.ready;
  side = refl;
  beside = refl;
  count = omega arith;
  going = λ J of. nothing_taken (tells_of g.D.Disk.tells g.C.Clock.tells g.R.Repos.tells g.O.Sink.tells) J _ (live_disk g.D.Disk.view (λ x. g.met.D.Disk.is_disk x) _ _ _) of;
  nothing = nothing_here _;
  later = search rules;
}

pub batches-preserved : goal.batches-preserved
batches-preserved g c =
    let rest = rest_whole c.args.group.now (c.batches.done + c.in-Ok.count) in
    let ended = c.take_some.new.run.tally.ended.items in
    let live = c.live_still-live.result in
    record {
      within = omega (arith, c.in-Ok.ensures.few, length-take {A = Message}, length-drop {A = Message}, c.batches.invariant.within);
      live_within = subst (λ (l : List Message). live ≤ length l) rest c.live_still-live.ensures.within;
      live = subst (λ (l : List Message). AreLive ended (take live l)) rest c.live_still-live.ensures.live;
      first = subst (λ (l : List Message). 0 < length l → live ≡ 0 → FirstHasEnded ended l) rest c.live_still-live.ensures.ended;
      ready = c.in-Ok.ensures.ready;
      side = c.take_some.ensures.side ∙ c.batches.invariant.side;
      beside = beside_on _ _ c.batches.invariant.side _ _ _ _ _ _ c.batches.invariant.beside c.take_some.ensures.beside;
      count = omega (arith, c.in-Ok.ensures.count, c.batches.invariant.count);
      going = λ J of. goes_on (tells_of g.D.Disk.tells g.C.Clock.tells g.R.Repos.tells g.O.Sink.tells) J _ _ _ _ _ _ (taken_more c.args.group.now c.batches.done c.in-Ok.count) (c.batches.invariant.going J of) c.in-Ok.ensures.taken;
      nothing = nothing_on _ _ _ c.batches.invariant.nothing c.in-Ok.ensures.part;
      later = search rules;
    }

pub returns-in-Err-clause-taken : goal.returns-in-Err-clause-taken
returns-in-Err-clause-taken g c = λ J of.
    stops_on (tells_of g.D.Disk.tells g.C.Clock.tells g.R.Repos.tells g.O.Sink.tells) J _ _ _ _ _ _ (all_left c.args.group.now c.batches.done) (c.batches.invariant.going J of) c.batches.invariant.nothing c.in-Err.status c.in-Err.ensures.taken

pub take_some-requires-clause-hosts : goal.take_some-requires-clause-hosts
take_some-requires-clause-hosts g c = hosts_left c.args.group.now c.batches.done c.requires.hosts

pub returns-in-Err-clause-part : goal.returns-in-Err-clause-part
returns-in-Err-clause-part g c = (c.in-Err.ensures.part.0, faults_on ⊥ c.in-Err.status _ _ _ c.batches.invariant.nothing c.in-Err.ensures.part.1)

pub returns-in-Err-clause-beside : goal.returns-in-Err-clause-beside
returns-in-Err-clause-beside g c = beside_on _ _ c.batches.invariant.side _ _ _ _ _ _ c.batches.invariant.beside c.take_some.ensures.beside

pub live_still-live-requires-clause-live : goal.live_still-live-requires-clause-live
live_still-live-requires-clause-live g c =
    still_known c.batches.run.tally.ended.items c.take_some.new.run.tally.ended.items c.args.group.now c.batches.done c.in-Ok.count c.batches.live c.len-before.result c.saturating_sub.result
    (c.len-before.ensures ∙ c.batches.run.tally.ended.ok.0) c.in-Ok.ensures.ended c.saturating_sub.ensures c.batches.invariant.live

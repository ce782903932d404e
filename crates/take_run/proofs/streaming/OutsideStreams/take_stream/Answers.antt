use Rattle.std.proofs.Common.{◌∙◌, inl, inr, refl, subst, arith, rules}
use Rattle.run_base.specs.Place.{place_of, tells_of}
use Rattle.run_base.specs.declared.status.Status.{Status}
use Rattle.take_run.specs.Ends.{IsUnread}
use Rattle.take_run.proofs.Ending.{finish_quiet, finish_written, unread_quiet, unread_written}
use Rattle.take_run.proofs.FeedSteps.{follow_ends, follow_stops, follows_on, starts_following}
use Rattle.take_run.proofs.Groups.{beside_on, live_disk}
use Rattle.take_run.proofs.Telling.{counted_status, done_not, faults_on, feed_still, finish_faults, finish_follows, nothing_here, nothing_on, nothing_told, only_output, stop_follows, stop_with_feed, unread_faults, unread_follows, wrote_told}
use Rattle.take_run.proofs.streaming.OutsideStreams.take_stream.Goals as goal

pub messages-init : goal.messages-init
messages-init g c = record {
  following = starts_following _ _ _ (tells_of g.D.Disk.tells g.C.Clock.tells g.R.Repos.tells g.O.Sink.tells) _ (live_disk g.D.Disk.view (λ x. g.met.D.Disk.is_disk x) _ _ _) (λ given is. is);
  ready = c.requires.ready;
  side = refl;
  beside = refl;
  few = omega (arith, c.requires.new.messages);
  nothing = nothing_here _;
  steady = refl;
  stream = g.met.S.Stream.later_here c.args.stream.now;
  stream_ready = c.requires.stream_ready;
  later = search rules;
}

pub messages-preserved : goal.messages-preserved
messages-preserved g c = record {
  following = follows_on c.args.host.now _ _ (tells_of g.D.Disk.tells g.C.Clock.tells g.R.Repos.tells g.O.Sink.tells) _ _ c.messages.counter c.messages.invariant.following c.in-Ok-Some.message _ (rw c.in-Ok-Some.field-0-is at c.in-Ok-Some.ensures.next) _ c.in-Ok.ensures.taken;
  ready = c.in-Ok.ensures.ready;
  side = c.take_group.ensures.side ∙ c.messages.invariant.side;
  beside = beside_on _ _ c.messages.invariant.side _ _ _ _ _ _ c.messages.invariant.beside c.take_group.ensures.beside;
  few = omega (arith, c.in-Ok.ensures.count, c.messages.invariant.few);
  nothing = nothing_on _ _ _ c.messages.invariant.nothing c.in-Ok.ensures.part;
  steady = c.in-Ok-Some.ensures.counts.steady (done_not Status.Feed) ∙ c.messages.invariant.steady;
  stream = g.met.S.Stream.later_again c.args.stream.now c.messages.stream c.read_next.new.stream c.messages.invariant.stream c.read_next.ensures.later;
  stream_ready = c.in-Ok-Some.ensures.ready;
  later = search rules;
}

pub returns-in-Ok-None-clause-taken : goal.returns-in-Ok-None-clause-taken
returns-in-Ok-None-clause-taken g c = λ J of.
    follow_ends c.args.host.now _ _ (tells_of g.D.Disk.tells g.C.Clock.tells g.R.Repos.tells g.O.Sink.tells) _ _ c.messages.counter c.messages.invariant.following c.args.count c.messages.auto.counter-end J of c.requires.new.ended _ _ _ _ _ _ _ _ _ refl c.messages.invariant.nothing c.finish.result (finish_quiet c.finish.result c.finish.ensures.ends) _
    (λ left is. let next = (rw c.in-Ok-None.field-0-is at c.in-Ok-None.ensures.next) left is in (next.0, λ done. inr next.1))
    (λ X. wrote_told X ⊥ c.finish.result _ _ (only_output _ _ refl refl refl refl refl refl refl refl refl) c.finish.ensures.counts)
    (λ h. finish_written (tells_of g.D.Disk.tells g.C.Clock.tells g.R.Repos.tells g.O.Sink.tells) J _ _ _ h c.requires.new.messages c.requires.new.events c.requires.new.refused c.last_seq.result c.last_seq.ensures c.finish.result _ c.finish.ensures.written)

pub returns-in-Err-clause-taken : goal.returns-in-Err-clause-taken
returns-in-Err-clause-taken g c = λ J of.
    follow_ends c.args.host.now _ _ (tells_of g.D.Disk.tells g.C.Clock.tells g.R.Repos.tells g.O.Sink.tells) _ _ c.messages.counter c.messages.invariant.following c.args.count c.messages.auto.counter-end J of c.requires.new.ended _ _ _ _ _ _ _ _ _ refl c.messages.invariant.nothing c.in-Err.status (unread_quiet c.in-Err.status c.in-Err.ensures.unread) _
    (λ left is. (c.in-Err.ensures.kept left is, λ done. absurd (subst IsUnread done c.in-Err.ensures.unread)))
    (λ X. nothing_told X ⊥ c.in-Err.status _ _ (nothing_here _))
    (λ h told. unread_written c.in-Err.status _ _ _ _ c.in-Err.ensures.unread (h.written told))

pub returns-in-Err-take_group-clause-taken : goal.returns-in-Err-take_group-clause-taken
returns-in-Err-take_group-clause-taken g c = λ J of.
    follow_stops c.args.host.now _ _ (tells_of g.D.Disk.tells g.C.Clock.tells g.R.Repos.tells g.O.Sink.tells) _ _ c.messages.counter c.messages.invariant.following c.in-Ok-Some.message _ (rw c.in-Ok-Some.field-0-is at c.in-Ok-Some.ensures.next) c.args.count c.messages-test.true J of c.requires.new.ended c.messages.invariant.nothing _
    c.in-Err-take_group.status c.in-Err-take_group.ensures.part.0 c.in-Err-take_group.ensures.taken

pub returns-clause-taken : goal.returns-clause-taken
returns-clause-taken g c = λ J of.
    follow_ends c.args.host.now _ _ (tells_of g.D.Disk.tells g.C.Clock.tells g.R.Repos.tells g.O.Sink.tells) _ _ c.messages.counter c.messages.invariant.following c.args.count c.messages.auto.counter-end J of c.requires.new.ended _ _ _ _ _ _ _ _ _ refl c.messages.invariant.nothing c.finish-2.result (finish_quiet c.finish-2.result c.finish-2.ensures.ends) _
    (λ left is. (is, λ done. inl (omega (arith, c.messages-test.false, c.messages.auto.counter-end))))
    (λ X. wrote_told X ⊥ c.finish-2.result _ _ (only_output _ _ refl refl refl refl refl refl refl refl refl) c.finish-2.ensures.counts)
    (λ h. finish_written (tells_of g.D.Disk.tells g.C.Clock.tells g.R.Repos.tells g.O.Sink.tells) J _ _ _ h c.requires.new.messages c.requires.new.events c.requires.new.refused c.last_seq-2.result c.last_seq-2.ensures c.finish-2.result _ c.finish-2.ensures.written)

pub returns-in-Ok-None-clause-may : goal.returns-in-Ok-None-clause-may
returns-in-Ok-None-clause-may g c = finish_follows c.finish.result c.finish.ensures.ends

pub returns-in-Err-clause-may : goal.returns-in-Err-clause-may
returns-in-Err-clause-may g c = unread_follows c.in-Err.status c.in-Err.ensures.unread

pub returns-in-Err-take_group-clause-may : goal.returns-in-Err-take_group-clause-may
returns-in-Err-take_group-clause-may g c = stop_follows c.in-Err-take_group.status c.in-Err-take_group.ensures.part.0

pub returns-clause-may : goal.returns-clause-may
returns-clause-may g c = finish_follows c.finish-2.result c.finish-2.ensures.ends

pub returns-in-Ok-None-clause-faults : goal.returns-in-Ok-None-clause-faults
returns-in-Ok-None-clause-faults g c =
    faults_on ⊥ c.finish.result _ _ _ (feed_still _ _ _ _ c.messages.invariant.nothing (c.in-Ok-None.ensures.counts.steady (done_not Status.Feed) ∙ c.messages.invariant.steady))
    (finish_faults ⊥ c.finish.result _ _ c.finish.ensures.ends (only_output _ _ refl refl refl refl refl refl refl refl refl) c.finish.ensures.counts)

pub returns-in-Err-clause-faults : goal.returns-in-Err-clause-faults
returns-in-Err-clause-faults g c =
    faults_on ⊥ c.in-Err.status _ _ _ (feed_still _ _ _ _ c.messages.invariant.nothing c.messages.invariant.steady)
    (unread_faults c.in-Err.status (place_of g.D.Disk.view g.P.Judges.panel g.C.Clock.moments g.R.Repos.repository g.O.Sink.written g.R.Repos.faults g.C.Clock.faults g.O.Sink.faults c.messages.self) _ _ c.in-Err.ensures.unread (counted_status c.in-Err.status Status.Feed _ _ c.in-Err.ensures.counts))

pub returns-in-Err-take_group-clause-faults : goal.returns-in-Err-take_group-clause-faults
returns-in-Err-take_group-clause-faults g c =
    stop_with_feed c.in-Err-take_group.status _ _ _ _ c.in-Err-take_group.ensures.part.0 (c.in-Ok-Some.ensures.counts.steady (done_not Status.Feed) ∙ c.messages.invariant.steady)
    (faults_on ⊥ c.in-Err-take_group.status _ _ _ c.messages.invariant.nothing c.in-Err-take_group.ensures.part.1)

pub returns-clause-faults : goal.returns-clause-faults
returns-clause-faults g c =
    faults_on ⊥ c.finish-2.result _ _ _ (feed_still _ _ _ _ c.messages.invariant.nothing c.messages.invariant.steady)
    (finish_faults ⊥ c.finish-2.result _ _ c.finish-2.ensures.ends (only_output _ _ refl refl refl refl refl refl refl refl refl) c.finish-2.ensures.counts)

pub returns-in-Err-take_group-clause-beside : goal.returns-in-Err-take_group-clause-beside
returns-in-Err-take_group-clause-beside g c = beside_on _ _ c.messages.invariant.side _ _ _ _ _ _ c.messages.invariant.beside c.take_group.ensures.beside

pub returns-in-Ok-None-clause-stream : goal.returns-in-Ok-None-clause-stream
returns-in-Ok-None-clause-stream g c = g.met.S.Stream.later_again c.args.stream.now c.messages.stream c.read_next.new.stream c.messages.invariant.stream c.read_next.ensures.later

pub returns-in-Err-clause-stream : goal.returns-in-Err-clause-stream
returns-in-Err-clause-stream g c = g.met.S.Stream.later_again c.args.stream.now c.messages.stream c.read_next.new.stream c.messages.invariant.stream c.read_next.ensures.later

pub returns-in-Err-take_group-clause-stream : goal.returns-in-Err-take_group-clause-stream
returns-in-Err-take_group-clause-stream g c = g.met.S.Stream.later_again c.args.stream.now c.messages.stream c.read_next.new.stream c.messages.invariant.stream c.read_next.ensures.later

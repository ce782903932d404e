use Rattle.std.proofs.Common.{◌∙◌, ℕ, inr, refl, sym, ap, subst, arith, rules}
use Rattle.relay_core.specs.Entries.{cursor_in}
use Rattle.relay_core.specs.declared.journal_state.Core.{Core}
use Rattle.relay_step.proofs.Taken.{cursor_tells}
use Rattle.run_base.specs.Place.{place_of, tells_of, with_feed}
use Rattle.run_base.specs.declared.status.Status.{Status}
use Rattle.take_run.specs.Ends.{FaultsTold}
use Rattle.take_run.proofs.FeedSteps.{follow_ends, left_same, starts_following, stream_as, value_at}
use Rattle.take_run.proofs.Groups.{live_disk}
use Rattle.take_run.proofs.Telling.{faults_on, feed_still, nothing_here, nothing_told, unread_faults}
use Rattle.take_run.proofs.streaming.OutsideStreams.take_feed.Goals as goal

pub returns-in-Err-clause-taken : goal.returns-in-Err-clause-taken
returns-in-Err-clause-taken g c = λ J of.
    follow_ends c.args.host.now _ _ (tells_of g.D.Disk.tells g.C.Clock.tells g.R.Repos.tells g.O.Sink.tells) _ _ 0 (starts_following c.args.host.now _ _ (tells_of g.D.Disk.tells g.C.Clock.tells g.R.Repos.tells g.O.Sink.tells) _ (live_disk g.D.Disk.view (λ x. g.met.D.Disk.is_disk x) _ _ _) (λ given is. is)) c.args.count (omega arith) J of c.requires.new.ended _ _ _ _ _ _ _ _ _ refl (nothing_here _)
    Status.Feed tt _ (λ left is. (inr (c.in-Err.ensures.closed is.0), λ done. absurd cc)) (λ X. nothing_told X ⊥ Status.Feed _ _ (nothing_here _)) (λ h told. h.written told)

pub returns-in-Err-clause-faults : goal.returns-in-Err-clause-faults
returns-in-Err-clause-faults g c = unread_faults Status.Feed (place_of g.D.Disk.view g.P.Judges.panel g.C.Clock.moments g.R.Repos.repository g.O.Sink.written g.R.Repos.faults g.C.Clock.faults g.O.Sink.faults c.args.self.now) _ _ tt (record { rose = λ _. c.in-Err.ensures.failed; steady = λ not. absurd (not refl); kept = c.open.ensures.counts })

pub returns-clause-taken : goal.returns-clause-taken
returns-clause-taken g c = λ J of.
    let cursor_is = c.cursor.ensures ∙ ap (λ (k : Core). cursor_in k c.args.host.now) c.core.ensures ∙ cursor_tells c.args.run.now.store.core J of.holds c.args.host.now in
    stream_as (tells_of g.D.Disk.tells g.C.Clock.tells g.R.Repos.tells g.O.Sink.tells) c.args.host.now c.args.count J _ _ _ _ _ _ c.take_stream.result
    (λ given is. (is.0, is.1 ∙ sym (c.in-Ok.ensures.opened is.0 ∙ ap (λ (n : ℕ). g.F.Feed.behind c.args.feed.now c.args.host.now n) cursor_is)))
    (λ rest is. left_same c.take_stream.result _ rest (sym (is.1 ∙ value_at g.F.Feed.left c.take_stream.new.stream.feed.now _ (search rules)))) (c.take_stream.ensures.taken J of)

pub returns-clause-faults : goal.returns-clause-faults
returns-clause-faults g c =
    subst (λ (n : ℕ). FaultsTold ⊥ (with_feed (g.F.Feed.faults c.args.feed.now) (place_of g.D.Disk.view g.P.Judges.panel g.C.Clock.moments g.R.Repos.repository g.O.Sink.written g.R.Repos.faults g.C.Clock.faults g.O.Sink.faults c.args.self.now)) (with_feed n (place_of g.D.Disk.view g.P.Judges.panel g.C.Clock.moments g.R.Repos.repository g.O.Sink.written g.R.Repos.faults g.C.Clock.faults g.O.Sink.faults c.take_stream.new.self)) c.take_stream.result)
    (value_at g.F.Feed.faults c.take_stream.new.stream.feed.now _ (search rules))
    (faults_on ⊥ c.take_stream.result _ _ _ (feed_still (place_of g.D.Disk.view g.P.Judges.panel g.C.Clock.moments g.R.Repos.repository g.O.Sink.written g.R.Repos.faults g.C.Clock.faults g.O.Sink.faults c.args.self.now) (place_of g.D.Disk.view g.P.Judges.panel g.C.Clock.moments g.R.Repos.repository g.O.Sink.written g.R.Repos.faults g.C.Clock.faults g.O.Sink.faults c.args.self.now) _ _ (nothing_here (place_of g.D.Disk.view g.P.Judges.panel g.C.Clock.moments g.R.Repos.repository g.O.Sink.written g.R.Repos.faults g.C.Clock.faults g.O.Sink.faults c.args.self.now)) c.in-Ok.ensures.steady) c.take_stream.ensures.faults)

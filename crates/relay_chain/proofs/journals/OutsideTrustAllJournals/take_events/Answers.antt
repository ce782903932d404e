use Rattle.std.proofs.Common.{◌∙◌, ℕ, Some, refl, sym, ap, subst, rules}
use Rattle.at_authority.specs.Trusting.{trusting}
use Rattle.backfill.specs.Served.{served}
use Rattle.relay_core.specs.Entries.{cursor_in}
use Rattle.relay_core.specs.declared.journal_state.Core.{Core}
use Rattle.relay_step.proofs.Taken.{cursor_tells}
use Rattle.at_cid.specs.Counts.{Counted}
use Rattle.run_base.specs.Place.{place_of, tells_of}
use Rattle.take_run.proofs.FeedSteps.{stream_as, value_at}
use Rattle.relay_chain.specs.Ends.{ChainTold}
use Rattle.relay_chain.specs.declared.journals.TheConstants.{MOST_SERVED}
use Rattle.relay_chain.proofs.Telling.{reading_as, reading_may, reading_told}
use Rattle.relay_chain.proofs.journals.OutsideTrustAllJournals.take_events.Goals as goal

pub returns-clause-taken : goal.returns-clause-taken
returns-clause-taken g c = λ told held holds J of.
    let place = place_of g.S.Disk.view (λ _ _. trusting) g.C.Clock.moments g.R.Repos.repository g.O.Sink.written g.R.Repos.faults g.C.Clock.faults g.O.Sink.faults in
    let cursor_is = c.cursor.ensures ∙ ap (λ (k : Core). cursor_in k c.args.host.now) c.core.ensures ∙ cursor_tells c.args.run.now.store.core J of.holds c.args.host.now in
    record {
      taking = c.take_stream-taking.result;
      is = reading_as g.E.Events.tells (place c.args.self.now) (place c.take_stream-taking.new.self) refl (g.E.Events.faults c.args.events.now) (g.E.Events.faults c.take_stream-taking.new.stream.events.now) told c.take_stream-taking.new.stream.fault c.take_stream-taking.result c.ended.result c.ended.ensures c.take_stream-taking.ensures.faults c.take_stream-taking.ensures.stream.2;
      taken = stream_as (tells_of g.S.Disk.tells g.C.Clock.tells g.R.Repos.tells g.O.Sink.tells) c.args.host.now MOST_SERVED J _ _ _ _ _ _ c.take_stream-taking.result
          (λ given is. (told, (held, holds, is ∙ sym (ap (λ (n : ℕ). served held (Some n)) cursor_is)))) (λ rest is. tt) (c.take_stream-taking.ensures.taken J of);
    }

pub returns-clause-may : goal.returns-clause-may
returns-clause-may g c =
    let place = place_of g.S.Disk.view (λ _ _. trusting) g.C.Clock.moments g.R.Repos.repository g.O.Sink.written g.R.Repos.faults g.C.Clock.faults g.O.Sink.faults in
    reading_may (place c.args.self.now) (place c.take_stream-taking.new.self) (λ name. refl) c.take_stream-taking.new.stream.fault c.take_stream-taking.result c.ended.result c.ended.ensures c.take_stream-taking.ensures.may c.take_stream-taking.ensures.faults.caused

pub returns-clause-told : goal.returns-clause-told
returns-clause-told g c =
    let place = place_of g.S.Disk.view (λ _ _. trusting) g.C.Clock.moments g.R.Repos.repository g.O.Sink.written g.R.Repos.faults g.C.Clock.faults g.O.Sink.faults in
    subst (λ (n : ℕ). ChainTold (λ failed. Counted failed (g.E.Events.faults c.args.events.now) n) (place c.args.self.now) (place c.take_stream-taking.new.self) c.ended.result)
    (value_at g.E.Events.faults c.take_stream-taking.new.stream.events.now _ (search rules))
    (reading_told g.E.Events.tells (place c.args.self.now) (place c.take_stream-taking.new.self) refl _ _ c.take_stream-taking.new.stream.fault c.take_stream-taking.result c.ended.result c.ended.ensures c.take_stream-taking.ensures.faults c.take_stream-taking.ensures.stream.2)

pub returns-clause-events : goal.returns-clause-events
returns-clause-events g c = subst (λ (x : g.row.E.Denot). g.E.Events.later c.args.events.now x) (search rules) c.take_stream-taking.ensures.stream.1

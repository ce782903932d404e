use Rattle.std.proofs.Common.{◌≡◌, ◌≤◌, ◌+◌, ℕ, List, ◌++◌, length, Err, sym, ap, subst, ◌∙◌, arith}
use Rattle.at_cid.specs.Link.{IsBytes}
use Rattle.at_cid.specs.Lengths.{length_prefixed}
use Rattle.relay_io.specs.declared.feed.TheConstants.{LONGEST_FEED_MESSAGE}
use Rattle.mirror_run.specs.Reading.{coming}
use Rattle.run_base.specs.declared.status.Status.{Status}
use Rattle.mirror_run.specs.Taking.{HasStopped, IsEarly, status_of_message}
use Rattle.mirror_run.proofs.Fronts.{length_frame}
use Rattle.mirror_run.proofs.Stopping.{message_early, message_stopped, no_read_fault, no_repos_fault, read_counted, repos_counted, same_error, stands, stream_early, stream_stopped}
use Rattle.mirror_run.proofs.Takings.{none_more, one_more, taken_more}
use Rattle.mirror_run.proofs.taking.take_stream.Goals as goal
use Rattle.mirror_run.proofs.taking.take_stream.Goals.{then-last-last_seq, else-last-last_seq}

pub returns-in-Err-clause-stopped : goal.returns-in-Err-clause-stopped
returns-in-Err-clause-stopped g c =
    subst (λ (s : Status). HasStopped g.I.Source.tells g.R.Repos.tells (g.R.Repos.repository c.args.repos.now) c.args.limit (g.I.Source.left c.args.input.now) s) (sym c.of_stream.ensures)
    (stream_stopped g.I.Source.tells g.R.Repos.tells (g.R.Repos.repository c.args.repos.now) c.args.limit (g.I.Source.left c.args.input.now) c.messages.reader c.next.new.self (g.I.Source.left c.messages.input) (g.I.Source.left c.next.new.source)
    c.place-place.result c.messages.mirror c.messages.events c.messages.invariant.taken c.place-place.ensures.value c.messages.invariant.most c.in-Err.fault (λ told. c.in-Err.ensures.next told))

pub returns-in-Err-take-clause-stopped : goal.returns-in-Err-take-clause-stopped
returns-in-Err-take-clause-stopped g c =
    let m : List ℕ = c.as_slice.result.now in
    let after : List ℕ = coming c.next.new.self (g.I.Source.left c.next.new.source) in
    let placed = rw c.in-Ok-Some.field-0-is at c.in-Ok-Some.ensures.placed in
    let short : length m ≤ LONGEST_FEED_MESSAGE = subst (λ (l : List ℕ). length l ≤ LONGEST_FEED_MESSAGE) (sym c.as_slice.ensures.value) placed.0 in
    subst (λ (s : Status). HasStopped g.I.Source.tells g.R.Repos.tells (g.R.Repos.repository c.args.repos.now) c.args.limit (g.I.Source.left c.args.input.now) s) (sym (c.of_message.ensures ∙ ap (λ n. status_of_message c.in-Err-take.fault n) c.place-place.ensures.value))
    (message_stopped g.I.Source.tells g.R.Repos.tells (g.R.Repos.repository c.args.repos.now) c.args.limit (g.I.Source.left c.args.input.now) (coming c.messages.reader (g.I.Source.left c.messages.input)) c.messages.reader.place
    c.messages.mirror c.messages.events c.messages.invariant.taken c.in-Err-take.fault m after short
    (λ told. (rw c.in-Ok-Some.field-0-is at (c.in-Ok-Some.ensures.next told)) ∙ ap (λ (l : List ℕ). length_prefixed l ++ after) (sym c.as_slice.ensures.value))
    (λ is. c.in-Err-take.ensures.bad (ap Err is)))

pub messages-preserved : goal.messages-preserved
messages-preserved g c =
    let m : List ℕ = c.as_slice.result.now in
    let after : List ℕ = coming c.next.new.self (g.I.Source.left c.next.new.source) in
    let placed = rw c.in-Ok-Some.field-0-is at c.in-Ok-Some.ensures.placed in
    let short : length m ≤ LONGEST_FEED_MESSAGE = subst (λ (l : List ℕ). length l ≤ LONGEST_FEED_MESSAGE) (sym c.as_slice.ensures.value) placed.0 in
    let place_is : c.next.new.self.place ≡ c.messages.reader.place + length (length_prefixed m) =
    placed.1 ∙ ap (λ (l : List ℕ). c.messages.reader.place + length (length_prefixed l)) (sym c.as_slice.ensures.value) in
    record {
      taken = taken_more g.I.Source.tells g.R.Repos.tells (g.R.Repos.repository c.args.repos.now) (g.R.Repos.repository c.messages.repos) (g.I.Source.left c.args.input.now)
          (coming c.messages.reader (g.I.Source.left c.messages.input)) after c.messages.reader.place c.next.new.self.place c.messages.mirror c.take.new.self c.messages.events c.if-last-last_seq.events m c.in-Ok.field-0
          c.messages.invariant.taken
          (λ told. (rw c.in-Ok-Some.field-0-is at (c.in-Ok-Some.ensures.next told)) ∙ ap (λ (l : List ℕ). length_prefixed l ++ after) (sym c.as_slice.ensures.value))
          short (subst IsBytes (sym c.as_slice.ensures.value) c.as_slice.ensures.bytes) place_is c.in-Ok.ensures.taken c.messages.invariant.repositories
          (elim c.if-last-last_seq.branch [
            | then-last-last_seq w ↦
                omega (arith, w.events-is, one_more c.messages.mirror.last c.take.new.self.last (omega (arith, w.if-last-last_seq.true, c.last_seq-last.ensures, c.last_seq.ensures)))
            | else-last-last_seq w ↦
                omega (arith, w.events-is, none_more c.messages.mirror.last c.take.new.self.last (omega (arith, w.if-last-last_seq.false, c.last_seq-last.ensures, c.last_seq.ensures)))
          ]);
      most = c.in-Ok-Some.ensures.most ∙ c.messages.invariant.most;
      few = elim c.if-last-last_seq.branch [
        | then-last-last_seq w ↦ omega (arith, w.events-is, c.messages.invariant.few, place_is, length_frame m)
        | else-last-last_seq w ↦ omega (arith, w.events-is, c.messages.invariant.few, place_is, length_frame m)
      ];
      repositories = λ told did. c.in-Ok.ensures.repositories told did ∙ c.messages.invariant.repositories told did;
      input = c.in-Ok-Some.ensures.counts.steady (λ is. absurd cc) ∙ c.messages.invariant.input;
      repos = c.in-Ok.ensures.steady (λ is. absurd cc) ∙ c.messages.invariant.repos;
    }

pub returns-in-Err-clause-early : goal.returns-in-Err-clause-early
returns-in-Err-clause-early g c = subst IsEarly (sym c.of_stream.ensures) (stream_early c.in-Err.fault c.place-place.result)

pub returns-in-Err-take-clause-early : goal.returns-in-Err-take-clause-early
returns-in-Err-take-clause-early g c = subst IsEarly (sym c.of_message.ensures) (message_early c.in-Err-take.fault c.place-place.result)

pub returns-in-Err-clause-input : goal.returns-in-Err-clause-input
returns-in-Err-clause-input g c = read_counted c.in-Err.fault c.place-place.result c.of_stream.result _ _ _ c.of_stream.ensures c.messages.invariant.input c.in-Err.ensures.counts

pub returns-in-Err-clause-repos : goal.returns-in-Err-clause-repos
returns-in-Err-clause-repos g c = stands _ _ _ c.messages.invariant.repos (λ told. no_repos_fault c.in-Err.fault c.place-place.result (sym c.of_stream.ensures ∙ same_error c.of_stream.result Status.Repos told))

pub returns-in-Err-take-clause-input : goal.returns-in-Err-take-clause-input
returns-in-Err-take-clause-input g c =
    stands _ _ _ (c.in-Ok-Some.ensures.counts.steady (λ is. absurd cc) ∙ c.messages.invariant.input)
    (λ told. no_read_fault c.in-Err-take.fault c.place-place.result (sym c.of_message.ensures ∙ same_error c.of_message.result Status.ReadFault told))

pub returns-in-Err-take-clause-repos : goal.returns-in-Err-take-clause-repos
returns-in-Err-take-clause-repos g c =
    repos_counted c.in-Err-take.fault c.place-place.result c.of_message.result _ _ _ c.of_message.ensures c.messages.invariant.repos
    (record { rose = c.in-Err-take.ensures.failed; steady = c.in-Err-take.ensures.steady; kept = c.in-Err-take.ensures.counts })

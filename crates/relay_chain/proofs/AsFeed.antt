-- What a relay behind a relay does, from what following a feed does that gives what the first one serves.
use Rattle.std.proofs.Common.{◌≡◌, ◌≢◌, ◌⊎◌, inl, inr, ⊎_elim, ◌∙◌, ℕ, true, List, [], ◌∷◌, ◌++◌, map, Some, refl, sym, ap, subst, append-nil}
use Rattle.std.specs.List.{AllByRecursion}
use Rattle.at_cid.specs.Link.{IsBytes}
use Rattle.at_authority.specs.Panels.{Panel}
use Rattle.backfill.specs.Served.{served}
use Rattle.relay_row.specs.Folds.{cursor}
use Rattle.relay_row.specs.Journal.{IsJournal}
use Rattle.relay_row.specs.declared.row.Row.{Row}
use Rattle.relay_row.proofs.Journals.{fronts}
use Rattle.relay_core.specs.Decide.{Checks}
use Rattle.relay_core.specs.Opening.{OpensRight}
use Rattle.relay_core.specs.Runs.{Message as Read, Run, has_ended}
use Rattle.relay_law.specs.Calls.{as_read}
use Rattle.relay_law.specs.Faithful.{SendWhatTheyKeep}
use Rattle.relay_law.specs.Heads.{FetchesGive}
use Rattle.relay_law.specs.Laws.{AreEvents}
use Rattle.relay_law.specs.Right.{LinksRight}
use Rattle.relay_law.proofs.Choosing.{some_right}
use Rattle.relay_law.proofs.Giving.{runs_faithful}
use Rattle.relay_law.proofs.Sent.{sent_events}
use Rattle.relay_step.specs.Around.{AllAsked}
use Rattle.relay_step.specs.Steps.{Step, AreSteps, ended_by_all, message_of, messages, rows}
use Rattle.relay_step.proofs.Blocks.{steps_give}
use Rattle.relay_step.proofs.Steps.{steps_join, steps_run}
use Rattle.store_take.specs.Batches.{messages_sent}
use Rattle.relay_store.specs.Shown.{held_by}
use Rattle.store_take.specs.declared.message.Message.{Message}
use Rattle.store_take.proofs.Runs.{sent_joined}
use Rattle.run_base.specs.Place.{Place, Tells}
use Rattle.run_base.specs.declared.status.Status.{Status}
use Rattle.take_run.specs.Feeds.{AreOf, bytes_of_messages}
use Rattle.take_run.specs.Ingested.{Followed}
use Rattle.take_run.specs.Tapes.{AreRecords}
use Rattle.take_run.proofs.Joining.{journal_joined}
use Rattle.take_run.proofs.Records.{records_front}
use Rattle.take_run.proofs.Sounds.{fetched_front}
use Rattle.chain_law.specs.Trust.{Trusts}
use Rattle.chain_law.proofs.Trusting.{steps_show}
use Rattle.relay_chain.specs.Chained.{AccountsFollow, AccountsGoOn, AllTaken, Chained}
use Rattle.relay_chain.specs.declared.journals.TheConstants.{MOST_SERVED}
use Rattle.relay_chain.proofs.Again.{served_go_on}
use Rattle.relay_chain.proofs.Few.{not_as_many}
use Rattle.relay_chain.proofs.Serving.{served_follow}

-- ---- what the rows send out

abbrev pairs : List Step → List (List ℕ × List ℕ)
pairs steps = map (λ (s : Step). (s.host, s.bytes)) steps

pairs_read : (steps : List Step) → messages steps ≡ as_read (pairs steps)
pairs_read [] = refl
pairs_read (s ∷ steps) = ap (λ (l : List Read). message_of s ∷ l) (pairs_read steps)

pairs_bytes : (steps : List Step) → AreRecords (messages_sent steps) → AllByRecursion (λ (m : List ℕ × List ℕ). IsBytes m.1) (pairs steps)
pairs_bytes [] all = tt
pairs_bytes (s ∷ steps) all = (all.1, pairs_bytes steps all.2)

-- ---- what was followed

no_more : (steps under extra : List Step) → under ≡ [] → extra ≡ [] → steps ++ (under ++ extra) ≡ steps
no_more steps under extra none over = ap (λ (l : List Step). steps ++ (l ++ extra)) none ∙ ap (λ (l : List Step). steps ++ l) over ∙ append-nil steps

module _ (t : Tells) (host : List ℕ) (most : ℕ) (one two : List Row) (journal : IsJournal one) (left : List (List ℕ)) (old new : Place) (trusts : Trusts old.around.panel) (trusts_still : Trusts new.around.panel) where
  abbrev pub given : ℕ → List (List ℕ)
  given n = served (held_by one) (Some n)

  abbrev pub FollowedTo : Status → Type 0
  FollowedTo taking = Followed t true host most MOST_SERVED two old new given left taking

  run : (taking : Status) (f : FollowedTo taking) (checks : Checks) → OpensRight checks → LinksRight checks → Run checks two (messages f.taken.steps) (rows f.taken.steps)
  run taking f checks opens links = steps_run checks two [] f.taken.steps ((steps_join checks two [] f.taken.steps (f.taken.under ++ f.taken.extra)).0 (f.taken.are checks opens links)).0

  sends : (taking : Status) (f : FollowedTo taking) → SendWhatTheyKeep two (rows f.taken.steps)
  sends taking f =
      let steps = f.taken.steps in
      let over = f.taken.under ++ f.taken.extra in
      let all : AreRecords (messages_sent (steps ++ over)) = records_front (messages_sent (steps ++ over)) f.taken.behind f.took.records in
      let records : AreRecords (messages_sent steps) = records_front (messages_sent steps) (messages_sent over) (subst AreRecords (sent_joined steps over) all) in
      let are : AreEvents (messages steps) = subst AreEvents (sym (pairs_read steps)) (sent_events (pairs steps) (pairs_bytes steps records)) in
      let whole : IsJournal ((two ++ rows steps) ++ rows over) = subst IsJournal (sym (journal_joined two steps over)) f.taken.journal in
      let given : FetchesGive (rows steps) = fetched_front steps over (steps_give t.clock t.repos two old.around f.taken.mid (steps ++ over) f.taken.journal f.taken.asked) in
      runs_faithful some_right.0 some_right.1 some_right.2 two (messages steps) (rows steps) are (fronts (two ++ rows steps) (rows over) whole) given (run taking f some_right.0 some_right.1 some_right.2)

  -- where it is done
  module _ (f : FollowedTo Status.Done) where
    abbrev steps : List Step
    steps = f.taken.steps

    same : steps ++ (f.taken.under ++ f.taken.extra) ≡ steps
    same = no_more steps f.taken.under f.taken.extra (f.taken.which_under (λ is. let no : ⊥ = cc in no)) (f.taken.which_extra (λ no. no))

    are : (checks : Checks) → OpensRight checks → LinksRight checks → AreSteps checks two [] steps
    are checks opens links = subst (λ (l : List Step). AreSteps checks two [] l) same (f.taken.are checks opens links)

    sent : messages_sent (steps ++ (f.taken.under ++ f.taken.extra)) ++ f.taken.behind ≡ messages_sent steps
    sent = ap (λ (l : List Message). messages_sent (steps ++ (f.taken.under ++ f.taken.extra)) ++ l) (f.taken.all tt) ∙ append-nil _ ∙ ap messages_sent same

    hosts : AreOf host (messages_sent steps)
    hosts = subst (AreOf host) sent f.feed.hosts

    abbrev rest : List (List ℕ)
    rest = (f.feed.front (given (cursor host two)) (refl, refl)).0

    read : given (cursor host two) ≡ bytes_of_messages (messages_sent (steps ++ (f.taken.under ++ f.taken.extra)) ++ f.taken.behind) ++ rest
    read = (f.feed.front (given (cursor host two)) (refl, refl)).2

    front : given (cursor host two) ≡ bytes_of_messages (messages_sent steps) ++ rest
    front = read ∙ ap (λ (l : List Message). bytes_of_messages l ++ rest) sent

    over : (rest ≡ []) ⊎ (has_ended (ended_by_all steps []) host ≡ true)
    over = ⊎_elim (λ many. absurd (not_as_many one (cursor host two) (steps ++ (f.taken.under ++ f.taken.extra)) f.taken.behind rest journal read many))
        (λ ended. ⊎_elim (λ none. inl none) (λ is. inr (sym (ap (λ (l : List Step). has_ended (ended_by_all l []) host) same) ∙ is)) ended) ((f.feed.front (given (cursor host two)) (refl, refl)).3 refl)

    all_taken : AllTaken host (given (cursor host two)) steps
    all_taken = ⊎_elim (λ none. inl (front ∙ ap (λ (l : List (List ℕ)). bytes_of_messages (messages_sent steps) ++ l) none ∙ append-nil (bytes_of_messages (messages_sent steps)))) (λ is. inr (rest, front, is)) over

    asked : AllAsked t.clock t.repos two old.around steps f.taken.mid
    asked = subst (λ (l : List Step). AllAsked t.clock t.repos two old.around l f.taken.mid) same f.taken.asked

    trusts_behind : Trusts f.taken.mid.panel
    trusts_behind name = ap (λ (p : Panel). p name) (sym (f.taken.still tt).panel) ∙ trusts_still name

    follows : AccountsFollow host one two (rows steps)
    follows checks opens links made new_to did could =
        served_follow checks opens links one two host did steps rest journal made new_to (are checks opens links) hosts front over
        (steps_show checks opens t.clock t.repos two [] old.around f.taken.mid steps (are checks opens links) asked trusts trusts_behind) could

    goes_on : host ≢ [] → AccountsGoOn host one two (rows steps)
    goes_on some checks opens links made front_rows more whole did had could =
        served_go_on checks opens links one front_rows more two whole host did some steps rest journal made (are checks opens links) hosts front over
        (steps_show checks opens t.clock t.repos two [] old.around f.taken.mid steps (are checks opens links) asked trusts trusts_behind) had could

  all_of : (taking : Status) (f : FollowedTo taking) → taking ≡ Status.Done → AllTaken host (given (cursor host two)) f.taken.steps
  all_of Status.Done f is = all_taken f
  all_of taking f is = absurd cc

  law_of : (taking : Status) (f : FollowedTo taking) → taking ≡ Status.Done → AccountsFollow host one two (rows f.taken.steps)
  law_of Status.Done f is = follows f
  law_of taking f is = absurd cc

  again_of : (taking : Status) (f : FollowedTo taking) → taking ≡ Status.Done → host ≢ [] → AccountsGoOn host one two (rows f.taken.steps)
  again_of Status.Done f is = goes_on f
  again_of taking f is = absurd cc

  pub chained : (taking : Status) → FollowedTo taking → Chained t host most one two old new taking
  chained taking f = record { left = left; followed = f; run = run taking f; all = all_of taking f; sends = sends taking f; law = law_of taking f; again = again_of taking f }

-- A journal stays sound and faithful with the rows of steps, and a covered commit gets through.
use Rattle.std.proofs.Common.{◌≡◌, ℕ, ◌+◌, ◌<◌, true, false, List, [], ◌∷◌, ◌++◌, map, Option, Some, None, Result, Ok, refl, ap, ◌∙◌, sym, subst, arith}
use Rattle.std.specs.Prelude.{if◌then◌else◌, nat_le, nat_lt}
use Rattle.std.specs.List.{AllByRecursion}
use Rattle.std.proofs.lemmas.Bool.Decides.{nat_tests}
use Rattle.at_cid.specs.Link.{IsBytes}
use Rattle.at_event.specs.Events.{IsEvent}
use Rattle.at_event.specs.Frames.{frame_of}
use Rattle.at_event.specs.Seen.{Seen}
use Rattle.at_event.specs.declared.event.Body.{Body}
use Rattle.at_event.specs.declared.event.CommitEvent.{CommitEvent}
use Rattle.at_event.specs.declared.frame.Frame.{Frame}
use Rattle.at_event.specs.declared.frame.FrameFault.{FrameFault}
use Rattle.at_event.specs.declared.refusal.Refusal.{Refusal}
use Rattle.at_event.proofs.Formed.{frames_events}
use Rattle.relay_row.specs.Folds.{cursor, last_seq}
use Rattle.relay_row.specs.Journal.{IsJournal}
use Rattle.relay_row.specs.declared.row.Row.{Row}
use Rattle.relay_row.specs.declared.taken.Taken.{Taken}
use Rattle.relay_row.proofs.Journals.{fronts}
use Rattle.account_state.specs.Folds.{account}
use Rattle.account_state.specs.State.{State}
use Rattle.relay_core.specs.Answering.{answers, decision_for, event_taken, goes_out}
use Rattle.relay_core.specs.Decide.{Checks, Found, decided, decided_event, old_if, refusal_of, is_held}
use Rattle.relay_core.specs.Opening.{OpensRight}
use Rattle.relay_core.specs.Runs.{IsMadeBy, Message, Run, skipped_by}
use Rattle.relay_core.specs.Shown.{or_zero, shown, shows_home, shows_verdict}
use Rattle.relay_core.specs.declared.answers.Answers.{Answers}
use Rattle.relay_core.specs.declared.decision.Pass.{Pass}
use Rattle.relay_core.proofs.Agreeing.{decided_as}
use Rattle.relay_law.specs.Calls.{as_read}
use Rattle.relay_law.specs.Covered.{IsCovered}
use Rattle.relay_law.specs.Faithful.{IsFaithfulJournal}
use Rattle.relay_law.specs.Heads.{FetchesGive}
use Rattle.relay_law.specs.Laws.{IsRightRun}
use Rattle.relay_law.specs.Right.{LinksRight}
use Rattle.relay_law.specs.Sound.{IsSound}
use Rattle.relay_law.proofs.Choosing.{some_right}
use Rattle.relay_law.proofs.Completing.{covered_accepted}
use Rattle.relay_law.proofs.Sent.{stores_sound}
use Rattle.relay_law.proofs.Staying.{stay_faithful}
use Rattle.relay_step.specs.Steps.{Step, Decided, after_end, skipped, recorded, AreSteps, IsDecidedAs, ended_decided, message_of, messages, rows, rows_decided}
use Rattle.relay_step.proofs.Steps.{steps_join, steps_run}
use Rattle.store_take.specs.Batches.{messages_sent}
use Rattle.store_take.proofs.Runs.{sent_joined}
use Rattle.take_run.specs.Covered.{CoveredGetThrough, GetsThrough, IsGood}
use Rattle.take_run.specs.Tapes.{AreRecords}
use Rattle.take_run.proofs.Counts.{same_taken}
use Rattle.take_run.proofs.Joining.{journal_joined}
use Rattle.take_run.proofs.Records.{records_front}

-- ---- sound and faithful journals

abbrev pairs : List Step → List (List ℕ × List ℕ)
pairs steps = map (λ (s : Step). (s.host, s.bytes)) steps

pairs_read : (steps : List Step) → messages steps ≡ as_read (pairs steps)
pairs_read [] = refl
pairs_read (s ∷ steps) = ap (λ (l : List Message). message_of s ∷ l) (pairs_read steps)

pairs_bytes : (steps : List Step) → AreRecords (messages_sent steps) → AllByRecursion (λ (m : List ℕ × List ℕ). IsBytes m.1) (pairs steps)
pairs_bytes [] all = tt
pairs_bytes (s ∷ steps) all = (all.1, pairs_bytes steps all.2)

-- the rows of steps are those of a run, whatever the checks that open and link rightly
record IsRun (J : List Row) (steps : List Step) : Type 0 where
  bytes : AllByRecursion (λ (m : List ℕ × List ℕ). IsBytes m.1) (pairs steps)
  journal : IsJournal (J ++ rows steps)
  run : IsRightRun J (pairs steps) (rows steps)

abbrev AllAre : List Row → List Step → Type 0
AllAre J steps = (checks : Checks) → OpensRight checks → LinksRight checks → AreSteps checks J [] steps

in_front : (J : List Row) (steps : List Step) → AreRecords (messages_sent steps) → IsJournal (J ++ rows steps) → AllAre J steps
    → (front others : List Step) → steps ≡ front ++ others → IsRun J front
in_front J steps all journal are front others split =
    let records : AreRecords (messages_sent front) = records_front (messages_sent front) (messages_sent others) (subst AreRecords (ap messages_sent split ∙ sent_joined front others) all) in
    let behind : IsJournal ((J ++ rows front) ++ rows others) = subst IsJournal (ap (λ (l : List Step). J ++ rows l) split ∙ sym (journal_joined J front others)) journal in
    record {
      bytes = pairs_bytes front records;
      journal = fronts (J ++ rows front) (rows others) behind;
      run = λ checks opens links.
          subst (λ (ms : List Message). Run checks J ms (rows front)) (pairs_read front)
          (steps_run checks J [] front ((steps_join checks J [] front others).0 (subst (λ (l : List Step). AreSteps checks J [] l) split (are checks opens links))).0);
    }

pub sounds : (J : List Row) (steps : List Step) → AreRecords (messages_sent steps) → IsJournal (J ++ rows steps) → AllAre J steps
    → (front others : List Step) → steps ≡ front ++ others → IsSound J → IsSound (J ++ rows front)
sounds J steps all journal are front others split sound =
    let is = in_front J steps all journal are front others split in
    stores_sound J (pairs front) (rows front) is.bytes is.journal sound is.run

-- what was fetched for the steps in front
pub fetched_front : (steps others : List Step) → FetchesGive (rows (steps ++ others)) → FetchesGive (rows steps)
fetched_front [] others h = tt
fetched_front (s ∷ steps) others h = decided_front s.decided (rows (steps ++ others)) (rows steps) h (fetched_front steps others)
  where
    decided_front : (told : Decided) (all front : List Row) → FetchesGive (rows_decided told ++ all) → (FetchesGive all → FetchesGive front) → FetchesGive (rows_decided told ++ front)
    decided_front after_end all front h on = on h
    decided_front (skipped pass) all front h on = on h
    decided_front (recorded t) all front h on = (h.0, on h.1)

pub stays_faithful : (J : List Row) (steps : List Step) → AreRecords (messages_sent steps) → IsJournal (J ++ rows steps) → AllAre J steps → FetchesGive (rows steps)
    → (front others : List Step) → steps ≡ front ++ others → IsFaithfulJournal J → IsFaithfulJournal (J ++ rows front)
stays_faithful J steps all journal are gives front others split faithful =
    let is = in_front J steps all journal are front others split in
    let given : FetchesGive (rows front) = fetched_front front others (subst (λ (l : List Step). FetchesGive (rows l)) split gives) in
    stay_faithful.run J (pairs front) (rows front) faithful is.bytes is.journal given is.run

-- ---- covered commits

skipped_no_more : (n m : ℕ) (pass : Pass) → nat_lt n m ≡ true → old_if (nat_le m n) ≡ Some pass → ⊥
skipped_no_more n m pass above is =
    let below : n < m = grind (arith, nat_tests) in
    let not : nat_le m n ≡ false = grind (arith, nat_tests) in
    let none : None ≡ Some pass = ap old_if (sym not) ∙ is in
    let no : ⊥ = cc in no

good_by : (last : ℕ) (t : Taken) (r : Option Refusal) → r ≡ (if shows_home r then (if shows_verdict r then None else Some Refusal.BadSignature) else Some Refusal.NotHome) → (r ≡ None → t.seq ≡ last + 1) → IsGood last t r
good_by last t None is seq = seq refl
good_by last t (Some Refusal.NotHome) is seq = tt
good_by last t (Some Refusal.BadSignature) is seq = tt
good_by last t (Some r) is seq = let no : ⊥ = cc in absurd no

-- an accepted commit goes out under the next number
commit_seq : (last : ℕ) (host : List ℕ) (e : Seen) (c : CommitEvent) (a : State) (f : Found) (q : Option Refusal) (x : Answers) (t : Taken) → e.body ≡ Body.Commit c → event_taken last host e (decision_for a e.body f q) x ≡ t → t.refusal ≡ None
    → t.seq ≡ last + 1
commit_seq last host e c a f None x t body is none = ap (λ (s : Taken). s.seq) (sym is) ∙ ap (λ (b : Body). if goes_out None (is_held a b) then last + 1 else 0) body
commit_seq last host e c a f (Some r) x t body is none =
    let some : Some r ≡ t.refusal = ap (λ (s : Taken). s.refusal) is in
    let no : ⊥ = cc in absurd no

module _ (checks : Checks) (opens : OpensRight checks) (links : LinksRight checks) where
  made_good : (J : List Row) (host : List ℕ) (e : Seen) (t : Taken) → IsEvent e → decided checks (last_seq J) (account e.did J) host (Frame.Event e) (shown t) ≡ Some t → (moment : ℕ) → t.moment ≡ Some moment → IsCovered J host e moment
      → IsGood (last_seq J) t t.refusal
  made_good J host e t read made moment moment_is covered =
      let a = account e.did J in
      let o = shown t in
      let now : IsCovered J host e o.moment = subst (λ (m : Option ℕ). IsCovered J host e (or_zero m)) (sym moment_is) covered in
      good_by (last_seq J) t t.refusal (covered_accepted checks opens links J host e o t read now made)
      (commit_seq (last_seq J) host e covered.commit a o.fetched (refusal_of checks a e o) (answers checks (last_seq J) a e o) t covered.body (sym (decided_as checks (last_seq J) a host e o) ∙ same_taken (decided_event checks (last_seq J) a host e o) t made))

  gets : (J : List Row) (ended : List (List ℕ)) (s : Step) (told : Decided) (e : Seen) → IsDecidedAs checks J ended (message_of s) told → IsEvent e → frame_of s.bytes ≡ Ok (Frame.Event e) → GetsThrough J s.host e told
  gets J ended s after_end e h read is = tt
  gets J ended s (skipped pass) e h read is = λ moment covered.
      skipped_no_more (cursor s.host J) e.seq pass covered.above (ap (λ (f : Result Frame FrameFault). skipped_by J (s.host, f)) (sym is) ∙ h.1)
  gets J ended s (recorded t) e h read is = λ moment moment_is covered.
      made_good J s.host e t read (subst (λ (f : Result Frame FrameFault). IsMadeBy checks J (s.host, f) (Row.Taken t)) is h.2) moment moment_is covered

  get_through : (J : List Row) (ended : List (List ℕ)) (steps : List Step) → AreRecords (messages_sent steps) → AreSteps checks J ended steps → CoveredGetThrough J steps
  get_through J ended [] all are = tt
  get_through J ended (s ∷ steps) all are = (
    λ e is. gets J ended s s.decided e are.0 (frames_events s.bytes e all.1 is) is,
    get_through (J ++ rows_decided s.decided) (ended_decided s.decided s.host ended) steps all.2 are.1,
  )

pub covered_get_through : (J : List Row) (ended : List (List ℕ)) (steps : List Step) → AreRecords (messages_sent steps) → ((checks : Checks) → OpensRight checks → LinksRight checks → AreSteps checks J ended steps) → CoveredGetThrough J steps
covered_get_through J ended steps all are = get_through some_right.0 some_right.1 some_right.2 J ended steps all (are some_right.0 some_right.1 some_right.2)

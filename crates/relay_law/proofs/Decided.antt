-- The row that is decided for answers to all questions is well formed and keeps the order of its journal.
use Rattle.std.proofs.Common.{◌≡◌, ℕ, ◌+◌, ◌<◌, Bool, true, false, [], ◌∷◌, ◌++◌, Option, Some, None, refl, sym, ap, subst}
use Rattle.std.specs.Prelude.{Result, Ok, Err, nat_le}
use Rattle.at_event.specs.Events.{IsEvent}
use Rattle.at_event.specs.Seen.{Seen}
use Rattle.at_event.specs.declared.event.Body.{Body}
use Rattle.at_event.specs.declared.frame.Frame.{Frame}
use Rattle.at_event.specs.declared.head.Head.{Head}
use Rattle.at_event.specs.declared.refusal.Refusal.{Refusal}
use Rattle.relay_row.specs.Folds.{cursor, last_seq, seq_in}
use Rattle.relay_row.specs.Journal.{IsJournal}
use Rattle.relay_row.specs.declared.fetched.Fetched.{Fetched}
use Rattle.at_cid.specs.declared.limits.TheConstants.{NUMBERS}
use Rattle.relay_row.specs.declared.row.Row.{Row}
use Rattle.relay_row.specs.declared.taken.Taken.{Taken}
use Rattle.account_state.specs.Folds.{account, last_rev}
use Rattle.account_state.specs.State.{State}
use Rattle.relay_core.specs.Answering.{answers, as_result, decision_for}
use Rattle.relay_core.specs.Decide.{Checks, Found, absent, unfit, found, Outside, decided_event, fetched_as, old_if, refusal_of, refusal_in}
use Rattle.relay_core.specs.Opening.{IsHeadOf, OpensRight, shown_alone}
use Rattle.relay_core.specs.Rows.{faulty_taken}
use Rattle.relay_core.specs.Table.{next_of}
use Rattle.relay_core.specs.declared.answers.Answers.{Answers}
use Rattle.relay_core.specs.declared.decision.Decision.{Decision}
use Rattle.relay_core.specs.declared.decision.Next.{Next}
use Rattle.relay_core.proofs.Agreeing.{next_decided, row_decided}
use Rattle.relay_law.specs.Formed.{AreAnswersTo, AreFormedFor, IsFetchedBehind, IsFormedFound, IsOpenedAs}
use Rattle.relay_law.specs.Laws.{DecidedRowsAreFormed}
use Rattle.relay_law.specs.Right.{LinksRight}
use Rattle.relay_law.proofs.Deciding.{made_formed}

-- what is right to say of an opening
opened_as : (body : Body) (last : Option ℕ) (answer : Result Head Refusal) → refusal_in answer ≡ shown_alone body last → ((head : Head) → answer ≡ Ok head → IsHeadOf body head) → IsOpenedAs body last answer
opened_as body last (Ok head) shown is = (sym shown, is head refl)
opened_as body last (Err r) shown is = sym shown

linked_is : (o : Option Refusal) (r : Refusal) → Some (as_result o) ≡ Some (Err r) → o ≡ Some r
linked_is None r h = absurd cc
linked_is (Some q) r h = let same : q ≡ r = cc in ap (λ (x : Refusal). Some x) same

found_behind : (last : ℕ) (e : Seen) (f : Found) → IsFormedFound last e.did e.time f → IsFetchedBehind last (fetched_as last e f)
found_behind last e absent h = tt
found_behind last e (unfit n) h = h
found_behind last e (found head records block) h = record { seq = refl; head = h.0; records = h.1; message = h.2 }

answers_right : (checks : Checks) → OpensRight checks → LinksRight checks → (last : ℕ) (a : State) (e : Seen) (o : Outside) → IsEvent e → AreFormedFor last (Frame.Event e) o → AreAnswersTo last a e (answers checks last a e o)
answers_right checks opens links last a e o read formed = record {
  moment = λ m is. let same : o.moment ≡ m = cc in subst (λ (n : ℕ). n < NUMBERS) same formed.0;
  opened = λ answer is.
      let same : checks.opens e (last_rev a.repo) ≡ answer = cc in
      let P : Result Head Refusal → Type 0 = λ y. IsOpenedAs e.body (last_rev a.repo) y in
      subst P same (opened_as e.body (last_rev a.repo) (checks.opens e (last_rev a.repo)) (opens.refusal e (last_rev a.repo)) (λ head. opens.head e (last_rev a.repo) head));
  linked = λ c h r body is. links.stops e c a.repo h r read body (linked_is (checks.links e a.repo) r is);
  fetched = λ f is.
      let same : fetched_as last e o.fetched ≡ f = cc in
      let P : Fetched → Type 0 = λ g. IsFetchedBehind last g in
      subst P same (found_behind last e o.fetched formed.1);
}

not_passed : (b : Bool) → old_if b ≡ None → b ≡ false
not_passed true h = absurd cc
not_passed false h = refl

taken_same : (s t : Taken) → Some s ≡ Some t → s ≡ t
taken_same s t h = cc

-- the answers to a bad event: its moment
moment_alone : ℕ → Answers
moment_alone m = record { moment = Some m; refreshed = false; home = None; opened = None; verdict = None; linked = None; fetched = None }

bad_event : Decision
bad_event = record { refusal = Some Refusal.BadEvent; held = false; gives = false }

faulty_next : (cursor seq m : ℕ) (a : State) → nat_le seq cursor ≡ false → next_of cursor a (Frame.Faulty seq) (moment_alone m) ≡ Next.Done bad_event
unfolding moment_alone bad_event
faulty_next cursor seq m a new = rw new refl

pub decided_formed : DecidedRowsAreFormed
unfolding moment_alone
decided_formed checks opens links J host (Frame.Event e) o t journal of_host read formed new is below =
    let n = last_seq J in
    let a = account e.did J in
    let P : Taken → Type 0 = λ s. seq_in (Row.Taken s) < NUMBERS → IsJournal (J ++ Row.Taken s ∷ []) in
    subst P (taken_same (decided_event checks n a host e o) t is) (made_formed J host (Frame.Event e) (answers checks n a e o) (decision_for a e.body o.fetched (refusal_of checks a e o)) (Row.Taken (decided_event checks n a host e o))
    journal of_host read (answers_right checks opens links n a e o read formed) (next_decided checks n (cursor host J) a e o (not_passed (nat_le e.seq (cursor host J)) new))
    (ap (λ (s : Taken). Some (Row.Taken s)) (row_decided checks n a host e o (refusal_of checks a e o)))) below
decided_formed checks opens links J host (Frame.Faulty seq) o t journal of_host read formed new is below =
    let P : Taken → Type 0 = λ s. seq_in (Row.Taken s) < NUMBERS → IsJournal (J ++ Row.Taken s ∷ []) in
    subst P (taken_same (faulty_taken host seq (Some o.moment)) t is) (made_formed J host (Frame.Faulty seq) (moment_alone o.moment) bad_event (Row.Taken (faulty_taken host seq (Some o.moment)))
    journal of_host read (λ m same. let is_it : o.moment ≡ m = cc in subst (λ (k : ℕ). k < NUMBERS) is_it formed)
    (faulty_next (cursor host J) seq o.moment (account [] J) (not_passed (nat_le seq (cursor host J)) new)) refl) below
decided_formed checks opens links J host Frame.Info o t journal of_host read formed new is below = absurd cc
decided_formed checks opens links J host Frame.Error o t journal of_host read formed new is below = absurd cc
decided_formed checks opens links J host Frame.Unknown o t journal of_host read formed new is below = absurd cc

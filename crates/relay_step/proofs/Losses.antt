-- An event whose refusal loses its account.
use Rattle.std.proofs.Common.{◌≡◌, ℕ, ◌+◌, ◌<◌, ◌≤◌, ◌⊎◌, inl, inr, ⊎_elim, Bool, true, false, cond, List, [], ◌∷◌, ◌++◌, length, Option, Some, None, Result, Ok, Err, refl, sym, ap, ◌∙◌, subst}
use Rattle.std.specs.Prelude.{IsTrue, IfOk, OnOk, nat_lt, option_map}
use Rattle.std.proofs.lemmas.Bool.{false≢true}
use Rattle.at_authority.specs.Calls.{Call, AreCalls}
use Rattle.at_authority.specs.Panels.{IsSpent, Panel}
use Rattle.at_authority.proofs.Runs.{join}
use Rattle.at_event.specs.Refusals.{code_of}
use Rattle.at_event.specs.Seen.{Seen}
use Rattle.at_event.specs.Writing.{out_length}
use Rattle.at_event.specs.declared.event.Body.{Body}
use Rattle.at_event.specs.declared.frame.Frame.{Frame}
use Rattle.at_event.specs.declared.head.Head.{Head}
use Rattle.at_event.specs.declared.refusal.Refusal.{Refusal}
use Rattle.at_syntax.specs.Did.{is_did, method_of}
use Rattle.relay_row.specs.Folds.{seq_in}
use Rattle.relay_row.specs.Rules.{loses}
use Rattle.relay_row.specs.declared.fetched.Fetched.{Fetched}
use Rattle.at_cid.specs.declared.limits.TheConstants.{NUMBERS}
use Rattle.relay_row.specs.declared.row.Row.{Row}
use Rattle.account_state.specs.State.{State}
use Rattle.relay_core.specs.Answering.{event_taken, goes_out}
use Rattle.relay_core.specs.Decide.{Found, absent, unfit, found, fetched_as, is_found, when}
use Rattle.relay_core.specs.Entries.{account_in, cursor_in}
use Rattle.relay_core.specs.Sending.{CanBeSent, IsSendable}
use Rattle.relay_core.specs.Table.{TableLine, asked, told, moment_line, Walk, refuses, walk, body_lines, event_lines, next_at, next_of, after_fetch}
use Rattle.relay_core.specs.declared.answers.Answers.{Answers}
use Rattle.relay_core.specs.declared.answers.Question.{Question}
use Rattle.relay_core.specs.declared.decision.Decision.{Decision}
use Rattle.relay_core.specs.declared.decision.Next.{Next}
use Rattle.relay_core.specs.declared.decision.Pass.{Pass}
use Rattle.relay_core.specs.declared.journal_state.Core.{Core}
use Rattle.relay_core.specs.declared.limits.TheConstants.{LONGEST_MESSAGE}
use Rattle.relay_law.specs.Formed.{AreAnswersTo, IsFetchedBehind}
use Rattle.relay_step.specs.Fetches.{IsSent, MayBeKept, made_of}
use Rattle.relay_step.specs.Questions.{AreAsked, IsJudgedLate, IsRenewedFirst, IsTidy, SkippedBefore, calls_told, length_line}
use Rattle.account_state.specs.Folds.{last_rev}
use Rattle.account_state.specs.declared.repo.Repo.{Repo}
use Rattle.relay_core.specs.Decide.{old_if}
use Rattle.relay_core.specs.Shown.{or_zero}
use Rattle.relay_core.specs.Table.{no_answers}
use Rattle.relay_step.specs.Around.{Around, SameRepositories, around}
use Rattle.relay_step.specs.Causes.{IsSpentFor}
use Rattle.relay_step.specs.Fetching.{AnsweredFetch, told_where}
use Rattle.relay_step.specs.Messages.{EndsNumbers, pass_of, skipped_as}
use Rattle.relay_step.specs.Questions.{IsTimedSo}
use Rattle.relay_step.specs.Taking.{EventAnswered, EventDecided, IsFetchOf, IsFetchedSo, LostEnds, LostRecorded}
use Rattle.relay_step.specs.declared.fault.StepFault.{StepFault}
use Rattle.relay_step.specs.declared.decided.Skipped.{Skipped}
use Rattle.relay_step.specs.declared.decided.Decided.{Decided as Outcome}
use Rattle.relay_step.proofs.Calls.{moment_there}
use Rattle.relay_step.proofs.Decisions.{passes_over}
use Rattle.relay_step.proofs.Taken.{absent_sendable, ends_by, sent_gives}
use Rattle.relay_step.proofs.Walks.{asked_above, at_body, event_waits, lost_walk}

-- the decision of a refusal behind which this was fetched
fetched_decision : Refusal → Fetched → Decision
fetched_decision r (Fetched.Whole w) = record { refusal = Some r; held = false; gives = true }
fetched_decision r f = record { refusal = Some r; held = false; gives = false }

decision_is : (r : Refusal) (f : Fetched) → after_fetch r (Some f) ≡ Next.Done (fetched_decision r f)
unfolding fetched_decision
decision_is r Fetched.NotAsked = refl
decision_is r Fetched.Absent = refl
decision_is r (Fetched.Refused n) = refl
decision_is r (Fetched.Whole w) = refl

refusal_is : (r : Refusal) (f : Fetched) → (fetched_decision r f).refusal ≡ Some r
unfolding fetched_decision
refusal_is r Fetched.NotAsked = refl
refusal_is r Fetched.Absent = refl
refusal_is r (Fetched.Refused n) = refl
refusal_is r (Fetched.Whole w) = refl

-- the lines hang on no fetch
lines_fetched : (a : State) (body : Body) (x : Answers) (o : Option Fetched) → body_lines a body (record x { fetched = o }) ≡ body_lines a body x
lines_fetched a (Body.Commit c) x o = refl
lines_fetched a (Body.Sync s) x o = refl
lines_fetched a Body.Identity x o = refl
lines_fetched a (Body.Account b) x o = refl

event_fetched : (a : State) (e : Seen) (x : Answers) (o : Option Fetched) → event_lines a e (record x { fetched = o }) ≡ event_lines a e x
event_fetched a e x o = ap (λ (lines : List TableLine). moment_line x ∷ told (length_line e) ∷ lines) (lines_fetched a e.body x o)

-- where a fetch is asked for: the refusal that loses the account, the moment that was taken, and what is decided behind the fetch
pub record AsksFetch (cursor : ℕ) (a : State) (e : Seen) (x : Answers) : Type 0 where
  pub lost : Refusal
  pub due : loses (code_of lost) ≡ true
  pub ends : walk (event_lines a e x) ≡ refuses lost
  pub moment : ℕ
  pub taken : x.moment ≡ Some moment
  pub decides : (f : Fetched) → (d : Decision) × (next_of cursor a (Frame.Event e) (record x { fetched = Some f }) ≡ Next.Done d) × (d.refusal ≡ Some lost)

pub asks_fetch : (cursor : ℕ) (a : State) (e : Seen) (x : Answers) → next_of cursor a (Frame.Event e) x ≡ Next.Ask Question.Fetch → AsksFetch cursor a e x
asks_fetch cursor a e x asks =
    let above = asked_above cursor a e x Question.Fetch asks in
    let lost = lost_walk a e x above.1 in
    let there = moment_there a e x (Some lost.0) lost.1 in
    record {
      lost = lost.0;
      due = lost.2;
      ends = lost.1;
      moment = there.0;
      taken = there.1;
      decides = λ f.
          let Q : Walk → Type 0 = λ w. next_at w a e.body (Some f) ≡ Next.Done (fetched_decision lost.0 f) in
          let R : Bool → Type 0 = λ b. cond b (Next.Pass Pass.Old) (next_at (walk (event_lines a e (record x { fetched = Some f }))) a e.body (Some f)) ≡ Next.Done (fetched_decision lost.0 f) in
          let same : walk (event_lines a e (record x { fetched = Some f })) ≡ refuses lost.0 = ap walk (event_fetched a e x (Some f)) ∙ lost.1 in
          (fetched_decision lost.0 f, subst R (sym above.0) (subst Q (sym same) (ap (λ b. cond b (after_fetch lost.0 (Some f)) (Next.Done (record { refusal = Some lost.0; held = false; gives = false }))) lost.2 ∙ decision_is lost.0 f)), refusal_is lost.0 f);
    }

-- ---- with the fetch

skipped_fetched : (a : State) (e : Seen) (rev : ℕ) (x : Answers) (o : Option Fetched) → SkippedBefore a e rev x → SkippedBefore a e rev (record x { fetched = o })
skipped_fetched a e rev x o p = record { short = p.short; home = p.home; active = p.active; up = p.up; head = p.head; opened = p.opened; near = p.near }

late_fetched : (a : State) (e : Seen) (body : Body) (x : Answers) (o : Option Fetched) → IsJudgedLate a e body x → IsJudgedLate a e body (record x { fetched = o })
late_fetched a e (Body.Commit c) x o late = ⊎_elim (λ v. inl v) (λ p. inr (skipped_fetched a e c.rev x o p)) late
late_fetched a e (Body.Sync s) x o late = ⊎_elim (λ v. inl v) (λ p. inr (skipped_fetched a e s.rev x o p)) late
late_fetched a e Body.Identity x o late = late
late_fetched a e (Body.Account b) x o late = late

renewed_fetched : (body : Body) (x : Answers) (o : Option Fetched) → IsRenewedFirst body x → IsRenewedFirst body (record x { fetched = o })
renewed_fetched (Body.Commit c) x o h = h
renewed_fetched (Body.Sync s) x o h = h
renewed_fetched Body.Identity x o h = h
renewed_fetched (Body.Account b) x o h = h

pub tidy_fetched : (a : State) (e : Seen) (x : Answers) (o : Option Fetched) (moment : ℕ) → x.moment ≡ Some moment → IsTidy a e x → IsTidy a e (record x { fetched = o })
tidy_fetched a e x o moment taken tidy = record {
  early = λ none. absurd (some_none moment (sym taken ∙ none));
  short = ⊎_elim (λ s. inl s) (λ n. inr (record { refreshed = n.refreshed; home = n.home; verdict = n.verdict })) tidy.short;
  late = late_fetched a e e.body x o tidy.late;
  renewed = renewed_fetched e.body x o tidy.renewed;
}
  where
    some_none : (m : ℕ) → ◌≡◌ {A = Option ℕ} (Some m) None → ⊥
    some_none m h = absurd cc

pub right_fetched : (last : ℕ) (a : State) (e : Seen) (x : Answers) (f : Fetched) → AreAnswersTo last a e x → IsFetchedBehind last f → AreAnswersTo last a e (record x { fetched = Some f })
right_fetched last a e x f right behind = record {
  moment = right.moment;
  opened = right.opened;
  linked = right.linked;
  fetched = λ g same. let is : f ≡ g = cc in let P : Fetched → Type 0 = λ h. IsFetchedBehind last h in subst P is behind;
}

-- ---- what may be sent

pub made_same : (last : ℕ) (e : Seen) (f : Found) → made_of last e.did e.time f ≡ fetched_as last e f
made_same last e absent = refl
made_same last e (unfit n) = refl
made_same last e (found head records block) = refl

pub made_behind : (last : ℕ) (did time : List ℕ) (f : Found) → MayBeKept f → IsSent last did time f → IsFetchedBehind last (made_of last did time f)
made_behind last did time absent may sent = tt
made_behind last did time (unfit n) may sent = may
made_behind last did time (found head records block) may sent = record { seq = refl; head = may.0; records = may.1; message = sent.2 }

pub made_sendable : (last : ℕ) (e : Seen) (f : Found) → is_did e.did ≡ true → length e.time ≤ 64 → MayBeKept f → IsSent last e.did e.time f → IsSendable last e f
made_sendable last e absent named short may sent head records block same = absurd cc
made_sendable last e (unfit n) named short may sent head records block same = absurd cc
made_sendable last e (found h k b) named short may sent head records block same =
    let heads : h ≡ head = cc in
    let blocks : b ≡ block = cc in
    let P : Head → Type 0 = λ g. CanBeSent last e g block in
    let Q : List ℕ → Type 0 = λ c. CanBeSent last e h c in
    subst P heads (subst Q blocks (record {
      did = sent.1.did_text;
      named = named;
      time = sent.1.time_text;
      short = short;
      rev = sent.1.rev;
      commit = may.2;
      car = sent.1.car;
      car_short = sent.1.short;
      number = sent.0;
    }))

-- ---- the row of an event whose account was lost

pub beside_last : (c : Core) (did d : List ℕ) (last : Option ℕ) (repo : Repo) → last ≡ last_rev repo → repo ≡ (account_in c d).repo → d ≡ did → last ≡ last_rev (account_in c did).repo
beside_last c did d last repo one two same = one ∙ ap last_rev two ∙ ap (λ (x : List ℕ). last_rev (account_in c x).repo) same

-- an account's fetch
abbrev FetchedFor : Bool → Core → Seen → Answers → (List ℕ → Option (List ℕ)) → Panel → Found → Panel → Type 0
FetchedFor repos_tell c e x repository old w new = AnsweredFetch (told_where repos_tell (repository e.did)) e.did (last_rev (account_in c e.did).repo) (or_zero x.moment) old w new

module _ (repos_tell : Bool) (c : Core) (host : List ℕ) (e : Seen) (x : Answers) (f : Fetched) (d : Decision) (w : Found) (old : Panel) (repository : List ℕ → Option (List ℕ)) (new : Panel)
    (asks : next_of (cursor_in c host) (account_in c e.did) (Frame.Event e) x ≡ Next.Ask Question.Fetch) (made_is : f ≡ made_of c.last e.did e.time w) (named : is_did e.did ≡ true) (short : length e.time ≤ 64) (may : MayBeKept w) (sent : IsSent c.last e.did e.time w)
    (fetch : FetchedFor repos_tell c e x repository old w new)
    (done : next_of (cursor_in c host) (account_in c e.did) (Frame.Event e) (record x { fetched = Some f }) ≡ Next.Done d) where
  pub lost_refused : d.refusal ≡ Some (asks_fetch (cursor_in c host) (account_in c e.did) e x asks).lost
  lost_refused =
      let there = asks_fetch (cursor_in c host) (account_in c e.did) e x asks in
      let other = there.decides f in
      let same : other.0 ≡ d = done_same other.0 d (sym other.1 ∙ done) in
      ap (λ (k : Decision). k.refusal) (sym same) ∙ other.2
    where
      done_same : (p q : Decision) → Next.Done p ≡ Next.Done q → p ≡ q
      done_same p q h = cc

  lost_fetch : IsFetchOf repos_tell c.last (account_in c e.did) e repository (or_zero x.moment) d.refusal f w fetch.calls
  lost_fetch = record {
    lost = (asks_fetch (cursor_in c host) (account_in c e.did) e x asks).lost;
    refused = lost_refused;
    due = (asks_fetch (cursor_in c host) (account_in c e.did) e x asks).due;
    is = made_is ∙ made_same c.last e w;
    told = fetch.fetched;
  }

  pub lost_recorded : (r : Result Outcome StepFault) → IfOk r (λ t. t ≡ Outcome.Recorded (event_taken c.last host e d (record x { fetched = Some f }))) → OnOk r (goes_out d.refusal d.held ≡ true → c.last + 1 < NUMBERS)
      → IfOk r (λ t. LostRecorded repos_tell c host e x t old repository new)
  lost_recorded (Ok t) recorded number = record {
    f = f;
    d = d;
    what = w;
    fetch = fetch.calls;
    done = done;
    taken = recorded;
    number = number;
    sendable = made_sendable c.last e w named short may sent;
    fetched = lost_fetch;
    behind = let P : Fetched → Type 0 = λ g. IsFetchedBehind c.last g in subst P (sym made_is) (made_behind c.last e.did e.time w may sent);
    calls = fetch.made;
  }
  lost_recorded (Err fault) recorded number = tt

-- the same as the code has it
module _ (repos_tell : Bool) (c : Core) (e : Seen) (x : Answers) (w : Found) (old : Panel) (repository : List ℕ → Option (List ℕ)) (new : Panel) (did : List ℕ) (last : Option ℕ) (repo : Repo) (moment : ℕ) (did_is : did ≡ e.did) (moment_is : x.moment ≡ Some moment)
    (last_is : last ≡ last_rev repo) (repo_is : repo ≡ (account_in c did).repo) (fetch : AnsweredFetch (told_where repos_tell (repository did)) did last moment old w new) where
  fetched_for : FetchedFor repos_tell c e x repository old w new
  fetched_for =
      let F : List ℕ → Type 0 = λ n. AnsweredFetch (told_where repos_tell (repository n)) n last moment old w new in
      let G : Option ℕ → Type 0 = λ l. AnsweredFetch (told_where repos_tell (repository e.did)) e.did l moment old w new in
      let H : ℕ → Type 0 = λ m. AnsweredFetch (told_where repos_tell (repository e.did)) e.did (last_rev (account_in c e.did).repo) m old w new in
      subst H (sym (ap or_zero moment_is)) (subst G (beside_last c e.did did last repo last_is repo_is did_is) (subst F did_is fetch))

  pub ends_lost : (NUMBERS ≤ c.last + 1) × (is_found w ≡ true) → LostEnds repos_tell c e x old repository new
  ends_lost both = record { what = w; whole = both.1; fetch = fetched_for; ends = both.0 }

  pub lost_by : (host : List ℕ) (f : Fetched) (d : Decision) (time : List ℕ) → next_of (cursor_in c host) (account_in c e.did) (Frame.Event e) x ≡ Next.Ask Question.Fetch → time ≡ e.time → f ≡ made_of c.last did time w → is_did e.did ≡ true → length e.time ≤ 64
      → MayBeKept w → IsSent c.last did time w → next_of (cursor_in c host) (account_in c e.did) (Frame.Event e) (record x { fetched = Some f }) ≡ Next.Done d
      → (r : Result Outcome StepFault) → IfOk r (λ t. t ≡ Outcome.Recorded (event_taken c.last host e d (record x { fetched = Some f }))) → OnOk r (goes_out d.refusal d.held ≡ true → c.last + 1 < NUMBERS)
      → IfOk r (λ t. LostRecorded repos_tell c host e x t old repository new)
  lost_by host f d time asks time_is made_is named short may sent done r recorded number =
      let A : List ℕ → Type 0 = λ n. f ≡ made_of c.last n time w in
      let B : List ℕ → Type 0 = λ n. f ≡ made_of c.last e.did n w in
      let S : List ℕ → Type 0 = λ n. IsSent c.last n time w in
      let T : List ℕ → Type 0 = λ n. IsSent c.last e.did n w in
      lost_recorded repos_tell c host e x f d w old repository new asks (subst B time_is (subst A did_is made_is)) named short may (subst T time_is (subst S did_is sent)) fetched_for done r recorded number

-- an event whose account was lost takes no number of its own
pub lost_stays : (cursor : ℕ) (a : State) (e : Seen) (x : Answers) (f : Fetched) (d : Decision) → next_of cursor a (Frame.Event e) x ≡ Next.Ask Question.Fetch → next_of cursor a (Frame.Event e) (record x { fetched = Some f }) ≡ Next.Done d → goes_out d.refusal d.held ≡ true → ⊥
lost_stays cursor a e x f d asks done out =
    let there = asks_fetch cursor a e x asks in
    let other = there.decides f in
    let same : other.0 ≡ d = done_same other.0 d (sym other.1 ∙ done) in
    let refused : d.refusal ≡ Some there.lost = ap (λ (k : Decision). k.refusal) (sym same) ∙ other.2 in
    false≢true (sym (ap (λ (q : Option Refusal). goes_out q d.held) refused) ∙ out)
  where
    done_same : (p q : Decision) → Next.Done p ≡ Next.Done q → p ≡ q
    done_same p q h = cc

-- ---- from the questions to the row

pub lost_told : (clock_tells repos_tell : Bool) (c : Core) (host : List ℕ) (e : Seen) (x : Answers) (old : Around) (mid : Panel) (left : List ℕ) (repository : List ℕ → Option (List ℕ)) (new : Panel) (r : Result Outcome StepFault)
    → AreAsked clock_tells c.last (cursor_in c host) (account_in c e.did) host e x old.panel old.moments mid left → next_of (cursor_in c host) (account_in c e.did) (Frame.Event e) x ≡ Next.Ask Question.Fetch
    → (IsTrue repos_tell → SameRepositories old.repository repository) → IfOk r (λ t. LostRecorded repos_tell c host e x t mid old.repository new)
    → IfOk r (λ t. EventDecided clock_tells repos_tell c host e t old (around new left repository))
lost_told clock_tells repos_tell c host e x old mid left repository new (Ok t) so_far asks same recorded =
    let there = asks_fetch (cursor_in c host) (account_in c e.did) e x asks in
    let P : Outcome → Type 0 = λ o. EventDecided clock_tells repos_tell c host e o old (around new left repository) in
    subst P (sym recorded.taken) (record {
      x = record x { fetched = Some recorded.f };
      d = recorded.d;
      what = recorded.what;
      answered = record {
        fetch = recorded.fetch;
        done = recorded.done;
        fetched = recorded.fetched;
        calls = join old.panel mid new (calls_told host e x) recorded.fetch so_far.calls recorded.calls;
        tidy = tidy_fetched (account_in c e.did) e x (Some recorded.f) there.moment there.taken so_far.tidy;
        opened = so_far.right.opened;
        linked = so_far.linked;
        timed = so_far.timed;
        same = same;
      };
      taken = refl;
      number = recorded.number;
      sendable = recorded.sendable;
      right = right_fetched c.last (account_in c e.did) e x recorded.f so_far.right recorded.behind;
    })
lost_told clock_tells repos_tell c host e x old mid left repository new (Err fault) so_far asks same recorded = tt

append_none : (xs : List Call) → xs ++ [] ≡ xs
append_none [] = refl
append_none (x ∷ xs) = ap (λ (l : List Call). x ∷ l) (append_none xs)

-- an event that was decided with no fetch
done_answered : (clock_tells repos_tell : Bool) (c : Core) (host : List ℕ) (e : Seen) (x : Answers) (d : Decision) (old : Around) (new : Panel) (left : List ℕ)
    → AreAsked clock_tells c.last (cursor_in c host) (account_in c e.did) host e x old.panel old.moments new left → next_of (cursor_in c host) (account_in c e.did) (Frame.Event e) x ≡ Next.Done d
    → EventAnswered clock_tells repos_tell c host e x d absent old (around new left old.repository)
done_answered clock_tells repos_tell c host e x d old new left so_far done =
    let Q : List Call → Type 0 = λ l. AreCalls old.panel l new in
    let F : Option Fetched → Type 0 = λ o. IsFetchedSo repos_tell c.last (account_in c e.did) e old.repository (or_zero x.moment) d.refusal o absent [] in
    record {
      fetch = [];
      done = done;
      fetched = subst F (sym so_far.unfetched) (refl, refl);
      calls = subst Q (sym (append_none (calls_told host e x))) so_far.calls;
      tidy = so_far.tidy;
      opened = so_far.right.opened;
      linked = so_far.linked;
      timed = so_far.timed;
      same = λ tells did. refl;
    }

pub done_told : (clock_tells repos_tell : Bool) (c : Core) (host : List ℕ) (e : Seen) (x : Answers) (d : Decision) (old : Around) (new : Panel) (left : List ℕ) (r : Result Outcome StepFault)
    → AreAsked clock_tells c.last (cursor_in c host) (account_in c e.did) host e x old.panel old.moments new left → next_of (cursor_in c host) (account_in c e.did) (Frame.Event e) x ≡ Next.Done d
    → IfOk r (λ t. t ≡ Outcome.Recorded (event_taken c.last host e d x)) → OnOk r (goes_out d.refusal d.held ≡ true → c.last + 1 < NUMBERS)
    → IfOk r (λ t. EventDecided clock_tells repos_tell c host e t old (around new left old.repository))
done_told clock_tells repos_tell c host e x d old new left (Ok t) so_far done recorded number =
    let P : Outcome → Type 0 = λ o. EventDecided clock_tells repos_tell c host e o old (around new left old.repository) in
    subst P (sym recorded) (record {
      x = x;
      d = d;
      what = absent;
      answered = done_answered clock_tells repos_tell c host e x d old new left so_far done;
      taken = refl;
      number = number;
      sendable = absent_sendable c.last e;
      right = so_far.right;
    })
done_told clock_tells repos_tell c host e x d old new left (Err fault) so_far done recorded number = tt

early_none : (a : State) (host : List ℕ) (e : Seen) (x : Answers) → x ≡ no_answers → calls_told host e x ≡ []
early_none a host e x is = ap (λ (y : Answers). calls_told host e y) is

no_moment : (o : Option ℕ) → ((m : ℕ) → o ≡ Some m → ⊥) → o ≡ None
no_moment None h = refl
no_moment (Some m) h = absurd (h m refl)

-- an event that is skipped: nothing was asked
pub pass_told : (clock_tells repos_tell : Bool) (c : Core) (host : List ℕ) (e : Seen) (x : Answers) (pass : Pass) (why : Skipped) → why ≡ skipped_as (Ok (Frame.Event e)) → (old : Around) (new : Panel) (left : List ℕ)
    → AreAsked clock_tells c.last (cursor_in c host) (account_in c e.did) host e x old.panel old.moments new left → next_of (cursor_in c host) (account_in c e.did) (Frame.Event e) x ≡ Next.Pass pass
    → EventDecided clock_tells repos_tell c host e (Outcome.Skipped why) old (around new left old.repository)
pass_told clock_tells repos_tell c host e x pass why why_is old new left so_far skipped_is =
    let over = passes_over (cursor_in c host) (account_in c e.did) e x pass skipped_is in
    let none = so_far.tidy.early (no_moment x.moment (λ m same. false≢true (sym (so_far.above m same) ∙ over.0))) in
    let P : List Call → Type 0 = λ l. AreCalls old.panel l new in
    let M : Option ℕ → Type 0 = λ m. IsTrue clock_tells → IsTimedSo old.moments m left in (
      why_is,
      ap old_if over.0 ∙ ap (λ (w : Skipped). Some (pass_of w)) (sym why_is),
      record {
        panel = subst P (early_none (account_in c e.did) host e x none) so_far.calls;
        moments = subst M (ap (λ (y : Answers). y.moment) none) so_far.timed;
        same = λ tells did. refl;
      },
    )

-- ---- where the numbers end

pub done_ends : (clock_tells repos_tell : Bool) (c : Core) (host : List ℕ) (e : Seen) (x : Answers) (d : Decision) (old : Around) (new : Panel) (left : List ℕ) → AreAsked clock_tells c.last (cursor_in c host) (account_in c e.did) host e x old.panel old.moments new left
    → next_of (cursor_in c host) (account_in c e.did) (Frame.Event e) x ≡ Next.Done d → NUMBERS ≤ c.last + 1 → goes_out d.refusal d.held ≡ true → EndsNumbers clock_tells repos_tell c old host (Ok (Frame.Event e)) (around new left old.repository)
done_ends clock_tells repos_tell c host e x d old new left so_far done ends out =
    ends_by clock_tells repos_tell c host e x d absent old (around new left old.repository) (done_answered clock_tells repos_tell c host e x d old new left so_far done) (sent_gives c.last host e x d out) ends

lost_seq : (last : ℕ) (host : List ℕ) (e : Seen) (x : Answers) (d : Decision) (lost : Refusal) (w : Found) → is_found w ≡ true → d.refusal ≡ Some lost → loses (code_of lost) ≡ true → seq_in (Row.Taken (event_taken last host e d (record x { fetched = Some (fetched_as last e w) }))) ≡ last + 1
lost_seq last host e x d lost absent whole is due = absurd cc
lost_seq last host e x d lost (unfit n) whole is due = absurd cc
lost_seq last host e x d lost (found head records block) whole is due = rw (is, due) refl

pub lost_ends : (clock_tells repos_tell : Bool) (c : Core) (host : List ℕ) (e : Seen) (x : Answers) (old : Around) (mid : Panel) (left : List ℕ) (repository : List ℕ → Option (List ℕ)) (new : Panel)
    → AreAsked clock_tells c.last (cursor_in c host) (account_in c e.did) host e x old.panel old.moments mid left → next_of (cursor_in c host) (account_in c e.did) (Frame.Event e) x ≡ Next.Ask Question.Fetch
    → (IsTrue repos_tell → SameRepositories old.repository repository) → LostEnds repos_tell c e x mid old.repository new → EndsNumbers clock_tells repos_tell c old host (Ok (Frame.Event e)) (around new left repository)
lost_ends clock_tells repos_tell c host e x old mid left repository new so_far asks same lost =
    let there = asks_fetch (cursor_in c host) (account_in c e.did) e x asks in
    let f = fetched_as c.last e lost.what in
    let other = there.decides f in
    ends_by clock_tells repos_tell c host e (record x { fetched = Some f }) other.0 lost.what old (around new left repository) (record {
      fetch = lost.fetch.calls;
      done = other.1;
      fetched = record { lost = there.lost; refused = other.2; due = there.due; is = refl; told = lost.fetch.fetched };
      calls = join old.panel mid new (calls_told host e x) lost.fetch.calls so_far.calls lost.fetch.made;
      tidy = tidy_fetched (account_in c e.did) e x (Some f) there.moment there.taken so_far.tidy;
      opened = so_far.right.opened;
      linked = so_far.linked;
      timed = so_far.timed;
      same = same;
    }) (lost_seq c.last host e x other.0 there.lost lost.what lost.whole other.2 there.due) lost.ends

-- ---- where no authority is left

-- the judges are asked about an event behind these lines
pub asked_short : (c : Core) (host : List ℕ) (e : Seen) (x : Answers) (q : Question) (panel : Panel) → (q ≡ Question.Moment → ⊥) → (q ≡ Question.Fetch → ⊥) → next_of (cursor_in c host) (account_in c e.did) (Frame.Event e) x ≡ Next.Ask q
    → IsSpent (panel (method_of e.did)) → IsSpentFor c host (Ok (Frame.Event e)) panel
asked_short c host e x q panel moment fetch asks spent =
    let a = account_in c e.did in
    let at = at_body a e x q moment (event_waits (cursor_in c host) a e x q fetch asks) in
    (ap old_if (asked_above (cursor_in c host) a e x q asks).0, at.short, spent)

lost_short : (l : Option Refusal) (m : Option ℕ) (lines : List TableLine) (lost : Refusal) → (l ≡ None) ⊎ (l ≡ Some Refusal.TooLong) → loses (code_of lost) ≡ true → walk (asked Question.Moment (option_map (λ moment. None) m) ∷ told l ∷ lines) ≡ refuses lost → l ≡ None
lost_short l None lines lost which due h = absurd cc
lost_short None (Some moment) lines lost which due h = refl
lost_short (Some r) (Some moment) lines lost which due h = ⊎_elim (λ none. absurd cc) (λ same. too_long lost due (let refusals : r ≡ lost = cc in let long : r ≡ Refusal.TooLong = cc in sym refusals ∙ long)) which
  where
    too_long : (q : Refusal) → loses (code_of q) ≡ true → q ≡ Refusal.TooLong → Some r ≡ None
    too_long q lost is = absurd (false≢true (subst (λ (s : Refusal). loses (code_of s) ≡ true) is lost))

when_which : (b : Bool) (r : Refusal) → (when b r ≡ None) ⊎ (when b r ≡ Some r)
when_which true r = inr refl
when_which false r = inl refl

pub lost_spent : (c : Core) (host : List ℕ) (e : Seen) (x : Answers) (panel : Panel) → next_of (cursor_in c host) (account_in c e.did) (Frame.Event e) x ≡ Next.Ask Question.Fetch → IsSpent (panel (method_of e.did)) → IsSpentFor c host (Ok (Frame.Event e)) panel
lost_spent c host e x panel asks spent =
    let a = account_in c e.did in
    let there = asks_fetch (cursor_in c host) a e x asks in (
      ap old_if (asked_above (cursor_in c host) a e x Question.Fetch asks).0,
      lost_short (length_line e) x.moment (body_lines a e.body x) there.lost (when_which (nat_lt LONGEST_MESSAGE (out_length e)) Refusal.TooLong) there.due there.ends,
      spent,
    )

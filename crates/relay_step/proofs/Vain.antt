-- What was asked in vain, and the causes of faults.
use Rattle.std.proofs.Common.{◌≡◌, ℕ, ◌≤◌, inl, inr, Bool, true, false, cond, List, [], ◌∷◌, ◌++◌, length, Option, Some, None, Result, Ok, Err, refl, sym, ap, ◌∙◌, subst, arith}
use Rattle.std.specs.Prelude.{OnErr, IfOk, IfErr}
use Rattle.std.specs.List.{filter}
use Rattle.at_authority.specs.Calls.{Call, fails, IsCall, AreCalls}
use Rattle.at_authority.specs.Panels.{Panel}
use Rattle.at_authority.proofs.Runs.{join}
use Rattle.at_event.specs.Seen.{Seen}
use Rattle.relay_core.specs.Decide.{Found, is_ahead}
use Rattle.relay_core.specs.declared.answers.Answers.{Answers}
use Rattle.relay_core.specs.declared.answers.Question.{Question}
use Rattle.repo_sync.specs.declared.fault.RepoFault.{RepoFault}
use Rattle.repo_sync.specs.declared.found.Found.{Found as Checked}
use Rattle.relay_step.specs.Asked.{AllAbout, AskedInVain, is_refresh, signed_by, verdict_call}
use Rattle.relay_core.specs.declared.decision.Next.{Next}
use Rattle.relay_step.specs.Causes.{IsCause, OneTaken}
use Rattle.relay_step.specs.Fetches.{AskedPlain}
use Rattle.relay_step.specs.declared.fault.StepFault.{StepFault}
use Rattle.relay_step.specs.Fetching.{AnsweredFetch, IsFetchedAs, IsFetchedFrom, found_and_asked}
use Rattle.relay_step.proofs.Fetched.{by_ahead}
use Rattle.relay_step.specs.Questions.{IsTimedSo, calls_told, home_told, is_fetch, is_last, refresh_told, verdict_told}

about_joined : (did : List ℕ) (xs ys : List Call) → AllAbout did xs → AllAbout did ys → AllAbout did (xs ++ ys)
about_joined did [] ys a b = b
about_joined did (c ∷ xs) ys a b = (a.0, about_joined did xs ys a.1 b)

filter_joined : (p : Call → Bool) (xs ys : List Call) → filter p (xs ++ ys) ≡ filter p xs ++ filter p ys
filter_joined p [] ys = refl
filter_joined p (c ∷ xs) ys =
    elim (p c) as (λ b. cond b (c ∷ filter p (xs ++ ys)) (filter p (xs ++ ys)) ≡ cond b (c ∷ filter p xs) (filter p xs) ++ filter p ys) [
      | true ↦ ap (λ l. c ∷ l) (filter_joined p xs ys)
      | false ↦ filter_joined p xs ys
    ]

-- what was asked about an event: about its account, with one refresh at most
record IsFair (did : List ℕ) (calls : List Call) : Type 0 where
  about : AllAbout did calls
  once : length (filter is_refresh calls) ≤ 1

verdict_about : (did : List ℕ) (signed : Option (List ℕ × List ℕ)) (good : Bool) → AllAbout did (verdict_call did signed good) × (filter is_refresh (verdict_call did signed good) ≡ [])
verdict_about did None good = (tt, refl)
verdict_about did (Some s) good = ((refl, tt), refl)

told_fair : (host : List ℕ) (e : Seen) (b : Bool) (h v : Option Bool) → IsFair e.did (refresh_told e.did b ++ (home_told e.did host h ++ verdict_told e v))
told_fair host e true None None = record { about = (refl, tt); once = omega arith }
told_fair host e true (Some y) None = record { about = (refl, (refl, tt)); once = omega arith }
told_fair host e false None None = record { about = tt; once = omega arith }
told_fair host e false (Some y) None = record { about = (refl, tt); once = omega arith }
told_fair host e true None (Some g) = let v = verdict_about e.did (signed_by e.body) g in record { about = (refl, v.0); once = rw v.1 (omega arith) }
told_fair host e true (Some y) (Some g) = let v = verdict_about e.did (signed_by e.body) g in record { about = (refl, (refl, v.0)); once = rw v.1 (omega arith) }
told_fair host e false None (Some g) = let v = verdict_about e.did (signed_by e.body) g in record { about = v.0; once = rw v.1 (omega arith) }
told_fair host e false (Some y) (Some g) = let v = verdict_about e.did (signed_by e.body) g in record { about = (refl, v.0); once = rw v.1 (omega arith) }

append_none : (xs : List Call) → xs ++ [] ≡ xs
append_none [] = refl
append_none (c ∷ xs) = ap (λ l. c ∷ l) (append_none xs)

-- what was asked so far, and something more without a refresh
pub vain_with : (host : List ℕ) (e : Seen) (x : Answers) (old mid new : Panel) → AreCalls old (calls_told host e x) mid → AskedPlain mid e.did new → AskedInVain old e.did new
vain_with host e x old mid new calls plain =
    let fair = told_fair host e x.refreshed x.home x.verdict in
    record {
      calls = calls_told host e x ++ plain.calls;
      about = about_joined e.did (calls_told host e x) plain.calls fair.about plain.about;
      once = rw (filter_joined is_refresh (calls_told host e x) plain.calls, plain.plain, append_none (filter is_refresh (calls_told host e x))) fair.once;
      made = join old mid new (calls_told host e x) plain.calls calls plain.made;
    }

pub plain_none : (old : Panel) (did : List ℕ) → AskedPlain old did old
plain_none old did = record { calls = []; about = tt; plain = refl; made = refl }

pub plain_failed : (old new : Panel) (did : List ℕ) → IsCall (fails did) old new → AskedPlain old did new
plain_failed old new did call = record { calls = fails did ∷ []; about = (refl, tt); plain = refl; made = (new, call, refl) }

pub vain_plain : (old new : Panel) (did : List ℕ) → AskedPlain old did new → AskedInVain old did new
vain_plain old new did plain = record { calls = plain.calls; about = plain.about; once = rw plain.plain (omega arith); made = plain.made }

-- a fetch asks about its account, and for no refresh
abbrev IsPlain : List ℕ → List Call → Type 0
IsPlain did calls = AllAbout did calls × (filter is_refresh calls ≡ [])

none_plain : (did : List ℕ) (calls : List Call) → calls ≡ [] → IsPlain did calls
none_plain did calls is = subst (IsPlain did) (sym is) (tt, refl)

verdict_plain : (did : List ℕ) (moment : ℕ) (good : Bool) (answer : Result Checked RepoFault) → IsPlain did (found_and_asked did moment good answer).1
verdict_plain did moment good (Ok checked) =
    by_ahead (is_ahead checked.head.rev (Some moment)) _ _ (λ came. IsPlain did came.1) (tt, refl) ((refl, tt), refl)
verdict_plain did moment good (Err fault) = (tt, refl)

from_plain : (o : Option (List ℕ)) (did : List ℕ) (least : Option ℕ) (moment : ℕ) (f : Found) (calls : List Call) → IsFetchedFrom o did least moment f calls → IsPlain did calls
from_plain None did least moment f calls is = none_plain did calls is.1
from_plain (Some bytes) did least moment f calls (answer, good, is, came) = subst (IsPlain did) (ap (λ (x : Found × List Call). x.1) came) (verdict_plain did moment good answer)

found_plain : (o : Option (Option (List ℕ))) (did : List ℕ) (least : Option ℕ) (moment : ℕ) (f : Found) (calls : List Call) → IsFetchedAs o did least moment f calls → IsPlain did calls
found_plain (Some o) did least moment f calls is = from_plain o did least moment f calls is
found_plain None did least moment f calls (some, are, from) = from_plain some did least moment f calls from

pub plain_fetch : (o : Option (Option (List ℕ))) (did : List ℕ) (least : Option ℕ) (moment : ℕ) (old : Panel) (f : Found) (new : Panel) → AnsweredFetch o did least moment old f new → AskedPlain old did new
plain_fetch o did least moment old f new is = let both = found_plain o did least moment f is.calls is.fetched in record { calls = is.calls; about = both.0; plain = both.1; made = is.made }

pub plain_failed_as : (old new : Panel) (did d : List ℕ) → d ≡ did → IsCall (fails d) old new → AskedPlain old did new
plain_failed_as old new did d same call = let P : List ℕ → Type 0 = λ x. IsCall (fails x) old new in plain_failed old new did (subst P same call)

pub on_err : {A E : Type 0} (r : Result A E) (X : Type 0) → X → OnErr r X
on_err (Ok x) X h = tt
on_err (Err e) X h = h

pub plain_as : (old new : Panel) (did d : List ℕ) → d ≡ did → AskedPlain old d new → AskedPlain old did new
plain_as old new did d same plain = let P : List ℕ → Type 0 = λ x. AskedPlain old x new in subst P same plain

-- one moment was taken at most
pub one_taken : (moments : List ℕ) (m : Option ℕ) (left : List ℕ) → IsTimedSo moments m left → OneTaken moments left
one_taken moments None left h = inl h
one_taken moments (Some m) left h = inr h.gone

pub cause_map : (A B S T R Q C D : Type 0) → (A → B) → (S → T) → (R → Q) → (C → D) → (fault : StepFault) → IsCause A S R C fault → IsCause B T Q D fault
cause_map A B S T R Q C D ends spent repos clock StepFault.SeqEnd h = ends h
cause_map A B S T R Q C D ends spent repos clock StepFault.Authority h = spent h
cause_map A B S T R Q C D ends spent repos clock StepFault.Repos h = repos h
cause_map A B S T R Q C D ends spent repos clock StepFault.Clock h = clock h
cause_map A B S T R Q C D ends spent repos clock StepFault.Memory h = tt

pub no_cause : (B : Type 0) → ⊥ → B
no_cause B h = absurd h

pub same_cause : (B : Type 0) → B → B
same_cause B h = h

-- where only the numbers may have ended
pub cause_ends : (A B S R C : Type 0) → (A → B) → (fault : StepFault) → IsCause A ⊥ ⊥ ⊥ fault → IsCause B S R C fault
cause_ends A B S R C ends fault h = cause_map A B ⊥ S ⊥ R ⊥ C ends (no_cause S) (no_cause R) (no_cause C) fault h

pub if_ok : {A E : Type 0} (r : Result A E) (P Q : A → Type 0) → ((x : A) → P x → Q x) → IfOk r P → IfOk r Q
if_ok (Ok x) P Q f h = f x h
if_ok (Err e) P Q f h = tt

pub if_err : {A E : Type 0} (r : Result A E) (P Q : E → Type 0) → ((e : E) → P e → Q e) → IfErr r P → IfErr r Q
if_err (Ok x) P Q f h = tt
if_err (Err e) P Q f h = f e h

pub map_err : {A E : Type 0} (r : Result A E) (X Y : Type 0) → (X → Y) → OnErr r X → OnErr r Y
map_err (Ok x) X Y f h = tt
map_err (Err e) X Y f h = f h

pub last_other : (n : Next) → ((q : Question) → n ≡ Next.Ask q → ⊥) → is_last n ≡ true
last_other (Next.Ask q) h = absurd (h q refl)
last_other (Next.Pass pass) h = refl
last_other (Next.Done d) h = refl

fetch_is : (q : Question) → is_fetch q ≡ true → q ≡ Question.Fetch
fetch_is Question.Fetch h = refl
fetch_is q h = absurd cc

pub last_fetch : (q : Question) (n target : Next) → n ≡ Next.Ask q → n ≡ target → is_last n ≡ true → target ≡ Next.Ask Question.Fetch
last_fetch q n target is next last = let P : Next → Type 0 = λ k. is_last k ≡ true in sym next ∙ is ∙ ap Next.Ask (fetch_is q (subst P is last))

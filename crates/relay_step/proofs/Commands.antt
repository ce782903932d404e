-- What operators' commands come to, behind each journal for which the state stands.
use Rattle.std.proofs.Common.{◌≡◌, ℕ, ◌+◌, ◌<◌, ◌≤◌, Bool, true, List, [], ◌∷◌, ◌++◌, Option, Some, None, refl, sym, ap, ◌∙◌, subst}
use Rattle.std.specs.Prelude.{IsTrue}
use Rattle.std.proofs.lemmas.Bool.{and_from}
use Rattle.at_authority.specs.Panels.{IsSpent, Panel}
use Rattle.at_event.specs.Formed.{IsShortText}
use Rattle.at_event.specs.declared.refusal.Refusal.{Refusal}
use Rattle.at_syntax.specs.Did.{is_did, method_of}
use Rattle.relay_row.specs.Folds.{last_seq}
use Rattle.relay_row.specs.Journal.{IsJournal}
use Rattle.relay_row.specs.Rules.{is_text, names_did}
use Rattle.relay_row.specs.declared.fetched.Fetched.{Fetched}
use Rattle.relay_row.specs.declared.fetched.Whole.{Whole}
use Rattle.at_cid.specs.declared.limits.TheConstants.{NUMBERS}
use Rattle.relay_row.specs.declared.row.Row.{Row}
use Rattle.account_state.specs.Folds.{account, last_rev}
use Rattle.account_state.specs.State.{State}
use Rattle.account_state.specs.declared.repo.Repo.{Repo}
use Rattle.relay_core.specs.Decide.{Found, absent, unfit, found, is_found, whole_under}
use Rattle.relay_core.specs.Entries.{Holds, account_in}
use Rattle.relay_core.specs.Operating.{fetch_refusal, operate_refusal, operated_as, sync_refusal}
use Rattle.relay_core.specs.declared.journal_state.Core.{Core}
use Rattle.relay_law.specs.Laws.{OperatedRowsAreFormed, SyncedRowsAreFormed}
use Rattle.relay_step.specs.Around.{Around}
use Rattle.relay_step.specs.Fetches.{IsSent, MayBeKept, made_of}
use Rattle.relay_step.specs.Fetching.{AnsweredFetch, told_where}
use Rattle.relay_step.specs.Messages.{KeepsJournal}
use Rattle.relay_step.specs.Operators.{IsFetchCommand, IsSyncedBy, IsSyncedNow}
use Rattle.relay_step.specs.Commands.{EndsFetched, IsJudged, IsNow, SpentFetching}
use Rattle.relay_step.specs.declared.command.CommandAnswer.{CommandAnswer}

pub refused_behind : (c : Core) (did : List ℕ) (down : Bool) (r : Refusal) (J : List Row) → operate_refusal (account_in c did) down ≡ Some r → Holds c J → operate_refusal (account did J) down ≡ Some r
refused_behind c did down r J h holds = ap (λ (a : State). operate_refusal a down) (sym (holds.accounts did)) ∙ h

pub operated_behind : (c : Core) (did : List ℕ) (down : Bool) (time : List ℕ) (moment : ℕ) (J : List Row) → operate_refusal (account_in c did) down ≡ None → Holds c J
    → (operate_refusal (account did J) down ≡ None) × (Row.Operated (operated_as c.last (account_in c did) did down time (Some moment)) ≡ Row.Operated (operated_as (last_seq J) (account did J) did down time (Some moment)))
operated_behind c did down time moment J h holds = (
  ap (λ (a : State). operate_refusal a down) (sym (holds.accounts did)) ∙ h,
  ap (λ (n : ℕ). Row.Operated (operated_as n (account_in c did) did down time (Some moment))) holds.last ∙ ap (λ (a : State). Row.Operated (operated_as (last_seq J) a did down time (Some moment))) (holds.accounts did),
)

names_it : (did : List ℕ) → is_text did ≡ true → is_did did ≡ true → names_did did ≡ true
names_it did text is = and_from (is_text did) (is_did did) text is

pub operated_kept : (c : Core) (did : List ℕ) (down : Bool) (time : List ℕ) (moment : ℕ) (row : Row) → OperatedRowsAreFormed → row ≡ Row.Operated (operated_as c.last (account_in c did) did down time (Some moment)) → is_text did ≡ true → is_did did ≡ true → IsShortText time → moment < NUMBERS
    → c.last + 1 < NUMBERS → KeepsJournal c (row ∷ [])
operated_kept c did down time moment row law is text named short below free J holds journal =
    let P : ℕ → Type 0 = λ n. n + 1 < NUMBERS in
    let R : Row → Type 0 = λ r. IsJournal (J ++ r ∷ []) in
    let same = ap (λ (n : ℕ). Row.Operated (operated_as n (account_in c did) did down time (Some moment))) holds.last ∙ ap (λ (a : State). Row.Operated (operated_as (last_seq J) a did down time (Some moment))) (holds.accounts did) in
    subst R (sym (is ∙ same)) (law J did down time moment journal (names_it did text named) short below (subst P holds.last free))

-- ---- synchronizing

pub synced_refused : (c : Core) (did time : List ℕ) (moment : ℕ) (repository : Option (Option (List ℕ))) (old : Panel) (r : Refusal) (J : List Row) → sync_refusal (account_in c did) ≡ Some r → Holds c J → IsSyncedNow old J did time moment repository (CommandAnswer.Refused r) old
synced_refused c did time moment repository old r J h holds =
    let P : Option Refusal → Type 0 = λ o. IsSyncedBy o old J did time moment repository (CommandAnswer.Refused r) old in
    subst P (sym (ap sync_refusal (sym (holds.accounts did)) ∙ h)) (refl, refl)

command_of : (last : ℕ) (did time : List ℕ) (moment : ℕ) (f : Found) (r : Refusal) → fetch_refusal (made_of last did time f) ≡ Some r → IsFetchCommand last did time moment f (CommandAnswer.Refused r)
command_of last did time moment absent r h = let same : Refusal.NoRepository ≡ r = cc in ap (λ (q : Refusal). CommandAnswer.Refused q) (sym same)
command_of last did time moment (unfit n) r h = let same : Refusal.RepositoryRefused n ≡ r = cc in ap (λ (q : Refusal). CommandAnswer.Refused q) (sym same)
command_of last did time moment (found head records block) r h = absurd cc

made_command : (last : ℕ) (did time : List ℕ) (moment : ℕ) (f : Found) (w : Whole) → made_of last did time f ≡ Fetched.Whole w → IsFetchCommand last did time moment f (CommandAnswer.Made (Row.Synced did w (Some moment)))
made_command last did time moment absent w h = absurd cc
made_command last did time moment (unfit n) w h = absurd cc
made_command last did time moment (found head records block) w h =
    let same : whole_under did time head records block (last + 1) ≡ w = cc in
    ap (λ (k : Whole). CommandAnswer.Made (Row.Synced did k (Some moment))) (sym same)

-- the fetch of an account's word
abbrev FetchedFor : Core → List ℕ → ℕ → Option (Option (List ℕ)) → Panel → Found → Panel → Type 0
FetchedFor c did moment repository old f new = AnsweredFetch repository did (last_rev (account_in c did).repo) moment old f new

synced_by : (c : Core) (did time : List ℕ) (moment : ℕ) (repository : Option (Option (List ℕ))) (old new : Panel) (f : Found) (command : CommandAnswer) (J : List Row) → sync_refusal (account_in c did) ≡ None → Holds c J → FetchedFor c did moment repository old f new
    → IsFetchCommand c.last did time moment f command → IsSyncedNow old J did time moment repository command new
synced_by c did time moment repository old new f command J h holds fetch command_is =
    let P : Option Refusal → Type 0 = λ r. IsSyncedBy r old J did time moment repository command new in
    let Q : State → Type 0 = λ a. AnsweredFetch repository did (last_rev a.repo) moment old f new in
    let R : ℕ → Type 0 = λ n. IsFetchCommand n did time moment f command in
    subst P (sym (ap sync_refusal (sym (holds.accounts did)) ∙ h)) (record {
      found = f;
      fetch = subst Q (holds.accounts did) fetch;
      command_is = subst R holds.last command_is;
    })

pub synced_unfit : (c : Core) (did time : List ℕ) (moment : ℕ) (repository : Option (Option (List ℕ))) (old new : Panel) (f : Found) (made : Fetched) (r : Refusal) (J : List Row) → sync_refusal (account_in c did) ≡ None → Holds c J → FetchedFor c did moment repository old f new
    → made ≡ made_of c.last did time f → fetch_refusal made ≡ Some r → IsSyncedNow old J did time moment repository (CommandAnswer.Refused r) new
synced_unfit c did time moment repository old new f made r J h holds fetch same refused =
    synced_by c did time moment repository old new f (CommandAnswer.Refused r) J h holds fetch (command_of c.last did time moment f r (ap fetch_refusal (sym same) ∙ refused))

pub synced_made : (c : Core) (did time : List ℕ) (moment : ℕ) (repository : Option (Option (List ℕ))) (old new : Panel) (f : Found) (w : Whole) (row : Row) (J : List Row) → sync_refusal (account_in c did) ≡ None → Holds c J → FetchedFor c did moment repository old f new
    → Fetched.Whole w ≡ made_of c.last did time f → row ≡ Row.Synced did w (Some moment) → IsSyncedNow old J did time moment repository (CommandAnswer.Made row) new
synced_made c did time moment repository old new f w row J h holds fetch same row_is =
    let P : Row → Type 0 = λ r. IsSyncedNow old J did time moment repository (CommandAnswer.Made r) new in
    subst P (sym row_is) (synced_by c did time moment repository old new f (CommandAnswer.Made (Row.Synced did w (Some moment))) J h holds fetch (made_command c.last did time moment f w (sym same)))

pub synced_kept : (c : Core) (did time : List ℕ) (moment : ℕ) (f : Found) (w : Whole) (row : Row) → SyncedRowsAreFormed → Fetched.Whole w ≡ made_of c.last did time f → row ≡ Row.Synced did w (Some moment) → MayBeKept f → IsSent c.last did time f → is_text did ≡ true → is_did did ≡ true → moment < NUMBERS
    → KeepsJournal c (row ∷ [])
synced_kept c did time moment absent w row law same row_is may sent text named below J holds journal = absurd cc
synced_kept c did time moment (unfit n) w row law same row_is may sent text named below J holds journal = absurd cc
synced_kept c did time moment (found head records block) w row law same row_is may sent text named below J holds journal =
    let whole : w ≡ whole_under did time head records block (c.last + 1) = cc in
    let P : ℕ → Type 0 = λ n. IsSent n did time (found head records block) in
    let now = subst P holds.last sent in
    let R : Row → Type 0 = λ r. IsJournal (J ++ r ∷ []) in
    let there : row ≡ Row.Synced did (whole_under did time head records block (last_seq J + 1)) (Some moment)
    = row_is ∙ ap (λ (k : Whole). Row.Synced did k (Some moment)) whole ∙ ap (λ (n : ℕ). Row.Synced did (whole_under did time head records block (n + 1)) (Some moment)) holds.last in
    subst R (sym there) (law J did time head records block moment journal (names_it did text named) (may.0, may.1, now.2) below now.0)

pub fetched_beside : (c : Core) (did : List ℕ) (repository : Option (Option (List ℕ))) (moment : ℕ) (old : Panel) (f : Found) (new : Panel) (last : Option ℕ) (repo : Repo) → last ≡ last_rev repo → repo ≡ (account_in c did).repo
    → AnsweredFetch repository did last moment old f new → FetchedFor c did moment repository old f new
fetched_beside c did repository moment old f new last repo one two fetch = let P : Option ℕ → Type 0 = λ l. AnsweredFetch repository did l moment old f new in subst P (one ∙ ap last_rev two) fetch

-- ---- why a word of synchronizing fails

module _ (clock_tells repos_tell : Bool) (c : Core) (did : List ℕ) (old new : Around) (fine : sync_refusal (account_in c did) ≡ None) (moment : ℕ) (now : IsTrue clock_tells → IsNow old.moments moment new.moments) (last : Option ℕ) (repo : Repo)
    (last_is : last ≡ last_rev repo) (repo_is : repo ≡ (account_in c did).repo) where
  pub fetch_ends : (f : Found) → AnsweredFetch (told_where repos_tell (old.repository did)) did last moment old.panel f new.panel → (NUMBERS ≤ c.last + 1) × (is_found f ≡ true) → EndsFetched clock_tells repos_tell c did old new
  fetch_ends f fetch both = record {
    ends = both.0;
    fine = fine;
    moment = moment;
    now = now;
    found = f;
    whole = both.1;
    fetch = fetched_beside c did (told_where repos_tell (old.repository did)) moment old.panel f new.panel last repo last_is repo_is fetch;
  }

  pub fetch_spent : (IsTrue repos_tell → IsJudged (old.repository did) did last moment) × IsSpent (new.panel (method_of did)) → SpentFetching clock_tells repos_tell c did old new
  fetch_spent both = record {
    fine = fine;
    moment = moment;
    now = now;
    judged = λ tells. subst (λ (l : Option ℕ). IsJudged (old.repository did) did l moment) (last_is ∙ ap last_rev repo_is) (both.0 tells);
    spent = both.1;
  }

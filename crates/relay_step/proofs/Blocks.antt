-- What steps and operators' commands fetched is a head that its block gives.
use Rattle.std.proofs.Common.{◌≡◌, ℕ, Bool, true, false, ◌&&◌, ◌||◌, List, [], ◌∷◌, ◌++◌, Option, Some, None, Result, Ok, Err, sym, ap, ◌∙◌, subst}
use Rattle.std.specs.List.{list_all}
use Rattle.std.specs.Bool.{beq}
use Rattle.std.specs.Prelude.{nat_le, ◌==◌, if◌then◌else◌}
use Rattle.std.proofs.lemmas.Bool.{and_parts}
use Rattle.std.proofs.lemmas.List.Folds.{list_all-append}
use Rattle.at_authority.specs.Calls.{Call}
use Rattle.at_event.specs.Refusals.{code_of}
use Rattle.at_event.specs.declared.refusal.Refusal.{Refusal}
use Rattle.relay_row.specs.Journal.{IsJournal}
use Rattle.relay_row.specs.Rules.{is_accepted, is_decided, is_detail, is_effect, is_fetched, is_nothing, is_refused, is_row, is_taken, is_timed, loses}
use Rattle.relay_row.specs.declared.fetched.Fetched.{Fetched}
use Rattle.relay_row.specs.declared.row.Row.{Row}
use Rattle.relay_row.specs.declared.taken.Taken.{Taken}
use Rattle.account_state.specs.Folds.{account, last_rev}
use Rattle.repo_sync.specs.Repository.{IsAnswer}
use Rattle.repo_sync.specs.declared.fault.RepoFault.{RepoFault}
use Rattle.repo_sync.specs.declared.found.Found.{Found as Checked}
use Rattle.relay_core.specs.Decide.{Found, unfit, found, is_ahead}
use Rattle.relay_core.specs.Shown.{found_in, or_zero}
use Rattle.relay_core.specs.declared.limits.TheConstants.{FETCHED_UNSIGNED}
use Rattle.relay_law.specs.Heads.{FetchesGive, FoundGives}
use Rattle.relay_law.proofs.Blocks.{whole_block}
use Rattle.relay_law.proofs.Sounding.{decided_formed}
use Rattle.relay_step.proofs.Fetched.{by_ahead}
use Rattle.relay_step.specs.Around.{Around, AllAsked}
use Rattle.relay_step.specs.Fetching.{IsFetched, IsFetchedAs, IsFetchedFrom, IsFetchedTold, found_and_asked, told_where}
use Rattle.relay_io.specs.Choices.{WhereElse}
use Rattle.relay_step.specs.Steps.{Decided, Step, after_end, skipped, recorded, rows, rows_decided}

-- ---- one fetch

answer_gives : (did : List ℕ) (least : Option ℕ) (moment : ℕ) (good : Bool) (bytes : List ℕ) (answer : Result Checked RepoFault) → IsAnswer did least bytes answer → FoundGives (found_and_asked did moment good answer).0
answer_gives did least moment good bytes (Err fault) is = tt
answer_gives did least moment good bytes (Ok checked) is =
    by_ahead (is_ahead checked.head.rev (Some moment)) _ _ (λ came. FoundGives came.0) tt
    (elim good as (λ b. FoundGives (if b then found checked.head checked.records checked.block else unfit FETCHED_UNSIGNED)) [ true ↦ whole_block did least bytes checked is | false ↦ tt ])

from_gives : (repository : Option (List ℕ)) (did : List ℕ) (least : Option ℕ) (moment : ℕ) (f : Found) (calls : List Call) → IsFetchedFrom repository did least moment f calls → FoundGives f
from_gives None did least moment f calls from = subst (λ (x : Found). FoundGives x) (sym from.0) tt
from_gives (Some bytes) did least moment f calls (answer, good, is, came) =
    subst (λ (x : Found). FoundGives x) (ap (λ (x : Found × List Call). x.0) came) (answer_gives did least moment good bytes answer is)

pub fetched_gives : (o : Option (Option (List ℕ))) (did : List ℕ) (least : Option ℕ) (moment : ℕ) (f : Found) (calls : List Call) → IsFetchedAs o did least moment f calls → FoundGives f
fetched_gives (Some repository) did least moment f calls from = from_gives repository did least moment f calls from
fetched_gives None did least moment f calls (some, bytes, from) = from_gives some did least moment f calls from

-- ---- the fetch behind a refusal

abbrev is_due : Option Refusal → Bool
is_due None = false
is_due (Some r) = loses (code_of r)

fetched_due : (q : Option Refusal) (t : Taken) → is_decided q t ≡ true → is_fetched (is_due q) (is_timed t.moment) t.fetched ≡ true
unfolding is_accepted is_refused
fetched_due None t h = (and_parts (is_fetched false (is_timed t.moment) t.fetched) _ (and_parts (is_effect t.kind t.effect) _ h).1).0
fetched_due (Some r) t h =
    let one = and_parts (is_detail r && (nat_le (code_of r) 24 || (code_of r == 25 && is_timed t.moment))) _ h in
    let two = and_parts (nat_le t.kind 4) _ one.1 in
    let three = and_parts (beq (t.kind == 0) (code_of r == 1)) _ two.1 in
    let four = and_parts (is_nothing t.effect) _ three.1 in
    (and_parts (is_fetched (loses (code_of r)) (is_timed t.moment) t.fetched) _ four.1).0

due_gives : (due timed : Bool) (o : Option (Option (List ℕ))) (did : List ℕ) (least : Option ℕ) (moment : ℕ) (f : Fetched) (calls : List Call) → is_fetched due timed f ≡ true
    → WhereElse due (IsFetchedAs o did least moment (found_in f) calls) (calls ≡ []) → FoundGives (found_in f)
due_gives true timed o did least moment f calls is from = fetched_gives o did least moment (found_in f) calls from
due_gives false timed o did least moment Fetched.NotAsked calls is from = tt
due_gives false timed o did least moment Fetched.Absent calls is from = tt
due_gives false timed o did least moment (Fetched.Refused n) calls is from = tt
due_gives false timed o did least moment (Fetched.Whole w) calls is from = absurd cc

taken_gives : (tells : Bool) (repository : List ℕ → Option (List ℕ)) (J : List Row) (t : Taken) (calls : List Call) (q : Option Refusal) → is_decided q t ≡ true
    → IsFetched tells repository J t.did q (or_zero t.moment) (found_in t.fetched) calls → FoundGives (found_in t.fetched)
taken_gives tells repository J t calls None is from =
    due_gives false (is_timed t.moment) None t.did None 0 t.fetched calls (fetched_due None t is) from
taken_gives tells repository J t calls (Some r) is from =
    due_gives (loses (code_of r)) (is_timed t.moment) (told_where tells (repository t.did)) t.did (last_rev (account t.did J).repo) (or_zero t.moment) t.fetched calls (fetched_due (Some r) t is) from

-- ---- steps

told_gives : (tells : Bool) (repository : List ℕ → Option (List ℕ)) (J : List Row) (told : Decided) (calls : List Call) (others : List Row) → list_all is_row (rows_decided told ++ others) ≡ true
    → IsFetchedTold tells repository J told calls → (list_all is_row others ≡ true → FetchesGive others) → FetchesGive (rows_decided told ++ others)
unfolding is_row
told_gives tells repository J after_end calls others formed from behind = behind formed
told_gives tells repository J (skipped pass) calls others formed from behind = behind formed
told_gives tells repository J (recorded t) calls others formed from behind =
    let both = and_parts (is_taken t) (list_all is_row others) formed in
    (taken_gives tells repository J t calls t.refusal (decided_formed t both.0) from, behind both.1)

all_give : (clock_tells repos_tell : Bool) (steps : List Step) (J : List Row) (old new : Around) → AllAsked clock_tells repos_tell J old steps new → list_all is_row (rows steps) ≡ true → FetchesGive (rows steps)
all_give clock_tells repos_tell [] J old new asked formed = tt
all_give clock_tells repos_tell (s ∷ steps) J old new asked formed =
    told_gives repos_tell old.repository J s.decided asked.1.fetch (rows steps) formed asked.1.fetched
    (all_give clock_tells repos_tell steps (J ++ rows_decided s.decided) asked.0 new asked.2)

pub steps_give : (clock_tells repos_tell : Bool) (J : List Row) (old new : Around) (steps : List Step) → IsJournal (J ++ rows steps) → AllAsked clock_tells repos_tell J old steps new → FetchesGive (rows steps)
steps_give clock_tells repos_tell J old new steps journal asked =
    all_give clock_tells repos_tell steps J old new asked (and_parts (list_all is_row J) (list_all is_row (rows steps)) (sym (list_all-append is_row J (rows steps)) ∙ journal.formed)).1

-- The accounts of a journal have the forms of carried ones.
use Rattle.std.proofs.Common.{◌≡◌, ℕ, Bool, true, false, ◌&&◌, ◌||◌, cond, List, [], ◌∷◌, ◌++◌, Option, Some, None, refl, sym, subst, append_assoc}
use Rattle.std.proofs.lemmas.List.{append-nil}
use Rattle.std.specs.Bool.{beq}
use Rattle.std.specs.Prelude.{◌==◌, nat_le}
use Rattle.std.proofs.lemmas.Bool.{and_parts, false≢true}
use Rattle.at_event.specs.Refusals.{code_of}
use Rattle.at_event.specs.declared.refusal.Refusal.{Refusal}
use Rattle.relay_row.specs.Folds.{names, did_of_row}
use Rattle.relay_row.specs.Journal.{IsJournal}
use Rattle.relay_row.specs.Rules.{is_about, is_carried, is_cid, is_decided, is_detail, is_empty, is_fetched, is_moment, is_node, is_nothing, is_number, is_refused, is_repo, is_rev, is_rev_or_none, is_row, is_status, is_taken, is_timed, loses, names_did, names_host}
use Rattle.relay_row.specs.declared.carried.Carried.{Carried}
use Rattle.relay_row.specs.declared.carried.CarriedRepo.{CarriedRepo}
use Rattle.relay_row.specs.declared.fetched.Fetched.{Fetched}
use Rattle.relay_row.specs.declared.row.Row.{Row}
use Rattle.relay_row.specs.declared.taken.Effect.{Effect}
use Rattle.relay_row.specs.declared.taken.Taken.{Taken}
use Rattle.relay_row.proofs.Journals.{fronts}
use Rattle.account_state.specs.Folds.{account, account_after, effected, last_rev, lost, moved, refetched, repo_carried, taken_by}
use Rattle.account_state.specs.State.{State}
use Rattle.account_state.specs.declared.repo.Repo.{Repo}
use Rattle.account_state.proofs.Joined.{joined}
use Rattle.relay_law.proofs.Heads.{IsFormedRepo, accounts_are_formed}
use Rattle.cut_law.specs.Cut.{repo_over}
use Rattle.cut_law.proofs.Numbers.{formed_at}

-- what is known of an account may be carried over
pub record IsFormed (a : State) : Type 0 where
  pub status : is_status a.status ≡ true
  pub repo : is_repo (repo_over a.repo) ≡ true

-- the last revision of a lost repository is one
abbrev IsLeft : Repo → Type 0
IsLeft Repo.Missing = Unit {0}
IsLeft (Repo.Good head) = Unit {0}
IsLeft (Repo.Lost rev) = is_rev_or_none rev ≡ true

rev_left : (repo : Repo) → IsFormedRepo repo → IsLeft repo → is_rev_or_none (last_rev repo) ≡ true
rev_left Repo.Missing formed left = refl
rev_left (Repo.Good head) formed left = (and_parts (is_rev head.rev) (is_node head.data_root && is_cid head.commit) formed).0
rev_left (Repo.Lost rev) formed left = left

lost_left : (a : State) (r : Refusal) → IsFormedRepo a.repo → IsLeft a.repo → IsLeft (lost a (Some r)).repo
lost_left a r formed left = elim (loses (code_of r)) as (λ b. IsLeft (cond b (record a { repo = Repo.Lost (last_rev a.repo) }) a).repo) [ true ↦ rev_left a.repo formed left | false ↦ left ]

effect_left : (a : State) (x : Effect) → IsLeft a.repo → IsLeft (effected a x).repo
effect_left a Effect.Nothing left = left
effect_left a (Effect.Repo head) left = tt
effect_left a (Effect.Account active status) left = left

fetch_left : (a : State) (f : Fetched) → IsLeft a.repo → IsLeft (refetched a f).repo
fetch_left a Fetched.NotAsked left = left
fetch_left a Fetched.Absent left = left
fetch_left a (Fetched.Refused n) left = left
fetch_left a (Fetched.Whole w) left = tt

refused_nothing : (r : Refusal) (t : Taken) → is_refused r t ≡ true → is_nothing t.effect ≡ true
unfolding is_refused
refused_nothing r t h =
    let fetch : Bool = is_fetched (loses (code_of r)) (is_timed t.moment) t.fetched && (t.seq == 0 && is_empty t.message) in
    let nothing : Bool = is_nothing t.effect && fetch in
    let read : Bool = beq (t.kind == 0) (code_of r == 1) && nothing in
    let few : Bool = nat_le t.kind 4 && read in
    let known : Bool = nat_le (code_of r) 24 || (code_of r == 25 && is_timed t.moment) in
    let three = and_parts (nat_le t.kind 4) read (and_parts (is_detail r && known) few h).1 in
    (and_parts (is_nothing t.effect) fetch (and_parts (beq (t.kind == 0) (code_of r == 1)) nothing three.1).1).0

refused_left : (a : State) (r : Refusal) (x : Effect) (f : Fetched) → is_nothing x ≡ true → IsFormedRepo a.repo → IsLeft a.repo → IsLeft (refetched (lost (effected a x) (Some r)) f).repo
refused_left a r Effect.Nothing f none formed left = fetch_left (lost a (Some r)) f (lost_left a r formed left)
refused_left a r (Effect.Repo head) f none formed left = absurd (false≢true none)
refused_left a r (Effect.Account active status) f none formed left = absurd (false≢true none)

decided_left : (a : State) (t : Taken) (q : Option Refusal) → is_decided q t ≡ true → IsFormedRepo a.repo → IsLeft a.repo → IsLeft (refetched (lost (effected a t.effect) q) t.fetched).repo
decided_left a t None is formed left = fetch_left (effected a t.effect) t.fetched (effect_left a t.effect left)
decided_left a t (Some r) is formed left = refused_left a r t.effect t.fetched (refused_nothing r t is) formed left

taken_left : (a : State) (t : Taken) → is_taken t ≡ true → IsFormedRepo a.repo → IsLeft a.repo → IsLeft (taken_by a t).repo
unfolding is_taken
taken_left a t h formed left =
    let one = and_parts (names_host t.host) (is_number t.host_seq && (is_about t.kind t.did && (is_moment t.moment && is_decided t.refusal t))) h in
    let two = and_parts (is_number t.host_seq) (is_about t.kind t.did && (is_moment t.moment && is_decided t.refusal t)) one.1 in
    let three = and_parts (is_about t.kind t.did) (is_moment t.moment && is_decided t.refusal t) two.1 in
    decided_left a t t.refusal (and_parts (is_moment t.moment) (is_decided t.refusal t) three.1).1 formed left

carried_left : (repo : CarriedRepo) → is_repo repo ≡ true → IsLeft (repo_carried repo)
carried_left CarriedRepo.Missing is = tt
carried_left (CarriedRepo.Good head) is = tt
carried_left (CarriedRepo.Lost rev) is = is

moved_left : (a : State) (row : Row) → is_row row ≡ true → IsFormedRepo a.repo → IsLeft a.repo → IsLeft (moved a row).repo
unfolding is_row is_carried
moved_left a (Row.Taken t) is formed left = taken_left a t is formed left
moved_left a (Row.Synced did whole moment) is formed left = tt
moved_left a (Row.Operated o) is formed left = left
moved_left a (Row.Carried (Carried.Last seq)) is formed left = left
moved_left a (Row.Carried (Carried.Host host n)) is formed left = left
moved_left a (Row.Carried (Carried.Account b)) is formed left = carried_left b.repo (and_parts (is_status b.status) (is_repo b.repo) (and_parts (names_did b.did) (is_status b.status && is_repo b.repo) is).1).1

left_from : (did : List ℕ) (before rows : List Row) → IsJournal (before ++ rows) → IsLeft (account did before).repo → IsLeft (account did (before ++ rows)).repo
left_from did before [] is left = subst (λ (J : List Row). IsLeft (account did J).repo) (sym (append-nil before)) left
left_from did before (row ∷ rows) is left =
    let P : List Row → Type 0 = λ J. IsJournal J in
    let Q : State → Type 0 = λ a. IsLeft a.repo in
    let a = account did before in
    let formed = accounts_are_formed did before (fronts before (row ∷ rows) is) in
    let here : IsLeft (account_after did a row).repo =
    elim (names did (did_of_row row)) as (λ b. IsLeft (cond b (moved a row) a).repo) [ true ↦ moved_left a row (formed_at before row rows is.formed) formed.repo left | false ↦ left ] in
    subst (λ (J : List Row). IsLeft (account did J).repo) (append_assoc before (row ∷ []) rows)
    (left_from did (before ++ row ∷ []) rows (subst P (sym (append_assoc before (row ∷ []) rows)) is) (subst Q (sym (joined did before (row ∷ []))) here))

left_all : (did : List ℕ) (rows : List Row) → IsJournal rows → IsLeft (account did rows).repo
unfolding account
left_all did rows is = left_from did [] rows is tt

over_formed : (repo : Repo) → IsFormedRepo repo → IsLeft repo → is_repo (repo_over repo) ≡ true
over_formed Repo.Missing formed left = refl
over_formed (Repo.Good head) formed left = formed
over_formed (Repo.Lost rev) formed left = left

pub accounts_formed : (did : List ℕ) (rows : List Row) → IsJournal rows → IsFormed (account did rows)
accounts_formed did rows is =
    let formed = accounts_are_formed did rows is in
    record { status = formed.status; repo = over_formed (account did rows).repo formed.repo (left_all did rows is) }

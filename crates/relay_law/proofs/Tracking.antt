-- An account expects the root of its newest map.
use Rattle.std.proofs.Common.{◌≡◌, ℕ, Bool, true, false, not, ◌&&◌, ◌||◌, List, [], ◌∷◌, ◌++◌, Option, Some, None, refl, ap, ◌∙◌, sym, cond, subst, append_assoc}
use Rattle.std.proofs.lemmas.Bool.{and_parts, true≢false, false≢true}
use Rattle.std.specs.List.{list_any, list_all}
use Rattle.std.specs.Prelude.{◌==◌}
use Rattle.at_event.specs.Refusals.{code_of}
use Rattle.at_event.specs.declared.refusal.Refusal.{Refusal}
use Rattle.relay_row.specs.Folds.{folded, names, did_of_row, is_named}
use Rattle.relay_row.specs.Journal.{IsJournal, keeps_order, are_none, is_carried_row}
use Rattle.relay_row.specs.Rules.{loses}
use Rattle.relay_row.specs.declared.carried.Carried.{Carried}
use Rattle.relay_row.specs.declared.carried.CarriedRepo.{CarriedRepo}
use Rattle.relay_row.specs.declared.fetched.Fetched.{Fetched}
use Rattle.relay_row.specs.declared.row.Row.{Row}
use Rattle.relay_row.specs.declared.taken.Effect.{Effect}
use Rattle.relay_row.specs.declared.taken.Taken.{Taken}
use Rattle.account_state.proofs.Dids.{names_same}
use Rattle.account_state.specs.Folds.{account, account_after, fresh, moved, effected, lost, refetched, last_rev, repo_carried}
use Rattle.account_state.specs.State.{State}
use Rattle.account_state.specs.declared.repo.Repo.{Repo}
use Rattle.commit_check.specs.Step.{empty_root}
use Rattle.relay_law.specs.Chains.{Part, commits, rests, nothing, effect_part, taken_part, carried_part, part_in, part_of}
use Rattle.relay_law.proofs.Growing.{root_by, root_now}

or_nothing : (b : Bool) → b || false ≡ b
or_nothing true = refl
or_nothing false = refl

or_joined : (a b c : Bool) → a || (b || c) ≡ (a || b) || c
or_joined true b c = refl
or_joined false b c = refl

pub named_more : (did : List ℕ) (rows : List Row) (row : Row) → is_named did (rows ++ row ∷ []) ≡ is_named did rows || names did (did_of_row row)
unfolding is_named
named_more did [] row = or_nothing (names did (did_of_row row))
named_more did (x ∷ rows) row = ap (λ (b : Bool). names did (did_of_row x) || b) (named_more did rows row) ∙ or_joined (names did (did_of_row x)) (list_any (λ r. names did (did_of_row r)) rows) (names did (did_of_row row))

abbrev pub is_account : Row → Bool
is_account (Row.Carried (Carried.Account a)) = true
is_account (Row.Carried (Carried.Last seq)) = false
is_account (Row.Carried (Carried.Host host n)) = false
is_account (Row.Taken t) = false
is_account (Row.Synced did whole moment) = false
is_account (Row.Operated o) = false

-- a carried account stands in front of all rows that name its DID; seen is whether one came already
abbrev InOrder : List ℕ → Bool → List Row → Type 0
InOrder did seen [] = Unit {0}
InOrder did seen (row ∷ rows) = (is_account row ≡ true → names did (did_of_row row) ≡ true → seen ≡ false) × InOrder did (seen || names did (did_of_row row)) rows

not_true : (b : Bool) → not b ≡ true → b ≡ false
not_true true h = sym h
not_true false h = refl

pub kept_order : (did : List ℕ) (before : List Row) (row : Row) → keeps_order before row ≡ true → is_account row ≡ true → names did (did_of_row row) ≡ true → is_named did before ≡ false
kept_order did before (Row.Carried (Carried.Account a)) kept is named =
    let rest = (and_parts (not (are_none before)) (list_all is_carried_row before && not (is_named a.did before)) kept).1 in
    let unnamed = not_true (is_named a.did before) (and_parts (list_all is_carried_row before) (not (is_named a.did before)) rest).1 in
    subst (λ (d : List ℕ). is_named d before ≡ false) (sym (names_same did a.did named)) unnamed
kept_order did before (Row.Carried (Carried.Last seq)) kept is named = absurd (false≢true is)
kept_order did before (Row.Carried (Carried.Host host n)) kept is named = absurd (false≢true is)
kept_order did before (Row.Taken t) kept is named = absurd (false≢true is)
kept_order did before (Row.Synced name whole moment) kept is named = absurd (false≢true is)
kept_order did before (Row.Operated o) kept is named = absurd (false≢true is)

in_order : (did : List ℕ) (before rows : List Row) → IsJournal (before ++ rows) → InOrder did (is_named did before) rows
in_order did before [] is = tt
in_order did before (row ∷ rows) is =
    let P : List Row → Type 0 = λ J. IsJournal J in
    let Q : Bool → Type 0 = λ b. InOrder did b rows in (
      kept_order did before row (is.ordered before row rows refl),
      subst Q (named_more did before row) (in_order did (before ++ row ∷ []) rows (subst P (sym (append_assoc before (row ∷ []) rows)) is)),
    )

-- an account expects this root
abbrev pub IsTracked : Repo → List ℕ → Type 0
IsTracked (Repo.Good head) r = head.data_root ≡ r
IsTracked Repo.Missing r = empty_root ≡ r
IsTracked (Repo.Lost rev) r = Unit {0}

lost_tracked : (a : State) (o : Option Refusal) (r : List ℕ) → IsTracked a.repo r → IsTracked (lost a o).repo r
lost_tracked a None r h = h
lost_tracked a (Some x) r h =
    elim (loses (code_of x)) as (λ b. IsTracked (cond b (record a { repo = Repo.Lost (last_rev a.repo) }) a).repo r) [ true ↦ tt | false ↦ h ]

effect_tracked : (a : State) (kind : ℕ) (message : List ℕ) (effect : Effect) (r : List ℕ) → IsTracked a.repo r → IsTracked (effected a effect).repo (root_by (effect_part kind message effect) r)
effect_tracked a kind message Effect.Nothing r h = h
effect_tracked a kind message (Effect.Account active status) r h = h
effect_tracked a kind message (Effect.Repo head) r h =
    elim (kind == 1) as (λ b. head.data_root ≡ root_by (cond b (commits message head.data_root) (rests head.data_root)) r) [ true ↦ refl | false ↦ refl ]

taken_tracked : (a : State) (t : Taken) (f : Fetched) (r : List ℕ) → IsTracked a.repo r → IsTracked (refetched (lost (effected a t.effect) t.refusal) f).repo (root_by (taken_part t f) r)
taken_tracked a t (Fetched.Whole w) r h = refl
taken_tracked a t Fetched.NotAsked r h = lost_tracked (effected a t.effect) t.refusal (root_by (effect_part t.kind t.message t.effect) r) (effect_tracked a t.kind t.message t.effect r h)
taken_tracked a t Fetched.Absent r h = lost_tracked (effected a t.effect) t.refusal (root_by (effect_part t.kind t.message t.effect) r) (effect_tracked a t.kind t.message t.effect r h)
taken_tracked a t (Fetched.Refused n) r h = lost_tracked (effected a t.effect) t.refusal (root_by (effect_part t.kind t.message t.effect) r) (effect_tracked a t.kind t.message t.effect r h)

carried_tracked : (repo : CarriedRepo) (r : List ℕ) → r ≡ empty_root → IsTracked (repo_carried repo) (root_by (carried_part repo) r)
carried_tracked (CarriedRepo.Good head) r h = refl
carried_tracked CarriedRepo.Missing r h = sym h
carried_tracked (CarriedRepo.Lost rev) r h = tt

moved_tracked : (a : State) (row : Row) (r : List ℕ) → (is_account row ≡ true → r ≡ empty_root) → IsTracked a.repo r → IsTracked (moved a row).repo (root_by (part_in row) r)
moved_tracked a (Row.Taken t) r start h = taken_tracked a t t.fetched r h
moved_tracked a (Row.Synced did whole moment) r start h = refl
moved_tracked a (Row.Operated o) r start h = h
moved_tracked a (Row.Carried (Carried.Last seq)) r start h = h
moved_tracked a (Row.Carried (Carried.Host host n)) r start h = h
moved_tracked a (Row.Carried (Carried.Account b)) r start h = carried_tracked b.repo r (start refl)

by_name : (b : Bool) (a : State) (row : Row) (r : List ℕ) → (b ≡ true → is_account row ≡ true → r ≡ empty_root) → IsTracked a.repo r → IsTracked (cond b (moved a row) a).repo (root_by (cond b (part_in row) nothing) r)
by_name true a row r start h = moved_tracked a row r (start refl) h
by_name false a row r start h = h

still_empty : (seen b : Bool) (p : Part) (r : List ℕ) → (seen ≡ false → r ≡ empty_root) → seen || b ≡ false → root_by (cond b p nothing) r ≡ empty_root
still_empty true b p r start e = absurd (true≢false e)
still_empty false true p r start e = absurd (true≢false e)
still_empty false false p r start e = start refl

tracked_from : (did : List ℕ) (a : State) (r : List ℕ) (seen : Bool) (rows : List Row) → InOrder did seen rows → (seen ≡ false → r ≡ empty_root) → IsTracked a.repo r → IsTracked (folded (account_after did) a rows).repo (root_now did r rows)
unfolding root_now
tracked_from did a r seen [] order start h = h
tracked_from did a r seen (row ∷ rows) order start h =
    tracked_from did (account_after did a row) (root_by (part_of did row) r) (seen || names did (did_of_row row)) rows order.1
    (still_empty seen (names did (did_of_row row)) (part_in row) r start)
    (by_name (names did (did_of_row row)) a row r (λ named is. start (order.0 is named)) h)

pub tracked : (did : List ℕ) (rows : List Row) → IsJournal rows → IsTracked (account did rows).repo (root_now did empty_root rows)
unfolding account is_named
tracked did rows is = tracked_from did fresh empty_root false rows (in_order did [] rows is) (λ e. refl) refl

-- What the stage of rows says of them, and the stage behind one more row.
use Rattle.std.proofs.Common.{◌≡◌, Bool, true, false, not, cond, ◌&&◌, List, [], ◌∷◌, ◌++◌, refl, sym, ap, ◌∙◌}
use Rattle.std.specs.List.{list_all}
use Rattle.std.proofs.lemmas.Bool.{and_parts, and_from}
use Rattle.std.proofs.lemmas.List.Folds.{list_all-append}
use Rattle.relay_row.specs.declared.carried.Carried.{Carried}
use Rattle.relay_row.specs.declared.row.Row.{Row}
use Rattle.relay_row.specs.Journal.{are_none, is_last_or_host, is_carried_row}
use Rattle.relay_core.specs.declared.stage.Stage.{Stage}
use Rattle.relay_core.specs.Stages.{stage_of, next_stage, is_start, takes_hosts, takes_accounts}

-- the stage, by its three tests
abbrev by_tests : Bool → Bool → Bool → Stage
by_tests none fronts carried = cond none Stage.Start (cond fronts Stage.Hosts (cond carried Stage.Accounts Stage.Events))

start_is : (none fronts carried : Bool) → is_start (by_tests none fronts carried) ≡ none
start_is true fronts carried = refl
start_is false true carried = refl
start_is false false true = refl
start_is false false false = refl

hosts_is : (none fronts carried : Bool) → takes_hosts (by_tests none fronts carried) ≡ (not none && fronts)
hosts_is true fronts carried = refl
hosts_is false true carried = refl
hosts_is false false true = refl
hosts_is false false false = refl

accounts_is : (none fronts carried : Bool) → (fronts ≡ true → carried ≡ true) → takes_accounts (by_tests none fronts carried) ≡ (not none && carried)
accounts_is true fronts carried h = refl
accounts_is false true carried h = sym (h refl)
accounts_is false false true h = refl
accounts_is false false false h = refl

one_is_carried : (row : Row) → is_last_or_host row ≡ true → is_carried_row row ≡ true
one_is_carried (Row.Carried c) h = refl
one_is_carried (Row.Taken t) h = absurd cc
one_is_carried (Row.Synced did whole moment) h = absurd cc
one_is_carried (Row.Operated o) h = absurd cc

all_are_carried : (rows : List Row) → list_all is_last_or_host rows ≡ true → list_all is_carried_row rows ≡ true
all_are_carried [] h = refl
all_are_carried (row ∷ rows) h =
    let both = and_parts (is_last_or_host row) (list_all is_last_or_host rows) h in
    and_from (is_carried_row row) (list_all is_carried_row rows) (one_is_carried row both.0) (all_are_carried rows both.1)

pub start_tells : (rows : List Row) → is_start (stage_of rows) ≡ are_none rows
start_tells rows = start_is (are_none rows) (list_all is_last_or_host rows) (list_all is_carried_row rows)

pub hosts_tell : (rows : List Row) → takes_hosts (stage_of rows) ≡ (not (are_none rows) && list_all is_last_or_host rows)
hosts_tell rows = hosts_is (are_none rows) (list_all is_last_or_host rows) (list_all is_carried_row rows)

pub accounts_tell : (rows : List Row) → takes_accounts (stage_of rows) ≡ (not (are_none rows) && list_all is_carried_row rows)
accounts_tell rows = accounts_is (are_none rows) (list_all is_last_or_host rows) (list_all is_carried_row rows) (all_are_carried rows)

pub grouped : (a b c : Bool) → ((a && b) && c) ≡ (a && (b && c))
grouped true b c = refl
grouped false b c = refl

false_true : false ≡ true → ⊥
false_true e = absurd cc

step_tests : (fronts carried : Bool) → (fronts ≡ true → carried ≡ true) → (row : Row)
    → by_tests false (fronts && (is_last_or_host row && true)) (carried && (is_carried_row row && true)) ≡ next_stage (by_tests false fronts carried) row
step_tests true false h row = absurd (false_true (h refl))
step_tests true true h (Row.Carried (Carried.Last seq)) = refl
step_tests true true h (Row.Carried (Carried.Host host n)) = refl
step_tests true true h (Row.Carried (Carried.Account a)) = refl
step_tests true true h (Row.Taken t) = refl
step_tests true true h (Row.Synced did whole moment) = refl
step_tests true true h (Row.Operated o) = refl
step_tests false true h (Row.Carried (Carried.Last seq)) = refl
step_tests false true h (Row.Carried (Carried.Host host n)) = refl
step_tests false true h (Row.Carried (Carried.Account a)) = refl
step_tests false true h (Row.Taken t) = refl
step_tests false true h (Row.Synced did whole moment) = refl
step_tests false true h (Row.Operated o) = refl
step_tests false false h (Row.Carried (Carried.Last seq)) = refl
step_tests false false h (Row.Carried (Carried.Host host n)) = refl
step_tests false false h (Row.Carried (Carried.Account a)) = refl
step_tests false false h (Row.Taken t) = refl
step_tests false false h (Row.Synced did whole moment) = refl
step_tests false false h (Row.Operated o) = refl

-- the stage behind one more row
pub stage_step : (rows : List Row) (row : Row) → stage_of (rows ++ row ∷ []) ≡ next_stage (stage_of rows) row
stage_step [] (Row.Carried (Carried.Last seq)) = refl
stage_step [] (Row.Carried (Carried.Host host n)) = refl
stage_step [] (Row.Carried (Carried.Account a)) = refl
stage_step [] (Row.Taken t) = refl
stage_step [] (Row.Synced did whole moment) = refl
stage_step [] (Row.Operated o) = refl
stage_step (first ∷ rows) row =
    ap (λ (fronts : Bool). by_tests false fronts (list_all is_carried_row (first ∷ (rows ++ row ∷ [])))) (list_all-append is_last_or_host (first ∷ rows) (row ∷ []))
    ∙ ap (λ (carried : Bool). by_tests false (list_all is_last_or_host (first ∷ rows) && (is_last_or_host row && true)) carried) (list_all-append is_carried_row (first ∷ rows) (row ∷ []))
    ∙ step_tests (list_all is_last_or_host (first ∷ rows)) (list_all is_carried_row (first ∷ rows)) (all_are_carried (first ∷ rows)) row

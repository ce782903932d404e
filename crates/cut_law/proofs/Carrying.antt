-- What carries rows over says the same as they do.
use Rattle.std.proofs.Common.{◌≡◌, ℕ, Bool, true, false, ◌||◌, cond, List, [], ◌∷◌, ◌++◌, refl, sym, ap, ◌∙◌}
use Rattle.std.proofs.lemmas.Bool.{or_parts}
use Rattle.std.proofs.lemmas.List.Folds.{list_any-append}
use Rattle.std.specs.List.{list_any}
use Rattle.std.specs.Prelude.{◌==◌}
use Rattle.std.specs.Str.{bytes_eq}
use Rattle.relay_row.specs.Folds.{folded, names, did_of_row, is_named, cursor_after, cursor, last_after, last_seq}
use Rattle.relay_row.specs.declared.carried.Carried.{Carried}
use Rattle.relay_row.specs.declared.row.Row.{Row}
use Rattle.relay_row.proofs.Journals.{folded_joined}
use Rattle.account_state.specs.Folds.{fresh, moved, repo_carried, account_after, account}
use Rattle.account_state.specs.State.{State}
use Rattle.account_state.specs.declared.repo.Repo.{Repo}
use Rattle.host_state.specs.Folds.{hosts, cursor_of}
use Rattle.host_state.proofs.Cursors.{hosts_tell}
use Rattle.cut_law.specs.Cut.{carried_front, rows_behind_front, host_rows, repo_over, account_row, account_rows, carried, cut}
use Rattle.cut_law.proofs.Fronts.{split}
use Rattle.cut_law.proofs.Hosts.{hosts_apart, host_cursors, none_cursor, zero_is}
use Rattle.account_state.specs.Dids.{dids}
use Rattle.account_state.proofs.Dids.{dids_named, names_none, names_same}

-- ---- accounts

either_same : {A : Type 0} (b : Bool) (a : A) → cond b a a ≡ a
either_same true a = refl
either_same false a = refl

repo_back : (repo : Repo) → repo_carried (repo_over repo) ≡ repo
repo_back Repo.Missing = refl
repo_back (Repo.Good head) = refl
repo_back (Repo.Lost rev) = refl

state_back : (did : List ℕ) (a : State) → moved a (account_row did a) ≡ a
state_back did a = ap (λ (repo : Repo). record { active = a.active; status = a.status; down = a.down; repo = repo }) (repo_back a.repo)

-- a row that names no account, of hosts
abbrev Leaves : List ℕ → List Row → Type 0
Leaves did rows = (a : State) → folded (account_after did) a rows ≡ a

hosts_leave : (did : List ℕ) (hs : List (List ℕ × ℕ)) → Leaves did (host_rows hs)
hosts_leave did [] a = refl
hosts_leave did (h ∷ hs) a =
    elim (h.1 == 0) as (λ b. folded (account_after did) a (cond b (host_rows hs) (Row.Carried (Carried.Host h.0 h.1) ∷ host_rows hs)) ≡ a) [
      | true ↦ hosts_leave did hs a
      | false ↦ ap (λ (s : State). folded (account_after did) s (host_rows hs)) (either_same (names did []) a) ∙ hosts_leave did hs a
    ]

account_step : (did d : List ℕ) (rows : List Row) (a : State) (b r : Bool) → names did d ≡ b
    → cond r (account did rows) (cond b (moved a (account_row d (account d rows))) a) ≡ cond (b || r) (account did rows) a
account_step did d rows a true true is = refl
account_step did d rows a true false is = state_back d (account d rows) ∙ ap (λ (name : List ℕ). account name rows) (sym (names_same did d is))
account_step did d rows a false r is = refl

accounts_over : (did : List ℕ) (rows : List Row) (ds : List (List ℕ)) (a : State) → folded (account_after did) a (account_rows rows ds) ≡ cond (list_any (names did) ds) (account did rows) a
accounts_over did rows [] a = refl
accounts_over did rows (d ∷ ds) a =
    accounts_over did rows ds (account_after did a (account_row d (account d rows))) ∙ account_step did d rows a (names did d) (list_any (names did) ds) refl

-- rows that don't name an account leave it
unnamed : (did : List ℕ) (a : State) (rows : List Row) → list_any (λ row. names did (did_of_row row)) rows ≡ false → folded (account_after did) a rows ≡ a
unnamed did a [] none = refl
unnamed did a (row ∷ rows) none =
    let both = or_parts (names did (did_of_row row)) (list_any (λ r. names did (did_of_row r)) rows) none in
    ap (λ (b : Bool). folded (account_after did) (cond b (moved a row) a) rows) both.0 ∙ unnamed did a rows both.1

known_or_fresh : (did : List ℕ) (rows : List Row) (b : Bool) → is_named did rows ≡ b → cond b (account did rows) fresh ≡ account did rows
unfolding account is_named
known_or_fresh did rows true is = refl
known_or_fresh did rows false is = sym (unnamed did fresh rows is)

pub same_account : (did : List ℕ) (rows : List Row) → account did (carried rows) ≡ account did rows
unfolding account carried
same_account did rows =
    let all = account_rows rows (dids rows) in
    folded_joined (account_after did) (cond (names did []) fresh fresh) (host_rows (hosts rows)) all
    ∙ ap (λ (a : State). folded (account_after did) a all) (hosts_leave did (hosts rows) (cond (names did []) fresh fresh) ∙ either_same (names did []) fresh)
    ∙ accounts_over did rows (dids rows) fresh
    ∙ ap (λ (b : Bool). cond b (account did rows) fresh) (dids_named did rows)
    ∙ known_or_fresh did rows (is_named did rows) refl

-- ---- and which are named

pub hosts_unnamed : (did : List ℕ) (hs : List (List ℕ × ℕ)) → list_any (λ row. names did (did_of_row row)) (host_rows hs) ≡ false
hosts_unnamed did [] = refl
hosts_unnamed did (h ∷ hs) =
    elim (h.1 == 0) as (λ b. list_any (λ row. names did (did_of_row row)) (cond b (host_rows hs) (Row.Carried (Carried.Host h.0 h.1) ∷ host_rows hs)) ≡ false) [
      | true ↦ hosts_unnamed did hs
      | false ↦ ap (λ (b : Bool). b || list_any (λ row. names did (did_of_row row)) (host_rows hs)) (names_none did) ∙ hosts_unnamed did hs
    ]

accounts_named : (did : List ℕ) (rows : List Row) (ds : List (List ℕ)) → list_any (λ row. names did (did_of_row row)) (account_rows rows ds) ≡ list_any (names did) ds
accounts_named did rows [] = refl
accounts_named did rows (d ∷ ds) = ap (λ (b : Bool). names did d || b) (accounts_named did rows ds)

pub same_named : (did : List ℕ) (rows : List Row) → is_named did (carried rows) ≡ is_named did rows
unfolding is_named carried
same_named did rows =
    let all = account_rows rows (dids rows) in
    let over = list_any (λ row. names did (did_of_row row)) (host_rows (hosts rows) ++ all) in
    ap (λ (b : Bool). b || over) (names_none did)
    ∙ list_any-append (λ row. names did (did_of_row row)) (host_rows (hosts rows)) all
    ∙ ap (λ (b : Bool). b || list_any (λ row. names did (did_of_row row)) all) (hosts_unnamed did (hosts rows))
    ∙ accounts_named did rows (dids rows) ∙ dids_named did rows

-- ---- cursors

no_host : (host : List ℕ) (n m : ℕ) → cond (names host []) m n ≡ n
no_host host n m = ap (λ (b : Bool). cond b m n) (names_none host)

accounts_stay : (host : List ℕ) (rows : List Row) (ds : List (List ℕ)) (n : ℕ) → folded (cursor_after host) n (account_rows rows ds) ≡ n
accounts_stay host rows [] n = refl
accounts_stay host rows (d ∷ ds) n = ap (λ (m : ℕ). folded (cursor_after host) m (account_rows rows ds)) (no_host host n 0) ∙ accounts_stay host rows ds n

over_zero : (n : ℕ) (b : Bool) → (n == 0) ≡ b → cond b 0 n ≡ n
over_zero n true is = sym (zero_is n is)
over_zero n false is = refl

cursors_over : (host : List ℕ) (rows : List Row) (b : Bool) → bytes_eq host [] ≡ b → folded (cursor_after host) 0 (host_rows (hosts rows)) ≡ cursor host rows
unfolding cursor
cursors_over host rows true none = none_cursor host 0 (host_rows (hosts rows)) none ∙ sym (none_cursor host 0 rows none)
cursors_over host rows false some =
    host_cursors host some (hosts rows) 0 (hosts_apart rows) ∙ over_zero (cursor_of (hosts rows) host) (cursor_of (hosts rows) host == 0) refl ∙ hosts_tell host rows

pub same_cursor : (host : List ℕ) (rows : List Row) → cursor host (carried rows) ≡ cursor host rows
unfolding cursor carried
same_cursor host rows =
    let all = account_rows rows (dids rows) in
    ap (λ (n : ℕ). folded (cursor_after host) n (host_rows (hosts rows) ++ all)) (no_host host 0 0)
    ∙ folded_joined (cursor_after host) 0 (host_rows (hosts rows)) all
    ∙ accounts_stay host rows (dids rows) (folded (cursor_after host) 0 (host_rows (hosts rows)))
    ∙ cursors_over host rows (bytes_eq host []) refl

-- ---- the last number

hosts_keep : (hs : List (List ℕ × ℕ)) (n : ℕ) → folded last_after n (host_rows hs) ≡ n
hosts_keep [] n = refl
hosts_keep (h ∷ hs) n =
    elim (h.1 == 0) as (λ b. folded last_after n (cond b (host_rows hs) (Row.Carried (Carried.Host h.0 h.1) ∷ host_rows hs)) ≡ n) [
      | true ↦ hosts_keep hs n
      | false ↦ hosts_keep hs n
    ]

accounts_keep : (rows : List Row) (ds : List (List ℕ)) (n : ℕ) → folded last_after n (account_rows rows ds) ≡ n
accounts_keep rows [] n = refl
accounts_keep rows (d ∷ ds) n = accounts_keep rows ds n

pub same_last : (rows : List Row) → last_seq (carried rows) ≡ last_seq rows
unfolding last_seq carried
same_last rows =
    let all = account_rows rows (dids rows) in
    let n = cond (last_seq rows == 0) 0 (last_seq rows) in
    folded_joined last_after n (host_rows (hosts rows)) all
    ∙ accounts_keep rows (dids rows) (folded last_after n (host_rows (hosts rows)))
    ∙ hosts_keep (hosts rows) n ∙ over_zero (last_seq rows) (last_seq rows == 0) refl

-- ---- so folds over the cut are those over the journal

same_fold : {A : Type 0} (step : A → Row → A) (a : A) (J : List Row) (c : ℕ) → folded step a (carried (carried_front c J)) ≡ folded step a (carried_front c J) → folded step a (cut J c) ≡ folded step a J
unfolding cut
same_fold step a J c same =
    folded_joined step a (carried (carried_front c J)) (rows_behind_front c J) ∙ ap (λ b. folded step b (rows_behind_front c J)) same
    ∙ sym (folded_joined step a (carried_front c J) (rows_behind_front c J)) ∙ ap (λ (rows : List Row). folded step a rows) (split c J)

pub cut_account : (did : List ℕ) (J : List Row) (c : ℕ) → account did (cut J c) ≡ account did J
unfolding account
cut_account did J c = same_fold (account_after did) fresh J c (same_account did (carried_front c J))

pub cut_cursor : (host : List ℕ) (J : List Row) (c : ℕ) → cursor host (cut J c) ≡ cursor host J
unfolding cursor
cut_cursor host J c = same_fold (cursor_after host) 0 J c (same_cursor host (carried_front c J))

pub cut_last : (J : List Row) (c : ℕ) → last_seq (cut J c) ≡ last_seq J
unfolding last_seq
cut_last J c = same_fold last_after 0 J c (same_last (carried_front c J))

pub cut_named : (did : List ℕ) (J : List Row) (c : ℕ) → is_named did (cut J c) ≡ is_named did J
unfolding is_named cut
cut_named did J c =
    let test = λ (row : Row). names did (did_of_row row) in
    list_any-append test (carried (carried_front c J)) (rows_behind_front c J) ∙ ap (λ (b : Bool). b || list_any test (rows_behind_front c J)) (same_named did (carried_front c J))
    ∙ sym (list_any-append test (carried_front c J) (rows_behind_front c J)) ∙ ap (λ (rows : List Row). list_any test rows) (split c J)

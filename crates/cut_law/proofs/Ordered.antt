-- Journals by their rows, one behind the other, and the rows that carry others over as a journal.
use Rattle.std.proofs.Common.{◌≡◌, ℕ, ◌<◌, Bool, true, false, ◌&&◌, cond, List, [], ◌∷◌, ◌++◌, refl, sym, ap, ◌∙◌, subst, arith, append_assoc}
use Rattle.std.specs.List.{list_all, list_any}
use Rattle.std.specs.Prelude.{◌==◌, not, nat_lt}
use Rattle.std.specs.Str.{bytes_eq}
use Rattle.std.proofs.lemmas.Bool.{and_from, and_right, cond-false, lt-ltb, not_from_false, or_from}
use Rattle.std.proofs.lemmas.Bool.Decides.{nat_tests}
use Rattle.std.proofs.lemmas.List.{append-nil}
use Rattle.std.proofs.lemmas.List.Folds.{list_all-append}
use Rattle.relay_row.specs.Folds.{names, did_of_row, is_named, cursor, last_seq}
use Rattle.relay_row.specs.Journal.{IsJournal, are_none, is_carried_row, is_last_or_host, keeps_order}
use Rattle.relay_row.specs.Rules.{is_carried, is_number, is_positive, is_repo, is_row, is_status, names_did, names_host}
use Rattle.relay_row.specs.declared.carried.Carried.{Carried}
use Rattle.relay_row.specs.declared.row.Row.{Row}
use Rattle.relay_row.proofs.Journals.{cursors_joined, grows, no_rows}
use Rattle.account_state.specs.Folds.{account}
use Rattle.account_state.specs.State.{State}
use Rattle.account_state.proofs.Order.{behind_apart}
use Rattle.host_state.specs.Folds.{hosts}
use Rattle.relay_law.proofs.Tracking.{named_more}
use Rattle.cut_law.specs.Cut.{host_rows, repo_over, account_row, account_rows, carried}
use Rattle.cut_law.proofs.Accounts.{accounts_formed, IsFormed}
use Rattle.cut_law.proofs.Carrying.{hosts_unnamed}
use Rattle.account_state.specs.Dids.{AreBehind, dids}
use Rattle.account_state.proofs.Dids.{behind_lower, dids_behind, names_none}
use Rattle.cut_law.proofs.Dids.{AreDids, dids_formed}
use Rattle.cut_law.proofs.Hosts.{AreApart, Each, IsAway, IsHost, hosts_apart, hosts_formed, turned}
use Rattle.cut_law.proofs.Numbers.{formed_at, last_number}

-- each row is well formed and keeps the order behind those in front of it
abbrev pub AreNext : List Row → List Row → Type 0
AreNext before [] = Unit {0}
AreNext before (row ∷ rows) = (is_row row ≡ true) × (keeps_order before row ≡ true) × AreNext (before ++ row ∷ []) rows

pub nexts : (before rows : List Row) → IsJournal (before ++ rows) → AreNext before rows
nexts before [] is = tt
nexts before (row ∷ rows) is =
    let P : List Row → Type 0 = λ J. IsJournal J in
    (formed_at before row rows is.formed, is.ordered before row rows refl, nexts (before ++ row ∷ []) rows (subst P (sym (append_assoc before (row ∷ []) rows)) is))

pub journal_next : (before rows : List Row) → IsJournal before → AreNext before rows → IsJournal (before ++ rows)
journal_next before [] is next = let P : List Row → Type 0 = λ J. IsJournal J in subst P (sym (append-nil before)) is
journal_next before (row ∷ rows) is next =
    let P : List Row → Type 0 = λ J. IsJournal J in
    subst P (append_assoc before (row ∷ []) rows) (journal_next (before ++ row ∷ []) rows (grows before row is next.0 next.1) next.2)

some_more : (before : List Row) (row : Row) → are_none (before ++ row ∷ []) ≡ false
some_more [] row = refl
some_more (x ∷ before) row = refl

all_more : (p : Row → Bool) (before : List Row) (row : Row) → list_all p before ≡ true → p row ≡ true → list_all p (before ++ row ∷ []) ≡ true
all_more p before row all is = list_all-append p before (row ∷ []) ∙ and_from (list_all p before) (p row && true) all (and_from (p row) true is refl)

-- ---- hosts

-- none of these hosts has a cursor yet
abbrev AreFree : List Row → List (List ℕ × ℕ) → Type 0
AreFree before [] = Unit {0}
AreFree before (h ∷ hs) = (cursor h.0 before ≡ 0) × AreFree before hs

free_more : (before : List Row) (host : List ℕ) (n : ℕ) (hs : List (List ℕ × ℕ)) → IsAway host hs → AreFree before hs → AreFree (before ++ Row.Carried (Carried.Host host n) ∷ []) hs
free_more before host n [] away free = tt
free_more before host n (h ∷ hs) away free = (
  cursors_joined h.0 before (Row.Carried (Carried.Host host n) ∷ [])
      ∙ cond-false (names h.0 host) n (cursor h.0 before) (and_right (not (bytes_eq h.0 [])) (bytes_eq h.0 host) (turned host h.0 away.0)) ∙ free.0,
  free_more before host n hs away.1 free.1,
)

host_row : (host : List ℕ) (n : ℕ) → names_host host ≡ true → is_number n ≡ true → (n == 0) ≡ false → is_row (Row.Carried (Carried.Host host n)) ≡ true
unfolding is_row is_carried
host_row host n named counted some =
    let more : nat_lt 0 n ≡ true = grind (arith, nat_tests) in
    and_from (names_host host) (is_positive n) named (and_from (nat_lt 0 n) (is_number n) more counted)

hosts_next : (before : List Row) (hs : List (List ℕ × ℕ)) → are_none before ≡ false → list_all is_last_or_host before ≡ true → AreApart hs → Each IsHost hs → AreFree before hs → AreNext before (host_rows hs)
hosts_next before [] some kinds apart are free = tt
hosts_next before (h ∷ hs) some kinds apart are free =
    let row = Row.Carried (Carried.Host h.0 h.1) in
    elim (h.1 == 0) as (λ b. (h.1 == 0) ≡ b → AreNext before (cond b (host_rows hs) (row ∷ host_rows hs))) [
      | true ↦ λ e. hosts_next before hs some kinds apart.1 are.1 free.1
      | false ↦ λ e. (
        host_row h.0 h.1 are.0.0 are.0.1 e,
        and_from (not (are_none before)) (list_all is_last_or_host before && cursor h.0 before == 0) (not_from_false (are_none before) some)
            (and_from (list_all is_last_or_host before) (cursor h.0 before == 0) kinds (ap (λ (n : ℕ). n == 0) free.0)),
        hosts_next (before ++ row ∷ []) hs (some_more before row) (all_more is_last_or_host before row kinds refl) apart.1 are.1 (free_more before h.0 h.1 hs apart.0 free.1),
      )
    ] refl

hosts_carried : (hs : List (List ℕ × ℕ)) → list_all is_carried_row (host_rows hs) ≡ true
hosts_carried [] = refl
hosts_carried (h ∷ hs) =
    elim (h.1 == 0) as (λ b. list_all is_carried_row (cond b (host_rows hs) (Row.Carried (Carried.Host h.0 h.1) ∷ host_rows hs)) ≡ true) [
      | true ↦ hosts_carried hs
      | false ↦ hosts_carried hs
    ]

-- ---- accounts

-- none of these DIDs is named yet
abbrev AreNew : List Row → List (List ℕ) → Type 0
AreNew before [] = Unit {0}
AreNew before (did ∷ others) = (is_named did before ≡ false) × AreNew before others

new_more : (before : List Row) (did : List ℕ) (a : State) (ds : List (List ℕ)) → AreBehind did ds → AreNew before ds → AreNew (before ++ account_row did a ∷ []) ds
new_more before did a [] are new = tt
new_more before did a (d ∷ ds) are new = (
  named_more d before (account_row did a)
      ∙ or_from (is_named d before) (names d did) new.0 (and_right (not (bytes_eq d [])) (bytes_eq d did) (behind_apart did d are.0)),
  new_more before did a ds (behind_lower did d ds are.0 are.1) new.1,
)

account_formed : (did : List ℕ) (a : State) → names_did did ≡ true → IsFormed a → is_row (account_row did a) ≡ true
unfolding is_row is_carried
account_formed did a named is =
    and_from (names_did did) (is_status a.status && is_repo (repo_over a.repo)) named (and_from (is_status a.status) (is_repo (repo_over a.repo)) is.status is.repo)

accounts_next : (before rows : List Row) (low : List ℕ) (ds : List (List ℕ)) → ((did : List ℕ) → IsFormed (account did rows)) → are_none before ≡ false → list_all is_carried_row before ≡ true
    → AreBehind low ds → AreDids ds → AreNew before ds → AreNext before (account_rows rows ds)
accounts_next before rows low [] formed some kinds are named new = tt
accounts_next before rows low (did ∷ ds) formed some kinds are named new =
    let a = account did rows in
    let row = account_row did a in (
      account_formed did a named.0 (formed did),
      and_from (not (are_none before)) (list_all is_carried_row before && not (is_named did before)) (not_from_false (are_none before) some)
          (and_from (list_all is_carried_row before) (not (is_named did before)) kinds (not_from_false (is_named did before) new.0)),
      accounts_next (before ++ row ∷ []) rows did ds formed (some_more before row) (all_more is_carried_row before row kinds refl) are.1 named.1 (new_more before did a ds are.1 new.1),
    )

accounts_carried : (rows : List Row) (ds : List (List ℕ)) → list_all is_carried_row (account_rows rows ds) ≡ true
accounts_carried rows [] = refl
accounts_carried rows (d ∷ ds) = accounts_carried rows ds

-- ---- together

pub all_carried : (rows : List Row) → list_all is_carried_row (carried rows) ≡ true
unfolding carried
all_carried rows =
    list_all-append is_carried_row (host_rows (hosts rows)) (account_rows rows (dids rows))
    ∙ and_from (list_all is_carried_row (host_rows (hosts rows))) (list_all is_carried_row (account_rows rows (dids rows))) (hosts_carried (hosts rows)) (accounts_carried rows (dids rows))

last_row : (n : ℕ) → 0 < n → is_number n ≡ true → is_row (Row.Carried (Carried.Last n)) ≡ true
unfolding is_row is_carried
last_row n some counted = and_from (nat_lt 0 n) (is_number n) (lt-ltb 0 n some) counted

all_free : (n : ℕ) (hs : List (List ℕ × ℕ)) → AreFree (Row.Carried (Carried.Last n) ∷ []) hs
unfolding cursor
all_free n [] = tt
all_free n (h ∷ hs) = (cond-false (names h.0 []) 0 0 (names_none h.0), all_free n hs)

all_new : (n : ℕ) (hs : List (List ℕ × ℕ)) (ds : List (List ℕ)) → AreNew (Row.Carried (Carried.Last n) ∷ host_rows hs) ds
unfolding is_named
all_new n hs [] = tt
all_new n hs (d ∷ ds) = (or_from (names d []) (list_any (λ row. names d (did_of_row row)) (host_rows hs)) (names_none d) (hosts_unnamed d hs), all_new n hs ds)

-- what carries a journal over, where that has a number, is a journal
pub carried_journal : (rows : List Row) → IsJournal rows → 0 < last_seq rows → IsJournal (carried rows)
unfolding carried
carried_journal rows is some =
    let first = Row.Carried (Carried.Last (last_seq rows)) in
    let one : IsJournal (first ∷ []) = grows [] first no_rows (last_row (last_seq rows) some (last_number rows is.formed)) refl in
    let two : IsJournal (first ∷ host_rows (hosts rows)) =
    journal_next (first ∷ []) (host_rows (hosts rows)) one (hosts_next (first ∷ []) (hosts rows) refl refl (hosts_apart rows) (hosts_formed rows is.formed) (all_free (last_seq rows) (hosts rows))) in
    journal_next (first ∷ host_rows (hosts rows)) (account_rows rows (dids rows)) two
    (accounts_next (first ∷ host_rows (hosts rows)) rows [] (dids rows) (λ did. accounts_formed did rows is) refl (hosts_carried (hosts rows)) (dids_behind rows) (dids_formed rows is.formed) (all_new (last_seq rows) (hosts rows) (dids rows)))

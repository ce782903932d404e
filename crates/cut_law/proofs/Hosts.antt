-- The hosts of a journal: each stands once in their list, and the rows that carry them over tell the same cursors.
use Rattle.std.proofs.Common.{◌≡◌, ℕ, Bool, true, false, cond, List, [], ◌∷◌, refl, sym, ap, ◌∙◌, subst, arith}
use Rattle.std.proofs.lemmas.Bool.{and_parts, cond-true, cond-false, false_from_ne_true, false≢true, true≢false}
use Rattle.std.proofs.lemmas.Bool.Decides.{nat_tests}
use Rattle.std.specs.List.{list_all}
use Rattle.std.specs.Prelude.{not, ◌&&◌, ◌==◌, nat_lt}
use Rattle.std.specs.Str.{bytes_eq}
use Rattle.relay_row.specs.Folds.{folded, names, host_in, host_seq_in, cursor_after}
use Rattle.relay_row.specs.Rules.{is_about, is_carried, is_decided, is_moment, is_number, is_positive, is_row, is_taken, names_host}
use Rattle.relay_row.specs.declared.carried.Carried.{Carried}
use Rattle.relay_row.specs.declared.row.Row.{Row}
use Rattle.account_state.proofs.Order.{same_text, is_text}
use Rattle.host_state.specs.Folds.{set_cursor, hosts_after, hosts, cursor_of}
use Rattle.cut_law.specs.Cut.{host_rows}

-- a host isn't among these
abbrev pub IsAway : List ℕ → List (List ℕ × ℕ) → Type 0
IsAway host [] = Unit {0}
IsAway host (h ∷ hs) = (bytes_eq host h.0 ≡ false) × IsAway host hs

-- each stands once among these
abbrev pub AreApart : List (List ℕ × ℕ) → Type 0
AreApart [] = Unit {0}
AreApart (h ∷ hs) = IsAway h.0 hs × AreApart hs

pub turned : (a b : List ℕ) → bytes_eq a b ≡ false → bytes_eq b a ≡ false
turned a b differ = false_from_ne_true (bytes_eq b a) (λ same. false≢true (sym differ ∙ is_text a b (sym (same_text b a same))))

set_away : (name host : List ℕ) (n : ℕ) (hs : List (List ℕ × ℕ)) → bytes_eq name host ≡ false → IsAway name hs → IsAway name (set_cursor hs host n)
set_away name host n [] differ away = (differ, tt)
set_away name host n (h ∷ hs) differ away =
    elim (bytes_eq host h.0) as (λ b. IsAway name (cond b ((h.0, n) ∷ hs) (h ∷ set_cursor hs host n))) [
      | true ↦ away
      | false ↦ (away.0, set_away name host n hs differ away.1)
    ]

set_apart : (host : List ℕ) (n : ℕ) (hs : List (List ℕ × ℕ)) → AreApart hs → AreApart (set_cursor hs host n)
set_apart host n [] apart = (tt, tt)
set_apart host n (h ∷ hs) apart =
    elim (bytes_eq host h.0) as (λ b. bytes_eq host h.0 ≡ b → AreApart (cond b ((h.0, n) ∷ hs) (h ∷ set_cursor hs host n))) [
      | true ↦ λ e. apart
      | false ↦ λ e. (set_away h.0 host n hs (turned host h.0 e) apart.0, set_apart host n hs apart.1)
    ] refl

apart_from : (hs : List (List ℕ × ℕ)) (rows : List Row) → AreApart hs → AreApart (folded hosts_after hs rows)
apart_from hs [] apart = apart
apart_from hs (row ∷ rows) apart =
    apart_from (hosts_after hs row) rows
    (elim (bytes_eq (host_in row) []) as (λ b. AreApart (cond b hs (set_cursor hs (host_in row) (host_seq_in row)))) [ true ↦ apart | false ↦ set_apart (host_in row) (host_seq_in row) hs apart ])

pub hosts_apart : (rows : List Row) → AreApart (hosts rows)
unfolding hosts
hosts_apart rows = apart_from [] rows tt

-- ---- what holds of each

module _ (P : List ℕ → ℕ → Type 0) where
  abbrev pub Each : List (List ℕ × ℕ) → Type 0
  Each [] = Unit {0}
  Each (h ∷ hs) = P h.0 h.1 × Each hs

  -- of the host of each row that names one
  abbrev pub EachRow : List Row → Type 0
  EachRow [] = Unit {0}
  EachRow (row ∷ rows) = (bytes_eq (host_in row) [] ≡ false → P (host_in row) (host_seq_in row)) × EachRow rows

  set_each : (host : List ℕ) (n : ℕ) (hs : List (List ℕ × ℕ)) → P host n → Each hs → Each (set_cursor hs host n)
  set_each host n [] is each = (is, tt)
  set_each host n (h ∷ hs) is each =
      elim (bytes_eq host h.0) as (λ b. bytes_eq host h.0 ≡ b → Each (cond b ((h.0, n) ∷ hs) (h ∷ set_cursor hs host n))) [
        | true ↦ λ e. (subst (λ (t : List ℕ). P t n) (same_text host h.0 e) is, each.1)
        | false ↦ λ e. (each.0, set_each host n hs is each.1)
      ] refl

  each_from : (hs : List (List ℕ × ℕ)) (rows : List Row) → EachRow rows → Each hs → Each (folded hosts_after hs rows)
  each_from hs [] of_rows each = each
  each_from hs (row ∷ rows) of_rows each =
      each_from (hosts_after hs row) rows of_rows.1
      (elim (bytes_eq (host_in row) []) as (λ b. bytes_eq (host_in row) [] ≡ b → Each (cond b hs (set_cursor hs (host_in row) (host_seq_in row)))) [
        | true ↦ λ e. each
        | false ↦ λ e. set_each (host_in row) (host_seq_in row) hs (of_rows.0 e) each
      ] refl)

  pub hosts_each : (rows : List Row) → EachRow rows → Each (hosts rows)
  unfolding hosts
  hosts_each rows of_rows = each_from [] rows of_rows tt

-- a host and its number are well formed
abbrev pub IsHost : List ℕ → ℕ → Type 0
IsHost host n = (names_host host ≡ true) × (is_number n ≡ true)

host_formed : (row : Row) → is_row row ≡ true → bytes_eq (host_in row) [] ≡ false → IsHost (host_in row) (host_seq_in row)
unfolding is_row is_taken is_carried
host_formed (Row.Taken t) formed some =
    let named = and_parts (names_host t.host) (is_number t.host_seq && (is_about t.kind t.did && (is_moment t.moment && is_decided t.refusal t))) formed in
    (named.0, (and_parts (is_number t.host_seq) (is_about t.kind t.did && (is_moment t.moment && is_decided t.refusal t)) named.1).0)
host_formed (Row.Synced did whole moment) formed some = absurd (true≢false some)
host_formed (Row.Operated o) formed some = absurd (true≢false some)
host_formed (Row.Carried (Carried.Last seq)) formed some = absurd (true≢false some)
host_formed (Row.Carried (Carried.Host host n)) formed some =
    let both = and_parts (names_host host) (is_positive n) formed in
    (both.0, (and_parts (nat_lt 0 n) (is_number n) both.1).1)
host_formed (Row.Carried (Carried.Account a)) formed some = absurd (true≢false some)

each_formed : (rows : List Row) → list_all is_row rows ≡ true → EachRow IsHost rows
each_formed [] formed = tt
each_formed (row ∷ rows) formed =
    let both = and_parts (is_row row) (list_all is_row rows) formed in
    (host_formed row both.0, each_formed rows both.1)

pub hosts_formed : (rows : List Row) → list_all is_row rows ≡ true → Each IsHost (hosts rows)
hosts_formed rows formed = hosts_each IsHost rows (each_formed rows formed)

-- ---- the cursors that their rows tell

pub zero_is : (n : ℕ) → (n == 0) ≡ true → n ≡ 0
zero_is n is = grind (arith, nat_tests)

cursor_away : (host : List ℕ) (hs : List (List ℕ × ℕ)) → IsAway host hs → cursor_of hs host ≡ 0
cursor_away host [] away = refl
cursor_away host (h ∷ hs) away = ap (λ (b : Bool). cond b h.1 (cursor_of hs host)) away.0 ∙ cursor_away host hs away.1

-- a cursor, or this one where that is 0
abbrev over : ℕ → ℕ → ℕ
over n cursor = cond (cursor == 0) n cursor

module _ (host : List ℕ) (some : bytes_eq host [] ≡ false) where
  named_as : (text : List ℕ) (b : Bool) → bytes_eq host text ≡ b → names host text ≡ b
  named_as text b is = ap (λ (t : Bool). not t && bytes_eq host text) some ∙ is

  host_step : (h : List ℕ × ℕ) (hs : List (List ℕ × ℕ)) (n : ℕ) → ((m : ℕ) → folded (cursor_after host) m (host_rows hs) ≡ over m (cursor_of hs host)) → IsAway h.0 hs
      → (z s : Bool) → (h.1 == 0) ≡ z → bytes_eq host h.0 ≡ s
      → folded (cursor_after host) n (cond z (host_rows hs) (Row.Carried (Carried.Host h.0 h.1) ∷ host_rows hs)) ≡ over n (cond s h.1 (cursor_of hs host))
  host_step h hs n more away true true none same =
      let here : cursor_of hs host ≡ 0 = cursor_away host hs (subst (λ (t : List ℕ). IsAway t hs) (sym (same_text host h.0 same)) away) in
      more n ∙ ap (λ (m : ℕ). over n m) (here ∙ sym (zero_is h.1 none))
  host_step h hs n more away true false none same = more n
  host_step h hs n more away false true none same =
      let here : cursor_of hs host ≡ 0 = cursor_away host hs (subst (λ (t : List ℕ). IsAway t hs) (sym (same_text host h.0 same)) away) in
      ap (λ (m : ℕ). folded (cursor_after host) m (host_rows hs)) (cond-true (names host h.0) h.1 n (named_as h.0 true same))
      ∙ more h.1 ∙ ap (λ (m : ℕ). over h.1 m) here ∙ sym (ap (λ (b : Bool). cond b n h.1) none)
  host_step h hs n more away false false none same =
      ap (λ (m : ℕ). folded (cursor_after host) m (host_rows hs)) (cond-false (names host h.0) h.1 n (named_as h.0 false same)) ∙ more n

  pub host_cursors : (hs : List (List ℕ × ℕ)) (n : ℕ) → AreApart hs → folded (cursor_after host) n (host_rows hs) ≡ over n (cursor_of hs host)
  host_cursors [] n apart = refl
  host_cursors (h ∷ hs) n apart = host_step h hs n (λ m. host_cursors hs m apart.1) apart.0 (h.1 == 0) (bytes_eq host h.0) refl refl

-- the empty text has no cursor
pub none_cursor : (host : List ℕ) (n : ℕ) (rows : List Row) → bytes_eq host [] ≡ true → folded (cursor_after host) n rows ≡ n
none_cursor host n [] none = refl
none_cursor host n (row ∷ rows) none =
    ap (λ (b : Bool). folded (cursor_after host) (cond (not b && bytes_eq host (host_in row)) (host_seq_in row) n) rows) none ∙ none_cursor host n rows none

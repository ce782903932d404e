-- A cut of a cut is the cut at the second number alone.
use Rattle.std.proofs.Common.{◌≡◌, ℕ, Bool, true, false, ◌||◌, cond, List, [], ◌∷◌, ◌++◌, refl, sym, ap, ◌∙◌, arith, append_assoc}
use Rattle.std.specs.List.{list_any}
use Rattle.std.specs.Prelude.{◌==◌, nat_le, nat_lt}
use Rattle.std.specs.Str.{bytes_eq}
use Rattle.std.proofs.lemmas.Bool.{and_parts, true≢false}
use Rattle.std.proofs.lemmas.Bool.Decides.{nat_tests}
use Rattle.std.proofs.lemmas.List.{append-nil}
use Rattle.std.proofs.lemmas.List.Folds.{list_any-append}
use Rattle.relay_row.specs.Folds.{folded, names, did_of_row, host_in, host_seq_in, is_named, cursor, last_seq, last_after, seq_in}
use Rattle.relay_row.specs.Journal.{IsJournal, rises_above, keeps_order}
use Rattle.relay_row.specs.Rules.{is_carried, is_number, is_positive, is_row, names_host}
use Rattle.relay_row.specs.declared.carried.Carried.{Carried}
use Rattle.relay_row.specs.declared.row.Row.{Row}
use Rattle.relay_row.proofs.Journals.{fronts, lasts_joined}
use Rattle.account_state.specs.Folds.{account, account_after}
use Rattle.account_state.specs.State.{State}
use Rattle.account_state.proofs.Joined.{joined}
use Rattle.host_state.specs.Folds.{set_cursor, hosts_after, hosts}
use Rattle.host_state.proofs.Cursors.{hosts_joined}
use Rattle.cut_law.specs.Cut.{is_old, have_old, carried_front, rows_behind_front, host_rows, account_row, account_rows, carried, cut, MayCut}
use Rattle.cut_law.proofs.Carrying.{same_account, same_last, same_named}
use Rattle.cut_law.proofs.Cutting.{whole_journal}
use Rattle.account_state.specs.Dids.{dids}
use Rattle.account_state.proofs.Dids.{dids_behind, dids_named, same_dids}
use Rattle.cut_law.proofs.Fronts.{behind, old_events, split}
use Rattle.cut_law.proofs.Following.{no_events}
use Rattle.cut_law.proofs.Hosts.{AreApart, Each, EachRow, IsAway, hosts_apart, hosts_each, turned}
use Rattle.cut_law.proofs.Ordered.{AreNext, nexts}

-- ---- in a journal each host that is named has a cursor

abbrev IsCounted : List ℕ → ℕ → Type 0
IsCounted host n = (bytes_eq host [] ≡ false) × ((n == 0) ≡ false)

counted_above : (low n : ℕ) → nat_lt low n ≡ true → (n == 0) ≡ false
counted_above low n more = grind (arith, nat_tests)

row_counted : (before : List Row) (row : Row) → is_row row ≡ true → keeps_order before row ≡ true → bytes_eq (host_in row) [] ≡ false → IsCounted (host_in row) (host_seq_in row)
unfolding is_row is_carried
row_counted before (Row.Taken t) formed kept some = (some, counted_above (cursor t.host before) t.host_seq (and_parts (nat_lt (cursor t.host before) t.host_seq) (rises_above (last_seq before) (seq_in (Row.Taken t))) kept).0)
row_counted before (Row.Synced did whole moment) formed kept some = absurd (true≢false some)
row_counted before (Row.Operated o) formed kept some = absurd (true≢false some)
row_counted before (Row.Carried (Carried.Last seq)) formed kept some = absurd (true≢false some)
row_counted before (Row.Carried (Carried.Host host n)) formed kept some =
    (some, counted_above 0 n (and_parts (nat_lt 0 n) (is_number n) (and_parts (names_host host) (is_positive n) formed).1).0)
row_counted before (Row.Carried (Carried.Account a)) formed kept some = absurd (true≢false some)

each_counted : (before rows : List Row) → AreNext before rows → EachRow IsCounted rows
each_counted before [] next = tt
each_counted before (row ∷ rows) next = (λ some. row_counted before row next.0 next.1 some, each_counted (before ++ row ∷ []) rows next.2)

-- ---- so what carries rows over lists the hosts that they list

-- none of these hosts is among those
abbrev AreAway : List (List ℕ × ℕ) → List (List ℕ × ℕ) → Type 0
AreAway [] listed = Unit {0}
AreAway (h ∷ hs) listed = IsAway h.0 listed × AreAway hs listed

away_none : (hs : List (List ℕ × ℕ)) → AreAway hs []
away_none [] = tt
away_none (h ∷ hs) = (tt, away_none hs)

away_one : (name : List ℕ) (listed : List (List ℕ × ℕ)) (h : List ℕ × ℕ) → IsAway name listed → bytes_eq name h.0 ≡ false → IsAway name (listed ++ h ∷ [])
away_one name [] h away differ = (differ, tt)
away_one name (x ∷ listed) h away differ = (away.0, away_one name listed h away.1 differ)

away_more : (h : List ℕ × ℕ) (hs listed : List (List ℕ × ℕ)) → IsAway h.0 hs → AreAway hs listed → AreAway hs (listed ++ h ∷ [])
away_more h [] listed away are = tt
away_more h (x ∷ hs) listed away are = (away_one x.0 listed h are.0 (turned h.0 x.0 away.0), away_more h hs listed away.1 are.1)

set_new : (host : List ℕ) (n : ℕ) (listed : List (List ℕ × ℕ)) → IsAway host listed → set_cursor listed host n ≡ listed ++ (host, n) ∷ []
set_new host n [] away = refl
set_new host n (h ∷ listed) away =
    ap (λ (b : Bool). cond b ((h.0, n) ∷ listed) (h ∷ set_cursor listed host n)) away.0 ∙ ap (λ (l : List (List ℕ × ℕ)). h ∷ l) (set_new host n listed away.1)

listed_again : (hs listed : List (List ℕ × ℕ)) → Each IsCounted hs → AreApart hs → AreAway hs listed → folded hosts_after listed (host_rows hs) ≡ listed ++ hs
listed_again [] listed each apart away = sym (append-nil listed)
listed_again (h ∷ hs) listed each apart away =
    let row = Row.Carried (Carried.Host h.0 h.1) in
    ap (λ (b : Bool). folded hosts_after listed (cond b (host_rows hs) (row ∷ host_rows hs))) each.0.1
    ∙ ap (λ (b : Bool). folded hosts_after (cond b listed (set_cursor listed h.0 h.1)) (host_rows hs)) each.0.0
    ∙ ap (λ (l : List (List ℕ × ℕ)). folded hosts_after l (host_rows hs)) (set_new h.0 h.1 listed away.0)
    ∙ listed_again hs (listed ++ h ∷ []) each.1 apart.1 (away_more h hs listed apart.0 away.1)
    ∙ append_assoc listed (h ∷ []) hs

accounts_listed : (rows : List Row) (ds : List (List ℕ)) (listed : List (List ℕ × ℕ)) → folded hosts_after listed (account_rows rows ds) ≡ listed
accounts_listed rows [] listed = refl
accounts_listed rows (d ∷ ds) listed = accounts_listed rows ds listed

same_hosts : (rows : List Row) → IsJournal rows → hosts (carried rows) ≡ hosts rows
unfolding carried hosts
same_hosts rows is =
    let first = Row.Carried (Carried.Last (last_seq rows)) in
    let all = account_rows rows (dids rows) in
    hosts_joined (first ∷ host_rows (hosts rows)) all
    ∙ accounts_listed rows (dids rows) (hosts (first ∷ host_rows (hosts rows)))
    ∙ hosts_joined (first ∷ []) (host_rows (hosts rows))
    ∙ listed_again (hosts rows) [] (hosts_each IsCounted rows (each_counted [] rows (nexts [] rows is))) (hosts_apart rows) (away_none (hosts rows))

-- ---- and rows behind what carries others over come to the same as behind those

module _ (rows more : List Row) (is : IsJournal rows) where
  hosts_over : hosts (carried rows ++ more) ≡ hosts (rows ++ more)
  hosts_over = hosts_joined (carried rows) more ∙ ap (λ (hs : List (List ℕ × ℕ)). folded hosts_after hs more) (same_hosts rows is) ∙ sym (hosts_joined rows more)

  last_over : last_seq (carried rows ++ more) ≡ last_seq (rows ++ more)
  last_over = lasts_joined (carried rows) more ∙ ap (λ (n : ℕ). folded last_after n more) (same_last rows) ∙ sym (lasts_joined rows more)

  account_over : (did : List ℕ) → account did (carried rows ++ more) ≡ account did (rows ++ more)
  account_over did = joined did (carried rows) more ∙ ap (λ (a : State). folded (account_after did) a more) (same_account did rows) ∙ sym (joined did rows more)

  named_over : (did : List ℕ) → is_named did (carried rows ++ more) ≡ is_named did (rows ++ more)
  unfolding is_named
  named_over did =
      let test = λ (row : Row). names did (did_of_row row) in
      list_any-append test (carried rows) more ∙ ap (λ (b : Bool). b || list_any test more) (same_named did rows) ∙ sym (list_any-append test rows more)

  dids_over : dids (carried rows ++ more) ≡ dids (rows ++ more)
  dids_over =
      same_dids [] (dids (carried rows ++ more)) (dids (rows ++ more)) (dids_behind (carried rows ++ more)) (dids_behind (rows ++ more))
      (λ did. dids_named did (carried rows ++ more) ∙ named_over did ∙ sym (dids_named did (rows ++ more)))

  accounts_over : (ds : List (List ℕ)) → account_rows (carried rows ++ more) ds ≡ account_rows (rows ++ more) ds
  accounts_over [] = refl
  accounts_over (d ∷ ds) =
      ap (λ (a : State). account_row d a ∷ account_rows (carried rows ++ more) ds) (account_over d) ∙ ap (λ (l : List Row). account_row d (account d (rows ++ more)) ∷ l) (accounts_over ds)

  carried_again : carried (carried rows ++ more) ≡ carried (rows ++ more)
  unfolding carried
  carried_again =
      let all = carried rows ++ more in
      ap (λ (n : ℕ). Row.Carried (Carried.Last n) ∷ (host_rows (hosts all) ++ account_rows all (dids all))) last_over
      ∙ ap (λ (hs : List (List ℕ × ℕ)). Row.Carried (Carried.Last (last_seq (rows ++ more))) ∷ (host_rows hs ++ account_rows all (dids all))) hosts_over
      ∙ ap (λ (l : List Row). Row.Carried (Carried.Last (last_seq (rows ++ more))) ∷ (host_rows (hosts (rows ++ more)) ++ l))
      (accounts_over (dids all) ∙ ap (λ (ds : List (List ℕ)). account_rows (rows ++ more) ds) dids_over)

-- ---- together

-- a row that is old in a cut is of the rows behind the front
old_behind : (rows more : List Row) (d : ℕ) → have_old d (carried rows ++ more) ≡ true → have_old d more ≡ true
old_behind rows more d old =
    let none : have_old d (carried rows) ≡ false = old_events d (carried rows) ∙ ap (λ (es : List (ℕ × List ℕ)). list_any (λ event. nat_le event.0 d) es) (no_events rows) in
    sym (ap (λ (b : Bool). b || have_old d more) none) ∙ sym (list_any-append (is_old d) (carried rows) more) ∙ old

pub cut_again : (J : List Row) (c d : ℕ) → IsJournal J → MayCut (cut J c) d → cut (cut J c) d ≡ cut J d
unfolding cut
cut_again J c d is may =
    let A = carried_front c J in
    let B = rows_behind_front c J in
    let before : IsJournal A = fronts A B (whole_journal J c is) in
    let old : have_old d B ≡ true = old_behind A B d may.some in
    let one = behind d (carried A) B old in
    let other = behind d A B old in
    ap (λ (l : List Row). carried l ++ rows_behind_front d (carried A ++ B)) one.front_is
    ∙ ap (λ (l : List Row). carried (carried A ++ carried_front d B) ++ l) one.rest_is
    ∙ ap (λ (l : List Row). l ++ rows_behind_front d B) (carried_again A (carried_front d B) before)
    ∙ sym (ap (λ (l : List Row). carried l ++ rows_behind_front d (A ++ B)) other.front_is ∙ ap (λ (l : List Row). carried (A ++ carried_front d B) ++ l) other.rest_is)
    ∙ ap (λ (K : List Row). carried (carried_front d K) ++ rows_behind_front d K) (split c J)

pub cut_hosts : (J : List Row) (c : ℕ) → IsJournal J → hosts (cut J c) ≡ hosts J
unfolding cut
cut_hosts J c is = hosts_over (carried_front c J) (rows_behind_front c J) (fronts (carried_front c J) (rows_behind_front c J) (whole_journal J c is)) ∙ ap hosts (split c J)

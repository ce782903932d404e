-- The state behind one more row.
use Rattle.std.proofs.Common.{◌≡◌, ℕ, Bool, true, false, cond, ◌||◌, not, ◌&&◌, List, [], ◌∷◌, ◌++◌, Option, Some, None, refl, sym, ap, ◌∙◌}
use Rattle.std.specs.Prelude.{nat_lt, ◌==◌}
use Rattle.std.specs.List.{list_all, list_any}
use Rattle.std.specs.Option.{is_some, unwrap_or}
use Rattle.std.specs.Str.{bytes_eq}
use Rattle.std.proofs.lemmas.List.Folds.{list_any-append}
use Rattle.relay_row.proofs.Journals.{folded_joined}
use Rattle.relay_row.specs.declared.row.Row.{Row}
use Rattle.relay_row.specs.declared.carried.Carried.{Carried}
use Rattle.relay_row.specs.Folds.{host_in, host_seq_in, names, did_of_row, is_named, cursor, seq_in, last_after, last_seq}
use Rattle.relay_row.specs.Journal.{are_none, is_last_or_host, is_carried_row, rises_above, keeps_order}
use Rattle.account_state.specs.Entries.{entry, entry_after}
use Rattle.account_state.specs.Folds.{fresh, moved, account_after, account}
use Rattle.account_state.specs.State.{State}
use Rattle.host_state.proofs.Cursors.{hosts_tell as cursors_tell}
use Rattle.host_state.specs.Folds.{set_cursor, hosts_after, hosts, cursor_of}
use Rattle.host_state.specs.Table.{listed}
use Rattle.relay_core.specs.declared.journal_state.Core.{Core}
use Rattle.relay_core.specs.declared.stage.Stage.{Stage}
use Rattle.relay_core.specs.Entries.{account_in, cursor_in, is_next_in, Holds}
use Rattle.relay_core.specs.Stages.{next_stage, is_start, takes_hosts, takes_accounts}
use Rattle.relay_core.proofs.Stages.{start_tells, hosts_tell, accounts_tell, grouped, stage_step}

-- what one row did
pub record Follows (c d : Core) (row : Row) : Type 0 where
  pub entries : (name : List ℕ) → entry d.accounts name ≡ entry_after name (entry c.accounts name) row
  pub listed : listed d.hosts ≡ hosts_after (listed c.hosts) row
  pub last : d.last ≡ last_after c.last row
  pub stage : d.stage ≡ next_stage c.stage row

moved_on : (b : Bool) (o : Option State) (a : State) → unwrap_or (cond b (Some a) o) fresh ≡ cond b a (unwrap_or o fresh)
moved_on true o a = refl
moved_on false o a = refl

named_on : (b : Bool) (o : Option State) (a : State) (before : Bool) → is_some o ≡ before → is_some (cond b (Some a) o) ≡ (before || (b || false))
named_on true o a true h = refl
named_on true o a false h = refl
named_on false o a true h = h
named_on false o a false h = h

accounts_follow : (c d : Core) (row : Row) (rows : List Row) → Follows c d row → Holds c rows → (did : List ℕ) → account_in d did ≡ account did (rows ++ row ∷ [])
unfolding account
accounts_follow c d row rows f h did =
    ap (λ (o : Option State). unwrap_or o fresh) (f.entries did)
    ∙ moved_on (names did (did_of_row row)) (entry c.accounts did) (moved (account_in c did) row)
    ∙ ap (λ (a : State). account_after did a row) (h.accounts did)
    ∙ sym (folded_joined (account_after did) fresh rows (row ∷ []))

named_follow : (c d : Core) (row : Row) (rows : List Row) → Follows c d row → Holds c rows → (did : List ℕ) → is_some (entry d.accounts did) ≡ is_named did (rows ++ row ∷ [])
unfolding is_named
named_follow c d row rows f h did =
    ap (λ (o : Option State). is_some o) (f.entries did)
    ∙ named_on (names did (did_of_row row)) (entry c.accounts did) (moved (account_in c did) row) (list_any (λ r. names did (did_of_row r)) rows) (h.named did)
    ∙ sym (list_any-append (λ r. names did (did_of_row r)) rows (row ∷ []))

hosts_follow : (c d : Core) (row : Row) (rows : List Row) → Follows c d row → Holds c rows → listed d.hosts ≡ hosts (rows ++ row ∷ [])
unfolding hosts
hosts_follow c d row rows f h =
    f.listed ∙ ap (λ (hs : List (List ℕ × ℕ)). hosts_after hs row) h.hosts ∙ sym (folded_joined hosts_after [] rows (row ∷ []))

last_follows : (c d : Core) (row : Row) (rows : List Row) → Follows c d row → Holds c rows → d.last ≡ last_seq (rows ++ row ∷ [])
unfolding last_seq
last_follows c d row rows f h =
    f.last ∙ ap (λ (n : ℕ). last_after n row) h.last ∙ sym (folded_joined last_after 0 rows (row ∷ []))

pub holds_on : (c d : Core) (row : Row) → Follows c d row → (rows : List Row) → Holds c rows → Holds d (rows ++ row ∷ [])
holds_on c d row f rows h = record {
  accounts = accounts_follow c d row rows f h;
  named = named_follow c d row rows f h;
  hosts = hosts_follow c d row rows f h;
  last = last_follows c d row rows f h;
  stage = f.stage ∙ ap (λ (s : Stage). next_stage s row) h.stage ∙ sym (stage_step rows row);
}

-- rows of the same host, at the same place in its stream, do the same to the hosts
pub hosts_same : (hs same : List (List ℕ × ℕ)) (row other : Row) → hs ≡ same → host_in row ≡ host_in other → host_seq_in row ≡ host_seq_in other → hosts_after hs row ≡ hosts_after same other
hosts_same hs same row other is host place =
    ap (λ (l : List (List ℕ × ℕ)). cond (bytes_eq (host_in row) []) l (set_cursor l (host_in row) (host_seq_in row))) is
    ∙ ap (λ (name : List ℕ). cond (bytes_eq name []) same (set_cursor same name (host_seq_in row))) host
    ∙ ap (λ (n : ℕ). cond (bytes_eq (host_in other) []) same (set_cursor same (host_in other) n)) place

-- the state of the empty journal
pub none_holds : (c : Core) → ((did : List ℕ) → entry c.accounts did ≡ None) → listed c.hosts ≡ [] → c.last ≡ 0 → c.stage ≡ Stage.Start → Holds c []
unfolding account is_named hosts last_seq
none_holds c none hosts last stage = record {
  accounts = λ did. ap (λ (o : Option State). unwrap_or o fresh) (none did);
  named = λ did. ap (λ (o : Option State). is_some o) (none did);
  hosts = hosts;
  last = last;
  stage = stage;
}

-- a state that tells the same
pub same_holds : (c d : Core) → ((name : List ℕ) → entry d.accounts name ≡ entry c.accounts name) → listed d.hosts ≡ listed c.hosts → d.last ≡ c.last → d.stage ≡ c.stage → (rows : List Row) → Holds c rows → Holds d rows
same_holds c d entries hosts last stage rows h = record {
  accounts = λ did. ap (λ (o : Option State). unwrap_or o fresh) (entries did) ∙ h.accounts did;
  named = λ did. ap (λ (o : Option State). is_some o) (entries did) ∙ h.named did;
  hosts = hosts ∙ h.hosts;
  last = last ∙ h.last;
  stage = stage ∙ h.stage;
}

cursor_tells : (c : Core) (rows : List Row) → Holds c rows → (host : List ℕ) → cursor_in c host ≡ cursor host rows
cursor_tells c rows h host = ap (λ (hs : List (List ℕ × ℕ)). cursor_of hs host) h.hosts ∙ cursors_tell host rows

-- by the state, a row keeps the order exactly where it does behind the rows
pub next_tells : (c : Core) (rows : List Row) → Holds c rows → (row : Row) → is_next_in c row ≡ keeps_order rows row
next_tells c rows h (Row.Taken t) =
    ap (λ (n : ℕ). nat_lt n t.host_seq && rises_above c.last (seq_in (Row.Taken t))) (cursor_tells c rows h t.host)
    ∙ ap (λ (n : ℕ). nat_lt (cursor t.host rows) t.host_seq && rises_above n (seq_in (Row.Taken t))) h.last
next_tells c rows h (Row.Synced did whole moment) = ap (λ (n : ℕ). rises_above n whole.seq) h.last
next_tells c rows h (Row.Operated o) = ap (λ (n : ℕ). rises_above n o.seq) h.last
next_tells c rows h (Row.Carried (Carried.Last seq)) = ap (λ (s : Stage). is_start s) h.stage ∙ start_tells rows
next_tells c rows h (Row.Carried (Carried.Host host n)) =
    ap (λ (s : Stage). takes_hosts s && cursor_in c host == 0) h.stage
    ∙ ap (λ (b : Bool). b && cursor_in c host == 0) (hosts_tell rows)
    ∙ ap (λ (k : ℕ). (not (are_none rows) && list_all is_last_or_host rows) && k == 0) (cursor_tells c rows h host)
    ∙ grouped (not (are_none rows)) (list_all is_last_or_host rows) (cursor host rows == 0)
next_tells c rows h (Row.Carried (Carried.Account a)) =
    ap (λ (s : Stage). takes_accounts s && not (is_some (entry c.accounts a.did))) h.stage
    ∙ ap (λ (b : Bool). b && not (is_some (entry c.accounts a.did))) (accounts_tell rows)
    ∙ ap (λ (b : Bool). (not (are_none rows) && list_all is_carried_row rows) && not b) (h.named a.did)
    ∙ grouped (not (are_none rows)) (list_all is_carried_row rows) (not (is_named a.did rows))

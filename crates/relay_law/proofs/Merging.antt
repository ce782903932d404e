-- Why the order of different hosts' messages doesn't matter: what a host does depends on its own messages alone.
use Rattle.std.proofs.Common.{◌≡◌, ℕ, Bool, true, false, ◌||◌, List, [], ◌∷◌, ◌++◌, Option, Some, None, Ok, Err, inl, inr, refl, ap, ◌∙◌, sym, cond, subst}
use Rattle.std.proofs.lemmas.Bool.{false≢true}
use Rattle.std.proofs.lemmas.Slice.Eq.{bytes_eq-Decides}
use Rattle.std.specs.List.{filter}
use Rattle.std.specs.Str.{bytes_eq}
use Rattle.at_event.specs.declared.frame.Frame.{Frame}
use Rattle.relay_row.specs.Folds.{cursor, last_seq, cursor_after}
use Rattle.relay_row.specs.declared.row.Row.{Row}
use Rattle.relay_row.proofs.Journals.{cursors_joined}
use Rattle.account_state.specs.Folds.{account, account_after}
use Rattle.account_state.proofs.Joined.{joined}
use Rattle.relay_core.specs.Decide.{Checks, passed}
use Rattle.relay_core.specs.Runs.{Message, skipped_by, has_ended}
use Rattle.relay_core.specs.Worlds.{World}
use Rattle.relay_core.specs.declared.decision.Pass.{Pass}
use Rattle.relay_law.specs.Merges.{only, IsOf, TellsOf, Names, OneHome}
use Rattle.relay_law.proofs.Keys.{Key, keyed, key_in, row_in, row_keyed, same_key, keyed_account, keyed_cursor, row_cursor, far_stays}

account_more : (did : List ℕ) (J : List Row) (row : Row) → account did (J ++ row ∷ []) ≡ account_after did (account did J) row
account_more did J row = joined did J (row ∷ [])

cursor_more : (host : List ℕ) (J : List Row) (row : Row) → cursor host (J ++ row ∷ []) ≡ cursor_after host (cursor host J) row
cursor_more host J row = cursors_joined host J (row ∷ [])

abbrev pub keys_of : List ℕ → List Key → List Key
keys_of host keys = filter (λ k. bytes_eq host k.host) keys

keys_more : (host : List ℕ) (keys : List Key) (k : Key) → keys_of host (keys ++ k ∷ []) ≡ keys_of host keys ++ keys_of host (k ∷ [])
keys_more host [] k = refl
keys_more host (x ∷ keys) k =
    elim (bytes_eq host x.host) as (λ b. cond b (x ∷ keys_of host (keys ++ k ∷ [])) (keys_of host (keys ++ k ∷ [])) ≡ cond b (x ∷ keys_of host keys) (keys_of host keys) ++ keys_of host (k ∷ [])) [
      | true ↦ ap (λ (R : List Key). x ∷ R) (keys_more host keys k)
      | false ↦ keys_more host keys k
    ]

-- ---- a run as a state that is carried on

-- the rows of a journal, the hosts that have ended, and the keys of the rows that were made
pub record Carry : Type 0 where
  pub rows : List Row
  pub ended : List (List ℕ)
  pub keys : List Key

-- a message that doesn't read ends its host, as one without a row does
abbrev pub frame_in : Message → Frame
frame_in (host, Ok frame) = frame
frame_in (host, Err fault) = Frame.Unknown

abbrev pub goes_on : Bool → Option Pass → List ℕ → Row → Key → Carry → Carry
goes_on true pass host row k s = s
goes_on false (Some Pass.Ended) host row k s = record { rows = s.rows; ended = host ∷ s.ended; keys = s.keys }
goes_on false (Some Pass.Old) host row k s = s
goes_on false (Some Pass.Unknown) host row k s = s
goes_on false (Some Pass.Info) host row k s = s
goes_on false None host row k s = record { rows = s.rows ++ row ∷ []; ended = s.ended; keys = s.keys ++ k ∷ [] }

abbrev pub stepped : Checks → World → Carry → Message → Carry
stepped checks w s m = goes_on (has_ended s.ended m.0) (skipped_by s.rows m) m.0 (row_in checks w s.rows m.0 (frame_in m)) (key_in w s.rows m.0 (frame_in m)) s

abbrev pub after : Checks → World → Carry → List Message → Carry
after checks w s [] = s
after checks w s (m ∷ messages) = after checks w (stepped checks w s m) messages

-- why a message makes no row, by its host's cursor
abbrev pass_at : ℕ → Message → Option Pass
pass_at n (host, Ok frame) = passed n frame
pass_at n (host, Err fault) = Some Pass.Ended

pass_by_cursor : (J : List Row) (m : Message) → skipped_by J m ≡ pass_at (cursor m.0 J) m
pass_by_cursor J (host, Ok frame) = refl
pass_by_cursor J (host, Err fault) = refl

frame_tells : (m : Message) (did : List ℕ) → IsOf (frame_in m) did → TellsOf m did
frame_tells (host, Ok frame) did h = h
frame_tells (host, Err fault) did h = h

-- ---- what a host does alone

-- two states that are alike for a host: its end, its cursor, the keys of its rows, and the accounts whose home it is
pub record IsAlike (w : World) (all : List Message) (host : List ℕ) (s u : Carry) : Type 0 where
  pub over : has_ended s.ended host ≡ has_ended u.ended host
  pub cursors : cursor host s.rows ≡ cursor host u.rows
  pub keys : keys_of host s.keys ≡ keys_of host u.keys
  pub accounts : (did : List ℕ) → Names all host did → w.home did host ≡ true → account did s.rows ≡ account did u.rows

-- a row that says nothing of a host
record IsForeign (w : World) (all : List Message) (host : List ℕ) (row : Row) (k : Key) : Type 0 where
  not_its : bytes_eq host k.host ≡ false
  no_cursor : (n : ℕ) → cursor_after host n row ≡ n
  no_account : (did : List ℕ) → Names all host did → w.home did host ≡ true → (J : List Row) → account_after did (account did J) row ≡ account did J

append_nothing : {A : Type 0} (R : List A) → R ++ [] ≡ R
append_nothing [] = refl
append_nothing (r ∷ R) = ap (λ S. r ∷ S) (append_nothing R)

foreign_goes : (w : World) (all : List Message) (host : List ℕ) (b : Bool) (p : Option Pass) (name : List ℕ) (row : Row) (k : Key) (s u : Carry)
    → bytes_eq host name ≡ false → IsForeign w all host row k → IsAlike w all host s u → IsAlike w all host (goes_on b p name row k s) u
foreign_goes w all host true p name row k s u other h like = like
foreign_goes w all host false (Some Pass.Ended) name row k s u other h like = record {
  over = rw other like.over;
  cursors = like.cursors;
  keys = like.keys;
  accounts = like.accounts;
}
foreign_goes w all host false (Some Pass.Old) name row k s u other h like = like
foreign_goes w all host false (Some Pass.Unknown) name row k s u other h like = like
foreign_goes w all host false (Some Pass.Info) name row k s u other h like = like
foreign_goes w all host false None name row k s u other h like = record {
  over = like.over;
  cursors = cursor_more host s.rows row ∙ h.no_cursor (cursor host s.rows) ∙ like.cursors;
  keys = keys_more host s.keys k ∙ ap (λ (b : Bool). keys_of host s.keys ++ cond b (k ∷ []) []) h.not_its ∙ append_nothing (keys_of host s.keys) ∙ like.keys;
  accounts = λ did named home. account_more did s.rows row ∙ h.no_account did named home s.rows ∙ like.accounts did named home;
}

-- the same key on two states that are alike for its host
own_goes : (checks : Checks) (w : World) (all : List Message) (host : List ℕ) (b : Bool) (p : Option Pass) (row other : Row) (k : Key) (n m : ℕ) (s u : Carry)
    → row ≡ keyed checks w k n → other ≡ keyed checks w k m → IsAlike w all host s u → IsAlike w all host (goes_on b p host row k s) (goes_on b p host other k u)
own_goes checks w all host true p row other k n m s u one two like = like
own_goes checks w all host false (Some Pass.Ended) row other k n m s u one two like = record {
  over = ap (λ (t : Bool). bytes_eq host host || t) like.over;
  cursors = like.cursors;
  keys = like.keys;
  accounts = like.accounts;
}
own_goes checks w all host false (Some Pass.Old) row other k n m s u one two like = like
own_goes checks w all host false (Some Pass.Unknown) row other k n m s u one two like = like
own_goes checks w all host false (Some Pass.Info) row other k n m s u one two like = like
own_goes checks w all host false None row other k n m s u one two like = record {
  over = like.over;
  cursors = cursor_more host s.rows row ∙ ap (λ (c : ℕ). cursor_after host c row) like.cursors ∙ ap (λ (r : Row). cursor_after host (cursor host u.rows) r) one
      ∙ keyed_cursor checks w k host (cursor host u.rows) n m ∙ ap (λ (r : Row). cursor_after host (cursor host u.rows) r) (sym two) ∙ sym (cursor_more host u.rows other);
  keys = keys_more host s.keys k ∙ ap (λ (R : List Key). R ++ keys_of host (k ∷ [])) like.keys ∙ sym (keys_more host u.keys k);
  accounts = λ did named home. account_more did s.rows row ∙ ap (λ a. account_after did a row) (like.accounts did named home) ∙ ap (λ (r : Row). account_after did (account did u.rows) r) one
      ∙ keyed_account checks w k did (account did u.rows) n m ∙ ap (λ (r : Row). account_after did (account did u.rows) r) (sym two) ∙ sym (account_more did u.rows other);
}

false_of : (b : Bool) → (b ≡ true → ⊥) → b ≡ false
false_of true h = absurd (h refl)
false_of false h = refl

differs : (a b : List ℕ) → bytes_eq a b ≡ false → a ≡ b → ⊥
differs a b h e = false≢true (sym h ∙ (bytes_eq-Decides a b).1 e)

foreign_row : (checks : Checks) (w : World) (all : List Message) (rows : List Row) (host : List ℕ) (m : Message) → OneHome w all → bytes_eq host m.0 ≡ false → ((did : List ℕ) → IsOf (frame_in m) did → Names all m.0 did)
    → IsForeign w all host (row_in checks w rows m.0 (frame_in m)) (key_in w rows m.0 (frame_in m))
foreign_row checks w all rows host m one other named = record {
  not_its = other;
  no_cursor = λ n. row_cursor checks w rows m.0 host (frame_in m) n other;
  no_account = λ did its home J. far_stays checks w rows m.0 (frame_in m) did (account did J) (λ of. false_of (w.home did m.0) (λ too. differs host m.0 other (one did host m.0 its (named did of) home too)));
}

own_stepped : (checks : Checks) (w : World) (all : List Message) (m : Message) (s u : Carry) → ((did : List ℕ) → IsOf (frame_in m) did → Names all m.0 did) → IsAlike w all m.0 s u → IsAlike w all m.0 (stepped checks w s m) (stepped checks w u m)
own_stepped checks w all m s u named like =
    let f = frame_in m in
    let row = row_in checks w s.rows m.0 f in
    let other = row_in checks w u.rows m.0 f in
    let k = key_in w s.rows m.0 f in
    let same : key_in w s.rows m.0 f ≡ key_in w u.rows m.0 f = same_key w s.rows u.rows m.0 f (λ did of home. like.accounts did (named did of) home) in
    let two : other ≡ keyed checks w k (last_seq u.rows) = row_keyed checks w u.rows m.0 f ∙ ap (λ (x : Key). keyed checks w x (last_seq u.rows)) (sym same) in
    let b = has_ended s.ended m.0 in
    let p = skipped_by s.rows m in
    let base = own_goes checks w all m.0 b p row other k (last_seq s.rows) (last_seq u.rows) s u (row_keyed checks w s.rows m.0 f) two like in
    let passes : skipped_by s.rows m ≡ skipped_by u.rows m = pass_by_cursor s.rows m ∙ ap (λ (n : ℕ). pass_at n m) like.cursors ∙ sym (pass_by_cursor u.rows m) in
    let P : Bool → Type 0 = λ t. IsAlike w all m.0 (stepped checks w s m) (goes_on t p m.0 other k u) in
    let Q : Option Pass → Type 0 = λ q. IsAlike w all m.0 (stepped checks w s m) (goes_on (has_ended u.ended m.0) q m.0 other k u) in
    let R : Key → Type 0 = λ x. IsAlike w all m.0 (stepped checks w s m) (goes_on (has_ended u.ended m.0) (skipped_by u.rows m) m.0 other x u) in
    subst R same (subst Q passes (subst P like.over base))

foreign_stepped : (checks : Checks) (w : World) (all : List Message) (host : List ℕ) (m : Message) (s u : Carry) → OneHome w all → bytes_eq host m.0 ≡ false → ((did : List ℕ) → IsOf (frame_in m) did → Names all m.0 did)
    → IsAlike w all host s u → IsAlike w all host (stepped checks w s m) u
foreign_stepped checks w all host m s u one other named like =
    foreign_goes w all host (has_ended s.ended m.0) (skipped_by s.rows m) m.0 (row_in checks w s.rows m.0 (frame_in m)) (key_in w s.rows m.0 (frame_in m)) s u other
    (foreign_row checks w all s.rows host m one other named) like

-- what a host does in a run is what it does alone
projected : (checks : Checks) (w : World) (all : List Message) (host : List ℕ) → OneHome w all → (T : List Message) (s u : Carry) → ((name did : List ℕ) → Names T name did → Names all name did) → IsAlike w all host s u → IsAlike w all host (after checks w s T) (after checks w u (only host T))
projected checks w all host one [] s u within like = like
projected checks w all host one (m ∷ T) s u within like =
    let named : (did : List ℕ) → IsOf (frame_in m) did → Names all m.0 did = λ did of. within m.0 did (inl (refl, frame_tells m did of)) in
    let rest = λ (name : List ℕ) (did : List ℕ) (h : Names T name did). within name did (inr h) in
    elim (bytes_eq host m.0) as (λ t. bytes_eq host m.0 ≡ t → IsAlike w all host (after checks w (stepped checks w s m) T) (after checks w u (cond t (m ∷ only host T) (only host T)))) [
      | true ↦ λ t.
          let same : host ≡ m.0 = (bytes_eq-Decides host m.0).0 t in
          let P : List ℕ → Type 0 = λ h. IsAlike w all h s u → IsAlike w all h (stepped checks w s m) (stepped checks w u m) in
          projected checks w all host one T (stepped checks w s m) (stepped checks w u m) rest (subst P (sym same) (own_stepped checks w all m s u named) like)
      | false ↦ λ t. projected checks w all host one T (stepped checks w s m) u rest (foreign_stepped checks w all host m s u one t named like)
    ] refl

pub alone : (checks : Checks) (w : World) (host : List ℕ) (T : List Message) (s : Carry) → OneHome w T → IsAlike w T host (after checks w s T) (after checks w s (only host T))
alone checks w host T s one =
    projected checks w T host one T s s (λ name did h. h) (record { over = refl; cursors = refl; keys = refl; accounts = λ did named home. refl })

goes_account : (b : Bool) (p : Option Pass) (name : List ℕ) (row : Row) (k : Key) (s : Carry) (did : List ℕ) → account_after did (account did s.rows) row ≡ account did s.rows → account did (goes_on b p name row k s).rows ≡ account did s.rows
goes_account true p name row k s did h = refl
goes_account false (Some Pass.Ended) name row k s did h = refl
goes_account false (Some Pass.Old) name row k s did h = refl
goes_account false (Some Pass.Unknown) name row k s did h = refl
goes_account false (Some Pass.Info) name row k s did h = refl
goes_account false None name row k s did h = account_more did s.rows row ∙ h

-- no host that isn't the home moves an account
pub none_stays : (checks : Checks) (w : World) (did : List ℕ) (T : List Message) (s : Carry) → ((host : List ℕ) → Names T host did → w.home did host ≡ false) → account did (after checks w s T).rows ≡ account did s.rows
none_stays checks w did [] s none = refl
none_stays checks w did (m ∷ T) s none =
    none_stays checks w did T (stepped checks w s m) (λ host h. none host (inr h))
    ∙ goes_account (has_ended s.ended m.0) (skipped_by s.rows m) m.0 (row_in checks w s.rows m.0 (frame_in m)) (key_in w s.rows m.0 (frame_in m)) s did
    (far_stays checks w s.rows m.0 (frame_in m) did (account did s.rows) (λ of. none m.0 (inl (refl, frame_tells m did of))))

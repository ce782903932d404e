-- The list of hosts and the cursor of each.
use Rattle.std.proofs.Common.{◌≡◌, ℕ, Bool, true, false, cond, List, [], ◌∷◌, ◌++◌, refl, sym, ap, ◌∙◌, subst}
use Rattle.std.specs.Prelude.{not, ◌&&◌}
use Rattle.std.specs.Str.{bytes_eq}
use Rattle.std.proofs.lemmas.Slice.Eq.{bytes_eq-Decides}
use Rattle.relay_row.proofs.Journals.{folded_joined}
use Rattle.relay_row.specs.declared.row.Row.{Row}
use Rattle.relay_row.specs.Folds.{folded, host_in, host_seq_in, cursor_after, cursor}
use Rattle.host_state.specs.Folds.{set_cursor, hosts_after, hosts, cursor_of}

-- a name that is a text is the same list
same_name : (host text : List ℕ) → bytes_eq host text ≡ true → host ≡ text
same_name host text h = (bytes_eq-Decides host text).0 h

twice : (b : Bool) (n m x : ℕ) → cond b n x ≡ cond b n (cond b m x)
twice true n m x = refl
twice false n m x = refl

exchanged : (b c : Bool) (m n x : ℕ) → (b ≡ true → c ≡ true → ⊥) → cond b m (cond c n x) ≡ cond c n (cond b m x)
exchanged true true m n x apart = absurd (apart refl refl)
exchanged true false m n x apart = refl
exchanged false true m n x apart = refl
exchanged false false m n x apart = refl

apart : (host text name : List ℕ) → bytes_eq text name ≡ false → bytes_eq host name ≡ true → bytes_eq host text ≡ true → ⊥
apart host text name differ is same =
    let both : bytes_eq text name ≡ true = subst (λ (t : List ℕ). bytes_eq t name ≡ true) (same_name host text same) is in
    cc

-- the cursor of a host, after one was set
pub set_tells : (hs : List (List ℕ × ℕ)) (text : List ℕ) (n : ℕ) (host : List ℕ) → cursor_of (set_cursor hs text n) host ≡ cond (bytes_eq host text) n (cursor_of hs host)
set_tells [] text n host = refl
set_tells (h ∷ hs) text n host =
    elim (bytes_eq text h.0) as (λ b. bytes_eq text h.0 ≡ b → cursor_of (cond b ((h.0, n) ∷ hs) (h ∷ set_cursor hs text n)) host ≡ cond (bytes_eq host text) n (cond (bytes_eq host h.0) h.1 (cursor_of hs host))) [
      | true ↦ λ e. subst (λ (t : List ℕ). cond (bytes_eq host h.0) n (cursor_of hs host) ≡ cond (bytes_eq host t) n (cond (bytes_eq host h.0) h.1 (cursor_of hs host))) (sym (same_name text h.0 e)) (twice (bytes_eq host h.0) n h.1 (cursor_of hs host))
      | false ↦ λ e. ap (λ (x : ℕ). cond (bytes_eq host h.0) h.1 x) (set_tells hs text n host) ∙ exchanged (bytes_eq host h.0) (bytes_eq host text) h.1 n (cursor_of hs host) (apart host text h.0 e)
    ] refl

-- one more row, of which these are the host and its number
row_tells : (hs : List (List ℕ × ℕ)) (text : List ℕ) (n : ℕ) (host : List ℕ)
    → cursor_of (cond (bytes_eq text []) hs (set_cursor hs text n)) host ≡ cond (not (bytes_eq host []) && bytes_eq host text) n (cursor_of hs host)
row_tells hs [] n [] = refl
row_tells hs [] n (c ∷ host) = refl
row_tells hs (t ∷ text) n [] = set_tells hs (t ∷ text) n []
row_tells hs (t ∷ text) n (c ∷ host) = set_tells hs (t ∷ text) n (c ∷ host)

fold_tells : (hs : List (List ℕ × ℕ)) (rows : List Row) (host : List ℕ) → cursor_of (folded hosts_after hs rows) host ≡ folded (cursor_after host) (cursor_of hs host) rows
fold_tells hs [] host = refl
fold_tells hs (row ∷ rows) host =
    fold_tells (hosts_after hs row) rows host ∙ ap (λ (n : ℕ). folded (cursor_after host) n rows) (row_tells hs (host_in row) (host_seq_in row) host)

pub hosts_tell : (host : List ℕ) (rows : List Row) → cursor_of (hosts rows) host ≡ cursor host rows
unfolding hosts cursor
hosts_tell host rows = fold_tells [] rows host

pub hosts_joined : (xs ys : List Row) → hosts (xs ++ ys) ≡ folded hosts_after (hosts xs) ys
unfolding hosts
hosts_joined xs ys = folded_joined hosts_after [] xs ys

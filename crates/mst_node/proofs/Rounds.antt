-- Taking entries one after the other, as a loop does.
use Rattle.std.proofs.Common.{◌≡◌, ℕ, suc, ◌+◌, ◌-◌, ◌<◌, ◌≤◌, List, [], ◌∷◌, ◌++◌, length, refl, sym, ap, ◌∙◌, subst, Some, None, Err, arith, append_assoc, append-nil}
use Rattle.std.specs.Prelude.{slice_get, map}
use Rattle.at_cbor.specs.Taking.{◌>>=◌, Taking}
use Rattle.mst_node.specs.declared.entry.Entry.{Entry}
use Rattle.mst_node.specs.declared.fault.NodeFault.{NodeFault}
use Rattle.mst_node.specs.Reading.{key_before}
use Rattle.mst_node.specs.Taking.{IsTaken, entry_at, next_at, entries_at}

-- the last entry's key
pub last_before : {A : Type 0} (entry : A → Entry) (last : List ℕ) (xs : List A) (x : A) → slice_get xs (length xs - 1) ≡ Some x → (entry x).key ≡ key_before last (map entry xs)
last_before entry last [] x at = absurd cc
last_before entry last (y ∷ []) x at = let same : y ≡ x = cc in ap (λ z. (entry z).key) (sym same)
last_before entry last (y ∷ (z ∷ xs)) x at =
    let shift : length (y ∷ (z ∷ xs)) - 1 ≡ suc (length (z ∷ xs) - 1) = omega arith in
    last_before entry (entry y).key (z ∷ xs) x (subst (λ (n : ℕ). slice_get (y ∷ (z ∷ xs)) n ≡ Some x) shift at)

key_joined : (last : List ℕ) (done : List Entry) (e : Entry) → key_before last (done ++ e ∷ []) ≡ e.key
key_joined last [] e = refl
key_joined last (d ∷ done) e = key_joined d.key done e

-- the entries that were taken before, and those that are still taken
abbrev pub with_front : List Entry → Taking (List Entry) → Taking (List Entry)
with_front front taken = taken >>= λ x. Some (front ++ x.0, x.1)

regroup : (front : List Entry) (e : Entry) (taken : Taking (List Entry)) → with_front front (taken >>= λ x. Some (e ∷ x.0, x.1)) ≡ with_front (front ++ e ∷ []) taken
regroup front e (Some x) = ap (λ (es : List Entry). Some (es, x.1)) (simp append_assoc)
regroup front e None = refl

-- the entries that were taken before, and the next
abbrev with_next : List Entry → Taking Entry → Taking (List Entry)
with_next front next = next >>= λ x. Some (front ++ x.0 ∷ [], x.1)

-- the entries that were taken, and so many behind them
abbrev onward : ℕ → Taking (List Entry) → Taking (List Entry)
onward n taken = taken >>= λ x. with_front x.0 (entries_at n (key_before [] x.0) x.1)

going_on : (front : List Entry) (n : ℕ) (next : Taking Entry) → with_front front (next >>= λ e. entries_at n e.0.key e.1 >>= λ es. Some (e.0 ∷ es.0, es.1))
    ≡ onward n (with_next front next)
going_on front n (Some (e, after)) = rw (key_joined [] front e) (regroup front e (entries_at n e.key after))
going_on front n None = refl

module _ (front : List Entry) (count i : ℕ) (rest : List ℕ) (total : Taking (List Entry)) where
  abbrev pub SoFar : Type 0
  SoFar = with_front front (entries_at (count - i) (key_before [] front) rest) ≡ total

  next_round : i < count → SoFar → total ≡ onward (count - (i + 1)) (next_at front rest)
  unfolding entries_at
  next_round low so_far =
      let n : count - i ≡ suc (count - (i + 1)) = omega arith in
      let one : with_front front (entries_at (count - i) (key_before [] front) rest) ≡ onward (count - (i + 1)) (next_at front rest) =
      rw n (going_on front (count - (i + 1)) (entry_at (key_before [] front) rest)) in
      sym so_far ∙ one

  pub go_on : (new : List Entry) (after : List ℕ) → i < count → next_at front rest ≡ Some (new, after) → SoFar → with_front new (entries_at (count - (i + 1)) (key_before [] new) after) ≡ total
  go_on new after low found so_far = sym (next_round low so_far ∙ ap (onward (count - (i + 1))) found)

  pub stopped : (f : NodeFault) → i < count → IsTaken (λ (x : List Entry × List ℕ). x) (Err f) (next_at front rest) → SoFar → IsTaken (λ (x : List Entry × List ℕ). x) (Err f) total
  stopped NodeFault.BadNode low found so_far = next_round low so_far ∙ ap (onward (count - (i + 1))) found
  stopped NodeFault.Memory low found so_far = tt

  pub done : count ≤ i → SoFar → total ≡ Some (front, rest)
  unfolding entries_at
  done past so_far =
      let n : count - i ≡ 0 = omega arith in
      let one : with_front front (entries_at (count - i) (key_before [] front) rest) ≡ Some (front, rest) = rw n (ap (λ (es : List Entry). Some (es, rest)) (append-nil front)) in
      sym so_far ∙ one

-- entries that are kept as they are
pub entries_same : (es : List Entry) → map (λ (e : Entry). e) es ≡ es
entries_same [] = refl
entries_same (e ∷ es) = ap (λ (xs : List Entry). e ∷ xs) (entries_same es)

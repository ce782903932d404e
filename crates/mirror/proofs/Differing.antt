-- Operations on different keys.
use Rattle.std.proofs.Common.{◌≡◌, ◌↔◌, ℕ, zero, suc, ◌<◌, ◌≤◌, ◌-◌, Bool, true, false, not, ◌&&◌, IsTrue, List, [], ◌∷◌, drop, length, get_or, refl, sym, ap, ◌∙◌, arith, Result, Ok, Err}
use Rattle.std.specs.Prelude.{IfOk}
use Rattle.std.specs.Str.{bytes_eq}
use Rattle.std.proofs.lemmas.Slice.Eq.{bytes_eq-Decides}
use Rattle.at_cid.specs.Distinct.{is_absent, all_differ}
use Rattle.at_cid.proofs.Distinct.{equal_behind}
use Rattle.mst_list.proofs.Clashes.{left_at}
use Rattle.mst_list.specs.declared.op.Op.{Op}
use Rattle.mst_list.specs.Edits.{AreApart, IsNewTo}
use Rattle.mirror.specs.Playing.{keys_of}

both : (a b : Bool) → (a && b) ≡ true → (a ≡ true) × (b ≡ true)
both true b e = (refl, e)
both false b e = absurd cc

absent_new : (k : List ℕ) (ops : List Op) → is_absent bytes_eq k (keys_of ops) ≡ true → IsNewTo k ops
absent_new k [] h = tt
absent_new k (op ∷ ops) h =
    let p = both (not (bytes_eq op.key k)) (is_absent bytes_eq k (keys_of ops)) h in
    (λ e. let same : bytes_eq op.key k ≡ true = (bytes_eq-Decides op.key k).1 (sym e) in absurd (differ (bytes_eq op.key k) p.0 same), absent_new k ops p.1)
  where
    differ : (b : Bool) → not b ≡ true → b ≡ true → ⊥
    differ true h g = absurd cc
    differ false h g = absurd cc

new_absent : (k : List ℕ) (ops : List Op) → IsNewTo k ops → is_absent bytes_eq k (keys_of ops) ≡ true
new_absent k [] new = refl
new_absent k (op ∷ ops) new = (elim (bytes_eq op.key k) as (λ b. bytes_eq op.key k ≡ b → (not b && is_absent bytes_eq k (keys_of ops)) ≡ true) [
  | true ↦ λ e. absurd (new.0 (sym ((bytes_eq-Decides op.key k).0 e)))
  | false ↦ λ e. new_absent k ops new.1
]) refl

differ_apart : (ops : List Op) → all_differ bytes_eq (keys_of ops) ≡ true → AreApart ops
differ_apart [] h = tt
differ_apart (op ∷ ops) h =
    let p = both (is_absent bytes_eq op.key (keys_of ops)) (all_differ bytes_eq (keys_of ops)) h in
    (absent_new op.key ops p.0, differ_apart ops p.1)

apart_differ : (ops : List Op) → AreApart ops → all_differ bytes_eq (keys_of ops) ≡ true
apart_differ [] h = refl
apart_differ (op ∷ ops) h = rw (new_absent op.key ops h.0, apart_differ ops h.1) refl

pub apart_test : (ops : List Op) (differ : Bool) → differ ≡ all_differ bytes_eq (keys_of ops) → IsTrue differ ↔ AreApart ops
apart_test ops differ is = (λ h. differ_apart ops (sym is ∙ h), λ apart. is ∙ apart_differ ops apart)

pub apart_test_ok : {E : Type 0} → (r : Result Bool E) (ops others : List Op) → others ≡ ops → IfOk r (λ differ. differ ≡ all_differ bytes_eq (keys_of others)) → IfOk r (λ apart. IsTrue apart ↔ AreApart ops)
apart_test_ok (Ok differ) ops others same is = apart_test ops differ (is ∙ ap (λ (x : List Op). all_differ bytes_eq (keys_of x)) same)
apart_test_ok (Err e) ops others same is = tt

-- ---- from the last one on

-- what a tree that holds the others tells of one
pub unseen : (seen absent : Bool) → seen ≡ not absent → not seen ≡ absent
unseen seen true e = ap not e
unseen seen false e = ap not e

pub next_at : (ops : List Op) (n : ℕ) (op : Op) → 0 < n → n ≤ length ops → op ≡ get_or ops (n - 1) op → drop (n - 1) ops ≡ op ∷ drop n ops
next_at ops n op some low is =
    let next : suc (n - 1) ≡ n = omega arith in
    left_at ops (n - 1) op (omega arith) is ∙ ap (λ m. op ∷ drop m ops) next

keys_behind : (n : ℕ) (ops : List Op) → keys_of (drop n ops) ≡ drop n (keys_of ops)
keys_behind zero ops = refl
keys_behind (suc n) [] = refl
keys_behind (suc n) (op ∷ ops) = keys_behind n ops

pub twice_behind : (n : ℕ) (ops : List Op) → all_differ bytes_eq (keys_of (drop n ops)) ≡ false → all_differ bytes_eq (keys_of ops) ≡ false
twice_behind n ops twice = equal_behind bytes_eq n (keys_of ops) (ap (all_differ bytes_eq) (sym (keys_behind n ops)) ∙ twice)

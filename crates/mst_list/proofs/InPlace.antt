-- Operations of different keys: each finds on the map as it is what it finds behind those before it.
use Rattle.std.proofs.Common.{◌≡◌, ◌≢◌, ℕ, zero, suc, ◌<◌, false, List, [], ◌∷◌, ◌++◌, length, take, set, insert, remove, get_or, refl, sym, ap, ◌∙◌, subst, arith, Option, Some, None, Result, Ok, Err}
use Rattle.std.specs.Option.{option_to_list}
use Rattle.std.specs.Prelude.{is_err, is_ok, if◌then◌else◌}
use Rattle.mst_list.specs.declared.item.Item.{Item}
use Rattle.mst_list.specs.declared.op.Op.{Op}
use Rattle.mst_list.specs.Edits.{AreApart, IsNewTo, Plays, after, before, put, value_at, with_value}
use Rattle.mst_list.specs.Faults.{IsClash, IsPlayFault}
use Rattle.mst_list.specs.Lists.{Ascends, KeysOnly}
use Rattle.mst_list.specs.Maps.{AllApply, IsFirstToFail, IsFound, IsJudgedFault, edited}
use Rattle.mst_list.specs.declared.playing.PlayFault.{PlayFault}
use Rattle.mst_list.proofs.Fills.{keys_only_join, keys_only_parts}
use Rattle.mst_list.proofs.Places.{rebuilt}
use Rattle.mst_list.proofs.Puts.{absent_round, cut_visible, insert_round, set_visible}
use Rattle.mst_list.proofs.Seen.{edit_law}

-- judged one after another
pub fails_at : (s : List Item) (ops : List Op) (i : ℕ) (op : Op) → AllApply s (take i ops) → i < length ops → op ≡ get_or ops i op → value_at op.key s ≢ op.was → IsFirstToFail s ops i
fails_at s [] i op apply low is differs = absurd (omega arith)
fails_at s (o ∷ ops) zero op apply low is differs = let Q : Op → Type 0 = λ x. value_at x.key s ≢ x.was in subst Q is differs
fails_at s (o ∷ ops) (suc i) op apply low is differs = (apply.0, fails_at s ops i op apply.1 (omega arith) is differs)

pub apply_more : (s : List Item) (ops : List Op) (i : ℕ) (op : Op) → AllApply s (take i ops) → i < length ops → op ≡ get_or ops i op → value_at op.key s ≡ op.was → AllApply s (take (suc i) ops)
apply_more s [] i op apply low is at = tt
apply_more s (o ∷ ops) zero op apply low is at = (let Q : Op → Type 0 = λ x. value_at x.key s ≡ x.was in subst Q is at, tt)
apply_more s (o ∷ ops) (suc i) op apply low is at = (apply.0, apply_more s ops i op apply.1 (omega arith) is at)

-- an edit changes none of the other keys
apply_kept : (s : List Item) (k : List ℕ) (o : Option (List ℕ)) (ops : List Op) → Ascends s → IsNewTo k ops → AllApply s ops → AllApply (put k o s) ops
apply_kept s k o [] up new h = tt
apply_kept s k o (op ∷ ops) up new h = ((edit_law s k o up).others op.key (λ e. new.0 (sym e)) ∙ h.0, apply_kept s k o ops up new.1 h.1)

fail_kept : (s : List Item) (k : List ℕ) (o : Option (List ℕ)) (ops : List Op) (i : ℕ) → Ascends s → IsNewTo k ops → IsFirstToFail s ops i → IsFirstToFail (put k o s) ops i
fail_kept s k o [] i up new h = h
fail_kept s k o (op ∷ ops) zero up new h = λ e. h (sym ((edit_law s k o up).others op.key (λ e. new.0 (sym e))) ∙ e)
fail_kept s k o (op ∷ ops) (suc i) up new h = ((edit_law s k o up).others op.key (λ e. new.0 (sym e)) ∙ h.0, fail_kept s k o ops i up new.1 h.1)

pub applied_plays : (s : List Item) (ops : List Op) → Ascends s → AreApart ops → AllApply s ops → Plays s ops (edited s ops)
applied_plays s [] up apart h = refl
applied_plays s (op ∷ ops) up apart h = (h.0, applied_plays (put op.key op.now s) ops (edit_law s op.key op.now up).ascends apart.1 (apply_kept s op.key op.now ops up apart.0 h.1))

pub failed_clash : (s : List Item) (ops : List Op) (i : ℕ) → Ascends s → AreApart ops → IsFirstToFail s ops i → IsClash s ops i
failed_clash s [] i up apart h = h
failed_clash s (op ∷ ops) zero up apart h = h
failed_clash s (op ∷ ops) (suc i) up apart h = (h.0, failed_clash (put op.key op.now s) ops i (edit_law s op.key op.now up).ascends apart.1 (fail_kept s op.key op.now ops i up apart.0 h.1))

-- an edit leaves a map in order and without holes
value_whole : (k : List ℕ) (o : Option (List ℕ)) → KeysOnly (with_value k o)
value_whole k None = tt
value_whole k (Some v) = tt

pub put_whole : (s : List Item) (k : List ℕ) (o : Option (List ℕ)) → KeysOnly s → KeysOnly (put k o s)
put_whole s k o keys =
    let P : List Item → Type 0 = λ x. KeysOnly x in
    let p = keys_only_parts (before k s) (with_value k (value_at k s) ++ after k s) (subst P (sym (rebuilt k s)) keys) in
    let q = keys_only_parts (with_value k (value_at k s)) (after k s) p.1 in
    keys_only_join (before k s) (with_value k o ++ after k s) p.0 (keys_only_join (with_value k o) (after k s) (value_whole k o) q.1)

pub put_ascends : (s : List Item) (k : List ℕ) (o : Option (List ℕ)) → Ascends s → Ascends (put k o s)
put_ascends s k o up = (edit_law s k o up).ascends

pub edited_ascends : (s : List Item) (ops : List Op) → Ascends s → Ascends (edited s ops)
edited_ascends s [] up = up
edited_ascends s (op ∷ ops) up = edited_ascends (put op.key op.now s) ops (put_ascends s op.key op.now up)

pub edited_whole : (s : List Item) (ops : List Op) → KeysOnly s → KeysOnly (edited s ops)
edited_whole s [] keys = keys
edited_whole s (op ∷ ops) keys = edited_whole (put op.key op.now s) ops (put_whole s op.key op.now keys)

pub judged_fault : (s : List Item) (ops : List Op) (fault : PlayFault) → Ascends s → AreApart ops → IsJudgedFault s ops fault → IsPlayFault s ops fault
judged_fault s ops (PlayFault.Clash i) up apart h = failed_clash s ops i up apart h
judged_fault s ops PlayFault.Memory up apart h = absurd h

-- an item put at the place that a search finds, or the key's item taken out
module _ (k : List ℕ) (s : List Item) (at : ℕ) (x : Item) (o : Option Item) where
  given : o ≡ Some x → before k s ++ (x ∷ after k s) ≡ before k s ++ (option_to_list o ++ after k s)
  given is = ap (λ (p : Option Item). before k s ++ (option_to_list p ++ after k s)) (sym is)

  pub set_found : IsFound k s (Ok at) → o ≡ Some x → set s at x ≡ before k s ++ (option_to_list o ++ after k s)
  set_found f is = ap (λ n. set s n x) f.0 ∙ set_visible k x s f.3 ∙ given is

  pub insert_found : IsFound k s (Err at) → o ≡ Some x → insert s at x ≡ before k s ++ (option_to_list o ++ after k s)
  insert_found f is = ap (λ n. insert s n x) f.0 ∙ insert_round k x s f.2 ∙ given is

module _ (k : List ℕ) (s : List Item) (at : ℕ) (o : Option Item) where
  taken : o ≡ None → before k s ++ after k s ≡ before k s ++ (option_to_list o ++ after k s)
  taken is = ap (λ (p : Option Item). before k s ++ (option_to_list p ++ after k s)) (sym is)

  pub remove_found : IsFound k s (Ok at) → o ≡ None → remove s at ≡ before k s ++ (option_to_list o ++ after k s)
  remove_found f is = ap (λ n. remove s n) f.0 ∙ cut_visible k s f.3 ∙ taken is

  pub none_found : IsFound k s (Err at) → o ≡ None → s ≡ before k s ++ (option_to_list o ++ after k s)
  none_found f is = absent_round k s f.2 ∙ taken is

pub inserted : {A E : Type 0} → (r : Result A E) (t s : List Item) → is_err r ≡ false → (if is_ok r then t else s) ≡ t
inserted (Ok a) t s none = refl
inserted (Err e) t s none = absurd cc

-- Playing operations is undoing them turned round.
use Rattle.std.proofs.Common.{◌≡◌, ℕ, zero, suc, ◌<◌, ◌≤◌, List, [], ◌∷◌, ◌++◌, length, map, drop, get_or, refl, sym, ap, ◌∙◌, subst, Option, Some, None, arith, length-append}
use Rattle.mst_list.specs.declared.item.Item.{Item}
use Rattle.mst_list.specs.declared.item.Item.TheVariants.{Key, Hole}
use Rattle.mst_list.specs.declared.op.Op.{Op}
use Rattle.mst_list.specs.Lists.{IsMap, KeysOnly}
use Rattle.mst_list.specs.Edits.{before, after, value_at, with_value, put, undone, EndsInHole, StartsWithHole, IsClear, GuardedBy, IsGuarded, AllAgree, IsNewTo, AreApart, IsFormedOp, AreFormedOps}
use Rattle.mst_list.specs.Maps.{AllApply, edited}
use Rattle.mst_list.proofs.Fills.{formed_value, keys_only_parts}
use Rattle.mst_list.proofs.Places.{rebuilt}
use Rattle.mst_list.proofs.Undo.{map_put}
use Rattle.relay_gen.specs.declared.records.Change.{Change}
use Rattle.relay_gen.specs.Records.{op_of}
use Rattle.relay_gen.specs.States.{turned_of}

abbrev turn : Op → Op
turn op = record { key = op.key; was = op.now; now = op.was }

undone_last : (F : List Item) (X : List Op) (op : Op) → undone F (X ++ op ∷ []) ≡ undone (put op.key op.was F) X
undone_last F [] op = refl
undone_last F (x ∷ X) op = ap (put x.key x.was) (undone_last F X op)

pub undone_turned : (ops : List Op) (s : List Item) → undone s (turned_of ops) ≡ edited s ops
undone_turned [] s = refl
undone_turned (op ∷ ops) s = undone_last s (turned_of ops) (turn op) ∙ undone_turned ops (put op.key op.now s)

agree_joined : (s : List Item) (A B : List Op) → AllAgree s A → AllAgree s B → AllAgree s (A ++ B)
agree_joined s [] B a b = b
agree_joined s (x ∷ A) B a b = (a.0, agree_joined s A B a.1 b)

pub turned_agree : (s : List Item) (ops : List Op) → AllApply s ops → AllAgree s (turned_of ops)
turned_agree s [] a = tt
turned_agree s (op ∷ ops) a = agree_joined s (turned_of ops) (turn op ∷ []) (turned_agree s ops a.1) (a.0, tt)

guarded_joined : (s : List Item) (A B : List Op) → IsGuarded s A → IsGuarded s B → IsGuarded s (A ++ B)
guarded_joined s [] B a b = b
guarded_joined s (x ∷ A) B a b = (a.0, guarded_joined s A B a.1 b)

no_end : (F : List Item) → KeysOnly F → EndsInHole F → ⊥
no_end [] k h = h
no_end (Key j v ∷ []) k h = h
no_end (Hole l c ∷ []) k h = k
no_end (Key j v ∷ (y ∷ F)) k h = no_end (y ∷ F) k h
no_end (Hole l c ∷ (y ∷ F)) k h = k

no_start : (F : List Item) → KeysOnly F → StartsWithHole F → ⊥
no_start [] k h = h
no_start (Key j v ∷ F) k h = h
no_start (Hole l c ∷ F) k h = k

-- no hole stands anywhere in a map
pub clear : (k : List ℕ) (s : List Item) → KeysOnly s → IsClear k s
clear k s only =
    let K : List Item → Type 0 = KeysOnly in
    let parts = keys_only_parts (before k s) (with_value k (value_at k s) ++ after k s) (subst K (sym (rebuilt k s)) only) in
    record { no_hole_before = no_end (before k s) parts.0; no_hole_after = no_start (after k s) (keys_only_parts (with_value k (value_at k s)) (after k s) parts.1).1 }

guard : (s : List Item) (k : List ℕ) (was now : Option (List ℕ)) → KeysOnly s → value_at k s ≡ now → GuardedBy k was now s
guard s k (Some v) (Some w) only e = λ none. absurd cc
guard s k None now only e = clear k s only
guard s k (Some v) None only e = λ none. clear k s only

pub turned_guarded : (s : List Item) (ops : List Op) → KeysOnly s → AllApply s ops → IsGuarded s (turned_of ops)
turned_guarded s [] only a = tt
turned_guarded s (op ∷ ops) only a = guarded_joined s (turned_of ops) (turn op ∷ []) (turned_guarded s ops only a.1) (guard s op.key op.now op.was only a.0, tt)

new_joined : (k : List ℕ) (A B : List Op) → IsNewTo k A → IsNewTo k B → IsNewTo k (A ++ B)
new_joined k [] B a b = b
new_joined k (x ∷ A) B a b = (a.0, new_joined k A B a.1 b)

pub apart_more : (A : List Op) (op : Op) → AreApart A → IsNewTo op.key A → AreApart (A ++ op ∷ [])
apart_more [] op a n = (tt, tt)
apart_more (x ∷ A) op a n = (new_joined x.key A (op ∷ []) a.0 (λ e. n.0 (sym e), tt), apart_more A op a.1 n.1)

new_turned : (k : List ℕ) (ops : List Op) → IsNewTo k ops → IsNewTo k (turned_of ops)
new_turned k [] n = tt
new_turned k (op ∷ ops) n = new_joined k (turned_of ops) (turn op ∷ []) (new_turned k ops n.1) (n.0, tt)

pub turned_apart : (ops : List Op) → AreApart ops → AreApart (turned_of ops)
turned_apart [] a = tt
turned_apart (op ∷ ops) a = apart_more (turned_of ops) (turn op) (turned_apart ops a.1) (new_turned op.key ops a.0)

pub turned_formed : (op : Op) → IsFormedOp op → IsFormedOp (turn op)
turned_formed op f = (f.0, f.2, f.1, λ none was. f.3 was none)

pub length_turned : (ops : List Op) → length (turned_of ops) ≡ length ops
length_turned [] = refl
length_turned (op ∷ ops) = let n = length-append (turned_of ops) (turn op ∷ []) in let m = length_turned ops in omega arith

-- a map is left
pub played_map : (s : List Item) (ops : List Op) → IsMap s → AreFormedOps ops → IsMap (edited s ops)
played_map s [] m f = m
played_map s (op ∷ ops) m f = played_map (put op.key op.now s) ops (map_put op.key op.now s (formed_value op.key op.now f.0.0 f.0.2) m) f.1

length_ops : (cs : List Change) → length (map op_of cs) ≡ length cs
length_ops [] = refl
length_ops (c ∷ cs) = ap suc (length_ops cs)

-- an operation at a place
pub formed_at : (cs : List Change) (i : ℕ) (c : Change) → AreFormedOps (map op_of cs) → i < length cs → c ≡ get_or cs i c → IsFormedOp (op_of c)
formed_at [] i c f low e = absurd (omega arith)
formed_at (x ∷ cs) zero c f low e = let P : Change → Type 0 = λ y. IsFormedOp (op_of y) in subst P (sym e) f.0
formed_at (x ∷ cs) (suc i) c f low e = formed_at cs i c f.1 (omega arith) e

pub few_turned : (n : ℕ) (cs : List Change) → length (turned_of (map op_of (drop n cs))) ≤ length cs
few_turned zero cs = let a = length_turned (map op_of cs) in let b = length_ops cs in omega arith
few_turned (suc n) [] = omega arith
few_turned (suc n) (c ∷ cs) = let rest = few_turned n cs in omega arith

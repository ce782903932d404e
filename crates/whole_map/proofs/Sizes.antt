-- How many entries an edit leaves.
use Rattle.std.proofs.Common.{◌≡◌, ℕ, ◌+◌, ◌<◌, List, ◌++◌, length, ap, arith, length-append, Option, Some, None, is_some, true}
use Rattle.mst_list.specs.declared.item.Item.{Item}
use Rattle.mst_list.specs.Edits.{after, before, put, value_at, with_value}
use Rattle.mst_list.proofs.Places.{rebuilt}
use Rattle.mst_list.proofs.Puts.{visible}

pub put_length : (k : List ℕ) (o : Option (List ℕ)) (s : List Item) → length (put k o s) + length (with_value k (value_at k s)) ≡ length s + length (with_value k o)
put_length k o s =
    let whole = ap length (rebuilt k s) in
    let a = length-append (before k s) (with_value k (value_at k s) ++ after k s) in
    let b = length-append (with_value k (value_at k s)) (after k s) in
    let c = length-append (before k s) (with_value k o ++ after k s) in
    let d = length-append (with_value k o) (after k s) in
    omega arith

value_length : (k v : List ℕ) (o : Option (List ℕ)) → o ≡ Some v → length (with_value k o) ≡ 1
value_length k v o is = ap (λ (x : Option (List ℕ)). length (with_value k x)) is

none_length : (k : List ℕ) (o : Option (List ℕ)) → o ≡ None → length (with_value k o) ≡ 0
none_length k o is = ap (λ (x : Option (List ℕ)). length (with_value k x)) is

pub length_created : (k v : List ℕ) (s : List Item) → value_at k s ≡ None → length (put k (Some v) s) ≡ length s + 1
length_created k v s none = let n = put_length k (Some v) s in let m = none_length k (value_at k s) none in omega arith

pub length_set : (k v : List ℕ) (s : List Item) → is_some (value_at k s) ≡ true → length (put k (Some v) s) ≡ length s
length_set k v s held =
    let w = visible k s held in let n = put_length k (Some v) s in let m = value_length k w.value (value_at k s) w.is in omega arith

pub length_removed : (k : List ℕ) (s : List Item) → is_some (value_at k s) ≡ true → length (put k None s) + 1 ≡ length s
length_removed k s held =
    let w = visible k s held in let n = put_length k None s in let m = value_length k w.value (value_at k s) w.is in omega arith

pub length_put : (k v : List ℕ) (s : List Item) → 0 < length (put k (Some v) s)
length_put k v s =
    let c = length-append (before k s) (with_value k (Some v) ++ after k s) in omega arith

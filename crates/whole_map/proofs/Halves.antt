-- A piece cut in two, and a list.
use Rattle.std.proofs.Common.{◌≡◌, ℕ, ◌<◌, false, eqb, List, [], ◌∷◌, ◌++◌, length, take, drop, length-drop, sym, subst, arith}
use Rattle.std.proofs.lemmas.List.{length-take-le, take-append-drop}
use Rattle.mst_list.specs.declared.item.Item.{Item}
use Rattle.mst_list.specs.Lists.{Ascends, KeysOnly}
use Rattle.mst_list.proofs.Fills.{is_below_parts, keys_only_parts}
use Rattle.whole_map.specs.Pieces.{IsPiece}

module _ (s : List Item) (n : ℕ) (some : 0 < n) (less : n < length s) (piece : IsPiece s) where
  whole_ascends : Ascends (take n s ++ drop n s)
  whole_ascends = subst (λ (x : List Item). Ascends x) (sym (take-append-drop n s)) piece.ascends

  whole_keys : KeysOnly (take n s ++ drop n s)
  whole_keys = subst (λ (x : List Item). KeysOnly x) (sym (take-append-drop n s)) piece.whole

  pub lower_half : IsPiece (take n s)
  lower_half = record {
    some = let l = length-take-le n s (omega arith) in omega arith;
    ascends = (is_below_parts (take n s) (drop n s) whole_ascends).0;
    whole = (keys_only_parts (take n s) (drop n s) whole_keys).0;
  }

  pub upper_half : IsPiece (drop n s)
  upper_half = record {
    some = let l = length-drop n s in omega arith;
    ascends = (is_below_parts (take n s) (drop n s) whole_ascends).2;
    whole = (keys_only_parts (take n s) (drop n s) whole_keys).1;
  }

-- a list that is a front and others
module _ (front others s : List Item) (cut : s ≡ front ++ others) where
  pub front_ascends : Ascends s → Ascends front
  front_ascends up = (is_below_parts front others (subst (λ (x : List Item). Ascends x) cut up)).0

  pub others_ascend : Ascends s → Ascends others
  others_ascend up = (is_below_parts front others (subst (λ (x : List Item). Ascends x) cut up)).2

  pub front_whole : KeysOnly s → KeysOnly front
  front_whole whole = (keys_only_parts front others (subst (λ (x : List Item). KeysOnly x) cut whole)).0

  pub others_whole : KeysOnly s → KeysOnly others
  others_whole whole = (keys_only_parts front others (subst (λ (x : List Item). KeysOnly x) cut whole)).1

pub some_left : (s : List Item) → false ≡ eqb (length s) 0 → 0 < length s
some_left [] is = absurd cc
some_left (x ∷ s) is = omega arith

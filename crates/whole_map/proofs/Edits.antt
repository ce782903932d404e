-- Pieces with one of them edited, cut in two, or taken out.
use Rattle.std.proofs.Common.{◌≡◌, ℕ, zero, suc, ◌+◌, ◌<◌, List, [], ◌∷◌, ◌++◌, length, set, insert, remove, take, get_or, refl, sym, ap, ◌∙◌, subst, arith, append_assoc, append-nil, add-one, Option, None, is_some, true}
use Rattle.mst_list.specs.declared.item.Item.{Item}
use Rattle.mst_list.specs.Edits.{put, value_at}
use Rattle.mst_list.specs.Lists.{Ascends, KeysOnly}
use Rattle.mst_list.proofs.InPlace.{put_ascends, put_whole}
use Rattle.whole_map.specs.Pieces.{AreFilled, ArePieces, IsPlace, flatten}
use Rattle.whole_map.proofs.Sizes.{length_removed}
use Rattle.std.proofs.lemmas.List.{nil_from_length}

-- no piece of them is empty
pub filled_set : (ps : List (List Item)) (at : ℕ) (q : List Item) → AreFilled ps → 0 < length q → AreFilled (set ps at q)
filled_set [] at q filled some = filled
filled_set (p ∷ ps) zero q filled some = (some, filled.1)
filled_set (p ∷ ps) (suc at) q filled some = (filled.0, filled_set ps at q filled.1 some)

pub filled_remove : (ps : List (List Item)) (at : ℕ) → AreFilled ps → AreFilled (remove ps at)
filled_remove [] zero filled = filled
filled_remove [] (suc at) filled = filled
filled_remove (p ∷ ps) zero filled = filled.1
filled_remove (p ∷ ps) (suc at) filled = (filled.0, filled_remove ps at filled.1)

pub filled_insert : (ps : List (List Item)) (at : ℕ) (q : List Item) → AreFilled ps → 0 < length q → AreFilled (insert ps at q)
filled_insert ps zero q filled some = (some, filled)
filled_insert [] (suc at) q filled some = (some, tt)
filled_insert (p ∷ ps) (suc at) q filled some = (filled.0, filled_insert ps at q filled.1 some)

-- an empty piece is none
flatten_remove : (ps : List (List Item)) (at : ℕ) → at < length ps → flatten (remove ps at) ≡ flatten (set ps at [])
flatten_remove [] at low = absurd (omega arith)
flatten_remove (p ∷ ps) zero low = refl
flatten_remove (p ∷ ps) (suc at) low = ap (λ (x : List Item). p ++ x) (flatten_remove ps at (omega arith))

-- a piece cut in two
pub flatten_cut : (ps : List (List Item)) (at : ℕ) (p lower upper : List Item) → at < length ps → p ≡ get_or ps at p → p ≡ lower ++ upper → flatten (insert (set ps at lower) (suc at) upper) ≡ flatten ps
flatten_cut [] at p lower upper low is halves = absurd (omega arith)
flatten_cut (q ∷ ps) zero p lower upper low is halves =
    sym (append_assoc lower upper (flatten ps)) ∙ ap (λ (x : List Item). x ++ flatten ps) (sym halves ∙ is)
flatten_cut (q ∷ ps) (suc at) p lower upper low is halves =
    ap (λ (x : List Item). q ++ x) (flatten_cut ps at p lower upper (omega arith) is halves)

-- the pieces of a map with an edit
pub pieces_put : (k : List ℕ) (o : Option (List ℕ)) (ps qs : List (List Item)) → ArePieces ps → flatten qs ≡ put k o (flatten ps) → AreFilled qs → ArePieces qs
pieces_put k o ps qs pieces is filled = record {
  ascends = subst (λ (x : List Item). Ascends x) (sym is) (put_ascends (flatten ps) k o pieces.ascends);
  whole = subst (λ (x : List Item). KeysOnly x) (sym is) (put_whole (flatten ps) k o pieces.whole);
  filled = filled;
}

pub pieces_same : (ps qs : List (List Item)) → ArePieces ps → flatten qs ≡ flatten ps → AreFilled qs → ArePieces qs
pieces_same ps qs pieces is filled = record {
  ascends = subst (λ (x : List Item). Ascends x) (sym is) pieces.ascends;
  whole = subst (λ (x : List Item). KeysOnly x) (sym is) pieces.whole;
  filled = filled;
}

-- a piece of one key goes with it
pub piece_gone : (k : List ℕ) (ps : List (List Item)) (at : ℕ) (p : List Item) → IsPlace k ps at → p ≡ get_or ps at p → length p ≡ 1 → is_some (value_at k (flatten ps)) ≡ true → flatten (remove ps at) ≡ put k None (flatten ps)
piece_gone k ps at p place is one held =
    let here : is_some (value_at k p) ≡ true = ap (λ (o : Option (List ℕ)). is_some o) (sym (place.value p is)) ∙ held in
    let n = length_removed k p here in
    let empty : put k None p ≡ [] = nil_from_length (put k None p) (omega arith) in
    flatten_remove ps at place.low ∙ ap (λ (x : List Item). flatten (set ps at x)) (sym empty) ∙ sym (place.edit p is None)

-- the entries of one piece more
pub flatten_more : (ps : List (List Item)) (i : ℕ) (p : List Item) → i < length ps → p ≡ get_or ps i p → flatten (take (suc i) ps) ≡ flatten (take i ps) ++ p
flatten_more [] i p low is = absurd (omega arith)
flatten_more (q ∷ ps) zero p low is = append-nil q ∙ sym is
flatten_more (q ∷ ps) (suc i) p low is =
    ap (λ (x : List Item). q ++ x) (flatten_more ps i p (omega arith) is) ∙ sym (append_assoc q (flatten (take i ps)) p)

-- one piece more at the end
flatten_last : (ps : List (List Item)) (q : List Item) → flatten (ps ++ q ∷ []) ≡ flatten ps ++ q
flatten_last [] q = append-nil q
flatten_last (p ∷ ps) q = ap (λ (x : List Item). p ++ x) (flatten_last ps q) ∙ sym (append_assoc p (flatten ps) q)

filled_last : (ps : List (List Item)) (q : List Item) → AreFilled ps → 0 < length q → AreFilled (ps ++ q ∷ [])
filled_last [] q filled some = (some, tt)
filled_last (p ∷ ps) q filled some = (filled.0, filled_last ps q filled.1 some)

-- pieces cut off at the front of a list: with one more, what is left is less
pub cut_more : (ps qs : List (List Item)) (q front others rest s : List Item) → qs ≡ ps ++ q ∷ [] → q ≡ front → front ++ others ≡ rest → flatten ps ++ rest ≡ s → flatten qs ++ others ≡ s
cut_more ps qs q front others rest s made same cut so_far =
    ap (λ (x : List (List Item)). flatten x ++ others) made ∙ ap (λ (x : List Item). x ++ others) (flatten_last ps q) ∙ append_assoc (flatten ps) q others
    ∙ ap (λ (x : List Item). flatten ps ++ (x ++ others)) same ∙ ap (λ (x : List Item). flatten ps ++ x) cut ∙ so_far

pub filled_more : (ps qs : List (List Item)) (q front : List Item) → qs ≡ ps ++ q ∷ [] → q ≡ front → 0 < length front → AreFilled ps → AreFilled qs
filled_more ps qs q front made same some filled =
    subst (λ (x : List (List Item)). AreFilled x) (sym made) (filled_last ps q filled (subst (λ (x : List Item). 0 < length x) (sym same) some))

-- what the calls on one piece make of all of them
pub record IsEdited (k : List ℕ) (o : Option (List ℕ)) (ps qs : List (List Item)) : Type 0 where
  pub whole : flatten qs ≡ put k o (flatten ps)
  pub are : ArePieces qs

pub put_at : (k : List ℕ) (o : Option (List ℕ)) (ps : List (List Item)) (at : ℕ) (p q : List Item) → ArePieces ps → IsPlace k ps at → p ≡ get_or ps at p → q ≡ put k o p → 0 < length q → IsEdited k o ps (set ps at q)
put_at k o ps at p q pieces place is edited some =
    let made : flatten (set ps at q) ≡ put k o (flatten ps) = ap (λ (x : List Item). flatten (set ps at x)) edited ∙ sym (place.edit p is o) in
    record { whole = made; are = pieces_put k o ps (set ps at q) pieces made (filled_set ps at q pieces.filled some) }

pub gone_at : (k : List ℕ) (ps : List (List Item)) (at : ℕ) (p : List Item) → ArePieces ps → IsPlace k ps at → p ≡ get_or ps at p → length p ≡ 1 → is_some (value_at k (flatten ps)) ≡ true → IsEdited k None ps (remove ps at)
gone_at k ps at p pieces place is one held =
    let made = piece_gone k ps at p place is one held in
    record { whole = made; are = pieces_put k None ps (remove ps at) pieces made (filled_remove ps at pieces.filled) }

pub cut_at : (ps : List (List Item)) (at : ℕ) (p lower upper : List Item) → ArePieces ps → at < length ps → p ≡ get_or ps at p → p ≡ lower ++ upper → 0 < length lower → 0 < length upper
    → (flatten (insert (set ps at lower) (at + 1) upper) ≡ flatten ps) × ArePieces (insert (set ps at lower) (at + 1) upper)
cut_at ps at p lower upper pieces low is halves some_lower some_upper =
    let same : flatten (insert (set ps at lower) (at + 1) upper) ≡ flatten ps = rw add-one (flatten_cut ps at p lower upper low is halves) in
    (same, pieces_same ps (insert (set ps at lower) (at + 1) upper) pieces same (filled_insert (set ps at lower) (at + 1) upper (filled_set ps at lower pieces.filled some_lower) some_upper))

pub held_at : (k : List ℕ) (ps : List (List Item)) (at : ℕ) (p : List Item) → IsPlace k ps at → p ≡ get_or ps at p → is_some (value_at k (flatten ps)) ≡ true → is_some (value_at k p) ≡ true
held_at k ps at p place is held = ap (λ (o : Option (List ℕ)). is_some o) (sym (place.value p is)) ∙ held

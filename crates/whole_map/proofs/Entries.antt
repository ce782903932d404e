-- The entries of a piece, edited at the place that a search finds.
use Rattle.std.proofs.Common.{◌≡◌, ℕ, ◌<◌, List, length, set, insert, remove, get_or, sym, ap, ◌∙◌, subst, Option, Some, None, Ok, Err}
use Rattle.std.proofs.Math.Seq.{get_or-append_seam}
use Rattle.mst_list.specs.declared.item.Item.{Item}
use Rattle.mst_list.specs.declared.item.Item.TheVariants.{Key}
use Rattle.mst_list.specs.Edits.{after, before, put}
use Rattle.mst_list.specs.Lists.{Ascends, KeysOnly}
use Rattle.mst_list.specs.Maps.{IsFound}
use Rattle.mst_list.proofs.InPlace.{put_ascends, put_whole}
use Rattle.mst_list.proofs.Puts.{cut_visible, insert_put, put_visible, visible, visible_round}
use Rattle.whole_map.specs.Pieces.{IsPiece, with_link}

pub put_piece : (k : List ℕ) (o : Option (List ℕ)) (s t : List Item) → IsPiece s → t ≡ put k o s → 0 < length t → IsPiece t
put_piece k o s t piece is some = record {
  some = some;
  ascends = subst (λ (x : List Item). Ascends x) (sym is) (put_ascends s k o piece.ascends);
  whole = subst (λ (x : List Item). KeysOnly x) (sym is) (put_whole s k o piece.whole);
}

module _ (k : List ℕ) (s : List Item) (at : ℕ) where
  pub removed : IsFound k s (Ok at) → remove s at ≡ put k None s
  removed f = ap (λ n. remove s n) f.0 ∙ cut_visible k s f.3

  pub inserted : (v : List ℕ) → IsFound k s (Err at) → insert s at (Key k v) ≡ put k (Some v) s
  inserted v f = ap (λ n. insert s n (Key k v)) f.0 ∙ insert_put k v s f.2

  -- the item that is found has the key
  has_key : (x : Item) → (f : IsFound k s (Ok at)) → x ≡ get_or s at x → x ≡ Key k (visible k s f.3).value
  has_key x f is =
      let w = visible k s f.3 in
      is ∙ ap (λ n. get_or s n x) f.0 ∙ ap (λ (t : List Item). get_or t (length (before k s)) x) (visible_round k w.value s w.is)
      ∙ get_or-append_seam (before k s) (Key k w.value) (after k s) x

  pub relinked : (v : List ℕ) (x : Item) → IsFound k s (Ok at) → x ≡ get_or s at x → set s at (with_link x v) ≡ put k (Some v) s
  relinked v x f is =
      ap (λ (y : Item). set s at (with_link y v)) (has_key x f is) ∙ ap (λ n. set s n (Key k v)) f.0 ∙ put_visible k v s f.3

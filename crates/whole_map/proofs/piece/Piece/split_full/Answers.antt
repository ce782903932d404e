use Rattle.std.proofs.Common.{◌∙◌, ◌/◌, ◌<◌, List, sym, subst, length, arith}
use Rattle.mst_list.specs.declared.item.Item.{Item}
use Rattle.whole_map.specs.Pieces.{IsPiece}
use Rattle.whole_map.proofs.Halves.{lower_half, upper_half}
use Rattle.whole_map.proofs.piece.Piece.split_full.Goals as goal

pub invariant_of-result : goal.invariant_of-result
invariant_of-result c =
    let s = c.self.inside.items.items in let n = c.len-2.result / 2 in
    let some : 0 < n = omega (arith, c.len.ensures, c.len-2.ensures, c.if-len-lt-MOST_ENTRIES.false) in
    let less : n < length s = omega (arith, c.len.ensures, c.len-2.ensures, c.if-len-lt-MOST_ENTRIES.false) in
    subst (λ (x : List Item). IsPiece x) (sym c.in_ok-items.ensures.tail) (upper_half s n some less c.self.invariant)

pub invariant_of-self-2 : goal.invariant_of-self-2
invariant_of-self-2 c =
    let s = c.self.inside.items.items in let n = c.len-2.result / 2 in
    let some : 0 < n = omega (arith, c.len.ensures, c.len-2.ensures, c.if-len-lt-MOST_ENTRIES.false) in
    let less : n < length s = omega (arith, c.len.ensures, c.len-2.ensures, c.if-len-lt-MOST_ENTRIES.false) in
    subst (λ (x : List Item). IsPiece x) (sym (c.shrink_to_fit.ensures.items ∙ c.in_ok-items.ensures.items)) (lower_half s n some less c.self.invariant)

pub returns-clause-some : goal.returns-clause-some
returns-clause-some c =
    let s = c.self.inside.items.items in let n = c.len-2.result / 2 in
    let some : 0 < n = omega (arith, c.len.ensures, c.len-2.ensures, c.if-len-lt-MOST_ENTRIES.false) in
    let less : n < length s = omega (arith, c.len.ensures, c.len-2.ensures, c.if-len-lt-MOST_ENTRIES.false) in (
      subst (λ (x : List Item). 0 < length x) (sym (c.shrink_to_fit.ensures.items ∙ c.in_ok-items.ensures.items)) (lower_half s n some less c.self.invariant).some,
      subst (λ (x : List Item). 0 < length x) (sym c.in_ok-items.ensures.tail) (upper_half s n some less c.self.invariant).some,
    )

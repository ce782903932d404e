use Rattle.std.proofs.Common.{ℕ, sym, subst}
use Rattle.whole_map.specs.Pieces.{IsPlace}
use Rattle.whole_map.proofs.Places.{placed}
use Rattle.whole_map.proofs.pieces.place_of.Goals as goal

pub returns : goal.returns
returns c =
    let k = c.args.key.now in let ps = c.args.pieces.now in
    subst (λ (n : ℕ). IsPlace k ps n) (sym c.saturating_sub.ensures) (placed k ps c.count_begun.result c.requires.some c.requires.pieces c.count_begun.ensures)

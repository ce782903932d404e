-- What can't be played.
use Rattle.std.proofs.Common.{ℕ, zero, suc, List, [], ◌∷◌}
use Rattle.mst_list.specs.declared.item.Item.{Item}
use Rattle.mst_list.specs.declared.op.Op.{Op}
use Rattle.mst_list.specs.Edits.{Plays, put}
use Rattle.mst_list.specs.Faults.{IsClash}

pub clash_stops : (s : List Item) (ops : List Op) (i : ℕ) (t : List Item) → IsClash s ops i → Plays s ops t → ⊥
clash_stops s [] i t h p = absurd h
clash_stops s (op ∷ ops) zero t h p = h p.0
clash_stops s (op ∷ ops) (suc i) t h p = clash_stops (put op.key op.now s) ops i t h.1 p.1

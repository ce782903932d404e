use Rattle.std.proofs.Common.{ℕ, List, ◌+◌, drop}
use Rattle.mst_list.specs.declared.item.Item.{Item}
use Rattle.mst_list.specs.Edits.{Plays}
use Rattle.mst_list.specs.Faults.{IsClash}
use Rattle.mst_list.proofs.playing.play_all.Given as goal

-- what is left to play, and its first clash, are those of the whole
abbrev pub invariant-loop-i : goal.invariant-loop-i
invariant-loop-i l = record {
  plays : (t : List Item) → Plays l.items.items (drop l.i l.ops) t → Plays l.initial.items.items l.ops t;
  clash : (j : ℕ) → IsClash l.items.items (drop l.i l.ops) j → IsClash l.initial.items.items l.ops (l.i + j);
}

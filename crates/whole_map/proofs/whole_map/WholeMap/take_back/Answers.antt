use Rattle.std.proofs.Common.{◌∙◌, ℕ, List, ap, sym}
use Rattle.mst_list.specs.Edits.{value_at}
use Rattle.whole_map.proofs.InTurns.{none_taken}
use Rattle.whole_map.proofs.whole_map.WholeMap.take_back.Goals as goal

pub returns-in-None-None : goal.returns-in-None-None
returns-in-None-None c =
    let op = c.args.op.now in let s = c.args.self.now in
    none_taken op.key op.was s c.in-None-None.is-0 (ap (λ (k : List ℕ). value_at k s) (sym c.as_slice-key.ensures.value) ∙ sym c.value_of.ensures ∙ c.in-None-None.is-1)

use Rattle.std.proofs.Common.{◌≡◌, List, Some, ap, sym, ◌∙◌}
use Rattle.mst_node.specs.declared.entry.Entry.{Entry}
use Rattle.mst_node.specs.Reading.{node_of}
use Rattle.mst_node.proofs.Readers.{told_encodes}
use Rattle.mst_node.proofs.Rounds.{entries_same}
use Rattle.mst_node.proofs.reading.read_node.Goals as goal

pub invariant_of-result : goal.invariant_of-result
invariant_of-result c =
    let told : node_of c.args.block.now ≡ Some (c.in_ok-left.left, c.from_vec.result) = c.in_ok-left.ensures.told ∙ ap (λ (es : List Entry). Some (c.in_ok-left.left, es)) (entries_same c.in_ok-left.entries.items ∙ sym c.from_vec.ensures) in
    (told_encodes c.args.block.now (c.in_ok-left.left, c.from_vec.result) told).is_node

pub returns-clause-node : goal.returns-clause-node
returns-clause-node c =
    let told : node_of c.args.block.now ≡ Some (c.in_ok-left.left, c.from_vec.result) = c.in_ok-left.ensures.told ∙ ap (λ (es : List Entry). Some (c.in_ok-left.left, es)) (entries_same c.in_ok-left.entries.items ∙ sym c.from_vec.ensures) in
    told_encodes c.args.block.now (c.in_ok-left.left, c.from_vec.result) told

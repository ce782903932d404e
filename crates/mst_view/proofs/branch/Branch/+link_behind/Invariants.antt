use Rattle.std.proofs.Common.{[], drop, length, ◌++◌}
use Rattle.mst_node.specs.NodeBytes.{entries_encoding, node_front}
use Rattle.mst_view.specs.Layered.{entries_of}
use Rattle.mst_view.proofs.Behind.{IsEncodedOn}
use Rattle.mst_view.proofs.branch.Branch.+link_behind.Given as goal

abbrev pub invariant-loop-part : goal.invariant-loop-part
invariant-loop-part l =
    IsEncodedOn l.fn.room l.hash l.room (entries_encoding l.last (entries_of (drop l.part-index l.parts)))
    (node_front (length (entries_of l.parts)) ++ entries_encoding [] (entries_of l.parts))

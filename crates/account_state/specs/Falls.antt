-- Each side of a node is less deep than the node.
use Rattle.std.specs.Prelude.{◌≤◌, max}
use Rattle.std.proofs.Common.{arith}
use Rattle.account_state.specs.declared.tree.Link.{Link}
use Rattle.account_state.specs.declared.tree.Link.TheVariants.{Empty, Fork}
use Rattle.account_state.specs.declared.tree.Tree.TheDeep.{deep-Link}
use Rattle.account_state.specs.Tree.{shape}

pub depth_within : (link : Link) → max (deep-Link link) 0 ≤ (shape link).depth
depth_within Empty = omega arith
depth_within (Fork level node) = omega arith

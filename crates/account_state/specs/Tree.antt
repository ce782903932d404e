-- The accounts of a tree, in the order of their DIDs, and its balance.
use Rattle.std.specs.Prelude.{ℕ, ◌+◌, max, List, ◌∷◌, ◌++◌}
use Rattle.account_state.specs.Entries.{Entry}
use Rattle.account_state.specs.Shape.{Shape, no_entries, AreSides}
use Rattle.account_state.specs.declared.tree.Link.{Link}
use Rattle.account_state.specs.declared.tree.Link.TheVariants.{Empty, Fork}
use Rattle.account_state.specs.declared.tree.TreeNode.{TreeNode}

abbrev pub node_entries : TreeNode → List Entry
node_entries n = n.left.entries ++ (n.name, n.account) ∷ n.right.entries

abbrev pub node_shape : ℕ → TreeNode → Shape
node_shape level n = record {
  level = level;
  right_level = n.right.level;
  depth = max n.left.depth n.right.depth + 1;
  entries = node_entries n;
}

abbrev pub shape : Link → Shape
shape Empty = no_entries
shape (Fork level node) = node_shape level node.value

abbrev pub IsBalanced : Link → Type 0
IsBalanced Empty = Unit {0}
IsBalanced (Fork level node) = AreSides level node.value.left node.value.right

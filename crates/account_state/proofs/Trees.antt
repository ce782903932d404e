-- What a node of the tree tells of the entries.
use Rattle.std.proofs.Common.{◌≡◌, ℕ, ◌<◌, true, false, List, ◌∷◌, ◌++◌, Bool, Option, Some, None, refl, sym, ap, ◌∙◌, subst, arith, Less, Equal, Greater}
use Rattle.std.specs.Global.{Box}
use Rattle.std.specs.Ordering.{is_lt}
use Rattle.std.specs.declared.cmp.Ordering.{Ordering}
use Rattle.account_state.specs.Entries.{Entry, found_entry, is_before, next_in, put, IsSorted}
use Rattle.account_state.specs.Shape.{Shape, AreSides}
use Rattle.account_state.specs.Tree.{node_entries, node_shape, shape}
use Rattle.account_state.specs.declared.tree.Link.{Link}
use Rattle.account_state.specs.declared.tree.Link.TheVariants.{Empty, Fork}
use Rattle.account_state.specs.declared.tree.TreeNode.{TreeNode}
use Rattle.account_state.proofs.Order.{cmp, before_less, before_greater, equal_is}
use Rattle.account_state.proofs.Sorted.{found_here, found_left, found_right, put_left, put_right, sorted_left, sorted_right}
use Rattle.account_state.proofs.Next.{next_right, next_joined, next_first, next_unnamed, or_next}

pub opened : {link : Link} {tree : Shape} {level : ℕ} {b : Box TreeNode} → shape link ≡ tree → link ≡ Fork level b → (n : TreeNode) → n ≡ b.value → tree ≡ node_shape level n
opened {level = level} view is n same = sym view ∙ ap shape is ∙ ap (λ (m : TreeNode). node_shape level m) (sym same)

pub listed : {tree : Shape} {level : ℕ} → (n : TreeNode) → tree ≡ node_shape level n → tree.entries ≡ node_entries n
listed n is = ap (λ (t : Shape). t.entries) is

pub left_shorter : {tree : Shape} {level : ℕ} → (n : TreeNode) → tree ≡ node_shape level n → n.left.depth < tree.depth
left_shorter n is = omega (arith, ap (λ (t : Shape). t.depth) is)

pub right_shorter : {tree : Shape} {level : ℕ} → (n : TreeNode) → tree ≡ node_shape level n → n.right.depth < tree.depth
right_shorter n is = omega (arith, ap (λ (t : Shape). t.depth) is)

pub ordered : (did other name text : List ℕ) (r o : Ordering) → r ≡ cmp other text → other ≡ did → text ≡ name → r ≡ o → cmp did name ≡ o
ordered did other name text r o compared left right is =
    ap (λ (t : List ℕ). cmp did t) (sym right) ∙ ap (λ (d : List ℕ). cmp d text) (sym left) ∙ sym compared ∙ is

pub before_is : (did other name text : List ℕ) (r : Ordering) (told b : Bool) → r ≡ cmp other text → other ≡ did → text ≡ name → told ≡ is_lt r → told ≡ b → is_before did name ≡ b
before_is did other name text r told b compared left right lt is = ap is_lt (ordered did other name text r r compared left right refl) ∙ sym lt ∙ is

pub none_there : {link : Link} {tree : Shape} → shape link ≡ tree → link ≡ Empty → (did : List ℕ) → found_entry did tree.entries ≡ None
none_there view is did = ap (λ (t : Shape). found_entry did t.entries) (sym view ∙ ap shape is)

-- each side of a first node is on the tree's level at most
module _ {tree : Shape} {level : ℕ} (n m : TreeNode) (whole : tree ≡ node_shape level n) (sides : AreSides level m.left m.right) (same : n ≡ m) (below : tree.level < 255) where
  pub left_level : n.left.level < 255
  left_level = omega (arith, below, ap (λ (t : Shape). t.level) whole, ap (λ (x : TreeNode). x.left.level) same, sides.lower)

  pub right_level : n.right.level < 255
  right_level = omega (arith, below, ap (λ (t : Shape). t.level) whole, ap (λ (x : TreeNode). x.right.level) same, sides.on_right.most)

module _ (n : TreeNode) (es : List Entry) (is : es ≡ node_entries n) (s : IsSorted es) where
  sorted : IsSorted (node_entries n)
  sorted = subst IsSorted is s

  pub left_sorted : IsSorted n.left.entries
  left_sorted = sorted_left n.left.entries ((n.name, n.account) ∷ n.right.entries) sorted

  pub right_sorted : IsSorted n.right.entries
  right_sorted = sorted_right n.left.entries (n.name, n.account) n.right.entries sorted

  pub in_left : (did : List ℕ) → cmp did n.name ≡ Less → found_entry did es ≡ found_entry did n.left.entries
  in_left did h = ap (λ (xs : List Entry). found_entry did xs) is ∙ found_left did n.left.entries (n.name, n.account) n.right.entries (before_less did n.name h) sorted

  pub in_node : (did : List ℕ) → cmp did n.name ≡ Equal → found_entry did es ≡ Some n.account
  in_node did h = ap (λ (xs : List Entry). found_entry did xs) is ∙ found_here did n.left.entries (n.name, n.account) n.right.entries (equal_is did n.name h) sorted

  pub in_right : (did : List ℕ) → cmp did n.name ≡ Greater → found_entry did es ≡ found_entry did n.right.entries
  in_right did h = ap (λ (xs : List Entry). found_entry did xs) is ∙ found_right did n.left.entries (n.name, n.account) n.right.entries (before_greater did n.name h) sorted

  pub behind_right : (did : List ℕ) → is_before did n.name ≡ false → next_in did es ≡ next_in did n.right.entries
  behind_right did h = ap (λ (xs : List Entry). next_in did xs) is ∙ next_right did n.left.entries (n.name, n.account) n.right.entries h sorted

  next_split : (did : List ℕ) → next_in did es ≡ or_next (next_in did n.left.entries) (next_in did ((n.name, n.account) ∷ n.right.entries))
  next_split did = ap (λ (xs : List Entry). next_in did xs) is ∙ next_joined did n.left.entries ((n.name, n.account) ∷ n.right.entries)

  pub next_before : (did : List ℕ) (x : Entry) → next_in did n.left.entries ≡ Some x → next_in did es ≡ Some x
  next_before did x h = next_split did ∙ ap (λ (o : Option Entry). or_next o (next_in did ((n.name, n.account) ∷ n.right.entries))) h

  pub next_here : (did : List ℕ) → next_in did n.left.entries ≡ None → is_before did n.name ≡ true → n.account.named ≡ true → next_in did es ≡ Some (n.name, n.account)
  next_here did h above named =
      next_split did ∙ ap (λ (o : Option Entry). or_next o (next_in did ((n.name, n.account) ∷ n.right.entries))) h ∙ next_first did (n.name, n.account) n.right.entries above named

  pub next_past : (did : List ℕ) → next_in did n.left.entries ≡ None → is_before did n.name ≡ true → n.account.named ≡ false → next_in did es ≡ next_in did n.right.entries
  next_past did h above unnamed =
      next_split did ∙ ap (λ (o : Option Entry). or_next o (next_in did ((n.name, n.account) ∷ n.right.entries))) h ∙ next_unnamed did (n.name, n.account) n.right.entries above unnamed

  pub put_before : (e : Entry) → is_before e.0 n.name ≡ true → put e es ≡ put e n.left.entries ++ (n.name, n.account) ∷ n.right.entries
  put_before e h = ap (λ (xs : List Entry). put e xs) is ∙ put_left e n.left.entries (n.name, n.account) n.right.entries h

  pub put_behind : (e : Entry) → is_before e.0 n.name ≡ false → put e es ≡ n.left.entries ++ (n.name, n.account) ∷ put e n.right.entries
  put_behind e h = ap (λ (xs : List Entry). put e xs) is ∙ put_right e n.left.entries (n.name, n.account) n.right.entries h sorted

use Rattle.std.proofs.Common.{◌≡◌, List, ap, ◌∙◌, sym, subst}
use Rattle.account_state.specs.Entries.{Entry, IsSorted, found_entry, put}
use Rattle.account_state.specs.declared.tree.TreeNode.{TreeNode}
use Rattle.account_state.proofs.Sorted.{sorted_put}
use Rattle.account_state.proofs.accounts.Accounts.put.Goals as goal

pub invariant_of-self-2 : goal.invariant_of-self-2
invariant_of-self-2 c =
    let es = c.self.inside.tree.entries in
    let is : c.insert.new.self.entries ≡ put (c.args.node.name, c.args.node.account) es = c.insert.ensures.entries ∙ ap (λ (n : TreeNode). put (n.name, n.account) es) c.in_ok-new.ensures.ok in (
      subst IsSorted (sym is) (sorted_put (c.args.node.name, c.args.node.account) es (ap (λ (l : List Entry). found_entry c.args.node.name l) c.self.view_is ∙ c.requires.absent) c.self.invariant.0),
      c.insert.ensures.low,
    )

use Rattle.std.proofs.Common.{rules, ◌≡◌, ℕ, true, false, List, Some, None, refl, sym, ap, ◌∙◌, subst}
use Rattle.account_state.specs.Entries.{next_in}
use Rattle.account_state.specs.declared.tree.TreeNode.{TreeNode}
use Rattle.account_state.proofs.Next.{none_next, some_next}
use Rattle.account_state.proofs.Trees.{opened, listed, before_is, left_shorter, left_sorted, right_shorter, right_sorted, behind_right, next_before, next_here, next_past}
use Rattle.account_state.proofs.tree.Tree.+next_after.Goals as goal

pub next_after-requires : goal.next_after-requires
next_after-requires t c =
    let n = c.deref-then-not-is_lt.result.now in
    let whole = opened c.self.view_is c.in-Fork.is n c.deref-then-not-is_lt.ensures in
    let is = listed n whole in
    let shorter = right_shorter n whole in
    (search (rules, shorter), right_sorted n c.args.self.now.entries is c.requires)

pub returns-then-not-is_lt : goal.returns-then-not-is_lt
returns-then-not-is_lt t c =
    let n = c.deref-then-not-is_lt.result.now in
    let whole = opened c.self.view_is c.in-Fork.is n c.deref-then-not-is_lt.ensures in
    let is = listed n whole in
    let name : c.as_bytes.result.now ≡ n.name = let value = c.as_bytes.ensures.value in cc in
    c.next_after.ensures ∙ sym (behind_right n c.args.self.now.entries is c.requires c.args.did.now (before_is c.args.did.now c.args.did.now n.name c.as_bytes.result.now c.order_of.result c.is_lt.result false c.order_of.ensures refl name c.is_lt.ensures c.if-not-is_lt.true))

pub next_after-requires-in-Fork : goal.next_after-requires-in-Fork
next_after-requires-in-Fork t c =
    let n = c.deref-in-Fork.result.now in
    let whole = opened c.self.view_is c.in-Fork.is n c.deref-in-Fork.ensures in
    let is = listed n whole in
    let shorter = left_shorter n whole in
    (search (rules, shorter), left_sorted n c.args.self.now.entries is c.requires)

pub next_after-requires-in-None-2 : goal.next_after-requires-in-None-2
next_after-requires-in-None-2 t c =
    let n = c.deref-in-None-2-2.result.now in
    let whole = opened c.self.view_is c.in-Fork.is n c.deref-in-None-2-2.ensures in
    let is = listed n whole in
    let shorter = right_shorter n whole in
    (search (rules, shorter), right_sorted n c.args.self.now.entries is c.requires)

pub returns-in-Some : goal.returns-in-Some
returns-in-Some t c =
    let n = c.deref-in-Fork.result.now in
    let whole = opened c.self.view_is c.in-Fork.is n c.deref-in-Fork.ensures in
    let is = listed n whole in
    let left = some_next _ c.next_after-in-Fork.result c.in-Some.next c.args.did.now n.left.entries c.next_after-in-Fork.ensures c.in-Some.is in
    sym (next_before n c.args.self.now.entries is c.requires c.args.did.now (c.in-Some.next.0.now, c.in-Some.next.1.now) left)

pub returns-in-None : goal.returns-in-None
returns-in-None t c =
    let n = c.deref-in-None-2.result.now in
    let whole = opened c.self.view_is c.in-Fork.is n c.deref-in-None-2.ensures in
    let is = listed n whole in
    let name : c.as_bytes.result.now ≡ n.name = let value = c.as_bytes.ensures.value in cc in
    let text : c.as_str.result.now ≡ n.name = let value = c.as_str.ensures.value in cc in
    let left = subst (λ (m : TreeNode). next_in c.args.did.now m.left.entries ≡ None) (c.deref-in-Fork.ensures ∙ sym c.deref-in-None-2.ensures) (none_next _ c.next_after-in-Fork.result c.args.did.now c.deref-in-Fork.result.now.left.entries c.next_after-in-Fork.ensures c.in-None.is) in
    let named : n.account.named ≡ true = cc in
    let above = before_is c.args.did.now c.args.did.now n.name c.as_bytes.result.now c.order_of.result c.is_lt.result true c.order_of.ensures refl name c.is_lt.ensures c.if-not-is_lt.false in
    ap (λ (bytes : List ℕ). Some (bytes, n.account)) text ∙ sym (next_here n c.args.self.now.entries is c.requires c.args.did.now left above named)

pub returns-in-None-2 : goal.returns-in-None-2
returns-in-None-2 t c =
    let n = c.deref-in-None-2-2.result.now in
    let whole = opened c.self.view_is c.in-Fork.is n c.deref-in-None-2-2.ensures in
    let is = listed n whole in
    let name : c.as_bytes.result.now ≡ n.name = let value = c.as_bytes.ensures.value in cc in
    let left = subst (λ (m : TreeNode). next_in c.args.did.now m.left.entries ≡ None) (c.deref-in-Fork.ensures ∙ sym c.deref-in-None-2-2.ensures) (none_next _ c.next_after-in-Fork.result c.args.did.now c.deref-in-Fork.result.now.left.entries c.next_after-in-Fork.ensures c.in-None.is) in
    let unnamed : n.account.named ≡ false = cc in
    let above = before_is c.args.did.now c.args.did.now n.name c.as_bytes.result.now c.order_of.result c.is_lt.result true c.order_of.ensures refl name c.is_lt.ensures c.if-not-is_lt.false in
    c.next_after-in-None-2.ensures ∙ sym (next_past n c.args.self.now.entries is c.requires c.args.did.now left above unnamed)

use Rattle.std.proofs.Common.{rules, ◌≡◌, refl, sym, ◌∙◌, Less, Equal, Greater}
use Rattle.account_state.proofs.Trees.{opened, listed, ordered, left_shorter, left_sorted, right_shorter, right_sorted, in_left, in_node, in_right}
use Rattle.account_state.proofs.tree.Tree.+get.Goals as goal

pub get-requires : goal.get-requires
get-requires t c =
    let n = c.deref-in-Less.result.now in
    let whole = opened c.self.view_is c.in-Fork.is n c.deref-in-Less.ensures in
    let is = listed n whole in
    let shorter = left_shorter n whole in
    (search (rules, shorter), left_sorted n c.args.self.now.entries is c.requires)

pub get-requires-in-Greater : goal.get-requires-in-Greater
get-requires-in-Greater t c =
    let n = c.deref-in-Greater.result.now in
    let whole = opened c.self.view_is c.in-Fork.is n c.deref-in-Greater.ensures in
    let is = listed n whole in
    let shorter = right_shorter n whole in
    (search (rules, shorter), right_sorted n c.args.self.now.entries is c.requires)

pub returns-in-Less : goal.returns-in-Less
returns-in-Less t c =
    let n = c.deref-in-Less.result.now in
    let same : c.as_bytes.result.now ≡ n.name = let value = c.as_bytes.ensures.value in cc in
    c.get.ensures ∙ sym (in_left n c.args.self.now.entries (listed n (opened c.self.view_is c.in-Fork.is n c.deref-in-Less.ensures)) c.requires c.args.did.now (ordered c.args.did.now c.args.did.now n.name c.as_bytes.result.now c.order_of.result Less c.order_of.ensures refl same c.in-Less.is))

pub returns-in-Equal : goal.returns-in-Equal
returns-in-Equal t c =
    let n = c.deref-in-Equal.result.now in
    let same : c.as_bytes.result.now ≡ n.name = let value = c.as_bytes.ensures.value in cc in
    sym (in_node n c.args.self.now.entries (listed n (opened c.self.view_is c.in-Fork.is n c.deref-in-Equal.ensures)) c.requires c.args.did.now (ordered c.args.did.now c.args.did.now n.name c.as_bytes.result.now c.order_of.result Equal c.order_of.ensures refl same c.in-Equal.is))

pub returns-in-Greater : goal.returns-in-Greater
returns-in-Greater t c =
    let n = c.deref-in-Greater.result.now in
    let same : c.as_bytes.result.now ≡ n.name = let value = c.as_bytes.ensures.value in cc in
    c.get-in-Greater.ensures ∙ sym (in_right n c.args.self.now.entries (listed n (opened c.self.view_is c.in-Fork.is n c.deref-in-Greater.ensures)) c.requires c.args.did.now (ordered c.args.did.now c.args.did.now n.name c.as_bytes.result.now c.order_of.result Greater c.order_of.ensures refl same c.in-Greater.is))

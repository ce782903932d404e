use Rattle.std.proofs.Common.{rules, ◌≡◌, List, ◌∷◌, ◌++◌, true≢false, refl, sym, ap, ◌∙◌, subst, Less, Equal, Greater}
use Rattle.std.specs.Option.{is_some}
use Rattle.account_state.specs.Entries.{Entry, Follows}
use Rattle.account_state.proofs.Order.{equal_is}
use Rattle.account_state.proofs.Trees.{opened, listed, ordered, none_there, left_shorter, left_sorted, right_shorter, right_sorted, in_left, in_node, in_right}
use Rattle.account_state.proofs.Written.{follows_left, follows_here, follows_right}
use Rattle.account_state.proofs.tree.Tree.+follow_known.Goals as goal
use Rattle.account_state.proofs.tree.Tree.+follow_known.Goals.{in-Empty, in-Fork+in-Less, in-Fork+in-Equal, in-Fork+in-Greater}

pub follow_known-requires : goal.follow_known-requires
follow_known-requires t c =
    let n = c.deref_mut.result.now in
    let whole = opened c.self.view_is c.in-Fork.is n c.deref_mut.ensures.value in
    let shorter = left_shorter n whole in
    (search (rules, shorter), left_sorted n c.args.self.now.entries (listed n whole) c.requires.sorted)

pub follow_known-requires-in-Greater : goal.follow_known-requires-in-Greater
follow_known-requires-in-Greater t c =
    let n = c.deref_mut-in-Greater.result.now in
    let whole = opened c.self.view_is c.in-Fork.is n c.deref_mut-in-Greater.ensures.value in
    let shorter = right_shorter n whole in
    (search (rules, shorter), right_sorted n c.args.self.now.entries (listed n whole) c.requires.sorted)

pub returns-clause-known : goal.returns-clause-known
returns-clause-known t c =
    elim c.match-self.branch [
      | in-Empty w ↦ w.result-is ∙ sym (ap is_some (none_there c.self.view_is w.in-Empty.is c.args.did.now))
      | in-Fork+in-Less w ↦
          let n = w.deref_mut.result.now in
          let whole = opened c.self.view_is w.in-Fork.is n w.deref_mut.ensures.value in
          let name : w.as_bytes.result.now ≡ n.name = let value = w.as_bytes.ensures.value in cc in
          let below = ordered c.args.did.now c.args.did.now n.name w.as_bytes.result.now w.order_of-order.result Less w.order_of-order.ensures refl name w.in-Less.is in
          w.result-is ∙ w.follow_known.ensures.known ∙ ap is_some (sym (in_left n c.args.self.now.entries (listed n whole) c.requires.sorted c.args.did.now below))
      | in-Fork+in-Equal w ↦
          let n = w.deref_mut-in-Equal.result.now in
          let whole = opened c.self.view_is w.in-Fork.is n w.deref_mut-in-Equal.ensures.value in
          let name : w.as_bytes.result.now ≡ n.name = let value = w.as_bytes.ensures.value in cc in
          let same = ordered c.args.did.now c.args.did.now n.name w.as_bytes.result.now w.order_of-order.result Equal w.order_of-order.ensures refl name w.in-Equal.is in
          w.result-is ∙ ap is_some (sym (in_node n c.args.self.now.entries (listed n whole) c.requires.sorted c.args.did.now same))
      | in-Fork+in-Greater w ↦
          let n = w.deref_mut-in-Greater.result.now in
          let whole = opened c.self.view_is w.in-Fork.is n w.deref_mut-in-Greater.ensures.value in
          let name : w.as_bytes.result.now ≡ n.name = let value = w.as_bytes.ensures.value in cc in
          let above = ordered c.args.did.now c.args.did.now n.name w.as_bytes.result.now w.order_of-order.result Greater w.order_of-order.ensures refl name w.in-Greater.is in
          w.result-is ∙ w.follow_known-in-Greater.ensures.known ∙ ap is_some (sym (in_right n c.args.self.now.entries (listed n whole) c.requires.sorted c.args.did.now above))
    ]

pub returns-clause-entries : goal.returns-clause-entries
returns-clause-entries t c = λ known.
    elim c.match-self.branch [
      | in-Empty w ↦ absurd (true≢false (sym known ∙ w.result-is))
      | in-Fork+in-Less w ↦
          let n = w.deref_mut.result.now in
          let is = listed n (opened c.self.view_is w.in-Fork.is n w.deref_mut.ensures.value) in
          rw w.self-inside-is (subst (λ (es : List Entry). Follows c.args.did.now c.args.row.now es (w.follow_known.new.self.entries ++ (n.name, n.account) ∷ n.right.entries)) (sym is) (follows_left c.args.did.now c.args.row.now n.left.entries w.follow_known.new.self.entries (n.name, n.account) n.right.entries (w.follow_known.ensures.entries (sym w.result-is ∙ known))))
      | in-Fork+in-Equal w ↦
          let n = w.deref_mut-in-Equal.result.now in
          let is = listed n (opened c.self.view_is w.in-Fork.is n w.deref_mut-in-Equal.ensures.value) in
          let name : w.as_bytes.result.now ≡ n.name = let value = w.as_bytes.ensures.value in cc in
          let same = equal_is c.args.did.now n.name (ordered c.args.did.now c.args.did.now n.name w.as_bytes.result.now w.order_of-order.result Equal w.order_of-order.ensures refl name w.in-Equal.is) in
          rw w.self-inside-is (subst (λ (es : List Entry). Follows c.args.did.now c.args.row.now es (n.left.entries ++ (n.name, w.follow.new.self) ∷ n.right.entries)) (sym is) (follows_here c.args.did.now c.args.row.now n.left.entries n.name n.account w.follow.new.self n.right.entries same w.follow.ensures.state))
      | in-Fork+in-Greater w ↦
          let n = w.deref_mut-in-Greater.result.now in
          let is = listed n (opened c.self.view_is w.in-Fork.is n w.deref_mut-in-Greater.ensures.value) in
          rw w.self-inside-is (subst (λ (es : List Entry). Follows c.args.did.now c.args.row.now es (n.left.entries ++ (n.name, n.account) ∷ w.follow_known-in-Greater.new.self.entries)) (sym is) (follows_right c.args.did.now c.args.row.now n.left.entries (n.name, n.account) n.right.entries w.follow_known-in-Greater.new.self.entries (w.follow_known-in-Greater.ensures.entries (sym w.result-is ∙ known))))
    ]

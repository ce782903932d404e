use Rattle.std.proofs.Common.{rules, ◌≡◌, true, false, List, ◌∷◌, ◌++◌, sym, ap, ◌∙◌}
use Rattle.account_state.specs.Entries.{Entry, is_before}
use Rattle.account_state.specs.Shape.{Shape}
use Rattle.account_state.proofs.Trees.{opened, listed, before_is, left_shorter, left_level, left_sorted, right_shorter, right_level, right_sorted, put_before, put_behind}
use Rattle.account_state.proofs.tree.Tree.+insert.Goals as goal

pub insert-requires : goal.insert-requires
insert-requires t c =
    let n = c.deref_mut.result.now in
    let whole = opened (c.open.ensures.shape ∙ c.replace.ensures.value) c.in-Fork.is n c.deref_mut.ensures.value in
    let shorter = left_shorter n whole in (
      search (rules, shorter),
      (
        left_sorted n c.args.self.now.entries (listed n whole) c.requires.sorted,
        (c.requires.before, (c.requires.behind, left_level n c.in-Fork.node.value whole c.in-Fork.ensures.balanced c.deref_mut.ensures.value c.requires.level)),
      ),
    )

pub insert-requires-else-is_lt : goal.insert-requires-else-is_lt
insert-requires-else-is_lt t c =
    let n = c.deref_mut-else-is_lt.result.now in
    let whole = opened (c.open.ensures.shape ∙ c.replace.ensures.value) c.in-Fork.is n c.deref_mut-else-is_lt.ensures.value in
    let shorter = right_shorter n whole in (
      search (rules, shorter),
      (
        right_sorted n c.args.self.now.entries (listed n whole) c.requires.sorted,
        (c.requires.before, (c.requires.behind, right_level n c.in-Fork.node.value whole c.in-Fork.ensures.balanced c.deref_mut-else-is_lt.ensures.value c.requires.level)),
      ),
    )

pub returns-then-is_lt-clause-entries : goal.returns-then-is_lt-clause-entries
returns-then-is_lt-clause-entries t c =
    let e : Entry = (c.args.new.value.name, c.args.new.value.account) in
    let n = c.deref_mut.result.now in
    let whole = opened (c.open.ensures.shape ∙ c.replace.ensures.value) c.in-Fork.is n c.deref_mut.ensures.value in
    let new : c.as_bytes.result.now ≡ e.0 = let value = c.as_bytes.ensures.value in cc in
    let name : c.as_bytes-2.result.now ≡ n.name = let value = c.as_bytes-2.ensures.value in cc in
    let below : is_before e.0 n.name ≡ true = before_is e.0 c.as_bytes.result.now n.name c.as_bytes-2.result.now c.order_of.result c.is_lt.result true c.order_of.ensures new name c.is_lt.ensures c.if-is_lt.true in
    ap (λ (tree : Shape). tree.entries) c.close-then-is_lt.ensures
    ∙ c.split.ensures.entries
    ∙ c.skew.ensures.entries
    ∙ ap (λ (es : List Entry). es ++ (n.name, n.account) ∷ n.right.entries) c.insert.ensures.entries
    ∙ sym (put_before n c.args.self.now.entries (listed n whole) c.requires.sorted e below)

pub returns-else-is_lt-clause-entries : goal.returns-else-is_lt-clause-entries
returns-else-is_lt-clause-entries t c =
    let e : Entry = (c.args.new.value.name, c.args.new.value.account) in
    let n = c.deref_mut-else-is_lt.result.now in
    let whole = opened (c.open.ensures.shape ∙ c.replace.ensures.value) c.in-Fork.is n c.deref_mut-else-is_lt.ensures.value in
    let new : c.as_bytes.result.now ≡ e.0 = let value = c.as_bytes.ensures.value in cc in
    let name : c.as_bytes-2.result.now ≡ n.name = let value = c.as_bytes-2.ensures.value in cc in
    let above : is_before e.0 n.name ≡ false = before_is e.0 c.as_bytes.result.now n.name c.as_bytes-2.result.now c.order_of.result c.is_lt.result false c.order_of.ensures new name c.is_lt.ensures c.if-is_lt.false in
    ap (λ (tree : Shape). tree.entries) c.close-else-is_lt.ensures
    ∙ c.split-else-is_lt.ensures.entries
    ∙ ap (λ (es : List Entry). n.left.entries ++ (n.name, n.account) ∷ es) c.insert-else-is_lt.ensures.entries
    ∙ sym (put_behind n c.args.self.now.entries (listed n whole) c.requires.sorted e above)

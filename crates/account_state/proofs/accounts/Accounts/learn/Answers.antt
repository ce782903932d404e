use Rattle.std.proofs.Common.{◌≡◌, ℕ, false, List, Option, None, Some, sym, ap, ◌∙◌, subst}
use Rattle.std.specs.Option.{unwrap_or}
use Rattle.std.specs.Prelude.{length, ◌==◌}
use Rattle.relay_row.specs.Folds.{did_of_row}
use Rattle.relay_row.specs.declared.row.Row.{Row}
use Rattle.account_state.specs.Entries.{Entry, entry, entry_after, found_entry, put}
use Rattle.account_state.specs.Folds.{fresh, moved}
use Rattle.account_state.specs.Shape.{Shape}
use Rattle.account_state.specs.State.{State, known}
use Rattle.account_state.proofs.Written.{follows_whole, sorted_follows, entries_follow, entries_learned, none_from, on_ok}
use Rattle.account_state.proofs.accounts.Accounts.learn.Goals as goal

pub invariant_of-self : goal.invariant_of-self
invariant_of-self c =
    let follows = follows_whole c.as_bytes.result.now c.take_did-name.new.row c.args.row.now c.self.inside.tree.entries c.follow_known.new.self.entries (c.as_bytes.ensures.value ∙ c.take_did-name.ensures.did) c.take_did-name.ensures.moves (c.follow_known.ensures.entries c.if-follow_known.true) in
    (sorted_follows c.args.row.now c.self.inside.tree.entries c.follow_known.new.self.entries c.self.invariant.0 follows, c.follow_known.ensures.low)

pub put-requires : goal.put-requires
put-requires c =
    let text : c.as_bytes.result.now ≡ c.unnamed-node.result.name = c.as_bytes.ensures.value ∙ sym c.unnamed-node.ensures.name in
    let gone = none_from _ (sym c.follow_known.ensures.known ∙ c.if-follow_known.false) in
    record {
      absent = ap (λ (t : Shape). found_entry c.unnamed-node.result.name t.entries) (c.follow_known.ensures.tree c.if-follow_known.false) ∙ ap (λ (did : List ℕ). found_entry did c.self.inside.tree.entries) (sym text) ∙ gone;
      before = c.unnamed-node.ensures.left;
      behind = c.unnamed-node.ensures.right;
    }

pub returns-then-follow_known-clause-ok : goal.returns-then-follow_known-clause-ok
returns-then-follow_known-clause-ok c =
    let full : (length (did_of_row c.args.row.now) == 0) ≡ false = ap (λ (text : List ℕ). length text == 0) (sym c.take_did-name.ensures.did) ∙ sym c.is_empty.ensures ∙ c.if-is_empty.false in
    let follows = follows_whole c.as_bytes.result.now c.take_did-name.new.row c.args.row.now c.self.inside.tree.entries c.follow_known.new.self.entries (c.as_bytes.ensures.value ∙ c.take_did-name.ensures.did) c.take_did-name.ensures.moves (c.follow_known.ensures.entries c.if-follow_known.true) in
    λ name.
    subst (λ (es : List Entry). entry c.follow_known.new.self.entries name ≡ entry_after name (entry es name) c.args.row.now) c.self.view_is
    (entries_follow c.args.row.now c.self.inside.tree.entries c.follow_known.new.self.entries c.self.invariant.0 follows full name)

pub returns-clause-ok : goal.returns-clause-ok
returns-clause-ok c =
    let full : (length (did_of_row c.args.row.now) == 0) ≡ false = ap (λ (text : List ℕ). length text == 0) (sym c.take_did-name.ensures.did) ∙ sym c.is_empty.ensures ∙ c.if-is_empty.false in
    let e : Entry = (c.unnamed-node.result.name, c.follow.new.self) in
    let text : c.as_bytes.result.now ≡ e.0 = c.as_bytes.ensures.value ∙ sym c.unnamed-node.ensures.name in
    let same : c.follow_known.new.self.entries ≡ c.args.self.now = ap (λ (t : Shape). t.entries) (c.follow_known.ensures.tree c.if-follow_known.false) ∙ c.self.view_is in
    let gone : found_entry c.as_bytes.result.now c.self.inside.tree.entries ≡ None = none_from _ (sym c.follow_known.ensures.known ∙ c.if-follow_known.false) in
    let absent : found_entry e.0 c.args.self.now ≡ None = ap (λ (es : List Entry). found_entry e.0 es) (sym c.self.view_is) ∙ ap (λ (did : List ℕ). found_entry did c.self.inside.tree.entries) (sym text) ∙ gone in
    let moves : known e.1 ≡ Some (moved fresh c.args.row.now) =
    c.follow.ensures.state
    ∙ ap (λ (o : Option State). Some (moved (unwrap_or o fresh) c.follow_known.new.row)) c.unnamed-node.ensures.account
    ∙ ap (λ (row : Row). Some (moved fresh row)) (c.follow_known.ensures.row c.if-follow_known.false)
    ∙ ap Some (c.take_did-name.ensures.moves fresh) in
    on_ok c.put.result _ _ (λ is. entries_learned c.args.row.now e c.args.self.now c.put.new.self absent (c.unnamed-node.ensures.name ∙ c.take_did-name.ensures.did) full moves (is ∙ ap (put e) same)) c.put.ensures.put

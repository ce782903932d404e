use Rattle.std.proofs.Common.{◌≡◌, ℕ, false, List, sym, ap, ◌∙◌, subst}
use Rattle.std.specs.Prelude.{length, ◌==◌}
use Rattle.relay_row.specs.Folds.{did_of_row}
use Rattle.account_state.specs.Entries.{Entry, entry, entry_after, has_room}
use Rattle.account_state.proofs.Written.{follows_whole, sorted_follows, entries_follow, room_follows}
use Rattle.account_state.proofs.accounts.Accounts.apply.Goals as goal

pub invariant_of-self : goal.invariant_of-self
invariant_of-self c =
    let follows = follows_whole c.as_bytes.result.now c.take_did-did.new.row c.args.row c.self.inside.tree.entries c.follow_known.new.self.entries (c.as_bytes.ensures.value ∙ c.take_did-did.ensures.did) c.take_did-did.ensures.moves (c.follow_known.ensures.entries c.in-true.is) in
    (sorted_follows c.args.row c.self.inside.tree.entries c.follow_known.new.self.entries c.self.invariant.0 follows, c.follow_known.ensures.low)

pub returns-clause-entries : goal.returns-clause-entries
returns-clause-entries c =
    let full : (length (did_of_row c.args.row) == 0) ≡ false = ap (λ (text : List ℕ). length text == 0) (sym c.take_did-did.ensures.did) ∙ sym c.is_empty.ensures ∙ c.if-is_empty.false in
    let follows = follows_whole c.as_bytes.result.now c.take_did-did.new.row c.args.row c.self.inside.tree.entries c.follow_known.new.self.entries (c.as_bytes.ensures.value ∙ c.take_did-did.ensures.did) c.take_did-did.ensures.moves (c.follow_known.ensures.entries c.in-true.is) in
    λ name.
    subst (λ (es : List Entry). entry c.follow_known.new.self.entries name ≡ entry_after name (entry es name) c.args.row) c.self.view_is
    (entries_follow c.args.row c.self.inside.tree.entries c.follow_known.new.self.entries c.self.invariant.0 follows full name)

pub returns-clause-room : goal.returns-clause-room
returns-clause-room c = λ name.
    let follows = follows_whole c.as_bytes.result.now c.take_did-did.new.row c.args.row c.self.inside.tree.entries c.follow_known.new.self.entries (c.as_bytes.ensures.value ∙ c.take_did-did.ensures.did) c.take_did-did.ensures.moves (c.follow_known.ensures.entries c.in-true.is) in
    room_follows c.args.row c.self.inside.tree.entries c.follow_known.new.self.entries c.self.invariant.0 follows name ∙ ap (λ (es : List Entry). has_room es name) c.self.view_is

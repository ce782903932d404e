use Rattle.std.proofs.Common.{◌≡◌, ℕ, true, List, None, refl, sym, ap, ◌∙◌}
use Rattle.account_state.specs.Entries.{Entry, entry, found_entry, has_room, put}
use Rattle.account_state.proofs.Written.{absent_from, entries_touched, room_touched, room_kept, put_or_not, on_ok}
use Rattle.account_state.proofs.accounts.Accounts.touch.Goals as goal

pub put-requires : goal.put-requires
put-requires c =
    let gone : found_entry c.as_bytes.result.now c.self.inside.tree.entries ≡ None = absent_from _ c.get.result _ c.get.ensures (sym c.is_some.ensures ∙ c.if-is_some.false) in
    let absent : found_entry c.unnamed.result.name c.args.self.now ≡ None = ap (λ (text : List ℕ). found_entry text c.args.self.now) (c.unnamed.ensures.name ∙ c.in_ok-name.ensures ∙ sym c.as_bytes.ensures.value) ∙ ap (λ (es : List Entry). found_entry c.as_bytes.result.now es) (sym c.self.view_is) ∙ gone in
    record {
      absent = absent;
      before = c.unnamed.ensures.left;
      behind = c.unnamed.ensures.right;
    }

pub returns-clause-entries : goal.returns-clause-entries
returns-clause-entries c = λ name.
    let gone : found_entry c.as_bytes.result.now c.self.inside.tree.entries ≡ None = absent_from _ c.get.result _ c.get.ensures (sym c.is_some.ensures ∙ c.if-is_some.false) in
    let absent : found_entry c.unnamed.result.name c.args.self.now ≡ None = ap (λ (text : List ℕ). found_entry text c.args.self.now) (c.unnamed.ensures.name ∙ c.in_ok-name.ensures ∙ sym c.as_bytes.ensures.value) ∙ ap (λ (es : List Entry). found_entry c.as_bytes.result.now es) (sym c.self.view_is) ∙ gone in
    let e : Entry = (c.unnamed.result.name, c.unnamed.result.account) in
    put_or_not c.put-2.result (λ (es : List Entry). entry es name ≡ entry c.args.self.now name) c.args.self.now (put e c.args.self.now) c.put-2.new.self c.put-2.ensures.put c.put-2.ensures.err (entries_touched e c.args.self.now absent c.unnamed.ensures.account name) refl

pub returns-clause-room : goal.returns-clause-room
returns-clause-room c =
    let gone : found_entry c.as_bytes.result.now c.self.inside.tree.entries ≡ None = absent_from _ c.get.result _ c.get.ensures (sym c.is_some.ensures ∙ c.if-is_some.false) in
    let absent : found_entry c.unnamed.result.name c.args.self.now ≡ None = ap (λ (text : List ℕ). found_entry text c.args.self.now) (c.unnamed.ensures.name ∙ c.in_ok-name.ensures ∙ sym c.as_bytes.ensures.value) ∙ ap (λ (es : List Entry). found_entry c.as_bytes.result.now es) (sym c.self.view_is) ∙ gone in
    let e : Entry = (c.unnamed.result.name, c.unnamed.result.account) in
    on_ok c.put-2.result _ _
    (λ is. ap (λ (es : List Entry). has_room es c.args.did.now) is ∙ ap (λ (text : List ℕ). has_room (put e c.args.self.now) text) (sym (c.unnamed.ensures.name ∙ c.in_ok-name.ensures)) ∙ room_touched e c.args.self.now absent)
    c.put-2.ensures.put

pub returns-clause-kept : goal.returns-clause-kept
returns-clause-kept c = λ name there.
    let gone : found_entry c.as_bytes.result.now c.self.inside.tree.entries ≡ None = absent_from _ c.get.result _ c.get.ensures (sym c.is_some.ensures ∙ c.if-is_some.false) in
    let absent : found_entry c.unnamed.result.name c.args.self.now ≡ None = ap (λ (text : List ℕ). found_entry text c.args.self.now) (c.unnamed.ensures.name ∙ c.in_ok-name.ensures ∙ sym c.as_bytes.ensures.value) ∙ ap (λ (es : List Entry). found_entry c.as_bytes.result.now es) (sym c.self.view_is) ∙ gone in
    let e : Entry = (c.unnamed.result.name, c.unnamed.result.account) in
    put_or_not c.put-2.result (λ (es : List Entry). has_room es name ≡ true) c.args.self.now (put e c.args.self.now) c.put-2.new.self c.put-2.ensures.put c.put-2.ensures.err (room_kept e c.args.self.now absent name there) there

use Rattle.std.proofs.Common.{◌≡◌, ◌∷◌, [], ℕ, List, sym, ap, ◌∙◌, subst, nat_cmp, is_lt, Less}
use Rattle.std.specs.Cmp.Lexicographic.{slice_cmp}
use Rattle.std.specs.List.{filter}
use Rattle.std.specs.Option.{is_some}
use Rattle.std.specs.String.{string_bytes}
use Rattle.at_cid.specs.Order.{key_cmp}
use Rattle.mirror.proofs.Next.{first_behind, first_known, is_behind, none_behind, none_between, reached}
use Rattle.mirror.proofs.keeping.Mirror.first_behind.Goals as goal

first : (c : goal.After-text-1) → filter (is_behind string_bytes c.args.did.now []) c.args.self.now.accounts.entries
    ≡ (c.in-Some.name.now, c.in-Some.field-0-1.now) ∷ filter (is_behind string_bytes c.args.did.now []) c.next.new.self
first c =
    let did = c.args.did.now in
    reached string_bytes did [] c.args.self.now.accounts.entries c.loop-name.name-iterator (c.in-Some.name.now, c.in-Some.field-0-1.now) c.next.new.self
    c.loop-name.invariant c.in-Some.ensures.steps
    (sym (c.if-is_lt.ensures ∙ ap is_lt c.cmp.ensures ∙ ap (λ (text : List ℕ). is_lt (slice_cmp nat_cmp did text)) c.as_str-text.ensures.value))

pub returns-then-is_lt-clause-found : goal.returns-then-is_lt-clause-found
returns-then-is_lt-clause-found c =
    let did = c.args.did.now in
    first_known string_bytes did c.as_str-text.result.now c.args.self.now.accounts.entries (c.in-Some.name.now, c.in-Some.field-0-1.now)
    (filter (is_behind string_bytes did []) c.next.new.self) c.as_str-text.ensures.value (first c)

pub returns-then-is_lt-clause-above : goal.returns-then-is_lt-clause-above
unfolding key_cmp
returns-then-is_lt-clause-above c =
    let did = c.args.did.now in
    subst (λ (text : List ℕ). key_cmp did text ≡ Less) (sym c.as_str-text.ensures.value)
    (first_behind string_bytes did [] c.args.self.now.accounts.entries (c.in-Some.name.now, c.in-Some.field-0-1.now)
    (filter (is_behind string_bytes did []) c.next.new.self) (first c))

pub returns-then-is_lt-clause-least : goal.returns-then-is_lt-clause-least
returns-then-is_lt-clause-least c = λ other above below.
    let did = c.args.did.now in
    ap is_some
    (none_between string_bytes did other c.args.self.now.accounts.entries (c.in-Some.name.now, c.in-Some.field-0-1.now)
    (filter (is_behind string_bytes did []) c.next.new.self) c.into_iter-name-iterator.ensures.into_iter_gives.5 (first c) above
    (subst (λ (text : List ℕ). key_cmp other text ≡ Less) c.as_str-text.ensures.value below))

pub returns-clause-none : goal.returns-clause-none
returns-clause-none c = λ is other above.
    let did = c.args.did.now in
    ap is_some
    (none_behind string_bytes did other c.args.self.now.accounts.entries above
    (sym c.loop-name.invariant ∙ ap (filter (is_behind string_bytes did [])) c.in-None.ensures.steps.0))

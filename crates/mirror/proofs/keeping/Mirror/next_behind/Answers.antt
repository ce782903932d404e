use Rattle.std.proofs.Common.{◌≡◌, [], ℕ, List, Less, sym, ap, ◌∙◌, subst}
use Rattle.std.specs.Option.{is_some}
use Rattle.std.specs.String.{string_bytes}
use Rattle.at_cid.specs.Order.{key_cmp}
use Rattle.mirror.proofs.Next.{first_behind, none_behind, none_between}
use Rattle.mirror.proofs.keeping.Mirror.next_behind.Goals as goal

pub returns-in-Some-clause-above : goal.returns-in-Some-clause-above
unfolding key_cmp
returns-in-Some-clause-above c =
    let did = string_bytes c.args.did.now in
    let first = sym (c.range.ensures.between tt) ∙ c.in-Some.ensures.steps in
    subst (λ (text : List ℕ). key_cmp did text ≡ Less) (sym c.as_str.ensures.value)
    (first_behind string_bytes did [] c.args.self.now.accounts.entries (c.in-Some.name.now, c.in-Some.field-0-1.now) c.next.new.self first)

pub returns-in-Some-clause-least : goal.returns-in-Some-clause-least
returns-in-Some-clause-least c = λ other above below.
    let did = string_bytes c.args.did.now in
    let first = sym (c.range.ensures.between tt) ∙ c.in-Some.ensures.steps in
    ap is_some
    (none_between string_bytes did other c.args.self.now.accounts.entries (c.in-Some.name.now, c.in-Some.field-0-1.now) c.next.new.self c.range.ensures.ordered first above
    (subst (λ (text : List ℕ). key_cmp other text ≡ Less) c.as_str.ensures.value below))

pub returns-in-None-clause-none : goal.returns-in-None-clause-none
returns-in-None-clause-none c = λ is other above.
    ap is_some
    (none_behind string_bytes (string_bytes c.args.did.now) other c.args.self.now.accounts.entries above
    (sym (c.range.ensures.between tt) ∙ c.in-None.ensures.steps.0))

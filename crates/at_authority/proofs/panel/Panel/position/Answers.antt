use Rattle.std.proofs.Common.{get_or, ap, sym, ◌∙◌, arith, string_bytes}
use Rattle.std.specs.Str.{bytes_eq}
use Rattle.at_authority.proofs.Methods.{first_from, none_from}
use Rattle.at_authority.proofs.panel.Panel.position.Goals as goal

pub returns-then-is_of : goal.returns-then-is_of
returns-then-is_of g c =
    first_from (λ b. bytes_eq (string_bytes b.method) c.args.name.now) c.args.self.now.lists.items c.loop-i.i c.authorities-item.result (omega arith) (λ k h. c.loop-i.invariant k c.authorities-item.result h)
    (ap (λ b. bytes_eq (string_bytes b.method) c.args.name.now) (sym (c.authorities-item.is ∙ ap (λ l. get_or l c.loop-i.i c.authorities-item.result) c.deref-authorities-items.ensures.value)) ∙ sym c.is_of.ensures ∙ c.if-is_of.true)

pub returns : goal.returns
returns g c = none_from (λ b. bytes_eq (string_bytes b.method) c.args.name.now) c.args.self.now.lists.items (λ k d h. c.loop-i.invariant k d (omega (arith, h)))

use Rattle.std.proofs.Common.{List, sym, ap, ◌∙◌, subst}
use Rattle.std.specs.FinMap.{find, get}
use Rattle.std.specs.List.{All}
use Rattle.std.specs.List.Sorted.{IsStrictlySortedBy}
use Rattle.at_cid.specs.Order.{key_cmp}
use Rattle.at_car.specs.declared.entry.ScanEntry.{ScanEntry}
use Rattle.at_car.specs.Entries.{AreInOrder}
use Rattle.at_car.specs.Links.{has}
use Rattle.at_car.specs.Logs.{held, was_let_go, links_let_go}
use Rattle.at_car.specs.Places.{IsLaid, blocks_at}
use Rattle.at_car.proofs.Logs.{same_found, all_held, order_held, order_let_go, held_found, let_go_found}
use Rattle.at_car.proofs.log.ScanLog.split.Goals as goal

pub of-requires-clause-laid : goal.of-requires-clause-laid
of-requires-clause-laid c =
    subst (λ (l : List ScanEntry). All (IsLaid c.self.inside.buffer) l) (sym c.keep_held.ensures) (all_held c.self.inside.buffer c.settle.new.entries.items (c.settle.ensures.told c.self.inside.buffer c.self.invariant))

pub of-requires-clause-order : goal.of-requires-clause-order
of-requires-clause-order c = subst AreInOrder (sym c.keep_held.ensures) (order_held c.settle.new.entries.items c.in_ok-settle.ensures.order)

pub of-requires-2 : goal.of-requires-2
of-requires-2 c = subst (IsStrictlySortedBy key_cmp) (sym (c.in_ok-links.ensures ∙ ap links_let_go c.as_slice.ensures.value)) (order_let_go c.settle.new.entries.items c.in_ok-settle.ensures.order)

pub returns-clause-held : goal.returns-clause-held
returns-clause-held c = λ link.
    ap (λ m. get m link) c.of.ensures ∙ ap (λ (l : List ScanEntry). get (blocks_at c.self.inside.buffer l) link) c.keep_held.ensures
    ∙ held_found c.self.inside.buffer link c.settle.new.entries.items c.in_ok-settle.ensures.order
    ∙ ap held (same_found c.self.inside.buffer link c.self.inside.entries.items c.settle.new.entries.items (c.settle.ensures.places link) ∙ ap (find key_cmp link) c.self.view_is)

pub returns-clause-let_go : goal.returns-clause-let_go
returns-clause-let_go c = λ link.
    ap (λ l. has l link) (c.of-2.ensures ∙ c.in_ok-links.ensures ∙ ap links_let_go c.as_slice.ensures.value)
    ∙ let_go_found c.self.inside.buffer link c.settle.new.entries.items c.in_ok-settle.ensures.order
    ∙ ap was_let_go (same_found c.self.inside.buffer link c.self.inside.entries.items c.settle.new.entries.items (c.settle.ensures.places link) ∙ ap (find key_cmp link) c.self.view_is)

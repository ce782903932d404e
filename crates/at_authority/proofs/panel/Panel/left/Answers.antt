use Rattle.std.proofs.Common.{rules, sym, ap, arith, length}
use Rattle.at_authority.specs.Panels.{living}
use Rattle.at_authority.proofs.MethodLists.{length-living}
use Rattle.at_authority.proofs.Methods.{inside, found_length, at_missed}
use Rattle.at_authority.proofs.panel.Panel.left.Goals as goal

pub index-authorities-requires : goal.index-authorities-requires
index-authorities-requires g c = let low = inside _ c.args.self.now.lists.items c.in-Some.i c.in-Some.ensures in search rules

pub returns-in-Some : goal.returns-in-Some
returns-in-Some g c =
    found_length _ _ c.args.self.now.lists.items c.args.name.now c.in-Some.i c.index-authorities.result.now c.in-Some.ensures c.index-authorities.ensures _
    (omega (arith, c.len.ensures, length-living (λ a. (goal.Authority-dyn g (a.vtable, a.value)).tells a.value) (λ a. (goal.Authority-dyn g (a.vtable, a.value)).faults a.value) c.index-authorities.result.now.entries.items c.index-authorities.result.now.fallen))

pub returns-in-None : goal.returns-in-None
returns-in-None g c = ap (λ b. length (living b)) (sym (at_missed _ _ c.args.self.now.lists.items c.args.name.now c.in-None.ensures))

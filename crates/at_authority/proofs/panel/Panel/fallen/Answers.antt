use Rattle.std.proofs.Common.{rules, sym, ap}
use Rattle.at_authority.proofs.Methods.{inside, at_found, at_missed}
use Rattle.at_authority.proofs.panel.Panel.fallen.Goals as goal

pub index-requires : goal.index-requires
index-requires g c = let low = inside _ c.args.self.now.lists.items c.in-Some.i c.in-Some.ensures in search rules

pub returns-in-Some : goal.returns-in-Some
returns-in-Some g c = ap (λ b. b.fallen) (sym (at_found _ _ c.args.self.now.lists.items c.args.name.now c.in-Some.i c.index.result.now c.in-Some.ensures c.index.ensures))

pub returns-in-None : goal.returns-in-None
returns-in-None g c = ap (λ b. b.fallen) (sym (at_missed _ _ c.args.self.now.lists.items c.args.name.now c.in-None.ensures))

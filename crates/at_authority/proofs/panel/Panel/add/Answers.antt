use Rattle.std.proofs.Common.{rules, ap}
use Rattle.std.specs.Prelude.{string_bytes, map}
use Rattle.at_authority.proofs.MethodLists.{entries_added, same_authorities}
use Rattle.at_authority.proofs.Methods.{inside, added_at, fallen_at, others_at, kept_at, added_new, fallen_new, others_new, on_ok, on_err}
use Rattle.at_authority.proofs.panel.Panel.add.Goals as goal

pub index_mut-requires : goal.index_mut-requires
index_mut-requires g c = let low = inside _ c.args.self.now.lists.items c.in-Some.i c.in-Some.ensures in search rules

pub returns-in-Some-clause-added : goal.returns-in-Some-clause-added
returns-in-Some-clause-added g c =
    on_ok c.push.result (λ e. added_at (λ b. string_bytes b.method) _ c.args.self.now.lists.items c.args.name.now c.in-Some.i c.push.new.self c.index_mut.result.now _ c.in-Some.ensures c.index_mut.ensures.value c.push.ensures.method
    (entries_added (λ a. (goal.Authority-dyn g (a.vtable, a.value)).tells a.value) (λ a. (goal.Authority-dyn g (a.vtable, a.value)).faults a.value) c.index_mut.result.now.entries.items c.push.new.self.entries.items c.args.authority e)) c.push.ensures.ok

pub returns-in-Some-clause-fallen : goal.returns-in-Some-clause-fallen
returns-in-Some-clause-fallen g c = fallen_at (λ b. string_bytes b.method) _ c.args.self.now.lists.items c.args.name.now c.in-Some.i c.push.new.self c.index_mut.result.now c.in-Some.ensures c.index_mut.ensures.value c.push.ensures.method c.push.ensures.fallen

pub returns-in-Some-clause-others : goal.returns-in-Some-clause-others
returns-in-Some-clause-others g c = others_at (λ b. string_bytes b.method) _ c.args.self.now.lists.items c.args.name.now c.in-Some.i c.push.new.self c.index_mut.result.now c.in-Some.ensures c.index_mut.ensures.value c.push.ensures.method

pub returns-in-Some-clause-kept : goal.returns-in-Some-clause-kept
returns-in-Some-clause-kept g c =
    on_err c.push.result (λ e. kept_at (λ b. string_bytes b.method) _ c.args.self.now.lists.items c.in-Some.i c.push.new.self c.index_mut.result.now c.index_mut.ensures.value c.push.ensures.method
    (same_authorities (λ a. (goal.Authority-dyn g (a.vtable, a.value)).tells a.value) (λ a. (goal.Authority-dyn g (a.vtable, a.value)).faults a.value) c.push.new.self.entries.items c.index_mut.result.now.entries.items c.push.new.self.fallen c.index_mut.result.now.fallen e c.push.ensures.fallen)) c.push.ensures.err

pub returns-in_ok-push-in-None-clause-added : goal.returns-in_ok-push-in-None-clause-added
returns-in_ok-push-in-None-clause-added g c =
    added_new (λ b. string_bytes b.method) _ c.args.self.now.lists.items c.push-in-None.new.self.items c.args.name.now c.in_ok-authorities-in-None.authorities _ c.in_ok-push-in-None.ensures.items c.in-None.ensures c.in_ok-authorities-in-None.ensures.method
    (ap (map (λ a. record { value = (goal.Authority-dyn g (a.vtable, a.value)).tells a.value; faults = (goal.Authority-dyn g (a.vtable, a.value)).faults a.value })) c.in_ok-authorities-in-None.ensures.entries)

pub returns-in_ok-push-in-None-clause-fallen : goal.returns-in_ok-push-in-None-clause-fallen
returns-in_ok-push-in-None-clause-fallen g c = fallen_new (λ b. string_bytes b.method) _ c.args.self.now.lists.items c.push-in-None.new.self.items c.args.name.now c.in_ok-authorities-in-None.authorities c.in_ok-push-in-None.ensures.items c.in-None.ensures c.in_ok-authorities-in-None.ensures.method c.in_ok-authorities-in-None.ensures.fallen

pub returns-in_ok-push-in-None-clause-others : goal.returns-in_ok-push-in-None-clause-others
returns-in_ok-push-in-None-clause-others g c = others_new (λ b. string_bytes b.method) _ c.args.self.now.lists.items c.push-in-None.new.self.items c.args.name.now c.in_ok-authorities-in-None.authorities c.in_ok-push-in-None.ensures.items c.in_ok-authorities-in-None.ensures.method

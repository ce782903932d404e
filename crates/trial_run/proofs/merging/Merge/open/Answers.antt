use Rattle.std.proofs.Common.{◌≡◌, refl, sym, ◌∙◌, ap, subst, List}
use Rattle.relay_disk.specs.MemoryView.{memory_view}
use Rattle.gate_log.specs.Pick.{view_of_side}
use Rattle.gate_log.specs.declared.picking.Side.{Side}
use Rattle.relay_io.specs.Repositories.{repository_of}
use Rattle.relay_io.specs.declared.memory_repos.Repository.{Repository}
use Rattle.relay_store.specs.Store.{Keeps, seen_in}
use Rattle.trial_run.specs.declared.merging.Merge.{Merge}
use Rattle.trial_run.proofs.Ends.{begun}
use Rattle.trial_run.proofs.merging.Merge.open.Goals as goal

pub returns-in-One : goal.returns-in-One
returns-in-One c =
    let kept = c.in-Ok.ensures.opened.keeps refl in
    let side : c.in-Ok.store.side ≡ Side.One = sym c.side.ensures ∙ c.in-One.is in
    let merge : Merge = record { store = c.in-Ok.store; clock = c.in_ok-clock.clock; repos = c.in_ok-repos.repos } in
    begun merge (memory_view c.open.new.disk) kept.0 _ _ (c.reserve-2.ensures.content ∙ c.requires.empty) (c.reserve.ensures.content ∙ c.in_ok-other.ensures.content.content) kept.1
    (subst (λ (s : Side). Keeps kept.0 (seen_in c.in-Ok.store) (view_of_side s (memory_view c.open.new.disk) (memory_view c.open.new.other))) side kept.2)
    c.in-Ok.ensures.open.0 (c.in_ok-clock.ensures.moments) (λ did. c.in_ok-repos.ensures.repositories did ∙ ap (λ (all : List Repository). repository_of all did) c.new-2.ensures.items)

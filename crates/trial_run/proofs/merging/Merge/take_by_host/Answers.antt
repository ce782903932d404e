use Rattle.std.proofs.Common.{◌++◌, Some, List, ℕ, ◌∙◌, refl}
use Rattle.trial_run.specs.Merging.{Sent}
use Rattle.trial_run.specs.Taking.{those}
use Rattle.trial_run.proofs.Steps.{four, moved}
use Rattle.trial_run.proofs.merging.Merge.take_by_host.Goals as goal

pub take_those-requires-2-clause-merged : goal.take_those-requires-2-clause-merged
take_those-requires-2-clause-merged c = (_, c.in_ok-take_those.ensures c.requires.merged.0 c.requires.merged.1)

pub take_those-requires-3-clause-merged : goal.take_those-requires-3-clause-merged
take_those-requires-3-clause-merged c = (_, c.in_ok-take_those-2.ensures _ (c.in_ok-take_those.ensures c.requires.merged.0 c.requires.merged.1))

pub take_those-requires-4-clause-merged : goal.take_those-requires-4-clause-merged
take_those-requires-4-clause-merged c = (_, c.in_ok-take_those-3.ensures _ (c.in_ok-take_those-2.ensures _ (c.in_ok-take_those.ensures c.requires.merged.0 c.requires.merged.1)))

pub returns : goal.returns
returns c = λ sent m.
    let ms = c.args.history.now.messages in
    let own : List ℕ → Sent = λ host. those (Some host) ms in
    moved _ _ c.take_those-4.new.self c.take_those-4.new.self c.take_those-4.new.disk c.take_those-4.new.disk
    (four sent (own c.host_of.result.now) (own c.host_of-2.result.now) (own c.host_of-3.result.now) (own c.host_of-4.result.now)
    ∙ (λ i. sent ++ (own (c.host_of.ensures i) ++ (own (c.host_of-2.ensures i) ++ (own (c.host_of-3.ensures i) ++ own (c.host_of-4.ensures i))))))
    refl refl (c.in_ok-take_those-4.ensures _ (c.in_ok-take_those-3.ensures _ (c.in_ok-take_those-2.ensures _ (c.in_ok-take_those.ensures sent m))))

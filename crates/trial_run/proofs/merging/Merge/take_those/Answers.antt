use Rattle.std.proofs.Common.{◌≡◌, ◌++◌, ◌∷◌, [], ◌+◌, ◌-◌, true, take, option_map, refl, sym, ◌∙◌, arith}
use Rattle.trial_run.specs.Taking.{those}
use Rattle.trial_run.proofs.Orders.{those_more, those_same, with_message}
use Rattle.trial_run.proofs.Steps.{moved}
use Rattle.trial_run.proofs.merging.Merge.take_those.Goals as goal
use Rattle.trial_run.proofs.merging.Merge.take_those.Goals.{then-is_chosen+in_ok-take, else-is_chosen}

pub messages-preserved : goal.messages-preserved
messages-preserved c =
    let ms = c.args.history.now.messages in
    let i = c.messages.i in
    let here : i + 1 - 1 ≡ i = omega arith in
    let wanted = option_map (λ text. text.now) c.args.wanted in
    elim c.if-is_chosen.branch [
      | then-is_chosen+in_ok-take w ↦ record {
        merged = λ before m. moved _ _ _ _ _ _ (those_more wanted before ms i (i + 1 - 1) c.host-host.result.now w.message.result.now true here c.host-host.ensures w.message.ensures (sym c.is_chosen.ensures ∙ w.if-is_chosen.true)) (sym w.self-is) (sym w.disk-is)
            (w.in_ok-take.ensures (before ++ those wanted (take i ms)) (c.messages.invariant.merged before m));
        some = (c.messages.invariant.some.0 ++ (c.host-host.result.now, w.message.result.now) ∷ [], moved _ _ _ _ _ _ refl (sym w.self-is) (sym w.disk-is) (w.in_ok-take.ensures c.messages.invariant.some.0 c.messages.invariant.some.1));
      }
      | else-is_chosen w ↦
          let at = with_message ms (i + 1 - 1) c.host-host.result.now c.host-host.ensures in
          record {
            merged = λ before m. moved _ _ _ _ _ _ (those_same wanted before ms i (i + 1 - 1) c.host-host.result.now at.0 here c.host-host.ensures at.1 (sym c.is_chosen.ensures ∙ w.if-is_chosen.false)) (sym w.self-is) (sym w.disk-is) (c.messages.invariant.merged before m);
            some = (c.messages.invariant.some.0, moved _ _ _ _ _ _ refl (sym w.self-is) (sym w.disk-is) c.messages.invariant.some.1);
          }
    ]

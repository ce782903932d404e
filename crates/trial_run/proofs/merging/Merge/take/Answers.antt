use Rattle.relay_disk.specs.MemoryView.{memory_view}
use Rattle.relay_step.specs.Steps.{rows}
use Rattle.relay_store.specs.Store.{seen_in}
use Rattle.trial_run.proofs.Steps.{kept_again, next, strings_more}
use Rattle.trial_run.proofs.merging.Merge.take.Goals as goal

pub returns-in-Ok-Event : goal.returns-in-Ok-Event
returns-in-Ok-Event c = λ before m.
    let keeps = kept_again (rows m.steps) (seen_in c.args.self.now.store) (memory_view c.args.disk.now) (memory_view c.reserve.new.self) c.reserve.ensures.as_before m.keeps in
    let n = next c.args.self.now before (memory_view c.args.disk.now) m memory_view c.reserve.new.self c.take.new.disk _ _ _ _ _ (seen_in c.take.new.store) c.args.host.now c.args.message.now c.in-Ok-Event.field-0 c.in-Ok-Event.field-0-0 c.in-Ok-Event.field-0-1 c.in-Ok-Event.field-0-is
    m.none _ m.moments keeps (c.in-Ok-Event.ensures.batched (rows m.steps) (record { holds = m.keeps.core; journal = m.keeps.are.journal })) in
    record {
      steps = n.steps;
      taken = n.taken;
      strings = strings_more before (c.args.host.now, c.args.message.now) m.strings (c.is_string.ensures c.if-not-is_string.false);
      none_ended = n.none_ended;
      keeps = n.keeps;
      goes = c.in-Ok-Event.ensures.open (λ is. cc);
      moments = n.times;
      none = n.none;
    }

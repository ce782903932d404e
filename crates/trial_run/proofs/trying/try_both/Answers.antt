use Rattle.std.proofs.Common.{◌∙◌, ℕ, ap, subst, sym}
use Rattle.relay_disk.specs.MemoryView.{memory_view}
use Rattle.relay_core.specs.Entries.{Holds}
use Rattle.relay_store.specs.declared.store.Store.{Store}
use Rattle.relay_gen.specs.Histories.{History, history}
use Rattle.relay_step.specs.Steps.{rows}
use Rattle.trial_run.specs.Merging.{by_host}
use Rattle.trial_run.specs.Summary.{summary}
use Rattle.trial_run.specs.Taking.{IsMerged}
use Rattle.trial_run.proofs.Ends.{same_accounts, stored}
use Rattle.trial_run.proofs.trying.try_both.Goals as goal

pub returns : goal.returns
returns c =
    let start = c.args.start in
    let n = c.args.n in
    let made = c.in_ok-history.ensures.made in
    let one = c.in_ok-one.one in
    let other = c.in_ok-other.other in
    let v = memory_view c.in_order.new.disk in
    let w = memory_view c.host_after_host.new.disk in
    let a : IsMerged (history start n).messages one v = subst (λ (h : History). IsMerged h.messages one v) made c.in_ok-one.ensures in
    let b : IsMerged (by_host (history start n).messages) other w = subst (λ (h : History). IsMerged (by_host h.messages) other w) made c.in_ok-other.ensures in
    record {
      ones = a.steps;
      others = b.steps;
      one = a.taken;
      other = b.taken;
      written = c.in_ok-text.ensures (rows a.steps) (rows b.steps) (subst (λ (s : Store). Holds s.core (rows a.steps)) (sym c.store.ensures) a.keeps.core) (subst (λ (s : Store). Holds s.core (rows b.steps)) (sym c.store-2.ensures) b.keeps.core) (same_accounts start n c.requires.most a.strings a.steps b.steps a.taken b.taken)
          ∙ ap (λ (k : ℕ). summary start n k (rows a.steps)) (c.keys.ensures ∙ ap (λ (h : History). h.keys) made);
      first_holds = stored (history start n).messages one v a;
      second_holds = stored (by_host (history start n).messages) other w b;
    }

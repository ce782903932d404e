use Rattle.std.proofs.Common.{◌≡◌, ◌∙◌, ◌+◌, ⊎_elim, Err, false, true, ap, arith, refl, rules, sym, subst}
use Rattle.relay_disk.proofs.Moments.{now_too, still_here, time_joined}
use Rattle.gate_log.specs.Build.{BuildState}
use Rattle.gate_log.specs.Image.{generation}
use Rattle.gate_log.specs.Beside.{LeavesLive}
use Rattle.gate_log.specs.Log.{LogState}
use Rattle.gate_log.proofs.Beside.{leaves_new}
use Rattle.cut_law.specs.Cut.{cut}
use Rattle.relay_store.specs.Journals.{bytes_of}
use Rattle.store_cut.specs.Rewriting.{RewriteHasNoRoom, singles}
use Rattle.relay_store.specs.declared.fault.StoreFault.{StoreFault}
use Rattle.store_cut.proofs.Counting.{counted_as, counted_behind, counted_none, counted_two, fails_as}
use Rattle.store_cut.proofs.CutPairs.{begun_run, bodies_at, built, closed_run, cut_some, few_bad, few_full, few_is, finished_run, kept_cut, live_closed, live_now, on_err_by, pair_moments}
use Rattle.store_cut.proofs.KeptNumbers.{copied_numbers}
use Rattle.store_cut.proofs.cutting.write_anew.Goals as goal

pub returns-in-Ok-clause-live : goal.returns-in-Ok-clause-live
returns-in-Ok-clause-live g c = λ tells side.
    let was = c.requires.on tells in
    let now = c.in-Ok.ensures.on tells in
    let format = ap (λ (l : LogState). l.format) c.in-Ok.ensures.log ∙ c.in_ok-fill.ensures.copied.1.format ∙ ap (λ (b : BuildState). b.format) c.in_ok-rewrite.ensures.build in
    live_now side _ _ (leaves_new side c.args.store.now.log.format c.in-Ok.log.format was.0 now.0 _ _ _ _ _ was.1 c.fill.ensures.goes now.1 (omega (arith, ap generation format)))

pub returns-in_err-rewrite-clause-as_before : goal.returns-in_err-rewrite-clause-as_before
returns-in_err-rewrite-clause-as_before g c = on_err_by c.from_residual.result (λ f is other tells side live.
    let failed : c.begin.result ≡ Err f = search rules in
    ⊎_elim
    (λ disk. absurd (other (is ∙ ap Err disk)))
    (λ memory. subst (λ w. LeavesLive side (g.D.Disk.view c.args.disk.now) (g.D.Disk.view w)) (sym (c.begin.ensures.memory (failed ∙ ap Err memory))) live)
    (c.begin.ensures.few f failed))

pub returns-in_err-fill-clause-as_before : goal.returns-in_err-fill-clause-as_before
returns-in_err-fill-clause-as_before g c = on_err_by c.from_residual-in_err-fill.result (λ f is other tells side live.
    let on = c.requires.on tells in
    live_closed c.args.store.now.log on.0 (g.D.Disk.view c.args.disk.now) _ _ on.1 side c.fill.ensures.goes (now_too _ _ _ (g.met.D.Disk.is_disk _) (c.fill.ensures.run tells)))

pub returns-in_err-rewrite-clause-full : goal.returns-in_err-rewrite-clause-full
returns-in_err-rewrite-clause-full g c = λ e is.
    let failed : c.begin.result ≡ Err (StoreFault.Full e) = search rules in
    absurd (few_full e (c.begin.ensures.few (StoreFault.Full e) failed))

pub returns-in_err-rewrite-clause-no_bad_log : goal.returns-in_err-rewrite-clause-no_bad_log
returns-in_err-rewrite-clause-no_bad_log g c = λ p is.
    let failed : c.begin.result ≡ Err (StoreFault.BadLog p) = search rules in
    absurd (few_bad p (c.begin.ensures.few (StoreFault.BadLog p) failed))

pub returns-in_err-rewrite-clause-few : goal.returns-in_err-rewrite-clause-few
returns-in_err-rewrite-clause-few g c = λ f is.
    let failed : c.begin.result ≡ Err f = search rules in
    few_is f (c.begin.ensures.few f failed)

pub returns-in_err-fill-clause-full : goal.returns-in_err-fill-clause-full
returns-in_err-fill-clause-full g c = λ e is tells J n keeps last.
    let failed : c.fill.result ≡ Err (StoreFault.Full e) = search rules in
    subst (λ (b : BuildState). RewriteHasNoRoom b.end b.most (cut J n) e) c.in_ok-rewrite.ensures.build (c.fill.ensures.full e failed tells J n keeps last)

pub returns-in_err-fill-clause-no_bad_log : goal.returns-in_err-fill-clause-no_bad_log
returns-in_err-fill-clause-no_bad_log g c = λ p is tells J keeps last low.
    let failed : c.fill.result ≡ Err (StoreFault.BadLog p) = search rules in
    c.fill.ensures.no_bad_log p failed tells J c.args.seq keeps last low c.in_ok-rewrite.ensures.core

pub returns-then-not-has_kept-clause-as_before : goal.returns-then-not-has_kept-clause-as_before
returns-then-not-has_kept-clause-as_before g c = λ other tells side live.
    let on = c.requires.on tells in
    live_closed c.args.store.now.log on.0 (g.D.Disk.view c.args.disk.now) _ _ on.1 side c.fill.ensures.goes (now_too _ _ _ (g.met.D.Disk.is_disk _) (c.fill.ensures.run tells))

pub returns-then-not-has_kept-clause-no_bad_log : goal.returns-then-not-has_kept-clause-no_bad_log
returns-then-not-has_kept-clause-no_bad_log g c = λ p is tells J keeps last low.
    let copied = c.in_ok-fill.ensures.copied in
    let lost : c.has_kept.result ≡ false = search rules in
    c.has_kept.ensures.lost lost
    (copied_numbers J _ _ keeps c.args.seq c.args.last last low _ _ _ _ _ _ (c.in_ok-rewrite.ensures.begun tells) c.in_ok-rewrite.ensures.core c.in_ok-rewrite.ensures.window copied.1 (copied.2 tells J c.args.seq keeps last))

pub returns-in_err-rewrite-clause-leaves : goal.returns-in_err-rewrite-clause-leaves
returns-in_err-rewrite-clause-leaves g c =
    let next = generation c.args.store.now.log.format + 1 in
    record {
      moments = λ tells J n keeps last below side live.
          pair_moments J _ _ _ keeps side live (cut J n) next (bodies_at J _ _ keeps n c.args.last last below) (omega arith) (g.met.D.Disk.is_disk _) _ _ (still_here _)
          (begun_run _ next (bytes_of (singles (cut J n))) _ (c.begin.ensures.moments tells));
      time = λ tells. (c.begin.ensures.moments tells).time;
      goes = still_here _;
      holds = λ tells bodies held. held;
    }

pub returns-in_err-fill-clause-leaves : goal.returns-in_err-fill-clause-leaves
returns-in_err-fill-clause-leaves g c =
    let next = generation c.args.store.now.log.format + 1 in
    record {
      moments = λ tells J n keeps last below side live.
          let new = bytes_of (singles (cut J n)) in
          pair_moments J _ _ _ keeps side live (cut J n) next (bodies_at J _ _ keeps n c.args.last last below) (omega arith) (g.met.D.Disk.is_disk _) _ _ c.fill.ensures.goes
          (closed_run _ next new _ _ (begun_run _ next new _ (c.begin.ensures.moments tells)) (c.fill.ensures.run tells));
      time = λ tells. time_joined _ _ _ (c.begin.ensures.moments tells).time (c.fill.ensures.run tells).time;
      goes = c.fill.ensures.goes;
      holds = c.fill.ensures.holds;
    }

pub returns-then-not-has_kept-clause-leaves : goal.returns-then-not-has_kept-clause-leaves
returns-then-not-has_kept-clause-leaves g c =
    let next = generation c.args.store.now.log.format + 1 in
    record {
      moments = λ tells J n keeps last below side live.
          let new = bytes_of (singles (cut J n)) in
          pair_moments J _ _ _ keeps side live (cut J n) next (bodies_at J _ _ keeps n c.args.last last below) (omega arith) (g.met.D.Disk.is_disk _) _ _ c.fill.ensures.goes
          (closed_run _ next new _ _ (begun_run _ next new _ (c.begin.ensures.moments tells)) (c.fill.ensures.run tells));
      time = λ tells. time_joined _ _ _ (c.begin.ensures.moments tells).time (c.fill.ensures.run tells).time;
      goes = c.fill.ensures.goes;
      holds = c.fill.ensures.holds;
    }

pub returns-in-Ok-clause-leaves : goal.returns-in-Ok-clause-leaves
returns-in-Ok-clause-leaves g c =
    let next = generation c.args.store.now.log.format + 1 in
    let copied = c.in_ok-fill.ensures.copied in
    let format = copied.1.format ∙ ap (λ (b : BuildState). b.format) c.in_ok-rewrite.ensures.build in
    record {
      moments = λ tells J n keeps last below side live.
          let new = bytes_of (singles (cut J n)) in
          let there = built _ _ (cut J n) _ _ _ _ tells (c.in_ok-rewrite.ensures.begun tells) copied.1 (copied.2 tells J n keeps last) in
          pair_moments J _ _ _ keeps side live (cut J n) next (bodies_at J _ _ keeps n c.args.last last below) (omega arith) (g.met.D.Disk.is_disk _) _ _ c.fill.ensures.goes
          (finished_run _ next new _ _ _ format
          (closed_run _ next new _ _ (begun_run _ next new _ (c.begin.ensures.moments tells)) (c.fill.ensures.run tells))
          (c.finish.ensures.moments tells new there));
      time = λ tells.
          let on = copied.1.on tells in
          time_joined _ _ _ (time_joined _ _ _ (c.begin.ensures.moments tells).time (c.fill.ensures.run tells).time) (c.finish.ensures.moments tells on.0 on.1).time;
      goes = c.fill.ensures.goes;
      holds = c.fill.ensures.holds;
    }

pub returns-clause-leaves : goal.returns-clause-leaves
returns-clause-leaves g c =
    let next = generation c.args.store.now.log.format + 1 in
    let copied = c.in_ok-fill.ensures.copied in
    let format = copied.1.format ∙ ap (λ (b : BuildState). b.format) c.in_ok-rewrite.ensures.build in
    record {
      moments = λ tells J n keeps last below side live.
          let new = bytes_of (singles (cut J n)) in
          let there = built _ _ (cut J n) _ _ _ _ tells (c.in_ok-rewrite.ensures.begun tells) copied.1 (copied.2 tells J n keeps last) in
          pair_moments J _ _ _ keeps side live (cut J n) next (bodies_at J _ _ keeps n c.args.last last below) (omega arith) (g.met.D.Disk.is_disk _) _ _ c.fill.ensures.goes
          (finished_run _ next new _ _ _ format
          (closed_run _ next new _ _ (begun_run _ next new _ (c.begin.ensures.moments tells)) (c.fill.ensures.run tells))
          (c.finish.ensures.moments tells new there));
      time = λ tells.
          let on = copied.1.on tells in
          time_joined _ _ _ (time_joined _ _ _ (c.begin.ensures.moments tells).time (c.fill.ensures.run tells).time) (c.finish.ensures.moments tells on.0 on.1).time;
      goes = c.fill.ensures.goes;
      holds = c.fill.ensures.holds;
    }

pub returns-in-Ok-clause-anew : goal.returns-in-Ok-clause-anew
returns-in-Ok-clause-anew g c =
    let copied = c.in_ok-fill.ensures.copied in
    let format = ap (λ (l : LogState). l.format) c.in-Ok.ensures.log in
    let end = ap (λ (l : LogState). l.end) c.in-Ok.ensures.log in
    let most = ap (λ (l : LogState). l.most) c.in-Ok.ensures.log in
    let kept : c.has_kept.result ≡ true = search rules in
    record {
      format = format ∙ copied.1.format ∙ ap (λ (b : BuildState). b.format) c.in_ok-rewrite.ensures.build;
      most = most ∙ copied.1.most ∙ ap (λ (b : BuildState). b.most) c.in_ok-rewrite.ensures.build;
      opened = ap (λ (l : LogState). l.is_open) c.in-Ok.ensures.log;
      room = λ tells J n keeps last. ⊎_elim
          (λ none. absurd (cut_some J n (sym (copied.2 tells J n keeps last) ∙ none)))
          (λ fits. omega (arith, fits, copied.1.most, end, most))
          copied.1.fits;
      bodies = λ tells J n keeps last.
          c.in-Ok.ensures.holds tells (bytes_of (singles (cut J n))) (built _ _ (cut J n) _ _ _ _ tells (c.in_ok-rewrite.ensures.begun tells) copied.1 (copied.2 tells J n keeps last));
      known = c.in_ok-fill.ensures.known c.in_ok-rewrite.ensures.core;
      numbers = c.has_kept.ensures.kept kept;
      keeps = λ tells J n keeps last below side.
          kept_cut _ (cut J n) _ _ _ _ _ _ c.in-Ok.log side (bodies_at J _ _ keeps n c.args.last last below) tells (c.in_ok-rewrite.ensures.begun tells)
          c.in_ok-rewrite.ensures.core c.in_ok-rewrite.ensures.window copied.1 (copied.2 tells J n keeps last)
          format (c.in-Ok.ensures.holds tells);
    }

pub returns-in_err-rewrite-clause-counts : goal.returns-in_err-rewrite-clause-counts
returns-in_err-rewrite-clause-counts g c =
    let is : c.from_residual.result ≡ Err c.in_err-rewrite.field-0.0 = search rules in
    counted_two _ _ _ _ _ refl (λ failed. c.in_err-rewrite.ensures.disk (fails_as _ _ _ _ _ (sym is ∙ failed))) (λ not. c.in_err-rewrite.ensures.no_fault (λ e. not (is ∙ fails_as _ _ _ _ _ e))) c.begin.ensures.counts

pub returns-in_err-fill-clause-counts : goal.returns-in_err-fill-clause-counts
returns-in_err-fill-clause-counts g c =
    let is : c.from_residual-in_err-fill.result ≡ Err c.in_err-fill.field-0.0 = search rules in
    counted_behind _ _ _ _ _ _ _ refl c.in_ok-rewrite.ensures.steady
    (counted_as _ _ _ _ _ _ (λ failed. fails_as _ _ _ _ _ (sym is ∙ failed)) (λ e. is ∙ fails_as _ _ _ _ _ e) c.in_err-fill.ensures.counts)

pub returns-then-not-has_kept-clause-counts : goal.returns-then-not-has_kept-clause-counts
returns-then-not-has_kept-clause-counts g c =
    let same = c.in_ok-fill.ensures.counts.steady (λ e. absurd cc) in
    counted_none _ _ _ _ _ (λ e. absurd cc) same.0 (same.1 ∙ c.in_ok-rewrite.ensures.steady)

pub returns-in-Ok-clause-counts : goal.returns-in-Ok-clause-counts
returns-in-Ok-clause-counts g c =
    let same = c.in_ok-fill.ensures.counts.steady (λ e. absurd cc) in
    counted_none _ _ _ _ _ (λ e. absurd cc) same.0 (c.in-Ok.ensures.steady ∙ same.1 ∙ c.in_ok-rewrite.ensures.steady)

pub returns-clause-counts : goal.returns-clause-counts
returns-clause-counts g c =
    let same = c.in_ok-fill.ensures.counts.steady (λ e. absurd cc) in
    counted_behind _ _ _ _ _ _ _ same.0 (same.1 ∙ c.in_ok-rewrite.ensures.steady)
    (counted_two _ _ _ _ _ refl (λ e. c.in-Err.ensures.disk.1) (λ not. absurd (not refl)) c.finish.ensures.counts)

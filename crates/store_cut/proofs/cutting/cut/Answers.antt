use Rattle.std.proofs.Common.{◌≡◌, ◌∙◌, ◌+◌, ◌≤◌, ℕ, Err, None, arith, rules, ap, sym, subst, refl}
use Rattle.std.specs.Prelude.{map}
use Rattle.at_event.specs.declared.refusal.Refusal.{Refusal}
use Rattle.event_window.specs.Held.{first_or}
use Rattle.event_window.specs.declared.place.Place.{Place}
use Rattle.relay_disk.proofs.Moments.{time_here}
use Rattle.relay_row.specs.Folds.{last_seq}
use Rattle.cut_law.specs.Cut.{cut}
use Rattle.store_cut.specs.Cutting.{IsUncut}
use Rattle.relay_store.specs.declared.fault.StoreFault.{StoreFault}
use Rattle.store_cut.proofs.Counting.{fails_as}
use Rattle.store_cut.proofs.CutFronts.{kept_none}
use Rattle.store_cut.proofs.CutPairs.{may_at, still_keeps, still_pair}
use Rattle.relay_store.proofs.Reread.{last_fits, oldest_is, window_rises}
use Rattle.store_cut.proofs.cutting.cut.Goals as goal

pub returns-then-seq-last_seq-clause-may : goal.returns-then-seq-last_seq-clause-may
returns-then-seq-last_seq-clause-may g c = λ no tells J keeps. absurd (no Refusal.PastEnd refl)

pub returns-then-seq-last_seq-clause-moments : goal.returns-then-seq-last_seq-clause-moments
returns-then-seq-last_seq-clause-moments g c = λ tells J keeps.
    still_pair J _ _ _ keeps c.args.store.now.side (c.requires.live tells) (cut J c.args.seq) (g.met.D.Disk.is_disk _) (g.met.D.Disk.is_disk _)

pub returns-in_default-clause-refused : goal.returns-in_default-clause-refused
returns-in_default-clause-refused g c = λ why is tells J keeps.
    let same : Refusal.NothingToCut ≡ why = cc in
    let last = keeps.core.last in
    let held : c.args.seq ≤ last_seq J = omega (arith, c.if-seq-last_seq.false, c.last_seq.ensures, last) in
    let none : c.last_upto.result ≡ None = search rules in
    subst (IsUncut J c.args.store.now.log.format c.args.seq) same
    (held, kept_none J _ _ keeps c.args.seq (c.last_upto.ensures.none none (window_rises J _ _ keeps)))

pub returns-in_default-clause-may : goal.returns-in_default-clause-may
returns-in_default-clause-may g c = λ no tells J keeps. absurd (no Refusal.NothingToCut refl)

pub returns-in_default-clause-moments : goal.returns-in_default-clause-moments
returns-in_default-clause-moments g c = λ tells J keeps.
    still_pair J _ _ _ keeps c.args.store.now.side (c.requires.live tells) (cut J c.args.seq) (g.met.D.Disk.is_disk _) (g.met.D.Disk.is_disk _)

pub returns-then-generation-clause-refused : goal.returns-then-generation-clause-refused
returns-then-generation-clause-refused g c = λ why is tells J keeps.
    let same : Refusal.LastCut ≡ why = cc in
    let last = keeps.core.last in
    let held : c.args.seq ≤ last_seq J = omega (arith, c.if-seq-last_seq.false, c.last_seq.ensures, last) in
    let below = keeps.holds.now.below in
    subst (IsUncut J c.args.store.now.log.format c.args.seq) same (
      may_at J _ _ keeps c.args.seq c.in-Some.last (c.in-Some.ensures.last (window_rises J _ _ keeps)) held,
      omega (arith, c.if-generation.true, c.generation.ensures, below),
    )

pub returns-then-generation-clause-may : goal.returns-then-generation-clause-may
returns-then-generation-clause-may g c = λ no tells J keeps. absurd (no Refusal.LastCut refl)

pub returns-then-generation-clause-moments : goal.returns-then-generation-clause-moments
returns-then-generation-clause-moments g c = λ tells J keeps.
    still_pair J _ _ _ keeps c.args.store.now.side (c.requires.live tells) (cut J c.args.seq) (g.met.D.Disk.is_disk _) (g.met.D.Disk.is_disk _)

pub returns-in-Ok-clause-may : goal.returns-in-Ok-clause-may
returns-in-Ok-clause-may g c = λ no tells J keeps.
    let last = keeps.core.last in
    let held : c.args.seq ≤ last_seq J = omega (arith, c.if-seq-last_seq.false, c.last_seq.ensures, last) in
    (may_at J _ _ keeps c.args.seq c.in-Some.last (c.in-Some.ensures.last (window_rises J _ _ keeps)) held, omega (arith, c.if-generation.false, c.generation.ensures))

pub returns-in-Ok-clause-moments : goal.returns-in-Ok-clause-moments
returns-in-Ok-clause-moments g c = λ tells J keeps.
    let last = keeps.core.last in
    let held : c.args.seq ≤ last_seq J = omega (arith, c.if-seq-last_seq.false, c.last_seq.ensures, last) in
    c.write_anew.ensures.leaves.moments tells J c.args.seq keeps (c.in-Some.ensures.last (window_rises J _ _ keeps)) held c.args.store.now.side (c.requires.live tells)

pub returns-in-Err-Disk-clause-may : goal.returns-in-Err-Disk-clause-may
returns-in-Err-Disk-clause-may g c = λ no tells J keeps.
    let last = keeps.core.last in
    let held : c.args.seq ≤ last_seq J = omega (arith, c.if-seq-last_seq.false, c.last_seq.ensures, last) in
    (may_at J _ _ keeps c.args.seq c.in-Some.last (c.in-Some.ensures.last (window_rises J _ _ keeps)) held, omega (arith, c.if-generation.false, c.generation.ensures))

pub returns-in-Err-Disk-clause-moments : goal.returns-in-Err-Disk-clause-moments
returns-in-Err-Disk-clause-moments g c = λ tells J keeps.
    let last = keeps.core.last in
    let held : c.args.seq ≤ last_seq J = omega (arith, c.if-seq-last_seq.false, c.last_seq.ensures, last) in
    c.write_anew.ensures.leaves.moments tells J c.args.seq keeps (c.in-Some.ensures.last (window_rises J _ _ keeps)) held c.args.store.now.side (c.requires.live tells)

pub returns-in-Err-clause-may : goal.returns-in-Err-clause-may
returns-in-Err-clause-may g c = λ no tells J keeps.
    let last = keeps.core.last in
    let held : c.args.seq ≤ last_seq J = omega (arith, c.if-seq-last_seq.false, c.last_seq.ensures, last) in
    (may_at J _ _ keeps c.args.seq c.in-Some.last (c.in-Some.ensures.last (window_rises J _ _ keeps)) held, omega (arith, c.if-generation.false, c.generation.ensures))

pub returns-in-Err-clause-moments : goal.returns-in-Err-clause-moments
returns-in-Err-clause-moments g c = λ tells J keeps.
    let last = keeps.core.last in
    let held : c.args.seq ≤ last_seq J = omega (arith, c.if-seq-last_seq.false, c.last_seq.ensures, last) in
    c.write_anew.ensures.leaves.moments tells J c.args.seq keeps (c.in-Some.ensures.last (window_rises J _ _ keeps)) held c.args.store.now.side (c.requires.live tells)

pub returns-in-Ok-clause-keeps : goal.returns-in-Ok-clause-keeps
returns-in-Ok-clause-keeps g c = λ first behind is tells J keeps.
    let last = keeps.core.last in
    let held : c.args.seq ≤ last_seq J = omega (arith, c.if-seq-last_seq.false, c.last_seq.ensures, last) in
    c.in-Ok.ensures.anew.keeps tells J c.args.seq keeps (c.in-Some.ensures.last (window_rises J _ _ keeps)) held c.other_side-store.result

pub returns-in-Ok-clause-told : goal.returns-in-Ok-clause-told
returns-in-Ok-clause-told g c = λ first behind is tells J keeps.
    let last = keeps.core.last in
    let held : c.args.seq ≤ last_seq J = omega (arith, c.if-seq-last_seq.false, c.last_seq.ensures, last) in
    let kept = c.in-Ok.ensures.anew.keeps tells J c.args.seq keeps (c.in-Some.ensures.last (window_rises J _ _ keeps)) held c.other_side-store.result in
    let fits = last_fits (cut J c.args.seq) kept.are.journal in
    let core = kept.core.last in
    let one : c.oldest.result ≡ first = cc in
    let two : c.last_seq-in-Ok.result ≡ behind = cc in (
      sym one
          ∙ c.oldest.ensures (omega (arith, fits, core))
          ∙ ap (λ (n : ℕ). first_or (map (λ (p : Place). p.seq) c.in-Ok.anew.window.places) (n + 1)) core
          ∙ oldest_is (cut J c.args.seq) _ _ kept,
      sym two ∙ c.last_seq-in-Ok.ensures ∙ core,
    )

pub returns-in-Ok-clause-room : goal.returns-in-Ok-clause-room
returns-in-Ok-clause-room g c = λ first behind is tells.
    let on = c.requires.on tells in
    c.in-Ok.ensures.anew.room tells on.0 c.args.seq on.1 (c.in-Some.ensures.last (window_rises on.0 _ _ on.1))

pub returns-in-Err-clause-full : goal.returns-in-Err-clause-full
returns-in-Err-clause-full g c = λ e is tells J keeps.
    let failed : c.write_anew.result ≡ Err (StoreFault.Full e) = search rules in
    c.write_anew.ensures.full e failed tells J c.args.seq keeps (c.in-Some.ensures.last (window_rises J _ _ keeps))

pub returns-in-Err-clause-no_bad_log : goal.returns-in-Err-clause-no_bad_log
returns-in-Err-clause-no_bad_log g c = λ p is tells.
    let on = c.requires.on tells in
    let failed : c.write_anew.result ≡ Err (StoreFault.BadLog p) = search rules in
    let last = on.1.core.last in
    let held : c.args.seq ≤ last_seq on.0 = omega (arith, c.if-seq-last_seq.false, c.last_seq.ensures, last) in
    c.write_anew.ensures.no_bad_log p failed tells on.0 on.1 (c.in-Some.ensures.last (window_rises on.0 _ _ on.1)) held

pub returns-in-Ok-clause-bodies : goal.returns-in-Ok-clause-bodies
returns-in-Ok-clause-bodies g c = λ first behind is tells J keeps.
    c.in-Ok.ensures.anew.bodies tells J c.args.seq keeps (c.in-Some.ensures.last (window_rises J _ _ keeps))

pub returns-then-seq-last_seq-clause-time : goal.returns-then-seq-last_seq-clause-time
returns-then-seq-last_seq-clause-time g c = λ tells. time_here _ (g.met.D.Disk.is_disk _)

pub returns-in_default-clause-time : goal.returns-in_default-clause-time
returns-in_default-clause-time g c = λ tells. time_here _ (g.met.D.Disk.is_disk _)

pub returns-then-generation-clause-time : goal.returns-then-generation-clause-time
returns-then-generation-clause-time g c = λ tells. time_here _ (g.met.D.Disk.is_disk _)

pub returns-in-Ok-clause-known : goal.returns-in-Ok-clause-known
returns-in-Ok-clause-known g c = λ first behind is. c.in-Ok.ensures.anew.known

pub returns-in-Ok-clause-numbers : goal.returns-in-Ok-clause-numbers
returns-in-Ok-clause-numbers g c = λ first behind is. c.in-Ok.ensures.anew.numbers

pub returns-in-Ok-clause-anew : goal.returns-in-Ok-clause-anew
returns-in-Ok-clause-anew g c = λ first behind is. (c.other_side-store.ensures, c.in-Ok.ensures.anew.format, c.in-Ok.ensures.anew.most)

pub returns-in-Ok-clause-open : goal.returns-in-Ok-clause-open
returns-in-Ok-clause-open g c = λ not. c.in-Ok.ensures.anew.opened

pub returns-in-Ok-clause-time : goal.returns-in-Ok-clause-time
returns-in-Ok-clause-time g c = c.write_anew.ensures.leaves.time

pub returns-in-Ok-clause-goes : goal.returns-in-Ok-clause-goes
returns-in-Ok-clause-goes g c = c.write_anew.ensures.leaves.goes

pub returns-in-Ok-clause-kept : goal.returns-in-Ok-clause-kept
returns-in-Ok-clause-kept g c = λ tells J keeps. still_keeps J _ _ _ keeps (c.write_anew.ensures.leaves.holds tells)

pub returns-in-Ok-clause-counts : goal.returns-in-Ok-clause-counts
returns-in-Ok-clause-counts g c = c.write_anew.ensures.counts.two_kept

pub returns-in-Err-Disk-clause-time : goal.returns-in-Err-Disk-clause-time
returns-in-Err-Disk-clause-time g c = c.write_anew.ensures.leaves.time

pub returns-in-Err-Disk-clause-goes : goal.returns-in-Err-Disk-clause-goes
returns-in-Err-Disk-clause-goes g c = c.write_anew.ensures.leaves.goes

pub returns-in-Err-Disk-clause-kept : goal.returns-in-Err-Disk-clause-kept
returns-in-Err-Disk-clause-kept g c = λ tells J keeps. still_keeps J _ _ _ keeps (c.write_anew.ensures.leaves.holds tells)

pub returns-in-Err-Disk-clause-counts : goal.returns-in-Err-Disk-clause-counts
returns-in-Err-Disk-clause-counts g c = c.write_anew.ensures.counts.two_kept

pub returns-in-Err-clause-time : goal.returns-in-Err-clause-time
returns-in-Err-clause-time g c = c.write_anew.ensures.leaves.time

pub returns-in-Err-clause-goes : goal.returns-in-Err-clause-goes
returns-in-Err-clause-goes g c = c.write_anew.ensures.leaves.goes

pub returns-in-Err-clause-kept : goal.returns-in-Err-clause-kept
returns-in-Err-clause-kept g c = λ tells J keeps. still_keeps J _ _ _ keeps (c.write_anew.ensures.leaves.holds tells)

pub returns-in-Err-clause-counts : goal.returns-in-Err-clause-counts
returns-in-Err-clause-counts g c = c.write_anew.ensures.counts.two_kept

pub returns-in-Ok-clause-steady : goal.returns-in-Ok-clause-steady
returns-in-Ok-clause-steady g c = λ not. c.in-Ok.ensures.counts.steady (λ e. absurd cc)

pub returns-in-Err-Disk-clause-disk : goal.returns-in-Err-Disk-clause-disk
returns-in-Err-Disk-clause-disk g c = λ is.
    let failed : c.write_anew.result ≡ Err StoreFault.Disk = search rules in
    c.write_anew.ensures.counts.rose failed

pub returns-in-Err-clause-disk : goal.returns-in-Err-clause-disk
returns-in-Err-clause-disk g c = λ is. c.in-Err.ensures.counts.rose (fails_as _ _ _ _ _ is)

pub returns-in-Err-clause-steady : goal.returns-in-Err-clause-steady
returns-in-Err-clause-steady g c = λ not. c.in-Err.ensures.counts.steady (λ e. not (fails_as _ _ _ _ _ e))

use Rattle.std.proofs.Common.{◌≡◌, ◌∙◌, ◌∷◌, ◌++◌, [], List, Err, ap, refl, rules, subst, sym}
use Rattle.relay_disk.proofs.Moments.{joined, no_call, still_again}
use Rattle.gate_log.specs.Build.{IsClosed}
use Rattle.gate_log.specs.Log.{HoldsBodies as HasBodies}
use Rattle.relay_row.specs.Journal.{IsJournal}
use Rattle.relay_row.specs.declared.row.Row.{Row}
use Rattle.relay_core.specs.Entries.{Holds}
use Rattle.cut_law.specs.Cut.{carried_front, cut, rows_behind_front}
use Rattle.cut_law.proofs.Cutting.{cut_is as is_cut}
use Rattle.cut_law.proofs.Following.{cut_journal}
use Rattle.cut_law.proofs.Ordered.{carried_journal}
use Rattle.relay_store.specs.Journals.{AllBodies, bytes_of}
use Rattle.relay_store.specs.Journals.{joined as rows_of}
use Rattle.store_cut.specs.Rewriting.{RewriteHasNoRoom}
use Rattle.relay_store.specs.declared.fault.StoreFault.{StoreFault}
use Rattle.store_cut.proofs.Carried.{cut_is}
use Rattle.store_cut.proofs.Counting.{counted_behind, counted_one, counted_two, fails_as}
use Rattle.store_cut.proofs.CutFronts.{kept_at}
use Rattle.store_cut.proofs.Rewritten.{adding_is, copied_both, no_room_behind, no_room_front, on_ok_as, reading_is}
use Rattle.store_cut.proofs.cutting.fill.Goals as goal

pub returns-in_err-front-clause-full : goal.returns-in_err-front-clause-full
returns-in_err-front-clause-full g c = λ e is.
    let failed : c.fold_upto.result ≡ Err (StoreFault.Full e) = search rules in
    absurd (c.fold_upto.ensures.few (StoreFault.Full e) failed)

pub returns-in_err-front-clause-no_bad_log : goal.returns-in_err-front-clause-no_bad_log
returns-in_err-front-clause-no_bad_log g c = λ p is tells J n keeps last low empty.
    let at = kept_at J _ _ keeps n c.args.last last in
    let failed : c.fold_upto.result ≡ Err (StoreFault.BadLog p) = search rules in
    c.fold_upto.ensures.no_bad_log p failed tells at.before at.there at.after (subst AllBodies at.split keeps.are.each)
    (subst (λ (bs : List (List Row)). HasBodies (bytes_of bs) c.args.store.now.log (g.D.Disk.view c.args.disk.now)) at.split keeps.holds) at.here
    (subst IsJournal (sym keeps.are.rows ∙ ap rows_of at.split) keeps.are.journal)

pub returns-in_err-front-clause-run : goal.returns-in_err-front-clause-run
returns-in_err-front-clause-run g c = λ tells. no_call IsClosed _ (g.met.D.Disk.is_disk _) (c.requires.build tells).1.built.left

pub returns-in_err-front-clause-few : goal.returns-in_err-front-clause-few
returns-in_err-front-clause-few g c = λ f is.
    let failed : c.fold_upto.result ≡ Err f = search rules in
    reading_is f (c.fold_upto.ensures.few f failed)

pub returns-in_err-carry-clause-full : goal.returns-in_err-carry-clause-full
returns-in_err-carry-clause-full g c = λ e is tells J n keeps last.
    let at = kept_at J _ _ keeps n c.args.last last in
    let each = subst AllBodies at.split keeps.are.each in
    let held = subst (λ (bs : List (List Row)). HasBodies (bytes_of bs) c.args.store.now.log (g.D.Disk.view c.args.disk.now)) at.split keeps.holds in
    let state = subst (Holds c.in_ok-front.front) (sym at.front_is) (c.in_ok-front.ensures.core tells at.before at.there at.after each held at.here) in
    let failed : c.carry.result ≡ Err (StoreFault.Full e) = search rules in
    subst (λ (l : List Row). RewriteHasNoRoom c.args.rewrite.now.build.end c.args.rewrite.now.build.most l e) (sym (cut_is J n))
    (no_room_front _ _ _ (rows_behind_front n J) e (c.carry.ensures.full e failed (carried_front n J) state))

pub returns-in_err-carry-clause-no_bad_log : goal.returns-in_err-carry-clause-no_bad_log
returns-in_err-carry-clause-no_bad_log g c = λ p is.
    let failed : c.carry.result ≡ Err (StoreFault.BadLog p) = search rules in
    absurd (c.carry.ensures.few (StoreFault.BadLog p) failed)

pub returns-in_err-carry-clause-few : goal.returns-in_err-carry-clause-few
returns-in_err-carry-clause-few g c = λ f is.
    let failed : c.carry.result ≡ Err f = search rules in
    adding_is f (c.carry.ensures.few f failed)

pub returns-clause-copied : goal.returns-clause-copied
returns-clause-copied g c = on_ok_as c.copy_behind.result (λ copied. (
  c.in_ok-carry.ensures.copied.0 ++ copied.0,
  copied_both _ _ _ _ _ _ _ _ _ c.in_ok-carry.ensures.copied.1 copied.1,
  λ tells J n keeps last.
      let at = kept_at J _ _ keeps n c.args.last last in
      let each = subst AllBodies at.split keeps.are.each in
      let held = subst (λ (bs : List (List Row)). HasBodies (bytes_of bs) c.args.store.now.log (g.D.Disk.view c.args.disk.now)) at.split keeps.holds in
      let state = subst (Holds c.in_ok-front.front) (sym at.front_is) (c.in_ok-front.ensures.core tells at.before at.there at.after each held at.here) in
      let now = c.fold_upto.ensures.holds tells (bytes_of (at.before ++ at.there ∷ at.after)) held in
      let behind = copied.2 tells at.before at.there at.after each now at.here ∙ sym at.rest_is in
      let first = c.in_ok-carry.ensures.copied.2 (carried_front n J) state in
      (λ i. first i ++ behind i) ∙ sym (cut_is J n),
)) c.copy_behind.ensures.copied

pub returns-clause-full : goal.returns-clause-full
returns-clause-full g c = λ e is tells J n keeps last.
    let at = kept_at J _ _ keeps n c.args.last last in
    let each = subst AllBodies at.split keeps.are.each in
    let held = subst (λ (bs : List (List Row)). HasBodies (bytes_of bs) c.args.store.now.log (g.D.Disk.view c.args.disk.now)) at.split keeps.holds in
    let state = subst (Holds c.in_ok-front.front) (sym at.front_is) (c.in_ok-front.ensures.core tells at.before at.there at.after each held at.here) in
    let now = c.fold_upto.ensures.holds tells (bytes_of (at.before ++ at.there ∷ at.after)) held in
    let first = c.in_ok-carry.ensures.copied.2 (carried_front n J) state in
    let behind = sym at.rest_is in
    let full = c.copy_behind.ensures.full e is tells at.before at.there at.after each now at.here in
    subst (λ (l : List Row). RewriteHasNoRoom c.args.rewrite.now.build.end c.args.rewrite.now.build.most l e)
    ((λ i. first i ++ behind i) ∙ sym (cut_is J n))
    (no_room_behind _ c.in_ok-carry.ensures.copied.0 _ _ _ _ _ e c.in_ok-carry.ensures.copied.1 full)

pub returns-clause-no_bad_log : goal.returns-clause-no_bad_log
returns-clause-no_bad_log g c = λ p is tells J n keeps last low empty.
    let at = kept_at J _ _ keeps n c.args.last last in
    let each = subst AllBodies at.split keeps.are.each in
    let held = subst (λ (bs : List (List Row)). HasBodies (bytes_of bs) c.args.store.now.log (g.D.Disk.view c.args.disk.now)) at.split keeps.holds in
    let state = subst (Holds c.in_ok-front.front) (sym at.front_is) (c.in_ok-front.ensures.core tells at.before at.there at.after each held at.here) in
    let first = c.in_ok-carry.ensures.copied.2 (carried_front n J) state in
    let behind = sym at.rest_is in
    let journal = cut_journal J n (cut J n) (is_cut J n keeps.are.journal (record { held = low; some = at.some })) keeps.are.journal in
    c.copy_behind.ensures.no_bad_log p is tells at.before at.there at.after each (c.fold_upto.ensures.holds tells (bytes_of (at.before ++ at.there ∷ at.after)) held) at.here
    c.in_ok-carry.ensures.copied.0 (c.in_ok-carry.ensures.copied.1.core [] empty)
    (subst IsJournal (cut_is J n ∙ sym (λ i. first i ++ behind i)) journal)

pub returns-clause-run : goal.returns-clause-run
returns-clause-run g c = λ tells. joined _ _ _ _ (c.carry.ensures.run tells) (c.copy_behind.ensures.run tells)

pub returns-clause-goes : goal.returns-clause-goes
returns-clause-goes g c = still_again _ _ _ (g.met.D.Disk.is_disk _) c.fold_upto.ensures.goes c.copy_behind.ensures.goes

pub returns-clause-known : goal.returns-clause-known
returns-clause-known g c = on_ok_as c.copy_behind.result (λ known empty.
    let front = c.in_ok-front.ensures.known in
    let carry = c.in_ok-carry.ensures.copied in (
      front.0,
      front.1.journal,
      λ some. known (
        carry.0,
        record {
          holds = carry.1.core [] empty;
          journal = subst IsJournal (sym (carry.2 front.0 front.1.holds)) (carried_journal front.0 front.1.journal some);
        },
      ),
    )) c.copy_behind.ensures.known

pub returns-in_err-front-clause-counts : goal.returns-in_err-front-clause-counts
returns-in_err-front-clause-counts g c =
    let is : c.from_residual.result ≡ Err c.in_err-front.field-0.0 = search rules in
    counted_one _ _ _ _ _ refl (λ failed. c.in_err-front.ensures.disk (fails_as _ _ _ _ _ (sym is ∙ failed))) (λ not. c.in_err-front.ensures.no_fault (λ e. not (is ∙ fails_as _ _ _ _ _ e))) c.fold_upto.ensures.goes.counts

pub returns-in_err-carry-clause-counts : goal.returns-in_err-carry-clause-counts
returns-in_err-carry-clause-counts g c =
    let is : c.from_residual-in_err-carry.result ≡ Err c.in_err-carry.field-0.0 = search rules in
    counted_behind _ _ _ _ _ _ _ c.in_ok-front.ensures.steady refl
    (counted_two _ _ _ _ _ refl (λ failed. c.in_err-carry.ensures.disk (sym is ∙ failed)) (λ not. c.in_err-carry.ensures.no_fault (λ e. not (is ∙ e))) c.carry.ensures.counts)

pub returns-clause-counts : goal.returns-clause-counts
returns-clause-counts g c = counted_behind _ _ _ _ _ _ _ c.in_ok-front.ensures.steady c.in_ok-carry.ensures.copied.1.steady c.copy_behind.ensures.counts

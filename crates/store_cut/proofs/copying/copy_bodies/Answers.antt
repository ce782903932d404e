use Rattle.std.proofs.Common.{◌≡◌, ◌∙◌, ◌++◌, [], List, Err, ap, append_assoc, refl, arith, rules, subst, sym}
use Rattle.relay_disk.proofs.Moments.{joined, still_again, still_here}
use Rattle.gate_log.specs.Log.{HoldsBodies as HasBodies}
use Rattle.relay_row.specs.Journal.{IsJournal}
use Rattle.relay_row.specs.declared.row.Row.{Row}
use Rattle.relay_store.specs.Journals.{AllBodies, bytes_of}
use Rattle.relay_store.specs.Journals.{joined as rows_of}
use Rattle.store_cut.specs.Rewriting.{RewriteHasNoRoom}
use Rattle.relay_store.specs.declared.fault.StoreFault.{StoreFault}
use Rattle.store_cut.proofs.Counting.{counted_behind, counted_none, counted_one, counted_two, fails_as}
use Rattle.store_cut.proofs.Recopied.{IsRecopied, recopied_all, recopied_more, recopied_none, recopied_rows, recopied_split, recopied_there, some_more}
use Rattle.store_cut.proofs.Rewritten.{copied_both, copied_none, no_room_behind, no_room_front, reading_is}
use Rattle.relay_store.proofs.InBodies.{each_at}
use Rattle.store_cut.proofs.copying.copy_bodies.Goals as goal

pub bodies-init : goal.bodies-init
bodies-init g c = record {
  goes = still_here _;
  steady = refl;
  holds = λ tells bodies held. held;
  on = c.requires.log;
  rows = [];
  copied = copied_none _ _ _ (g.met.D.Disk.is_disk _) c.requires.build;
  known = λ some. some;
  so_far = λ tells before after each held is. recopied_none _ before after _ is;
}

pub put_rows-requires : goal.put_rows-requires
put_rows-requires g c = record { on = c.bodies.invariant.copied.on; short = c.in_ok-rows.ensures.each }

pub bodies-preserved : goal.bodies-preserved
bodies-preserved g c =
    let inv = c.bodies.invariant in
    record {
      goes = still_again _ _ _ (g.met.D.Disk.is_disk _) inv.goes c.body_at.ensures.goes;
      steady = c.in_ok-rows.ensures.steady ∙ inv.steady;
      holds = λ tells bodies held. c.body_at.ensures.holds tells bodies (inv.holds tells bodies held);
      on = c.body_at.ensures.on;
      rows = inv.rows ++ c.in_ok-rows.rows.items;
      copied = copied_both _ _ _ _ _ _ _ _ _ inv.copied c.in_ok-put_rows.ensures.copied;
      known = λ some. some_more _ _ _ c.in_ok-rows.ensures.formed c.in_ok-put_rows.ensures.copied.core c.in_ok-put_rows.ensures.ordered (inv.known some);
      so_far = λ tells before after each held is.
          let f = inv.so_far tells before after each held is in
          let some = recopied_there _ before after _ _ _ f held.ends (omega (arith, c.bodies-test.true, c.end.ensures.end)) in
          let split = recopied_split _ before after _ _ _ f held.ends some.0 some.1 some.2 in
          let now = subst (λ (bs : List (List Row)). HasBodies (bytes_of bs) c.args.log.now (g.D.Disk.view c.bodies.disk)) split (inv.holds tells (bytes_of (before ++ after)) held) in
          let body = each_at (before ++ f.done) some.0 some.1 (subst AllBodies split each) in
          let read = c.in_ok-rows.ensures.rows tells (before ++ f.done) some.0 some.1 body now f.here in
          subst (λ (l : List Row). IsRecopied c.args.log.now.format before after c.in_ok-rows.next (inv.rows ++ l)) (sym read.0)
          (recopied_more _ before after _ _ _ f held.ends some.0 some.1 some.2 _ read.1);
    }

pub returns-in_err-rows-clause-no_bad_log : goal.returns-in_err-rows-clause-no_bad_log
returns-in_err-rows-clause-no_bad_log g c = λ p failed_is tells before after each held is J first journal.
    let inv = c.bodies.invariant in
    let f = inv.so_far tells before after each held is in
    let some = recopied_there _ before after _ _ _ f held.ends (omega (arith, c.bodies-test.true, c.end.ensures.end)) in
    let split = recopied_split _ before after _ _ _ f held.ends some.0 some.1 some.2 in
    let now = subst (λ (bs : List (List Row)). HasBodies (bytes_of bs) c.args.log.now (g.D.Disk.view c.bodies.disk)) split (inv.holds tells (bytes_of (before ++ after)) held) in
    let body = each_at (before ++ f.done) some.0 some.1 (subst AllBodies split each) in
    let failed : c.body_at.result ≡ Err (StoreFault.BadLog p) = search rules in
    c.body_at.ensures.no_bad_log p failed tells (before ++ f.done) some.0 some.1 body now f.here

pub returns-in_err-rows-clause-run : goal.returns-in_err-rows-clause-run
returns-in_err-rows-clause-run g c = c.bodies.invariant.copied.run

pub returns-in_err-rows-clause-goes : goal.returns-in_err-rows-clause-goes
returns-in_err-rows-clause-goes g c = still_again _ _ _ (g.met.D.Disk.is_disk _) c.bodies.invariant.goes c.body_at.ensures.goes

pub returns-in_err-put_rows-clause-goes : goal.returns-in_err-put_rows-clause-goes
returns-in_err-put_rows-clause-goes g c = still_again _ _ _ (g.met.D.Disk.is_disk _) c.bodies.invariant.goes c.body_at.ensures.goes

pub returns-in_err-put_rows-clause-run : goal.returns-in_err-put_rows-clause-run
returns-in_err-put_rows-clause-run g c = λ tells. joined _ _ _ _ (c.bodies.invariant.copied.run tells) (c.put_rows.ensures.run tells)

pub returns-in_err-put_rows-clause-full : goal.returns-in_err-put_rows-clause-full
returns-in_err-put_rows-clause-full g c = λ e failed_is tells before after each held is.
    let inv = c.bodies.invariant in
    let f = inv.so_far tells before after each held is in
    let some = recopied_there _ before after _ _ _ f held.ends (omega (arith, c.bodies-test.true, c.end.ensures.end)) in
    let split = recopied_split _ before after _ _ _ f held.ends some.0 some.1 some.2 in
    let now = subst (λ (bs : List (List Row)). HasBodies (bytes_of bs) c.args.log.now (g.D.Disk.view c.bodies.disk)) split (inv.holds tells (bytes_of (before ++ after)) held) in
    let body = each_at (before ++ f.done) some.0 some.1 (subst AllBodies split each) in
    let read = c.in_ok-rows.ensures.rows tells (before ++ f.done) some.0 some.1 body now f.here in
    let failed : c.put_rows.result ≡ Err (StoreFault.Full e) = search rules in
    let full = subst (λ (l : List Row). RewriteHasNoRoom c.bodies.rewrite.build.end c.bodies.rewrite.build.most l e) read.0 (c.put_rows.ensures.full e failed) in
    subst (λ (l : List Row). RewriteHasNoRoom c.args.rewrite.now.build.end c.args.rewrite.now.build.most l e) (sym (recopied_rows _ before after _ _ _ f held.ends some.0 some.1 some.2))
    (no_room_behind _ inv.rows _ _ _ _ _ e inv.copied (no_room_front _ _ some.0 (rows_of some.1) e full))

pub returns-clause-copied : goal.returns-clause-copied
returns-clause-copied g c = (
  c.bodies.invariant.rows,
  c.bodies.invariant.copied,
  λ tells before after each held is. recopied_all _ before after _ _ _ (c.bodies.invariant.so_far tells before after each held is) held.ends (λ below. absurd (omega (arith, below, c.bodies-test.false, c.end.ensures.end))),
)

pub returns-clause-run : goal.returns-clause-run
returns-clause-run g c = c.bodies.invariant.copied.run

pub returns-in_err-rows-clause-full : goal.returns-in_err-rows-clause-full
returns-in_err-rows-clause-full g c = λ e is.
    let failed : c.body_at.result ≡ Err (StoreFault.Full e) = search rules in
    absurd (c.body_at.ensures.few (StoreFault.Full e) failed)

pub returns-in_err-rows-clause-few : goal.returns-in_err-rows-clause-few
returns-in_err-rows-clause-few g c = λ f is.
    let failed : c.body_at.result ≡ Err f = search rules in
    reading_is f (c.body_at.ensures.few f failed)

pub returns-in_err-put_rows-clause-no_bad_log : goal.returns-in_err-put_rows-clause-no_bad_log
returns-in_err-put_rows-clause-no_bad_log g c = λ p failed_is tells before after each held is J first journal.
    let inv = c.bodies.invariant in
    let f = inv.so_far tells before after each held is in
    let some = recopied_there _ before after _ _ _ f held.ends (omega (arith, c.bodies-test.true, c.end.ensures.end)) in
    let split = recopied_split _ before after _ _ _ f held.ends some.0 some.1 some.2 in
    let now = subst (λ (bs : List (List Row)). HasBodies (bytes_of bs) c.args.log.now (g.D.Disk.view c.bodies.disk)) split (inv.holds tells (bytes_of (before ++ after)) held) in
    let body = each_at (before ++ f.done) some.0 some.1 (subst AllBodies split each) in
    let read = c.in_ok-rows.ensures.rows tells (before ++ f.done) some.0 some.1 body now f.here in
    let failed : c.put_rows.result ≡ Err (StoreFault.BadLog p) = search rules in
    let behind = rows_of some.1 in
    let whole : J ++ rows_of after ≡ (J ++ inv.rows) ++ (some.0 ++ behind) =
    ap (λ (l : List Row). J ++ l) (recopied_rows _ before after _ _ _ f held.ends some.0 some.1 some.2) ∙ sym (append_assoc J inv.rows (some.0 ++ behind)) in
    c.put_rows.ensures.bad_log p failed (J ++ inv.rows) behind (inv.copied.core J first)
    (subst (λ (l : List Row). IsJournal ((J ++ inv.rows) ++ (l ++ behind))) (sym read.0) (subst IsJournal whole journal))

pub returns-in_err-put_rows-clause-few : goal.returns-in_err-put_rows-clause-few
returns-in_err-put_rows-clause-few g c = λ f is.
    let failed : c.put_rows.result ≡ Err f = search rules in
    c.put_rows.ensures.few f failed

pub returns-clause-known : goal.returns-clause-known
returns-clause-known g c = c.bodies.invariant.known

pub returns-in_err-rows-clause-counts : goal.returns-in_err-rows-clause-counts
returns-in_err-rows-clause-counts g c =
    let is : c.from_residual.result ≡ Err c.in_err-rows.field-0.0 = search rules in
    counted_behind _ _ _ _ _ _ _ c.bodies.invariant.steady c.bodies.invariant.copied.steady
    (counted_one _ _ _ _ _ refl (λ failed. c.in_err-rows.ensures.disk (fails_as _ _ _ _ _ (sym is ∙ failed))) (λ not. c.in_err-rows.ensures.no_fault (λ e. not (is ∙ fails_as _ _ _ _ _ e))) c.body_at.ensures.goes.counts)

pub returns-in_err-put_rows-clause-counts : goal.returns-in_err-put_rows-clause-counts
returns-in_err-put_rows-clause-counts g c =
    let is : c.from_residual-in_err-put_rows.result ≡ Err c.in_err-put_rows.field-0.0 = search rules in
    counted_behind _ _ _ _ _ _ _ (c.in_ok-rows.ensures.steady ∙ c.bodies.invariant.steady) c.bodies.invariant.copied.steady
    (counted_two _ _ _ _ _ refl (λ failed. c.in_err-put_rows.ensures.disk (sym is ∙ failed)) (λ not. c.in_err-put_rows.ensures.no_fault (λ e. not (is ∙ e))) c.put_rows.ensures.counts)

pub returns-clause-counts : goal.returns-clause-counts
returns-clause-counts g c = counted_none _ _ _ _ _ (λ e. absurd cc) c.bodies.invariant.steady c.bodies.invariant.copied.steady

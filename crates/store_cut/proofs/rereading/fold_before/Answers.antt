use Rattle.std.proofs.Common.{◌≡◌, ◌∙◌, ◌++◌, [], List, Err, refl, arith, rules, subst, sym}
use Rattle.relay_disk.proofs.Moments.{still_again, still_here}
use Rattle.gate_log.specs.Log.{HoldsBodies as HasBodies}
use Rattle.relay_row.specs.declared.row.Row.{Row}
use Rattle.relay_row.specs.Journal.{IsJournal}
use Rattle.relay_row.proofs.Journals.{no_rows}
use Rattle.relay_core.specs.Entries.{Holds}
use Rattle.relay_store.specs.Journals.{AllBodies, bytes_of, joined}
use Rattle.relay_store.specs.declared.fault.StoreFault.{StoreFault}
use Rattle.store_cut.proofs.Recopied.{folded_all, folded_journal, folded_more, folded_none, folded_split, folded_there, some_more}
use Rattle.relay_store.proofs.InBodies.{each_at}
use Rattle.store_cut.proofs.rereading.fold_before.Goals as goal

pub bodies-init : goal.bodies-init
bodies-init g c = record {
  goes = still_here _;
  steady = refl;
  holds = λ tells bodies held. held;
  on = c.requires.on;
  known = ([], record { holds = c.requires.core; journal = no_rows });
  so_far = λ tells before after each held is. folded_none _ before _ _ c.first-place.ensures c.requires.core;
}

pub bodies-preserved : goal.bodies-preserved
bodies-preserved g c =
    let inv = c.bodies.invariant in
    record {
      goes = still_again _ _ _ (g.met.D.Disk.is_disk _) inv.goes c.body_at.ensures.goes;
      steady = c.in_ok-rows.ensures.steady ∙ inv.steady;
      holds = λ tells bodies held. c.body_at.ensures.holds tells bodies (inv.holds tells bodies held);
      on = c.body_at.ensures.on;
      known = some_more _ _ _ c.in_ok-rows.ensures.formed c.in_ok-fold_rows.ensures.moved c.in_ok-fold_rows.ensures.ordered inv.known;
      so_far = λ tells before after each held is.
          let f = inv.so_far tells before after each held is in
          let some = folded_there _ before _ _ _ f is (omega (arith, c.bodies-test.true)) in
          let split = folded_split _ before _ _ _ f is some.0 some.1 some.2 after in
          let now = subst (λ (bs : List (List Row)). HasBodies (bytes_of bs) c.args.log.now (g.D.Disk.view c.bodies.disk)) split (inv.holds tells (bytes_of (before ++ after)) held) in
          let body = each_at f.done some.0 (some.1 ++ after) (subst AllBodies split each) in
          let read = c.in_ok-rows.ensures.rows tells f.done some.0 (some.1 ++ after) body now f.here in
          folded_more _ before _ _ _ f is some.0 some.1 some.2 _ _ read.1 (λ J holds. subst (λ (l : List Row). Holds c.fold_rows.new.core (J ++ l)) read.0 (c.in_ok-fold_rows.ensures.moved J holds));
    }

pub returns-in_err-rows-clause-no_bad_log : goal.returns-in_err-rows-clause-no_bad_log
returns-in_err-rows-clause-no_bad_log g c = λ p is tells before after each held upto journal.
    let inv = c.bodies.invariant in
    let f = inv.so_far tells before after each held upto in
    let some = folded_there _ before _ _ _ f upto (omega (arith, c.bodies-test.true)) in
    let split = folded_split _ before _ _ _ f upto some.0 some.1 some.2 after in
    let now = subst (λ (bs : List (List Row)). HasBodies (bytes_of bs) c.args.log.now (g.D.Disk.view c.bodies.disk)) split (inv.holds tells (bytes_of (before ++ after)) held) in
    let body = each_at f.done some.0 (some.1 ++ after) (subst AllBodies split each) in
    let failed : c.body_at.result ≡ Err (StoreFault.BadLog p) = search rules in
    c.body_at.ensures.no_bad_log p failed tells f.done some.0 (some.1 ++ after) body now f.here

pub returns-clause-core : goal.returns-clause-core
returns-clause-core g c = λ tells before after each held is. folded_all _ before _ _ _ (c.bodies.invariant.so_far tells before after each held is) is (λ below. absurd (omega (arith, below, c.bodies-test.false)))

pub returns-in_err-fold_rows-clause-no_bad_log : goal.returns-in_err-fold_rows-clause-no_bad_log
returns-in_err-fold_rows-clause-no_bad_log g c = λ p is tells before after each held upto journal.
    let inv = c.bodies.invariant in
    let f = inv.so_far tells before after each held upto in
    let some = folded_there _ before _ _ _ f upto (omega (arith, c.bodies-test.true)) in
    let split = folded_split _ before _ _ _ f upto some.0 some.1 some.2 after in
    let now = subst (λ (bs : List (List Row)). HasBodies (bytes_of bs) c.args.log.now (g.D.Disk.view c.bodies.disk)) split (inv.holds tells (bytes_of (before ++ after)) held) in
    let body = each_at f.done some.0 (some.1 ++ after) (subst AllBodies split each) in
    let read = c.in_ok-rows.ensures.rows tells f.done some.0 (some.1 ++ after) body now f.here in
    let failed : c.fold_rows.result ≡ Err (StoreFault.BadLog p) = search rules in
    let behind = joined (some.1 ++ after) in
    c.fold_rows.ensures.bad_log p failed (joined f.done) behind f.core_is
    (subst (λ (l : List Row). IsJournal (joined f.done ++ (l ++ behind))) (sym read.0) (folded_journal f.done some.0 (some.1 ++ after) (subst (λ (bs : List (List Row)). IsJournal (joined bs)) split journal)))

pub returns-clause-known : goal.returns-clause-known
returns-clause-known g c = c.bodies.invariant.known

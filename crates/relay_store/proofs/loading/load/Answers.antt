use Rattle.std.proofs.Common.{rules, ◌≡◌, ◌∙◌, Err, [], arith, refl, subst}
use Rattle.relay_disk.proofs.Moments.{still_here, still_again}
use Rattle.gate_log.specs.Log.{HoldsBodies as HasBodies}
use Rattle.relay_store.specs.Journals.{bytes_of, joined}
use Rattle.relay_store.specs.declared.fault.StoreFault.TheVariants.{BadLog}
use Rattle.relay_store.proofs.Loaded.{at_first, more_left, all_loaded, no_split, split_here, one_further, bad_here}
use Rattle.relay_store.proofs.loading.load.Goals as goal

pub bodies-init : goal.bodies-init
bodies-init g c = record {
  goes = still_here _;
  holds = λ tells bodies held. held;
  so_far = λ tells bodies held. at_first _ bodies _ _ _ c.first-place.ensures c.requires.core c.requires.window;
  steady = refl;
}

pub bodies-preserved : goal.bodies-preserved
bodies-preserved g c = record {
  goes = still_again _ _ _ (g.met.D.Disk.is_disk _) c.bodies.invariant.goes c.load_body.ensures.goes;
  holds = λ tells bodies held. c.load_body.ensures.holds tells bodies (c.bodies.invariant.holds tells bodies held);
  so_far = λ tells bodies held.
      let f = c.bodies.invariant.so_far tells bodies held in
      let some = more_left _ bodies _ _ _ f _ held.ends (omega (arith, c.end.ensures.end)) in
      let now = subst (λ bs. HasBodies bs c.args.log.now (g.D.Disk.view c.bodies.disk)) (split_here _ bodies _ _ _ f some.0 some.1 some.2) (c.bodies.invariant.holds tells bodies held) in
      one_further _ bodies _ _ _ f some.0 some.1 some.2 _ _ _ (c.in_ok-place.ensures.applied tells (bytes_of f.before) some.0 some.1 (joined f.before) now f.here f.core f.journal);
  steady = c.in_ok-place.ensures.steady (λ err. absurd cc) ∙ c.bodies.invariant.steady;
}

pub returns-in_err-place-clause-bad_log : goal.returns-in_err-place-clause-bad_log
returns-in_err-place-clause-bad_log g c = λ p is tells bodies held.
    let f = c.bodies.invariant.so_far tells bodies held in
    let some = more_left _ bodies _ _ _ f _ held.ends (omega (arith, c.end.ensures.end)) in
    let now = subst (λ bs. HasBodies bs c.args.log.now (g.D.Disk.view c.bodies.disk)) (split_here _ bodies _ _ _ f some.0 some.1 some.2) (c.bodies.invariant.holds tells bodies held) in
    let failed : c.load_body.result ≡ Err (BadLog p) = search rules in
    bad_here _ bodies _ _ _ f some.0 some.1 some.2 p (c.load_body.ensures.bad_log p failed tells (bytes_of f.before) some.0 some.1 (joined f.before) now f.here f.core)

pub returns-clause-loaded : goal.returns-clause-loaded
returns-clause-loaded g c = λ tells bodies held. all_loaded _ bodies _ _ _ (c.bodies.invariant.so_far tells bodies held) _ held.ends (omega (arith, c.end.ensures.end))

pub returns-in_err-place-clause-some : goal.returns-in_err-place-clause-some
returns-in_err-place-clause-some g c = λ fault is tells held.
    let f = c.bodies.invariant.so_far tells [] held in
    let some = more_left _ [] _ _ _ f _ held.ends (omega (arith, c.end.ensures.end)) in
    no_split (bytes_of f.before) some.1 some.0 (split_here _ [] _ _ _ f some.0 some.1 some.2)

pub returns-in_err-place-clause-steady : goal.returns-in_err-place-clause-steady
returns-in_err-place-clause-steady g c = λ other. c.load_body.ensures.steady (λ is. other (search rules)) ∙ c.bodies.invariant.steady

pub returns-clause-steady : goal.returns-clause-steady
returns-clause-steady g c = λ other. c.bodies.invariant.steady

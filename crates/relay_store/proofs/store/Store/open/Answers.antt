use Rattle.std.proofs.Common.{rules, ◌≡◌, ◌∙◌, Err, IsTrue, inl, inr, sym, ap}
use Rattle.gate_log.specs.Pick.{other_side}
use Rattle.gate_log.specs.declared.fault.LogFault.{LogFault}
use Rattle.relay_store.specs.Faults.{of_log}
use Rattle.relay_store.specs.Opening.{BothOnlyRead}
use Rattle.relay_store.specs.declared.fault.StoreFault.{StoreFault}
use Rattle.relay_store.proofs.Opened.{bad_journal, both_again, both_sides, journals_leave, log_bad, log_read, not_unmade, opened_journal, pair_images, side_again, side_stays, then_read}
use Rattle.relay_store.proofs.store.Store.open.Goals as goal

pub returns-in-Err-clause-opened : goal.returns-in-Err-clause-opened
returns-in-Err-clause-opened g c = record {
  keeps = tt;
  picked = tt;
  side = tt;
  beside = tt;
  only_read = tt;
  moments = λ tells journals. journals_leave _ _ _ _ journals (c.open_pair.ensures.moments tells (pair_images (g.D.Disk.view c.args.disk.now) (g.D.Disk.view c.args.other.now) journals));
  read = λ fault is no_disk tells.
      let same : c.from.result ≡ fault = cc in
      log_read (IsTrue g.D.Disk.tells) c.in-Err.fault
      (BothOnlyRead (g.D.Disk.view c.args.disk.now) (g.D.Disk.view c.args.other.now) (g.D.Disk.view c.open_pair.new.one) (g.D.Disk.view c.open_pair.new.two))
      (λ e full. c.open_pair.ensures.no_full e (c.in-Err.is ∙ ap Err full))
      (λ p bad told. let both = c.open_pair.ensures.reads p (c.in-Err.is ∙ ap Err bad) told in record { first = both.0; second = both.1 })
      (λ memory. let both = c.open_pair.ensures.memory (c.in-Err.is ∙ ap Err memory) in record { first = both.0; second = both.1 })
      (λ disk. no_disk (sym same ∙ c.from.ensures ∙ disk)) tells;
}

pub returns-in-Err-clause-bad_log : goal.returns-in-Err-clause-bad_log
returns-in-Err-clause-bad_log g c = λ p is tells.
    let same : c.from.result ≡ StoreFault.BadLog p = cc in
    inl (c.open_pair.ensures.bad_log p (c.in-Err.is ∙ ap Err (log_bad c.in-Err.fault p (sym c.from.ensures ∙ same))) tells)

pub returns-in_err-load_side-clause-opened : goal.returns-in_err-load_side-clause-opened
returns-in_err-load_side-clause-opened g c = record {
  keeps = search rules;
  picked = search rules;
  side = search rules;
  beside = search rules;
  only_read = search rules;
  moments = λ tells journals.
      then_read _ _ _ _ _ _ (g.met.D.Disk.is_disk _) (g.met.D.Disk.is_disk _) (journals_leave _ _ _ _ journals (c.open_pair.ensures.moments tells (pair_images (g.D.Disk.view c.args.disk.now) (g.D.Disk.view c.args.other.now) journals))) c.load_side.ensures.one c.load_side.ensures.two;
  read = λ fault is no_disk tells.
      let failed : c.load_side.result ≡ Err fault = search rules in
      let held = c.in-Ok.ensures.holds tells in
      let side = c.in-Ok.found.0 in
      let made = not_unmade side c.in-Ok.found.1 (g.D.Disk.view c.args.disk.now) (g.D.Disk.view c.args.other.now) _ held.0 (c.in-Ok.ensures.picked tells) held.1 held.2 (c.load_side.ensures.some fault failed tells) in
      both_again _ _ _ _ _ _ (g.met.D.Disk.is_disk _) (g.met.D.Disk.is_disk _)
      (both_sides side _ _ _ _ (c.in-Ok.ensures.only_read tells made) c.in-Ok.ensures.beside) c.load_side.ensures.one c.load_side.ensures.two;
}

pub returns-in_err-load_side-clause-bad_log : goal.returns-in_err-load_side-clause-bad_log
returns-in_err-load_side-clause-bad_log g c = λ p is tells.
    let failed : c.load_side.result ≡ Err (StoreFault.BadLog p) = search rules in
    let held = c.in-Ok.ensures.holds tells in
    let picked = c.in-Ok.ensures.picked tells in
    inr (
      c.in-Ok.found.0,
      picked,
      bad_journal p c.in-Ok.found.0 c.in-Ok.found.1 (g.D.Disk.view c.args.disk.now) (g.D.Disk.view c.open_pair.new.one) (g.D.Disk.view c.args.other.now) (g.D.Disk.view c.open_pair.new.two)
          held.0 picked held.1 held.2 (c.in-Ok.ensures.only_read tells) (c.load_side.ensures.bad_log p failed tells held.0 held.2),
    )

pub returns-clause-opened : goal.returns-clause-opened
returns-clause-opened g c = record {
  keeps = λ tells.
      let held = c.in-Ok.ensures.holds tells in
      opened_journal c.in-Ok.found.0 c.in-Ok.found.1 c.load_side.new.core c.load_side.new.window.places (g.D.Disk.view c.args.disk.now) (g.D.Disk.view c.args.other.now) (g.D.Disk.view c.load_side.new.one) (g.D.Disk.view c.load_side.new.two)
      held.0 held.1 (c.load_side.ensures.holds tells held.0 held.2) (c.in_ok-load_side.ensures.loaded tells held.0 held.2);
  picked = c.in-Ok.ensures.picked;
  side = λ tells. side_stays c.in-Ok.found.0 _ _ _ _ (c.in-Ok.ensures.side tells) c.load_side.ensures.one c.load_side.ensures.two;
  beside = side_again (other_side c.in-Ok.found.0) _ _ _ _ _ _ (g.met.D.Disk.is_disk _) (g.met.D.Disk.is_disk _) c.in-Ok.ensures.beside c.load_side.ensures.one c.load_side.ensures.two;
  only_read = λ tells made. side_again c.in-Ok.found.0 _ _ _ _ _ _ (g.met.D.Disk.is_disk _) (g.met.D.Disk.is_disk _) (c.in-Ok.ensures.only_read tells made) c.load_side.ensures.one c.load_side.ensures.two;
  moments = λ tells journals.
      then_read _ _ _ _ _ _ (g.met.D.Disk.is_disk _) (g.met.D.Disk.is_disk _) (journals_leave _ _ _ _ journals (c.open_pair.ensures.moments tells (pair_images (g.D.Disk.view c.args.disk.now) (g.D.Disk.view c.args.other.now) journals))) c.load_side.ensures.one c.load_side.ensures.two;
  read = λ fault is no_disk tells. let no : ⊥ = cc in absurd no;
}

pub returns-in-Err-clause-steady : goal.returns-in-Err-clause-steady
returns-in-Err-clause-steady g c = λ other. c.in-Err.ensures.no_fault (λ is.
    let same : c.in-Err.fault ≡ LogFault.Disk = cc in
    other (ap Err (c.from.ensures ∙ ap of_log same)))

pub returns-in_err-load_side-clause-steady : goal.returns-in_err-load_side-clause-steady
returns-in_err-load_side-clause-steady g c = λ other.
    let opened = c.in-Ok.ensures.steady in
    let loaded = c.load_side.ensures.steady (λ is. other (search rules)) in
    (loaded.0 ∙ opened.0, loaded.1 ∙ opened.1)

pub returns-clause-steady : goal.returns-clause-steady
returns-clause-steady g c = λ other.
    let opened = c.in-Ok.ensures.steady in
    let loaded = c.in_ok-load_side.ensures.steady (λ err. absurd cc) in
    (loaded.0 ∙ opened.0, loaded.1 ∙ opened.1)

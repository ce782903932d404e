use Rattle.std.proofs.Common.{◌≡◌, ◌∙◌, ◌∷◌, ◌+◌, ◌++◌, [], ℕ, List, Err, length, arith, ap, sym, subst}
use Rattle.gate_log.specs.Build.{HasBuilt}
use Rattle.gate_log.specs.declared.fault.LogFault.{LogFault}
use Rattle.gate_log.specs.declared.limits.TheConstants.{AROUND_BODY, BEFORE_BODY}
use Rattle.row_codec.specs.Bodies.{rows_body}
use Rattle.relay_store.specs.Faults.{of_log}
use Rattle.relay_store.specs.Places.{place_of}
use Rattle.relay_store.specs.declared.fault.StoreFault.{StoreFault}
use Rattle.store_cut.proofs.Rewritten.{copied_one, log_full, no_room_one, not_both}
use Rattle.store_cut.proofs.rewriting.put_row.Goals as goal

pub returns-in-Err-clause-full : goal.returns-in-Err-clause-full
returns-in-Err-clause-full g c = λ e is.
    let same : c.from.result ≡ StoreFault.Full e = cc in
    let full = (c.add.ensures.full e).0 (c.in-Err.is ∙ ap Err (log_full c.in-Err.fault e (sym c.from.ensures ∙ same))) in
    let body : c.as_slice.result.now ≡ rows_body (c.args.row ∷ []) = c.as_slice.ensures.value ∙ c.in_ok-encode_body.ensures.body in
    no_room_one _ _ c.args.row e (omega (arith, full.0, ap length body)) full.1

pub returns-in-Err-clause-no_fault : goal.returns-in-Err-clause-no_fault
returns-in-Err-clause-no_fault g c = λ other.
    let untouched = c.in-Err.ensures.untouched (λ is.
    let same : c.in-Err.fault ≡ LogFault.Disk = cc in
    other (ap Err (c.from.ensures ∙ ap of_log same))) in
    ap (λ d. (g.D.Disk.view d).faults) untouched.1

pub returns-clause-copied : goal.returns-clause-copied
returns-clause-copied g c =
    let old = c.args.rewrite.now in
    let body : c.as_slice.result.now ≡ rows_body (c.args.row ∷ []) = c.as_slice.ensures.value ∙ c.in_ok-encode_body.ensures.body in
    let end = old.build.end + AROUND_BODY + length c.as_slice.result.now in
    copied_one g.D.Disk.tells c.args.row old _ _ _
    (c.in-Ok.ensures.build ∙ ap (λ (l : List ℕ). record old.build { end = old.build.end + BEFORE_BODY + length l; waiting = c.add.new.self.waiting }) body)
    (λ past. not_both c.add.result c.in-Ok.place _ c.in-Ok.is ((c.add.ensures.full end).1 (omega arith, omega (arith, past, ap length body))))
    c.in-Ok.ensures.on
    (λ told bodies has. subst (λ (l : List ℕ). HasBuilt (bodies ++ l ∷ []) c.add.new.self (g.D.Disk.view c.add.new.disk)) body (c.in-Ok.ensures.added told bodies has))
    c.in_ok-learned.ensures.core
    (c.in_ok-learned.ensures.window ∙ ap (λ (place : ℕ). old.window.places ++ place_of place 0 c.args.row) c.in-Ok.ensures.place)
    c.add.ensures.moments
    c.in-Ok.ensures.steady

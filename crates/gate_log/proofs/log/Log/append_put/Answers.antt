use Rattle.std.proofs.Common.{rules, ◌≡◌, Err, ℕ, [], ◌∷◌, ◌++◌, ◌+◌, ◌-◌, length, drop, sym, subst, arith, length-append, length-drop}
use Rattle.gate_log.specs.declared.pending_bodies.TheConstants.{AHEAD}
use Rattle.gate_log.specs.declared.fault.LogFault.TheVariants.{Full}
use Rattle.gate_log.specs.declared.limits.TheConstants.{BEFORE_BODY}
use Rattle.gate_log.specs.Log.{LogState, HoldsBodies}
use Rattle.gate_log.specs.Crash.{Stands}
use Rattle.gate_log.specs.PendingBodies.{body_in}
use Rattle.gate_log.proofs.log.Log.append_put.Goals as goal

pub returns-in_err-fits-clause-full : goal.returns-in_err-fits-clause-full
returns-in_err-fits-clause-full g c = λ e.
    let same : length c.args.head.now + c.len.result - AHEAD ≡ length (body_in c.args.head.now c.args.room.now) =
    omega (arith, c.len.ensures, length-append c.args.head.now (drop AHEAD c.args.room.now), length-drop AHEAD c.args.room.now, c.requires.begun) in (
      λ is.
          let failed : c.fits.result ≡ Err (Full e) = search rules in
          let both = (c.fits.ensures.full e).0 failed in
          (omega (arith, both.0, same), both.1),
      λ both.
          let failed : c.fits.result ≡ Err (Full e) = (c.fits.ensures.full e).1 (omega (arith, both.0, same), both.1) in
          search rules,
    )

pub returns-in-Ok-clause-added : goal.returns-in-Ok-clause-added
returns-in-Ok-clause-added g c = λ tells bodies stands.
    let body = body_in c.args.head.now c.args.room.now in
    let here = subst (λ (s : LogState). HoldsBodies bodies s (g.D.Disk.view c.args.disk.now)) (sym c.self.view_is) stands in
    let end : c.self.inside.end + BEFORE_BODY + length body ≡ c.self.inside.end + (length c.args.head.now + c.len.result - AHEAD + BEFORE_BODY) =
    omega (arith, c.len.ensures, length-append c.args.head.now (drop AHEAD c.args.room.now), length-drop AHEAD c.args.room.now, c.requires.begun) in
    subst (λ (n : ℕ). Stands c.self.inside.format (bodies ++ body ∷ []) n (g.D.Disk.view c.add_from_room.new.disk)) end
    (c.in-Ok.ensures.added tells bodies body c.lay_ahead-start.ensures.laid c.requires.short here)

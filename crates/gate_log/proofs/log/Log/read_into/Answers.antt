use Rattle.std.proofs.Common.{◌≡◌, ◌+◌, ℕ, List, length, take, drop, sym, ◌∙◌, ap, arith}
use Rattle.std.proofs.lemmas.Option.{same_Some}
use Rattle.gate_log.specs.declared.limits.TheConstants.{BEFORE_BODY}
use Rattle.gate_log.specs.Log.{LogState}
use Rattle.gate_log.proofs.BodyAt.{body_at, body_read}
use Rattle.gate_log.proofs.log.Log.read_into.Goals as goal

pub returns-then-self-place-clause-bad_log : goal.returns-then-self-place-clause-bad_log
returns-then-self-place-clause-bad_log g c = λ p is tells before body after stands here.
    let at = body_at _ before body after _ _ stands c.args.place here in
    absurd (omega (arith, at.fits, ap (λ (s : LogState). s.end) c.self.view_is))

pub returns-in_default-clause-bad_log : goal.returns-in_default-clause-bad_log
returns-in_default-clause-bad_log g c = λ p is tells before body after stands here.
    let at = body_at _ before body after _ _ stands c.args.place here in
    absurd (c.in_default.not-Some _ (c.in_ok-len.ensures.found tells body at.rest at.short at.split))

pub returns-then-next-self-clause-bad_log : goal.returns-then-next-self-clause-bad_log
returns-then-next-self-clause-bad_log g c = λ p is tells before body after stands here.
    let at = body_at _ before body after _ _ stands c.args.place here in
    let size : c.in-Some.len ≡ length body = same_Some _ _ (sym c.in-Some.is ∙ c.in_ok-len.ensures.found tells body at.rest at.short at.split) in
    absurd (omega (arith, at.fits, size, ap (λ (s : LogState). s.end) c.self.view_is))

pub returns-clause-body : goal.returns-clause-body
returns-clause-body g c = λ tells before body after stands here.
    let at = body_at _ before body after _ _ stands c.args.place here in
    let size : c.in-Some.len ≡ length body = same_Some _ _ (sym c.in-Some.is ∙ c.in_ok-len.ensures.found tells body at.rest at.short at.split) in
    let read = c.in_ok-read_body.ensures.bytes tells ∙ ap (λ (l : List ℕ). take c.in-Some.len (drop (c.args.place + BEFORE_BODY) l)) c.read_length.ensures.goes.content in (
      body_read c.args.place _ body _ at _ (read ∙ ap (λ (n : ℕ). take n (drop (c.args.place + BEFORE_BODY) (g.D.Disk.view c.args.disk.now).content)) size),
      omega (arith, size),
    )

use Rattle.std.proofs.Common.{List, ℕ, [], ◌∷◌, ◌+◌, length, ◌∙◌, ap, subst}
use Rattle.std.proofs.lemmas.Result.{on_ok_weaker}
use Rattle.relay_disk.specs.Disk.{IsSettled, written}
use Rattle.gate_log.proofs.Apart.{one_more, torn_wider, torn_both, wider_moments, apart_moments, written_both}
use Rattle.gate_log.proofs.steps.write_with_gate.Goals as goal

pub returns-in_err-write_at-clause-part : goal.returns-in_err-write_at-clause-part
returns-in_err-write_at-clause-part g c = torn_wider c.args.place (length c.args.piece.now) _ (one_more c.args.piece.now) _ _ c.write_at.ensures.goes.content

pub returns-in_err-write_at-clause-moments : goal.returns-in_err-write_at-clause-moments
returns-in_err-write_at-clause-moments g c = wider_moments c.args.place (length c.args.piece.now) _ (one_more c.args.piece.now) _ _ (g.met.D.Disk.is_disk _) (g.met.D.Disk.is_disk _) c.write_at.ensures.goes

pub returns-clause-part : goal.returns-clause-part
returns-clause-part g c = torn_both c.args.place (length c.args.piece.now) _ (one_more c.args.piece.now) _ _ _ c.write_at.ensures.goes.content c.write_through.ensures.part

pub returns-clause-ok : goal.returns-clause-ok
returns-clause-ok g c = on_ok_weaker c.write_through.result (λ second tells.
    let first = c.in_ok-write_at.ensures.ok tells in
    subst (IsSettled (g.D.Disk.view c.write_through.new.disk))
    (ap (λ (l : List ℕ). written (c.args.place + length c.args.piece.now) (0 ∷ []) l) first ∙ written_both c.args.place c.args.piece.now _ (c.requires.inside tells))
    (second tells)) c.write_through.ensures.ok

pub returns-clause-moments : goal.returns-clause-moments
returns-clause-moments g c = apart_moments c.args.place (length c.args.piece.now) _ (one_more c.args.piece.now) _ _ _ (g.met.D.Disk.is_disk _) (g.met.D.Disk.is_disk _) c.write_at.ensures.goes c.write_through.ensures.moments

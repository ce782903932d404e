use Rattle.std.proofs.Common.{List, ℕ, [], ◌∷◌, ◌++◌, ap}
use Rattle.std.proofs.lemmas.Result.{on_ok_weaker}
use Rattle.relay_disk.proofs.Moments.{joined}
use Rattle.gate_log.proofs.Append.{first_moments, second_moments, added, settled_on}
use Rattle.gate_log.proofs.steps.add_record_apart.Goals as goal

pub returns-in_err-write_with_gate-clause-moments : goal.returns-in_err-write_with_gate-clause-moments
returns-in_err-write_with_gate-clause-moments g c = λ tells bodies body is short stands.
    first_moments _ bodies body (c.args.piece.now ++ 0 ∷ []) (ap (λ (l : List ℕ). l ++ 0 ∷ []) is) short _ _ stands _ c.write_with_gate.ensures.moments

pub returns-clause-added : goal.returns-clause-added
returns-clause-added g c = on_ok_weaker c.write_through.result (λ second tells bodies body is short stands.
    let settled = c.in_ok-write_with_gate.ensures.ok tells in
    added _ bodies body (c.args.piece.now ++ 0 ∷ []) (ap (λ (l : List ℕ). l ++ 0 ∷ []) is) short _ _ stands _ (settled_on c.args.gate (1 ∷ []) _ _ _ settled (second tells))) c.write_through.ensures.ok

pub returns-clause-moments : goal.returns-clause-moments
returns-clause-moments g c = λ tells bodies body is short stands.
    let piece = c.args.piece.now ++ 0 ∷ [] in
    let whole = ap (λ (l : List ℕ). l ++ 0 ∷ []) is in
    let first = first_moments _ bodies body piece whole short _ _ stands _ c.write_with_gate.ensures.moments in
    let settled = c.in_ok-write_with_gate.ensures.ok tells in
    joined _ _ _ _ first (second_moments _ bodies body piece whole short _ _ stands _ _ settled c.write_through.ensures.moments)

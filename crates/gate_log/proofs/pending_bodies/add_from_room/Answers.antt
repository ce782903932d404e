use Rattle.std.proofs.Common.{◌≡◌, List, ℕ, [], ◌∷◌, ◌++◌, ◌+◌, ◌-◌, length, take, drop, ◌∙◌, ap, subst, arith, length-drop}
use Rattle.std.proofs.lemmas.List.{drop-append-le, take_all}
use Rattle.std.proofs.lemmas.Result.{on_ok_weaker}
use Rattle.gate_log.specs.declared.limits.TheConstants.{BEFORE_BODY}
use Rattle.at_cid.specs.Lengths.{length_prefixed}
use Rattle.gate_log.specs.Crash.{Stands}
use Rattle.gate_log.proofs.Append.{size_of_record}
use Rattle.gate_log.proofs.pending_bodies.add_from_room.Goals as goal

-- what a slice from a place on gives
from : (start : ℕ) (bytes : List ℕ) → take (length bytes - start) (drop start bytes) ≡ drop start bytes
from start bytes = take_all (length bytes - start) (drop start bytes) (omega (arith, length-drop start bytes))

pub returns-in-Ok-clause-added : goal.returns-in-Ok-clause-added
returns-in-Ok-clause-added g c = on_ok_weaker c.add_record.result (λ add tells bodies body is short stands.
    let bytes = c.as_slice.result.now in
    let record_is : take (length bytes - c.args.start) (drop c.args.start bytes) ≡ length_prefixed body ++ 0 ∷ [] =
    from c.args.start bytes ∙ ap (λ (l : List ℕ). drop c.args.start l) (c.as_slice.ensures.value ∙ c.in-Ok.ensures.ok)
    ∙ drop-append-le c.args.start c.args.room.now (0 ∷ []) c.requires.within ∙ ap (λ (l : List ℕ). l ++ 0 ∷ []) is in
    let end : c.args.gate + length (take (length bytes - c.args.start) (drop c.args.start bytes)) ≡ c.args.gate + BEFORE_BODY + length body = omega (arith, ap length record_is, size_of_record body) in
    subst (λ (n : ℕ). Stands c.args.format (bodies ++ body ∷ []) n (g.D.Disk.view c.add_record.new.disk)) end (add tells bodies body record_is short stands)) c.add_record.ensures.added

pub returns-in-Err-clause-added : goal.returns-in-Err-clause-added
returns-in-Err-clause-added g c = on_ok_weaker c.add_record_apart.result (λ add tells bodies body is short stands.
    let bytes = c.as_slice-in-Err.result.now in
    let piece = take (length bytes - c.args.start) (drop c.args.start bytes) in
    let record_is : piece ≡ length_prefixed body =
    from c.args.start bytes ∙ ap (λ (l : List ℕ). drop c.args.start l) (c.as_slice-in-Err.ensures.value ∙ c.in-Err.ensures.err) ∙ is in
    let end : c.args.gate + length (piece ++ 0 ∷ []) ≡ c.args.gate + BEFORE_BODY + length body =
    omega (arith, ap (λ (l : List ℕ). length (l ++ 0 ∷ [])) record_is, size_of_record body) in
    subst (λ (n : ℕ). Stands c.args.format (bodies ++ body ∷ []) n (g.D.Disk.view c.add_record_apart.new.disk)) end (add tells bodies body record_is short stands)) c.add_record_apart.ensures.added

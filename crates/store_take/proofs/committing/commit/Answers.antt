use Rattle.std.proofs.Common.{◌≡◌, ◌∙◌, Err, ⊎_elim, refl, sym, ap, arith, ◌+◌, length, List, ℕ, take, ◌++◌, drop}
use Rattle.at_cbor.specs.declared.major.Major.{Major}
use Rattle.at_cbor.specs.Encoding.{front_of}
use Rattle.gate_log.specs.Log.{LogState}
use Rattle.gate_log.specs.declared.pending_bodies.TheConstants.{AHEAD}
use Rattle.gate_log.specs.declared.limits.TheConstants.{BEFORE_BODY}
use Rattle.store_take.proofs.Commits.{appended, append_leaves, pending_bytes, only_disk, some_rows}
use Rattle.store_take.proofs.Rooms.{behind_none, behind_some}
use Rattle.store_take.proofs.committing.commit.Goals as goal

pub returns-in-Ok-clause-added : goal.returns-in-Ok-clause-added
returns-in-Ok-clause-added g c = λ tells J rows state places has on.
    let head : take c.list_front_len.result c.list_front-front.result ≡ front_of Major.List c.args.pending.now.count = ap (λ (n : ℕ). take n c.list_front-front.result) c.list_front_len.ensures.len ∙ c.list_front-front.ensures in
    appended J rows _ state places _ on _ (pending_bytes rows c.args.pending.now _ has head) (some_rows rows c.args.pending.now has (λ none. omega (arith, none, c.if-pending-eq0.false))) (omega (arith, has.count, c.requires.few)) _ _
    (ap (λ (s : LogState). s.format) c.in-Ok.ensures.log) (c.in-Ok.ensures.added tells _ on.holds)

pub returns-then-pending-eq0-clause-end : goal.returns-then-pending-eq0-clause-end
returns-then-pending-eq0-clause-end g c = sym (behind_none c.args.log.now.end c.args.pending.now c.if-pending-eq0.true)

pub returns-in-Ok-clause-end : goal.returns-in-Ok-clause-end
returns-in-Ok-clause-end g c =
    let head : take c.list_front_len.result c.list_front-front.result ≡ front_of Major.List c.args.pending.now.count = ap (λ (n : ℕ). take n c.list_front-front.result) c.list_front_len.ensures.len ∙ c.list_front-front.ensures in
    ap (λ (s : LogState). s.end) c.in-Ok.ensures.log ∙ ap (λ (l : List ℕ). c.args.log.now.end + BEFORE_BODY + length (l ++ drop AHEAD c.args.pending.now.body)) head
    ∙ sym (behind_some c.args.log.now.end c.args.pending.now (λ none. omega (arith, none, c.if-pending-eq0.false)))

pub returns-in-Ok-clause-moments : goal.returns-in-Ok-clause-moments
returns-in-Ok-clause-moments g c = λ tells J rows state places has on.
    let head : take c.list_front_len.result c.list_front-front.result ≡ front_of Major.List c.args.pending.now.count = ap (λ (n : ℕ). take n c.list_front-front.result) c.list_front_len.ensures.len ∙ c.list_front-front.ensures in
    append_leaves J rows _ state places _ on _ (pending_bytes rows c.args.pending.now _ has head) (some_rows rows c.args.pending.now has (λ none. omega (arith, none, c.if-pending-eq0.false))) (omega (arith, has.count, c.requires.few)) _
    (c.append_put.ensures.moments tells _ on.holds)

pub returns-in-Err-clause-moments : goal.returns-in-Err-clause-moments
returns-in-Err-clause-moments g c = λ tells J rows state places has on.
    let head : take c.list_front_len.result c.list_front-front.result ≡ front_of Major.List c.args.pending.now.count = ap (λ (n : ℕ). take n c.list_front-front.result) c.list_front_len.ensures.len ∙ c.list_front-front.ensures in
    append_leaves J rows _ state places _ on _ (pending_bytes rows c.args.pending.now _ has head) (some_rows rows c.args.pending.now has (λ none. omega (arith, none, c.if-pending-eq0.false))) (omega (arith, has.count, c.requires.few)) _
    (c.append_put.ensures.moments tells _ on.holds)

pub returns-in-Err-clause-disk : goal.returns-in-Err-clause-disk
returns-in-Err-clause-disk g c =
    let head : take c.list_front_len.result c.list_front-front.result ≡ front_of Major.List c.args.pending.now.count = ap (λ (n : ℕ). take n c.list_front-front.result) c.list_front_len.ensures.len ∙ c.list_front-front.ensures in
    let same = ap (λ (l : List ℕ). length (l ++ drop 6 c.args.pending.now.body)) head in
    let failed = only_disk c.in-Err.field-0
    (λ is. c.append_put.ensures.disk (c.in-Err.is ∙ ap Err is))
    (λ p is. c.append_put.ensures.no_bad_log p (c.in-Err.is ∙ ap Err is))
    (λ e is. let past = (c.append_put.ensures.full e).0 (c.in-Err.is ∙ ap Err is) in ⊎_elim (λ none. absurd (omega (arith, none, c.if-pending-eq0.false))) (λ fits. absurd (omega (arith, fits.0, past.0, past.1, same))) c.requires.fits)
    (λ is. c.append_put.ensures.no_memory (c.in-Err.is ∙ ap Err is)) in
    (refl, (ap (λ (s : LogState). s.is_open) failed.1, failed.0))

pub returns-in-Err-clause-format : goal.returns-in-Err-clause-format
returns-in-Err-clause-format g c =
    let head : take c.list_front_len.result c.list_front-front.result ≡ front_of Major.List c.args.pending.now.count = ap (λ (n : ℕ). take n c.list_front-front.result) c.list_front_len.ensures.len ∙ c.list_front-front.ensures in
    let same = ap (λ (l : List ℕ). length (l ++ drop 6 c.args.pending.now.body)) head in
    let failed = only_disk c.in-Err.field-0
    (λ is. c.append_put.ensures.disk (c.in-Err.is ∙ ap Err is))
    (λ p is. c.append_put.ensures.no_bad_log p (c.in-Err.is ∙ ap Err is))
    (λ e is. let past = (c.append_put.ensures.full e).0 (c.in-Err.is ∙ ap Err is) in ⊎_elim (λ none. absurd (omega (arith, none, c.if-pending-eq0.false))) (λ fits. absurd (omega (arith, fits.0, past.0, past.1, same))) c.requires.fits)
    (λ is. c.append_put.ensures.no_memory (c.in-Err.is ∙ ap Err is)) in
    (ap (λ (s : LogState). s.format) failed.1, ap (λ (s : LogState). s.most) failed.1)

use Rattle.std.proofs.Common.{◌≡◌, ◌∷◌, ℕ, List, length, ap, arith, subst}
use Rattle.std.proofs.lemmas.Result.{IfOk-weaker}
use Rattle.gate_log.specs.Image.{made}
use Rattle.gate_log.specs.Log.{HoldsBodies as HasBodies}
use Rattle.row_codec.specs.Bodies.{IsBody, rows_body}
use Rattle.relay_row.specs.declared.row.Row.{Row}
use Rattle.relay_store.specs.Journals.{bytes_of}
use Rattle.relay_store.proofs.InBodies.{body_inside}
use Rattle.relay_store.proofs.Standing.{bytes_joined}
use Rattle.relay_store.proofs.bodies.read_body.Goals as goal

a_body : (rows : List Row) (body : List ℕ) → IsBody rows (rows_body rows) → body ≡ rows_body rows → IsBody rows body
a_body rows body is made_of = record { some = is.some; few = is.few; formed = is.formed; made = made_of }

pub returns-then-place-end-clause-no_bad_log : goal.returns-then-place-end-clause-no_bad_log
returns-then-place-end-clause-no_bad_log g c = λ p is tells before there after holds here.
    omega (
      arith,
      here,
      holds.ends,
      c.end.ensures.end,
      c.if-place-end.true,
      ap (λ (bs : List (List ℕ)). length (made c.args.log.now.format bs)) (bytes_joined before (there ∷ after)),
      body_inside c.args.log.now.format (bytes_of before) (rows_body there) (bytes_of after),
    )

pub returns-clause-body : goal.returns-clause-body
returns-clause-body g c = IfOk-weaker c.read_into.result _ _
    (λ next read tells before there after body holds here.
    let now = subst (λ (bs : List (List ℕ)). HasBodies bs c.args.log.now (g.D.Disk.view c.args.disk.now)) (bytes_joined before (there ∷ after)) holds in
    let found = read tells (bytes_of before) (rows_body there) (bytes_of after) now here in
    (a_body there _ body found.0, found.1))
    c.read_into.ensures.body

pub returns-clause-no_bad_log : goal.returns-clause-no_bad_log
returns-clause-no_bad_log g c = λ p is tells before there after holds here.
    let now = subst (λ (bs : List (List ℕ)). HasBodies bs c.args.log.now (g.D.Disk.view c.args.disk.now)) (bytes_joined before (there ∷ after)) holds in
    c.read_into.ensures.bad_log p is tells (bytes_of before) (rows_body there) (bytes_of after) now here

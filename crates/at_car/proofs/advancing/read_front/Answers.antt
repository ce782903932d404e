use Rattle.std.proofs.Common.{◌≡◌, ◌-◌, ◌+◌, ℕ, List, length, drop, refl, sym, ap, subst, ◌∙◌, Some, arith}
use Rattle.std.specs.Prelude.{option_map}
use Rattle.std.proofs.lemmas.List.{length-drop}
use Rattle.at_cid.specs.Link.{IsBytes}
use Rattle.at_car.specs.Header.{header_at}
use Rattle.at_car.specs.Standing.{left_of}
use Rattle.at_car.proofs.Extends.{some_bytes}
use Rattle.at_car.proofs.Resumes.{header_shorter}
use Rattle.at_car.proofs.Standings.{front_read, front_fails}
use Rattle.at_car.proofs.advancing.read_front.Goals as goal

pub returns-in_default-clause-stands : goal.returns-in_default-clause-stands
returns-in_default-clause-stands c = λ picks bytes h.
    front_fails picks bytes c.args.progress.now c.fail.new.self c.requires.well c.requires.front c.requires.uncut
    (ap header_at (sym c.left-left.ensures) ∙ sym c.in_ok-roots.ensures.is ∙ ap (option_map (λ x. (x.0, x.1.now))) c.in_default.is) c.fail.ensures.fault h

pub returns-in_default-clause-shorter : goal.returns-in_default-clause-shorter
returns-in_default-clause-shorter c = let some = some_bytes (left_of c.args.progress.now) c.requires.uncut in rw c.fail.ensures.left (omega (arith, some))

pub returns-clause-stands : goal.returns-clause-stands
returns-clause-stands c = λ picks bytes h.
    let left : List ℕ = left_of c.args.progress.now in
    let e : header_at left ≡ Some (c.in-Some.roots, c.in-Some.rest.now) = ap header_at (sym c.left-left.ensures) ∙ sym c.in_ok-roots.ensures.is ∙ ap (option_map (λ x. (x.0, x.1.now))) c.in-Some.is in
    let fits : IsBytes left = subst IsBytes c.left-left.ensures c.ghost_bytes.ensures.bytes in
    let less = header_shorter left (c.in-Some.roots, c.in-Some.rest.now) fits e in
    front_read picks bytes c.args.progress.now _ c.in-Some.roots c.in-Some.rest.now (length left - length c.in-Some.rest.now) c.requires.well c.requires.front c.requires.uncut fits e refl (omega (arith, less))
    (c.pass.ensures.fault ∙ c.requires.well) refl c.pass.ensures.sifted
    (c.pass.ensures.place ∙ ap (λ (l : List ℕ). c.args.progress.now.place + (length l - length c.in-Some.rest.now)) c.left-left.ensures)
    (c.pass.ensures.left ∙ ap (λ (l : List ℕ). drop (length l - length c.in-Some.rest.now) left) c.left-left.ensures) h

pub returns-clause-shorter : goal.returns-clause-shorter
returns-clause-shorter c =
    let left : List ℕ = left_of c.args.progress.now in
    let e : header_at left ≡ Some (c.in-Some.roots, c.in-Some.rest.now) = ap header_at (sym c.left-left.ensures) ∙ sym c.in_ok-roots.ensures.is ∙ ap (option_map (λ x. (x.0, x.1.now))) c.in-Some.is in
    let fits : IsBytes left = subst IsBytes c.left-left.ensures c.ghost_bytes.ensures.bytes in
    let less = header_shorter left (c.in-Some.roots, c.in-Some.rest.now) fits e in
    let some = some_bytes left c.requires.uncut in
    let all : length (left_of c.pass.new.self) ≡ length (drop (length left - length c.in-Some.rest.now) left) = ap (λ (l : List ℕ). length l) (c.pass.ensures.left ∙ ap (λ (l : List ℕ). drop (length l - length c.in-Some.rest.now) left) c.left-left.ensures) in
    omega (arith, less, some, all, length-drop (length left - length c.in-Some.rest.now) left)

use Rattle.std.proofs.Common.{◌≡◌, ℕ, List, ◌++◌, drop, refl, sym, ap, ◌∙◌}
use Rattle.std.proofs.lemmas.Result.{err_from_is_err_and}
use Rattle.at_car.proofs.Standings.{piece_held, same_stands}
use Rattle.at_car.proofs.advancing.hold.Goals as goal

pub returns-in_err-extend-clause-err : goal.returns-in_err-extend-clause-err
returns-in_err-extend-clause-err c =
    let p = err_from_is_err_and c.from_residual.result c.from_residual.ensures.1 in
    rw p.1 (λ picks bytes h. same_stands picks bytes c.args.progress.now _ refl refl refl refl (ap (drop c.args.progress.now.start) c.in_err-extend.ensures.err) h)

pub returns-then-progress-eq0-clause-ok : goal.returns-then-progress-eq0-clause-ok
returns-then-progress-eq0-clause-ok c = λ picks bytes h.
    let at : (l : List ℕ) → drop c.args.progress.now.start l ≡ l = λ l. ap (λ n. drop n l) c.if-progress-eq0.true in
    piece_held picks bytes c.args.piece.now c.args.progress.now _ refl refl refl refl
    (at _ ∙ c.in_ok-extend.ensures.ok ∙ ap (λ (l : List ℕ). l ++ c.args.piece.now) (sym (at c.args.progress.now.held))) h

pub returns-clause-ok : goal.returns-clause-ok
returns-clause-ok c = λ picks bytes h.
    piece_held picks bytes c.args.piece.now c.args.progress.now _ refl refl refl refl
    (c.in_ok-extend-2.ensures.ok ∙ ap (λ (l : List ℕ). l ++ c.args.piece.now) (c.in_ok-held.ensures ∙ c.left.ensures)) h

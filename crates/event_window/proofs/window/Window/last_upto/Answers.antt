use Rattle.std.proofs.Common.{◌≡◌, ◌-◌, ℕ, List, length, drop, ap, arith, subst, sym, ◌∙◌, suc}
use Rattle.event_window.specs.Window.{AreAbove, IsLastUpto, WindowState, all_above}
use Rattle.event_window.specs.declared.place.Place.{Place}
use Rattle.event_window.proofs.Searches.{got_of, last_upto}
use Rattle.event_window.proofs.window.Window.last_upto.Goals as goal

pub returns-clause-last : goal.returns-clause-last
returns-clause-last c = subst (λ (s : WindowState). AreAbove 0 s.places → IsLastUpto c.args.seq c.index.result.now s.places) c.self.view_is (λ above.
    let places : List Place = c.self.inside.places.items in
    let count = c.upto-count.result in
    let same : c.as_slice.result.now ≡ places = c.as_slice.ensures.value in
    let next : count ≡ suc (count - 1) = omega (arith, c.if-count-eq0.false) in
    let found : all_above c.args.seq places ≡ drop count places =
    subst (λ (ps : List Place). all_above c.args.seq ps ≡ drop count ps) same (c.upto-count.ensures.upto (subst (AreAbove 0) (sym same) above)) in
    last_upto c.args.seq places (count - 1) c.index.result.now
    (got_of places (count - 1) c.index.result.now (omega (arith, c.upto-count.ensures.bound, c.if-count-eq0.false, ap length same)) c.index.ensures)
    (found ∙ ap (λ (n : ℕ). drop n places) next))

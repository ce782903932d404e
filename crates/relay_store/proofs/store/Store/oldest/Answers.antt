use Rattle.std.proofs.Common.{◌≡◌, ◌∙◌, ◌+◌, ℕ, List, [], ◌∷◌, Some, None, arith, ap, sym, refl}
use Rattle.std.specs.Prelude.{map, slice_get}
use Rattle.std.proofs.lemmas.Option.{same_Some}
use Rattle.event_window.specs.Held.{first_or}
use Rattle.event_window.specs.declared.place.Place.{Place}
use Rattle.relay_store.proofs.store.Store.oldest.Goals as goal

first_seq : (places : List Place) (p : Place) (d : ℕ) → slice_get places 0 ≡ Some p → p.seq ≡ first_or (map (λ (q : Place). q.seq) places) d
first_seq [] p d is = absurd cc
first_seq (q ∷ places) p d is = ap (λ (x : Place). x.seq) (sym (same_Some q p is))

none_seq : (places : List Place) (d : ℕ) → slice_get places 0 ≡ None → first_or (map (λ (q : Place). q.seq) places) d ≡ d
none_seq [] d is = refl
none_seq (q ∷ places) d is = absurd cc

pub returns-in-Some : goal.returns-in-Some
returns-in-Some c = λ fits.
    first_seq c.args.self.now.window.places c.in-Some.place (c.args.self.now.core.last + 1) (sym c.first.ensures ∙ c.in-Some.is)

pub returns-in-None : goal.returns-in-None
returns-in-None c = λ fits.
    let sum : c.saturating_add.result ≡ c.args.self.now.core.last + 1 = omega (arith, c.saturating_add.ensures, c.last_seq.ensures, fits) in
    sum ∙ sym (none_seq c.args.self.now.window.places (c.args.self.now.core.last + 1) (sym c.first.ensures ∙ c.in-None.is))

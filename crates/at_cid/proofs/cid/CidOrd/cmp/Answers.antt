use Rattle.std.proofs.Common.{ℕ, List, sym, ap₂, ◌∙◌}
use Rattle.at_cid.specs.Link.{digest_of}
use Rattle.at_cid.specs.Order.{key_cmp}
use Rattle.at_cid.proofs.Order.{cmp_digests}
use Rattle.at_cid.proofs.Fronts.{cmp_fronts}
use Rattle.at_cid.proofs.cid.CidOrd.cmp.Goals as goal

pub returns-then-a-b : goal.returns-then-a-b
returns-then-a-b c =
    let x : List ℕ = c.self.inside.bytes in
    let y : List ℕ = c.other.inside.bytes in
    c.cmp.ensures
    ∙ cmp_fronts x y _ _ c.self.invariant c.other.invariant c.if-self-other.false c.front_of-a.ensures.bytes c.front_of-b.ensures.bytes c.front_of-a.ensures.value c.front_of-b.ensures.value c.if-a-b.true
    ∙ ap₂ key_cmp c.self.view_is c.other.view_is

pub returns : goal.returns
returns c =
    let x : List ℕ = c.self.inside.bytes in
    let y : List ℕ = c.other.inside.bytes in
    c.compare-2.ensures
    ∙ ap₂ key_cmp c.digest.ensures c.digest-2.ensures
    ∙ ap₂ (λ (l m : List ℕ). key_cmp (digest_of l) (digest_of m)) (sym c.self.view_is) (sym c.other.view_is)
    ∙ cmp_digests x y c.self.invariant c.other.invariant c.if-self-other.false
    ∙ ap₂ key_cmp c.self.view_is c.other.view_is

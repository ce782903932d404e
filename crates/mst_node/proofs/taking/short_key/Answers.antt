use Rattle.std.proofs.Common.{◌≡◌, ℕ, ◌≤◌, List, [], ◌++◌, length, take, sym, subst, ◌∙◌}
use Rattle.std.specs.Prelude.{map, IfSome}
use Rattle.mst_node.specs.Reading.{key_before}
use Rattle.mst_node.proofs.Rounds.{last_before}
use Rattle.mst_node.proofs.taking.short_key.Goals as goal

pub going_on-requires : goal.going_on-requires
going_on-requires g c =
    let es = map g.E.Keyed.entry c.args.entries.now in
    let same : c.key.result.now ≡ key_before [] es = c.key.ensures ∙ last_before g.E.Keyed.entry [] c.args.entries.now c.in-Some.entry.now (sym c.in-Some.ensures.value) in
    let within : List ℕ → Type 0 = λ k. c.args.count ≤ length k in
    subst within (sym same) c.requires

pub returns-in-Some : goal.returns-in-Some
returns-in-Some g c =
    let es = map g.E.Keyed.entry c.args.entries.now in
    let same : c.key.result.now ≡ key_before [] es = c.key.ensures ∙ last_before g.E.Keyed.entry [] c.args.entries.now c.in-Some.entry.now (sym c.in-Some.ensures.value) in
    let goes : List ℕ → Type 0 = λ k. IfSome c.going_on.result (λ key. key ≡ take c.args.count k ++ c.args.tail.now) in
    subst goes same c.going_on.ensures

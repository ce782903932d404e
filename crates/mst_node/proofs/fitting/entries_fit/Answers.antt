use Rattle.std.proofs.Common.{◌≡◌, true, false, option_map, sym, ◌∙◌}
use Rattle.std.specs.Prelude.{map}
use Rattle.mst_node.specs.Fits.{are_between}
use Rattle.mst_node.proofs.Standing.{standing_fit}
use Rattle.mst_node.proofs.fitting.entries_fit.Goals as goal

pub returns-then-are_between : goal.returns-then-are_between
returns-then-are_between g c =
    let h = c.args.layer in let low = option_map (λ k. k.now) c.args.low in let high = option_map (λ k. k.now) c.args.high in let es = map g.E.Keyed.entry c.args.entries.now in
    let between : are_between low high es ≡ true = sym c.are_between.ensures ∙ c.if-are_between.true in
    let fit = rw between at (standing_fit h low high es c.requires) in
    c.all_stand.ensures ∙ fit

pub returns-else-are_between : goal.returns-else-are_between
returns-else-are_between g c =
    let h = c.args.layer in let low = option_map (λ k. k.now) c.args.low in let high = option_map (λ k. k.now) c.args.high in let es = map g.E.Keyed.entry c.args.entries.now in
    let between : are_between low high es ≡ false = sym c.are_between.ensures ∙ c.if-are_between.false in
    let fit = rw between at (standing_fit h low high es c.requires) in
    c.if-are_between.false ∙ fit

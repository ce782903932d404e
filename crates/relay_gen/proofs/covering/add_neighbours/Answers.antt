use Rattle.std.proofs.Common.{◌++◌, slice_get, ap, ◌∙◌}
use Rattle.std.proofs.lemmas.List.{append_assoc}
use Rattle.relay_gen.specs.Records.{last_path, path_or_none}
use Rattle.relay_gen.proofs.Sorted.{beside}
use Rattle.relay_gen.proofs.covering.add_neighbours.Goals as goal

pub returns : goal.returns
returns c =
    let rs = c.args.records.now in let k = c.args.path.now in let n = c.place_of-at.result in
    c.in_ok-add_at.ensures ∙ ap (λ x. x ++ path_or_none (slice_get rs c.behind-next.result)) c.in_ok-add_before.ensures
    ∙ append_assoc c.args.paths.now.items (last_path rs n) (path_or_none (slice_get rs c.behind-next.result))
    ∙ ap (λ m. c.args.paths.now.items ++ (last_path rs n ++ path_or_none (slice_get rs m))) c.behind-next.ensures
    ∙ ap (λ x. c.args.paths.now.items ++ x) (beside k rs n c.place_of-at.ensures.is)

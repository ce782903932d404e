use Rattle.std.proofs.Common.{◌≡◌, ◌++◌, slice_get, None, sym, ap, ◌∙◌, append-nil}
use Rattle.relay_gen.specs.Records.{path_or_none}
use Rattle.relay_gen.proofs.Sorted.{none_at}
use Rattle.relay_gen.proofs.covering.add_at.Goals as goal

pub returns-in-None : goal.returns-in-None
returns-in-None c =
    let none : slice_get c.args.records.now c.args.at ≡ None = none_at c.args.records.now c.args.at c.in-None.ensures.lookup.3 in
    sym (ap (λ o. c.args.paths.now.items ++ path_or_none o) none ∙ append-nil c.args.paths.now.items)

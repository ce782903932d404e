use Rattle.std.proofs.Common.{[], sym, ◌∙◌}
use Rattle.mst_node.proofs.Rounds.{last_before}
use Rattle.mst_node.proofs.taking.last_key.Goals as goal

pub returns-in-Some : goal.returns-in-Some
returns-in-Some g c = c.as_slice.ensures.value ∙ c.key.ensures ∙ last_before g.E.Keyed.entry [] c.args.entries.now c.in-Some.entry.now (sym c.in-Some.ensures.value)

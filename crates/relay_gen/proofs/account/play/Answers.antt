use Rattle.std.proofs.Common.{sym, subst}
use Rattle.mst_list.specs.Lists.{KeysOnly}
use Rattle.relay_gen.proofs.Sorted.{keys_only}
use Rattle.relay_gen.proofs.account.play.Goals as goal

pub changed-requires-clause-keys_only : goal.changed-requires-clause-keys_only
changed-requires-clause-keys_only c = subst KeysOnly (sym c.requires.same) (keys_only c.args.records.items)

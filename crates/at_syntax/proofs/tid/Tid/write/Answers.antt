use Rattle.std.proofs.Common.{rules}
use Rattle.std.proofs.lemmas.List.FromFn.{fill_by_all}
use Rattle.at_syntax.specs.Tid.{character_at, digits_of}
use Rattle.at_syntax.proofs.tid.Tid.write.Goals as goal

pub returns : goal.returns
unfolding digits_of
returns c = fill_by_all (character_at c.args.self.now) c.loop-place.out 13 0 c.loop-place.invariant.0 (search rules)

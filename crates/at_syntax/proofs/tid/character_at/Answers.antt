use Rattle.std.proofs.Common.{ℕ, ◌%◌, ◌∙◌, ap}
use Rattle.at_syntax.specs.Tid.{character_at, character_of}
use Rattle.at_syntax.proofs.Tids.{digit_at}
use Rattle.at_syntax.proofs.tid.character_at.Goals as goal

pub returns : goal.returns
unfolding character_at
returns c = c.character.ensures ∙ ap (λ (n : ℕ). character_of (n % 32)) (digit_at c.args.value c.args.place c.requires)

use Rattle.std.proofs.Common.{◌≡◌, ℕ, ◌<◌, length, get_or}
use Rattle.at_syntax.specs.Tid.{character_at}
use Rattle.at_syntax.proofs.tid.Tid.write.Given as goal

abbrev pub invariant-loop-place : goal.invariant-loop-place
invariant-loop-place l = (length l.out ≡ 13) × ((j : ℕ) → j < l.place → get_or l.out j 0 ≡ character_at l.self j)

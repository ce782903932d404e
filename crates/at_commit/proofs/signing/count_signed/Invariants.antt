use Rattle.std.proofs.Common.{◌≡◌, ◌+◌, length, drop}
use Rattle.at_commit.proofs.Unsigned.{signed}
use Rattle.at_commit.proofs.signing.count_signed.Given as goal

abbrev pub invariant-loop-key : goal.invariant-loop-key
invariant-loop-key l = l.count + length (signed (drop l.key-index l.fields)) ≡ length (signed l.fields)

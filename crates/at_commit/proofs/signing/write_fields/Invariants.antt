use Rattle.std.proofs.Common.{◌≡◌, ◌++◌, drop}
use Rattle.at_commit.proofs.Unsigned.{signed_fields}
use Rattle.at_commit.proofs.signing.write_fields.Given as goal

abbrev pub invariant-loop-key : goal.invariant-loop-key
invariant-loop-key l = l.out ++ signed_fields (drop l.key-index l.fields) ≡ l.fn.out ++ signed_fields l.fields

use Rattle.std.proofs.Common.{◌≤◌, length}
use Rattle.std.specs.Prelude.{All}
use Rattle.relay_io.specs.declared.wire.TheConstants.{LONGEST_REQUEST}
use Rattle.vectors_store.proofs.runs.requests.Given as goal

abbrev pub invariant-loop-word : goal.invariant-loop-word
invariant-loop-word l = All (λ r. length r ≤ LONGEST_REQUEST) l.requests.items

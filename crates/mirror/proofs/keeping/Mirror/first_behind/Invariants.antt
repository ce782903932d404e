use Rattle.std.proofs.Common.{◌≡◌, []}
use Rattle.std.specs.List.{filter}
use Rattle.std.specs.String.{string_bytes}
use Rattle.mirror.proofs.Next.{is_behind}
use Rattle.mirror.proofs.keeping.Mirror.first_behind.Given as goal

abbrev pub invariant-loop-name : goal.invariant-loop-name
invariant-loop-name l = filter (is_behind string_bytes l.did []) l.name-iterator ≡ filter (is_behind string_bytes l.did []) l.self.accounts.entries

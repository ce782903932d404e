use Rattle.std.proofs.Common.{◌≡◌, ◌++◌, length}
use Rattle.std.specs.List.{flat_map}
use Rattle.report_lines.specs.StateLines.{shown_byte}
use Rattle.report_lines.proofs.account.add_bytes.Given as goal

abbrev pub decreases-bytes : goal.decreases-bytes
decreases-bytes l = length l.rest

abbrev pub invariant-bytes : goal.invariant-bytes
invariant-bytes l = l.line ++ flat_map shown_byte l.rest ≡ l.fn.line ++ flat_map shown_byte l.text

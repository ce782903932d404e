use Rattle.std.proofs.Common.{◌≡◌, take}
use Rattle.std.specs.List.{flat_map}
use Rattle.host_state.specs.Table.{listed}
use Rattle.report_lines.specs.StateLines.{host_text}
use Rattle.report_lines.proofs.hosts.host_lines.Given as goal

abbrev pub invariant-hosts : goal.invariant-hosts
invariant-hosts l = l.lines ≡ flat_map host_text (take l.place (listed l.hosts))

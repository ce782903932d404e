use Rattle.std.proofs.Common.{sym}
use Rattle.host_state.specs.Table.{listed}
use Rattle.report_lines.specs.StateLines.{host_text}
use Rattle.report_lines.proofs.Taking.{made_more}
use Rattle.report_lines.proofs.hosts.host_lines.Goals as goal

pub hosts-preserved : goal.hosts-preserved
hosts-preserved c = made_more host_text (listed c.args.hosts.now) c.hosts.place (c.in-Some.host.now, c.in-Some.cursor) c.hosts.lines c.add_host.new.lines (sym c.in-Some.ensures) c.hosts.invariant c.in_ok-add_host.ensures

use Rattle.std.proofs.Common.{sym}
use Rattle.host_state.proofs.Listed.{cursor_placed, cursor_missing}
use Rattle.host_state.proofs.hosts.Hosts.cursor.Goals as goal

pub returns-in-Some : goal.returns-in-Some
returns-in-Some c = cursor_placed c.args.host.now c.args.self.now.map.entries c.in-Some.place c.index.result.now (sym c.in-Some.ensures.place) c.index.ensures

pub returns-in-None : goal.returns-in-None
returns-in-None c = cursor_missing c.args.host.now c.args.self.now.map.entries (sym c.in-None.ensures.place)

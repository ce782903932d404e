use Rattle.std.proofs.Common.{Some, ap}
use Rattle.at_authority.proofs.Refreshing.{is_refreshed}
use Rattle.at_authority.proofs.table_authority.TableAuthorityAuthority.refresh.Goals as goal

pub returns-clause-refreshed : goal.returns-clause-refreshed
returns-clause-refreshed c = ap Some (is_refreshed c.args.self.now c.insert.new.self c.begin.new.self c.in-Ok.did c.args.did.now c.in-Ok.ensures.ok c.in-Ok-insert.ensures.updates)

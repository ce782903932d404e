use Rattle.std.proofs.Common.{refl, ◌∙◌}
use Rattle.at_authority.specs.Queries.{asks_home}
use Rattle.at_authority.proofs.table_authority.TableAuthorityAuthority.home.Goals as goal

pub returns-clause-says : goal.returns-clause-says
returns-clause-says c = c.home.ensures ∙ c.table.ensures (asks_home c.args.did.now c.args.host.now) refl

use Rattle.std.proofs.Common.{refl, ◌∙◌}
use Rattle.at_authority.specs.Queries.{asks_verdict}
use Rattle.at_authority.proofs.table_authority.TableAuthorityAuthority.verdict.Goals as goal

pub returns-in-Ok-clause-says : goal.returns-in-Ok-clause-says
returns-in-Ok-clause-says c = c.in-Ok.ensures ∙ c.table.ensures (asks_verdict c.args.did.now c.args.digest.now c.args.sig.now) refl

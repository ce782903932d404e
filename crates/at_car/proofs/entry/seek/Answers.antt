use Rattle.at_car.proofs.Searches.{seek_found, seek_absent}
use Rattle.at_car.proofs.entry.seek.Goals as goal

pub returns-clause-there : goal.returns-clause-there
returns-clause-there c = seek_found c.args.link.now c.args.entries.now c.binary_search.result c.requires c.binary_search.ensures.bound c.binary_search.ensures.position

pub returns-clause-absent : goal.returns-clause-absent
returns-clause-absent c = seek_absent c.args.link.now c.args.entries.now c.binary_search.result c.requires c.binary_search.ensures.position

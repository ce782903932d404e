use Rattle.std.proofs.Common.{◌≡◌, ◌++◌, length}
use Rattle.at_car.specs.Logs.{links_let_go}
use Rattle.at_car.proofs.log.let_go_links.Given as goal

abbrev pub decreases-entries : goal.decreases-entries
decreases-entries l = length l.rest

abbrev pub invariant-entries : goal.invariant-entries
invariant-entries l = l.links.items ++ links_let_go l.rest ≡ links_let_go l.entries

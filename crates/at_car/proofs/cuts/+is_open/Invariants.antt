use Rattle.at_car.proofs.cuts.+is_open.Given as goal

abbrev pub decreases-is_open : goal.decreases-is_open
decreases-is_open l = l.most

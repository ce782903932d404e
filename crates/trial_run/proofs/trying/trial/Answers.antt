use Rattle.trial_run.proofs.trying.trial.Goals as goal

pub returns-clause-tried : goal.returns-clause-tried
returns-clause-tried g c = (_, _, c.trial_on.ensures.tried)

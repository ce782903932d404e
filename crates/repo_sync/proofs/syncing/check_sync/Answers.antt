use Rattle.repo_sync.proofs.Synced.{sync_unjudged, syncs_exactly}
use Rattle.repo_sync.proofs.syncing.check_sync.Goals as goal

pub returns-clause-exact : goal.returns-clause-exact
returns-clause-exact c = syncs_exactly c.args.event.now c.args.last c.find.result c.find.ensures.found c.find.ensures.refused

pub returns-clause-unjudged : goal.returns-clause-unjudged
returns-clause-unjudged c = sync_unjudged c.args.event.now c.args.last c.find.result c.find.ensures.refused

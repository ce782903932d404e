use Rattle.relay_row.proofs.Journals.{cursors_joined, lasts_joined, events_joined}
use Rattle.relay_row.proofs.laws.folds_join.Goals as goal

pub returns : goal.returns
returns c = record { cursors = cursors_joined; lasts = lasts_joined; events = events_joined }

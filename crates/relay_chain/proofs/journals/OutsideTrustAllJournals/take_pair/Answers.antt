use Rattle.relay_disk.proofs.Moments.{still_here}
use Rattle.relay_chain.proofs.Telling.{counted_one, counted_two, told_with}
use Rattle.relay_chain.proofs.journals.OutsideTrustAllJournals.take_pair.Goals as goal

pub returns-in-One-clause-told : goal.returns-in-One-clause-told
returns-in-One-clause-told g c = told_with _ _ _ _ _ (λ failed. counted_one _ _ _ failed) c.take_store.ensures.told

pub returns-in-Two-clause-told : goal.returns-in-Two-clause-told
returns-in-Two-clause-told g c = told_with _ _ _ _ _ (λ failed. counted_two _ _ _ failed) c.take_store-in-Two.ensures.told

pub returns-in-One-clause-read : goal.returns-in-One-clause-read
returns-in-One-clause-read g c = record { first = c.take_store.ensures.goes; second = still_here _ }

pub returns-in-Two-clause-read : goal.returns-in-Two-clause-read
returns-in-Two-clause-read g c = record { first = still_here _; second = c.take_store-in-Two.ensures.goes }

-- Messages that were read of a journal, taken one by one (own). No public clause cites this file.
use Rattle.std.specs.Prelude.{◌≡◌, ⊤, ℕ, List}
use Rattle.relay_row.specs.declared.row.Row.{Row}
use Rattle.run_base.specs.Place.{Tells}
use Rattle.run_base.specs.declared.status.Status.{Status}
use Rattle.take_run.specs.Going.{Point, StreamTaken}
use Rattle.relay_chain.specs.Ends.{read_as}
use Rattle.relay_chain.specs.declared.journals.TheConstants.{MOST_SERVED}

-- those in front of these were, as those of a feed are
pub record TakenOf (t : Tells) (host : List ℕ) (given : List (List ℕ)) (J : List Row)
    (old new : Point) (status : Status) : Type 0 where
  pub taking : Status
  pub is : status ≡ read_as taking
  pub taken : StreamTaken t host MOST_SERVED J old new (λ all. all ≡ given) (λ rest. ⊤) taking

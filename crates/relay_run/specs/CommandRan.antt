-- What an operator's command does on two disks (own).
use Rattle.std.specs.Prelude.{◌≡◌, ⊤, ℕ, List, []}
use Rattle.at_event.specs.Refusals.{code_of}
use Rattle.relay_row.specs.declared.row.Row.{Row}
use Rattle.relay_step.specs.Commands.{rows_commanded}
use Rattle.relay_step.specs.declared.command.CommandAnswer.{CommandAnswer}
use Rattle.store_take.specs.Commands.{done_of}
use Rattle.relay_store.specs.Opening.{IsOfReading}
use Rattle.relay_store.specs.Room.{PairHasNoRoom}
use Rattle.store_take.specs.Taking.{ComesOfAsking}
use Rattle.relay_store.specs.declared.fault.StoreFault.{StoreFault}
use Rattle.run_base.specs.Deeds.{Came, Deed, OnDisks, WasOpened, adds, answered, by_end, in_vain, reads, unopened}
use Rattle.run_base.specs.Place.{Place, Tells}
use Rattle.run_base.specs.Statuses.{status_of_fault}
use Rattle.run_base.specs.declared.status.Status.{Status}
use Rattle.relay_run.specs.Lines.{done_text}

-- how a command may end by whose word this was: it made a row, for which there may be no room, or
-- it was refused
abbrev pub EndsCommand : (Row → ℕ → Type 0) → CommandAnswer → Status → Type 0
EndsCommand no_room (CommandAnswer.Made row) Status.Done = ⊤
EndsCommand no_room (CommandAnswer.Refused refusal) Status.Done = ⊥
EndsCommand no_room (CommandAnswer.Made row) (Status.Refused code) = ⊥
EndsCommand no_room (CommandAnswer.Refused refusal) (Status.Refused code) = code ≡ code_of refusal
EndsCommand no_room (CommandAnswer.Made row) (Status.Full e) = no_room row e
EndsCommand no_room command Status.WriteFault = ⊤
EndsCommand no_room command Status.Disk = ⊤
EndsCommand no_room command Status.Memory = ⊤
EndsCommand no_room command status = ⊥

-- what came of it, and how it may end by that
abbrev pub IsCome : Type 0 → (StoreFault → Type 0) → (CommandAnswer → Type 0) → (Row → ℕ → Type 0)
    → Status → Came CommandAnswer → Type 0
IsCome nothing vain is_command no_room status unopened = (fault : StoreFault)
    × (status ≡ status_of_fault fault) × IsOfReading fault × nothing
IsCome nothing vain is_command no_room status in_vain = (fault : StoreFault)
    × (status ≡ status_of_fault fault) × ComesOfAsking fault × vain fault
IsCome nothing vain is_command no_room status (answered command) = is_command command
    × EndsCommand no_room command status

-- what it makes of the journal: a row that it made is added, unless the store failed behind it
abbrev pub command_deed : List Row → Status → Came CommandAnswer → Deed
command_deed J status unopened = reads J []
command_deed J status in_vain = reads J []
command_deed J status (answered command) = adds J (rows_commanded command)
    (by_end status (rows_commanded command) []) (done_text (done_of command))

-- An operator's command came to two disks that have the journal J.
pub record CommandRan (t : Tells) (most : ℕ) (J : List Row) (nothing : Type 0)
    (vain : StoreFault → Type 0) (is_command : CommandAnswer → Type 0) (old new : Place)
    (status : Status) : Type 0 where
  pub came : Came CommandAnswer
  pub is : IsCome nothing vain is_command
      (λ row e. PairHasNoRoom most J row e new.one.content new.two.content) status came
  pub does : OnDisks t most J (WasOpened came) (command_deed J status came) old new status

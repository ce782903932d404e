-- What the steps of a reader answer. No public clause cites this file.
use Rattle.std.specs.Prelude.{◌≡◌, ◌≢◌, [], Option, Some, None, Result, Ok, Err}
use Rattle.tape.specs.declared.record.Record.{Record}
use Rattle.tape.specs.declared.fault.TapeFault.{TapeFault}
use Rattle.tape.specs.declared.tape.Tape.{Tape}
use Rattle.tape.specs.Reading.{held}

-- what is answered where the source has ended
abbrev pub IsEnd : Tape → Result (Option Record) TapeFault → Type 0
IsEnd tape (Ok (Some r)) = ⊥
IsEnd tape (Ok None) = held tape ≡ []
IsEnd tape (Err (TapeFault.Torn place)) = (place ≡ tape.place) × (held tape ≢ [])
IsEnd tape (Err fault) = ⊥

-- what is answered where no piece was taken
abbrev pub HasNoPiece : TapeFault → Type 0
HasNoPiece TapeFault.Failed = Unit {0}
HasNoPiece TapeFault.Budget = Unit {0}
HasNoPiece TapeFault.Memory = Unit {0}
HasNoPiece fault = ⊥

-- Faults of the log and of steps as the store's, and the numbers of faults (own).
use Rattle.std.specs.Prelude.{⊤, ℕ}
use Rattle.gate_log.specs.declared.fault.LogFault.{LogFault}
use Rattle.relay_store.specs.declared.fault.StoreFault.{StoreFault}

abbrev pub of_log : LogFault → StoreFault
of_log LogFault.Disk = StoreFault.Disk
of_log (LogFault.BadLog place) = StoreFault.BadLog place
of_log (LogFault.Full end) = StoreFault.Full end
of_log LogFault.Memory = StoreFault.Memory

abbrev pub number_of : StoreFault → ℕ
number_of StoreFault.Disk = 1
number_of (StoreFault.BadLog place) = 2
number_of (StoreFault.Full end) = 3
number_of StoreFault.SeqEnd = 4
number_of StoreFault.Authority = 5
number_of StoreFault.Repos = 6
number_of StoreFault.Memory = 7
number_of StoreFault.Clock = 8

-- the cause of a fault of the parts that are handed in; the others are told of apart, and running
-- out of memory has none
abbrev pub IsCause : Type 0 → Type 0 → Type 0 → Type 0 → StoreFault → Type 0
IsCause ends spent repos clock StoreFault.SeqEnd = ends
IsCause ends spent repos clock StoreFault.Authority = spent
IsCause ends spent repos clock StoreFault.Repos = repos
IsCause ends spent repos clock StoreFault.Clock = clock
IsCause ends spent repos clock fault = ⊤

-- a count of faults rose, of the repositories or of the clock
abbrev pub IsRisen : Type 0 → Type 0 → StoreFault → Type 0
IsRisen repos clock fault = IsCause ⊤ ⊤ repos clock fault

-- or of the disk
abbrev pub IsRisenOf : Type 0 → Type 0 → Type 0 → StoreFault → Type 0
IsRisenOf disk repos clock StoreFault.Disk = disk
IsRisenOf disk repos clock fault = IsCause ⊤ ⊤ repos clock fault

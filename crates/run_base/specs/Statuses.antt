-- The numbers that the program ends with, and how a command ends by a fault of the store (own).
use Rattle.std.specs.Prelude.{ℕ}
use Rattle.relay_store.specs.declared.fault.StoreFault.{StoreFault}
use Rattle.run_base.specs.declared.status.Status.{Status}

abbrev pub code_of_status : Status → ℕ
code_of_status Status.Done = 0
code_of_status (Status.BadTape place) = 1
code_of_status Status.Usage = 2
code_of_status Status.ReadFault = 3
code_of_status Status.WriteFault = 4
code_of_status Status.Disk = 5
code_of_status Status.Authority = 6
code_of_status Status.Repos = 7
code_of_status Status.Feed = 8
code_of_status Status.Door = 9
code_of_status (Status.BadLog place) = 10
code_of_status (Status.Full end) = 11
code_of_status Status.SeqEnd = 12
code_of_status Status.TooLong = 13
code_of_status Status.Memory = 14
code_of_status (Status.Refused code) = 15
code_of_status Status.Clock = 17
code_of_status (Status.BadStream place) = 18
code_of_status Status.Wire = 19

-- for a fault of the store
abbrev pub status_of_fault : StoreFault → Status
status_of_fault StoreFault.Disk = Status.Disk
status_of_fault (StoreFault.BadLog place) = Status.BadLog place
status_of_fault (StoreFault.Full end) = Status.Full end
status_of_fault StoreFault.SeqEnd = Status.SeqEnd
status_of_fault StoreFault.Authority = Status.Authority
status_of_fault StoreFault.Repos = Status.Repos
status_of_fault StoreFault.Memory = Status.Memory
status_of_fault StoreFault.Clock = Status.Clock

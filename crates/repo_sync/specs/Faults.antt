-- What the faults of the layers below are called here, and the numbers of faults.
use Rattle.std.specs.Prelude.{ℕ, Option, Some, None}
use Rattle.mst_whole.specs.declared.walking.WalkFault.{WalkFault}
use Rattle.repo_sync.specs.declared.fault.RepoFault.{RepoFault}

-- a missing block of the tree, or a bad one
abbrev pub of_walk : WalkFault → RepoFault
of_walk (WalkFault.NoBlock c) = RepoFault.NotWhole c
of_walk (WalkFault.BadNode c) = RepoFault.BadNode c
of_walk WalkFault.Memory = RepoFault.Memory

-- what is wrong with the repository: nothing where memory ran out or a read failed
abbrev pub cause_of : RepoFault → Option RepoFault
cause_of RepoFault.Memory = None
cause_of RepoFault.Failed = None
cause_of fault = Some fault

-- the number that rows and reports give
abbrev pub fault_number : RepoFault → ℕ
fault_number RepoFault.BadCar = 1
fault_number RepoFault.NoCommit = 2
fault_number RepoFault.BadCommit = 3
fault_number RepoFault.OtherDid = 4
fault_number (RepoFault.Lagging rev) = 5
fault_number (RepoFault.NotWhole c) = 6
fault_number (RepoFault.BadNode c) = 7
fault_number RepoFault.Memory = 8
fault_number RepoFault.TooLong = 9
fault_number RepoFault.BadSignature = 10
fault_number RepoFault.Failed = 11

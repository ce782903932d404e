-- What a failed opening says.
use Rattle.std.specs.Prelude.{◌≡◌, IfSome, Option, Some, None}
use Rattle.at_car.specs.declared.fault.CarFault.{CarFault}
use Rattle.at_commit.specs.declared.fault.CommitFault.{CommitFault}
use Rattle.at_event.specs.declared.refusal.Refusal.{Refusal}
use Rattle.event_checks.specs.declared.fault.OpenFault.{OpenFault}

-- the refusal, unless memory ran out
abbrev pub refusal_of : OpenFault → Option Refusal
refusal_of (OpenFault.Refused refusal) = Some refusal
refusal_of OpenFault.Memory = None

-- a refusal that is told was shown
abbrev pub IsShown : Option Refusal → OpenFault → Type 0
IsShown shown fault = IfSome (refusal_of fault) (λ refusal. shown ≡ Some refusal)

-- why a CAR doesn't read, as a refusal
abbrev pub car_told : CarFault → OpenFault
car_told CarFault.Header = OpenFault.Refused Refusal.BadCar
car_told (CarFault.Section place) = OpenFault.Refused Refusal.BadCar
car_told (CarFault.CidForm place) = OpenFault.Refused Refusal.BadCar
car_told (CarFault.WrongDigest place) = OpenFault.Refused Refusal.WrongDigest
car_told CarFault.Memory = OpenFault.Memory

-- why a block is no commit object, as a refusal
abbrev pub commit_told : CommitFault → OpenFault
commit_told CommitFault.Form = OpenFault.Refused Refusal.BadCommit
commit_told CommitFault.Version = OpenFault.Refused Refusal.BadCommit
commit_told CommitFault.TooLong = OpenFault.Refused Refusal.BadCommit
commit_told CommitFault.Memory = OpenFault.Memory

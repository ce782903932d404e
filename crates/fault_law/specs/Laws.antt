-- What holds of all faults: each is read exactly where its definition gives it.
use Rattle.std.specs.Prelude.{◌≡◌, ◌≢◌, ◌↔◌, ◌⊎◌, ℕ, List, Err}
use Rattle.at_cid.specs.Link.{IsBytes}
use Rattle.at_cbor.specs.declared.fault.Cause.{Cause}
use Rattle.at_cbor.specs.Item.{Item}
use Rattle.at_cbor.specs.Decoding.{decoded}
use Rattle.at_cbor.specs.Faults.{IsFaulty}
use Rattle.at_cbor.specs.Laws.{IsFront}
use Rattle.at_car.specs.declared.fault.CarFault.{CarFault}
use Rattle.at_car.specs.Blocks.{BlockMap}
use Rattle.at_car.specs.Car.{car_of}
use Rattle.at_car.specs.Faults.{IsFault}
use Rattle.at_car.specs.Form.{IsCarOf}

-- Bytes are read as a fault exactly where all in front of its place keeps the rules and what stands
-- there breaks this one.
abbrev pub CborFaultsAreExact : Type 0
CborFaultsAreExact = (bytes : List ℕ) (cause : Cause) (place : ℕ) → IsBytes bytes
    → (decoded bytes ≡ Err (cause, place)) ↔ IsFaulty bytes cause place

-- an item's encoding stands in front
abbrev pub HasItem : List ℕ → Type 0
HasItem bytes = (i : Item) × (n : ℕ) × IsFront bytes i n

abbrev pub HasFault : List ℕ → Type 0
HasFault bytes = (cause : Cause) × (place : ℕ) × IsFaulty bytes cause place

abbrev pub HasOneFault : List ℕ → Type 0
HasOneFault bytes = (cause other : Cause) (place elsewhere : ℕ) → IsFaulty bytes cause place
    → IsFaulty bytes other elsewhere → (cause ≡ other) × (place ≡ elsewhere)

-- Bytes have an item in front or a fault, not both, and no two faults.
abbrev pub CborHasOneAnswer : Type 0
CborHasOneAnswer = (bytes : List ℕ) → IsBytes bytes
    → (HasItem bytes ⊎ HasFault bytes) × (HasItem bytes → HasFault bytes → ⊥) × HasOneFault bytes

-- The fault is one of the bytes: they have no header, or the first faulty section breaks the rule
-- that it names.
abbrev pub IsFaultOf : CarFault → List ℕ → Type 0
IsFaultOf fault bytes = (fault ≢ CarFault.Memory) × IsFault fault bytes

-- Bytes are read as a fault of CARs exactly where it is one of them. The running out of memory is
-- none.
abbrev pub CarFaultsAreExact : Type 0
CarFaultsAreExact = (bytes : List ℕ) (fault : CarFault) → IsBytes bytes
    → (car_of bytes ≡ Err fault) ↔ IsFaultOf fault bytes

-- a header with some roots and sections with some blocks, to the end
abbrev pub IsSomeCar : List ℕ → Type 0
IsSomeCar bytes = (car : List (List ℕ) × BlockMap) × IsCarOf bytes car

abbrev pub HasCarFault : List ℕ → Type 0
HasCarFault bytes = (fault : CarFault) × IsFaultOf fault bytes

abbrev pub HasOneCarFault : List ℕ → Type 0
HasOneCarFault bytes = (fault other : CarFault)
    → IsFaultOf fault bytes → IsFaultOf other bytes → fault ≡ other

-- Bytes are a CAR or have a fault, not both, and no two faults.
abbrev pub CarHasOneAnswer : Type 0
CarHasOneAnswer = (bytes : List ℕ) → IsBytes bytes → (IsSomeCar bytes ⊎ HasCarFault bytes)
    × (IsSomeCar bytes → HasCarFault bytes → ⊥) × HasOneCarFault bytes

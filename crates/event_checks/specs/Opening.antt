-- What the blocks of an event hold, and what they show: a CAR, its first root, and the commit
-- object under it.
use Rattle.std.specs.Prelude.{◌≡◌, ℕ, List, [], ◌∷◌, ◌++◌, Bool, true, false, not, is_some, Option, Some, None, Result, Ok, Err}
use Rattle.std.specs.Str.{bytes_eq}
use Rattle.at_car.specs.Blocks.{BlockMap}
use Rattle.at_car.specs.Sifting.{block_at}
use Rattle.at_car.specs.Standing.{root_of}
use Rattle.at_car.specs.declared.fault.CarFault.{CarFault}
use Rattle.at_commit.specs.Commit.{commit_of, is_of}
use Rattle.at_commit.specs.declared.commit.Commit.{Commit}
use Rattle.at_commit.specs.declared.fault.CommitFault.{CommitFault}
use Rattle.at_event.specs.declared.refusal.Refusal.{Refusal}
use Rattle.event_checks.specs.Lines.{RefusalLine}

-- the roots and the blocks of a CAR, or its first fault
abbrev pub CarResult : Type 0
CarResult = Result (List (List ℕ) × BlockMap) CarFault

-- the first fault is one of the form, and none of a digest
abbrev pub is_malformed : CarResult → Bool
is_malformed (Err CarFault.Header) = true
is_malformed (Err (CarFault.Section place)) = true
is_malformed (Err (CarFault.CidForm place)) = true
is_malformed other = false

-- the first fault is a digest that isn't the block's
abbrev pub has_wrong_digest : CarResult → Bool
has_wrong_digest (Err (CarFault.WrongDigest place)) = true
has_wrong_digest other = false

-- the first root
abbrev pub root_in : CarResult → Option (List ℕ)
root_in (Ok car) = root_of car.0
root_in (Err fault) = None

-- a root is the link that is stated, where one is
abbrev pub is_stated : Option (List ℕ) → List ℕ → Bool
is_stated None root = true
is_stated (Some link) root = bytes_eq root link

-- there is a first root, as it is stated
abbrev pub is_rooted : Option (List ℕ) → Option (List ℕ) → Bool
is_rooted stated None = false
is_rooted stated (Some root) = is_stated stated root

-- the block under the first root
abbrev pub block_in : CarResult → Option (List ℕ)
block_in (Ok car) = block_at (root_of car.0) car.1
block_in (Err fault) = None

-- the commit object that a block is
abbrev pub read_object : Result Commit CommitFault → Option Commit
read_object (Ok commit) = Some commit
read_object (Err fault) = None

abbrev pub object_in_block : Option (List ℕ) → Option Commit
object_in_block None = None
object_in_block (Some block) = read_object (commit_of block)

-- the commit object under the first root
abbrev pub object_in : CarResult → Option Commit
object_in car = object_in_block (block_in car)

-- there is a commit object, of this account and this revision
abbrev pub is_commit_of : List ℕ → ℕ → Option Commit → Bool
is_commit_of did rev None = false
is_commit_of did rev (Some commit) = is_of did rev commit

-- what a CAR shows of its form
abbrev pub form_lines : CarResult → List RefusalLine
form_lines car = (Refusal.BadCar, is_malformed car) ∷ (Refusal.WrongDigest, has_wrong_digest car)
    ∷ []

-- what it shows of its commit, whose link may be stated, and whose account and revision are
abbrev pub object_lines : CarResult → Option (List ℕ) → List ℕ → ℕ → List RefusalLine
object_lines car stated did rev =
    (Refusal.WrongRoot, not (is_rooted stated (root_in car)))
    ∷ (Refusal.NoCommit, not (is_some (block_in car)))
    ∷ (Refusal.BadCommit, not (is_some (object_in car)))
    ∷ (Refusal.OtherCommit, not (is_commit_of did rev (object_in car)))
    ∷ []

abbrev pub car_lines : CarResult → Option (List ℕ) → List ℕ → ℕ → List RefusalLine
car_lines car stated did rev = form_lines car ++ object_lines car stated did rev

-- what was found: the first root, the block under it, and the commit object that this is
pub record IsFound (car : CarResult) (link block : List ℕ) (commit : Commit) : Type 0 where
  pub root_is : root_in car ≡ Some link
  pub block_is : block_in car ≡ Some block
  pub object_is : object_in car ≡ Some commit

-- the `data` of a commit object, where there is one
abbrev pub data_in : Option Commit → Option (List ℕ)
data_in None = None
data_in (Some commit) = Some commit.data_root

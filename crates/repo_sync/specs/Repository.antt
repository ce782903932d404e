-- What the bytes of a repository come to: a CAR, the commit object under its first root, and the
-- tree under that one's `data`.
-- (Repository specification, version 3: "CAR File Serialization", "Commit Objects", "MST
-- Structure".)
use Rattle.std.specs.Prelude.{◌≡◌, ℕ, List, [], ◌∷◌, length, Bool, true, false, not, nat_lt, is_some, Option, Some, None, Result, Ok, Err}
use Rattle.std.specs.FinMap as map
use Rattle.std.specs.Str.{bytes_eq}
use Rattle.sha2.specs.Sha256.{sha256}
use Rattle.at_car.specs.Blocks.{BlockMap}
use Rattle.at_car.specs.Car.{car_of}
use Rattle.at_car.specs.Standing.{root_of}
use Rattle.at_commit.specs.Commit.{commit_of}
use Rattle.at_commit.specs.declared.commit.Commit.{Commit}
use Rattle.event_checks.specs.Lines.{first_of}
use Rattle.event_checks.specs.Opening.{CarResult, block_in, object_in_block}
use Rattle.mst_whole.specs.Walks.{HasKeys, IsWalkFault}
use Rattle.mst_whole.specs.declared.walking.WalkFault.{WalkFault}
use Rattle.repo_sync.specs.declared.fault.RepoFault.{RepoFault}
use Rattle.repo_sync.specs.declared.found.Found.{Found}
use Rattle.repo_sync.specs.declared.limits.TheConstants.{MOST_REPOSITORY_BYTES}

abbrev pub is_read : CarResult → Bool
is_read (Ok car) = true
is_read (Err fault) = false

-- the commit object is the account's
abbrev pub is_of_account : List ℕ → Option Commit → Bool
is_of_account did None = false
is_of_account did (Some commit) = bytes_eq commit.did did

abbrev pub rev_in : Option Commit → ℕ
rev_in None = 0
rev_in (Some commit) = commit.rev

-- the revision is below the least that is asked for
abbrev pub lags : Option ℕ → ℕ → Bool
lags None rev = false
lags (Some least) rev = nat_lt rev least

-- a fault, and whether its condition applies
abbrev pub FaultLine : Type 0
FaultLine = RepoFault × Bool

-- what the block under the first root shows
abbrev pub commit_lines : List ℕ → Option ℕ → Option (List ℕ) → List FaultLine
commit_lines did least block =
    (RepoFault.NoCommit, not (is_some block))
    ∷ (RepoFault.BadCommit, not (is_some (object_in_block block)))
    ∷ (RepoFault.OtherDid, not (is_of_account did (object_in_block block)))
    ∷ (
      RepoFault.Lagging (rev_in (object_in_block block)),
      lags least
          (rev_in (object_in_block block)),
    )
    ∷ []

-- what the bytes show before the tree is looked at, in order
abbrev pub lines : List ℕ → Option ℕ → List ℕ → List FaultLine
lines did least bytes =
    (RepoFault.TooLong, nat_lt MOST_REPOSITORY_BYTES (length bytes))
    ∷ (RepoFault.BadCar, not (is_read (car_of bytes)))
    ∷ commit_lines did least (block_in (car_of bytes))

-- the bytes hold a commit object under their first root
pub record HoldsRepository (bytes : List ℕ) : Type 0 where
  pub roots : List (List ℕ)
  pub blocks : BlockMap
  pub link : List ℕ
  pub block : List ℕ
  pub commit : Commit
  pub car : car_of bytes ≡ Ok (roots, blocks)
  pub root : root_of roots ≡ Some link
  pub there : map.get blocks link ≡ Some block
  pub object : commit_of block ≡ Ok commit

-- what is handed on of a commit object and its block, with so many records
abbrev pub found_of : List ℕ → List ℕ → Commit → ℕ → Found
found_of link block commit records = record {
  head = record { rev = commit.rev; data_root = commit.data_root; commit = link };
  digest = sha256 commit.unsigned;
  sig = commit.sig;
  block = block;
  records = records;
}

-- nothing is wrong: the tree under the commit object is whole, and this was found
pub record IsWhole (did : List ℕ) (least : Option ℕ) (bytes : List ℕ) (found : Found) : Type 0 where
  pub shown : first_of (lines did least bytes) ≡ None
  pub holds : HoldsRepository bytes
  pub found_is : found ≡ found_of holds.link holds.block holds.commit found.records
  pub tree : HasKeys holds.blocks holds.commit.data_root found.records

-- the tree under the commit object alone is at fault, and this is its first fault
pub record IsTorn (did : List ℕ) (least : Option ℕ) (bytes : List ℕ)
    (fault : WalkFault) : Type 0 where
  pub shown : first_of (lines did least bytes) ≡ None
  pub holds : HoldsRepository bytes
  pub tree : IsWalkFault holds.blocks holds.commit.data_root fault

-- what the bytes of a repository come to: the first fault that applies, or what was found
abbrev pub IsAnswer : List ℕ → Option ℕ → List ℕ → Result Found RepoFault → Type 0
IsAnswer did least bytes (Ok found) = IsWhole did least bytes found
IsAnswer did least bytes (Err (RepoFault.NotWhole c)) = IsTorn did least bytes (WalkFault.NoBlock c)
IsAnswer did least bytes (Err (RepoFault.BadNode c)) = IsTorn did least bytes (WalkFault.BadNode c)
IsAnswer did least bytes (Err fault) = first_of (lines did least bytes) ≡ Some fault

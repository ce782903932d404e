-- What a scan of a repository comes to.
-- (What a check answers is said without it.)
use Rattle.std.specs.Prelude.{◌≡◌, ⊤, ℕ, ◌≤◌, ◌<◌, List, length, Option, Some, None, Result, Ok, Err}
use Rattle.at_car.specs.Blocks.{BlockMap}
use Rattle.at_car.specs.Car.{car_of}
use Rattle.at_car.specs.Finishing.{IsKeptOf}
use Rattle.at_car.specs.Standing.{root_of}
use Rattle.at_car.specs.declared.fault.CarFault.{CarFault}
use Rattle.at_car.specs.declared.scan.Kept.{Kept}
use Rattle.at_commit.specs.Commit.{commit_of}
use Rattle.at_commit.specs.declared.commit.Commit.{Commit}
use Rattle.mst_whole.specs.Walks.{is_node_block, HasKeys, IsWalkFault}
use Rattle.mst_whole.specs.declared.walking.WalkFault.{WalkFault}
use Rattle.event_checks.specs.Lines.{first_of}
use Rattle.repo_sync.specs.Repository.{commit_lines, found_of}
use Rattle.repo_sync.specs.declared.fault.RepoFault.{RepoFault}
use Rattle.repo_sync.specs.declared.found.Found.{Found}
use Rattle.repo_sync.specs.declared.limits.TheConstants.{MOST_REPOSITORY_BYTES}

-- memory ran out or a read failed
abbrev pub IsQuiet : RepoFault → Type 0
IsQuiet RepoFault.Memory = ⊤
IsQuiet RepoFault.Failed = ⊤
IsQuiet fault = ⊥

-- the bytes are a CAR of which this is kept, or none
abbrev pub ScansAs : Result Kept RepoFault → List ℕ → Type 0
ScansAs (Ok kept) bytes = (blocks : BlockMap) × (car_of bytes ≡ Ok (kept.roots, blocks))
    × IsKeptOf is_node_block blocks kept
ScansAs (Err RepoFault.BadCar) bytes = (fault : CarFault) × (car_of bytes ≡ Err fault)
ScansAs (Err RepoFault.Memory) bytes = ⊤
ScansAs result bytes = ⊥

-- the same of at most so many bytes
abbrev pub Scans : Result Kept RepoFault → List ℕ → Type 0
Scans (Ok kept) bytes = (length bytes ≤ MOST_REPOSITORY_BYTES) × ScansAs (Ok kept) bytes
Scans (Err RepoFault.BadCar) bytes = (length bytes ≤ MOST_REPOSITORY_BYTES)
    × ScansAs (Err RepoFault.BadCar) bytes
Scans (Err RepoFault.TooLong) bytes = MOST_REPOSITORY_BYTES < length bytes
Scans (Err RepoFault.Memory) bytes = ⊤
Scans (Err RepoFault.Failed) bytes = ⊤
Scans result bytes = ⊥

-- this fault was shown, unless memory ran out
abbrev pub IsShown : Option RepoFault → RepoFault → Type 0
IsShown shown RepoFault.Memory = ⊤
IsShown shown fault = shown ≡ Some fault

-- the block is no commit object, unless memory ran out
abbrev pub IsNoObject : Option Commit → RepoFault → Type 0
IsNoObject object RepoFault.BadCommit = object ≡ None
IsNoObject object RepoFault.Memory = ⊤
IsNoObject object fault = ⊥

-- the first fault of the tree at a root, unless memory ran out
abbrev pub IsTornAt : BlockMap → List ℕ → RepoFault → Type 0
IsTornAt blocks root (RepoFault.NotWhole c) = IsWalkFault blocks root (WalkFault.NoBlock c)
IsTornAt blocks root (RepoFault.BadNode c) = IsWalkFault blocks root (WalkFault.BadNode c)
IsTornAt blocks root RepoFault.Memory = ⊤
IsTornAt blocks root fault = ⊥

-- what is kept of the blocks holds a commit object to which no line applies, under the first root
pub record HoldsKept (did : List ℕ) (least : Option ℕ) (kept : Kept) : Type 0 where
  pub link : List ℕ
  pub block : List ℕ
  pub commit : Commit
  pub root : root_of kept.roots ≡ Some link
  pub first : kept.first ≡ Some block
  pub object : commit_of block ≡ Ok commit
  pub shown : first_of (commit_lines did least (Some block)) ≡ None

-- what is kept of these blocks shows
abbrev pub JudgesAs : List ℕ → Option ℕ → BlockMap → Kept → Result Found RepoFault → Type 0
JudgesAs did least blocks kept (Ok found) = (held : HoldsKept did least kept)
    × (found ≡ found_of held.link held.block held.commit found.records)
    × HasKeys blocks held.commit.data_root found.records
JudgesAs did least blocks kept (Err (RepoFault.NotWhole c)) = (held : HoldsKept did least kept)
    × IsWalkFault blocks held.commit.data_root (WalkFault.NoBlock c)
JudgesAs did least blocks kept (Err (RepoFault.BadNode c)) = (held : HoldsKept did least kept)
    × IsWalkFault blocks held.commit.data_root (WalkFault.BadNode c)
JudgesAs did least blocks kept (Err fault) =
    IsShown (first_of (commit_lines did least kept.first)) fault

-- The bytes of a repository come to an answer.
use Rattle.std.proofs.Common.{◌≡◌, ℕ, Bool, true, false, List, Option, Some, None, Result, Ok, Err, refl, subst}
use Rattle.std.specs.Prelude.{not, is_some}
use Rattle.std.specs.FinMap as map
use Rattle.at_cid.specs.Link.{IsBytes}
use Rattle.at_car.specs.Blocks.{AreLinked, BlockMap}
use Rattle.at_car.specs.Car.{car_of}
use Rattle.at_car.specs.Sifting.{block_at}
use Rattle.at_car.specs.Standing.{root_of}
use Rattle.at_commit.specs.Commit.{commit_of}
use Rattle.at_commit.specs.declared.commit.Commit.{Commit}
use Rattle.at_commit.specs.declared.fault.CommitFault.{CommitFault}
use Rattle.at_commit.proofs.Nodes.{data_is_node}
use Rattle.event_checks.proofs.Firsts.{AllTell, all_unmet, first_tells}
use Rattle.event_checks.specs.Lines.{first_of}
use Rattle.event_checks.specs.Opening.{CarResult, block_in, object_in_block, read_object}
use Rattle.mst_whole.specs.Walks.{IsWalked}
use Rattle.mst_whole.specs.declared.walking.WalkFault.{WalkFault}
use Rattle.repo_sync.specs.Repository.{FaultLine, found_of, is_read, lines, HoldsRepository, IsAnswer}
use Rattle.repo_sync.specs.declared.fault.RepoFault.{RepoFault}
use Rattle.repo_sync.specs.declared.found.Found.{Found}
use Rattle.repo_sync.proofs.Linked.{car_linked, walk_ends}

-- the fault isn't one of the tree
abbrev is_aside : RepoFault → Bool
is_aside (RepoFault.NotWhole c) = false
is_aside (RepoFault.BadNode c) = false
is_aside fault = true

first_aside : (ls : List FaultLine) (fault : RepoFault) → AllTell (λ told. is_aside told ≡ true) ls → first_of ls ≡ Some fault → is_aside fault ≡ true
first_aside ls fault are e = first_tells (λ told. is_aside told ≡ true) ls fault are e

-- a line that applies is told
at_line : (did : List ℕ) (least : Option ℕ) (bytes : List ℕ) (fault : RepoFault) → is_aside fault ≡ true → first_of (lines did least bytes) ≡ Some fault → IsAnswer did least bytes (Err fault)
at_line did least bytes (RepoFault.NotWhole c) aside e = absurd (cc)
at_line did least bytes (RepoFault.BadNode c) aside e = absurd (cc)
at_line did least bytes RepoFault.BadCar aside e = e
at_line did least bytes RepoFault.NoCommit aside e = e
at_line did least bytes RepoFault.BadCommit aside e = e
at_line did least bytes RepoFault.OtherDid aside e = e
at_line did least bytes (RepoFault.Lagging rev) aside e = e
at_line did least bytes RepoFault.Memory aside e = e
at_line did least bytes RepoFault.TooLong aside e = e
at_line did least bytes RepoFault.BadSignature aside e = e
at_line did least bytes RepoFault.Failed aside e = e

read_car : (c : CarResult) → not (is_read c) ≡ false → (roots : List (List ℕ)) × (blocks : BlockMap) × (c ≡ Ok (roots, blocks))
read_car (Ok car) e = (car.0, car.1, refl)
read_car (Err fault) e = absurd (cc)

some_of : (o : Option (List ℕ)) → not (is_some o) ≡ false → (b : List ℕ) × (o ≡ Some b)
some_of None e = absurd (cc)
some_of (Some b) e = (b, refl)

root_there : (root : Option (List ℕ)) (blocks : BlockMap) (b : List ℕ) → block_at root blocks ≡ Some b → (link : List ℕ) × (root ≡ Some link) × (map.get blocks link ≡ Some b)
root_there None blocks b e = absurd (cc)
root_there (Some link) blocks b e = (link, refl, e)

object_there : (r : Result Commit CommitFault) → not (is_some (read_object r)) ≡ false → (commit : Commit) × (r ≡ Ok commit)
object_there (Ok commit) e = (commit, refl)
object_there (Err fault) e = absurd (cc)

module _ (did : List ℕ) (least : Option ℕ) (bytes : List ℕ) (are : IsBytes bytes) where
  holds : first_of (lines did least bytes) ≡ None → (h : HoldsRepository bytes) × AreLinked h.blocks
  holds shown =
      let unmet = all_unmet (lines did least bytes) shown in
      let read = read_car (car_of bytes) unmet.1.0 in
      let B : CarResult → Type 0 = λ c. not (is_some (block_in c)) ≡ false in
      let block = some_of (block_at (root_of read.0) read.1) (subst B read.2 unmet.1.1.0) in
      let link = root_there (root_of read.0) read.1 block.0 block.1 in
      let O : CarResult → Type 0 = λ c. not (is_some (object_in_block (block_in c))) ≡ false in
      let P : Option (List ℕ) → Type 0 = λ b. not (is_some (object_in_block b)) ≡ false in
      let object = object_there (commit_of block.0) (subst P block.1 (subst O read.2 unmet.1.1.1.0)) in
      (record { roots = read.0; blocks = read.1; link = link.0; block = block.0; commit = object.0; car = read.2; root = link.1; there = link.2; object = object.1 }, car_linked bytes read.0 read.1 are read.2)

  ended : first_of (lines did least bytes) ≡ None → (h : HoldsRepository bytes) → AreLinked h.blocks → (w : Result ℕ WalkFault) → IsWalked h.blocks h.commit.data_root w → (answer : Result Found RepoFault) × IsAnswer did least bytes answer
  ended shown h linked (Ok n) w = (Ok (found_of h.link h.block h.commit n), record { shown = shown; holds = h; found_is = refl; tree = w })
  ended shown h linked (Err (WalkFault.NoBlock c)) w = (Err (RepoFault.NotWhole c), record { shown = shown; holds = h; tree = w })
  ended shown h linked (Err (WalkFault.BadNode c)) w = (Err (RepoFault.BadNode c), record { shown = shown; holds = h; tree = w })
  ended shown h linked (Err WalkFault.Memory) w = absurd w

  some_walked : first_of (lines did least bytes) ≡ None → (answer : Result Found RepoFault) × IsAnswer did least bytes answer
  some_walked shown =
      let h = holds shown in
      let walk = walk_ends h.0.blocks h.0.commit.data_root h.1 (data_is_node h.0.block h.0.commit (h.1 h.0.link h.0.block h.0.there).bytes h.0.object) in
      ended shown h.0 h.1 walk.0 walk.1

  some_told : (told : Option RepoFault) → first_of (lines did least bytes) ≡ told → (answer : Result Found RepoFault) × IsAnswer did least bytes answer
  some_told None e = some_walked e
  some_told (Some fault) e = (Err fault, at_line did least bytes fault (first_aside (lines did least bytes) fault (refl, (refl, (refl, (refl, (refl, (refl, tt)))))) e) e)

  pub some_answer : (answer : Result Found RepoFault) × IsAnswer did least bytes answer
  some_answer = some_told (first_of (lines did least bytes)) refl

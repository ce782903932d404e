-- The blocks of a CAR stand under links of them, and the tree under a commit is walked to one end.
use Rattle.std.proofs.Common.{◌≡◌, ◌+◌, ℕ, zero, suc, List, [], ◌∷◌, ◌++◌, length, Option, Some, None, Result, Ok, Err, refl, sym, subst, arith}
use Rattle.std.specs.FinMap as map
use Rattle.std.specs.FinMap.{FinMap}
use Rattle.at_cid.specs.Link.{IsBytes, IsNodeLink}
use Rattle.at_cid.specs.Order.{key_cmp}
use Rattle.at_car.specs.Blocks.{AreLinked, BlockMap}
use Rattle.at_car.specs.Car.{car_of}
use Rattle.at_car.specs.Form.{header_bytes, section_bytes, sections_bytes, AreSections}
use Rattle.at_car.specs.Sections.{Section}
use Rattle.at_car.specs.Varint.{varint}
use Rattle.at_car.proofs.Linked.{linked-empty, linked-insert}
use Rattle.at_car.proofs.Takes.{car_takes}
use Rattle.mst_whole.specs.Counting.{count, fault_at, told, walked}
use Rattle.mst_whole.specs.Walks.{IsWalked}
use Rattle.mst_whole.specs.declared.walking.WalkFault.{WalkFault}
use Rattle.mst_whole.proofs.Walked.{fault_given, keys_given}
use Rattle.mst_node.specs.Reading.{node_of}
use Rattle.mst_node.specs.TreeReading.{whole_of}

bytes_behind : (xs ys : List ℕ) → IsBytes (xs ++ ys) → IsBytes ys
bytes_behind [] ys h = h
bytes_behind (x ∷ xs) ys h = bytes_behind xs ys (λ i. h (suc i))

bytes_before : (xs ys : List ℕ) → IsBytes (xs ++ ys) → IsBytes xs
bytes_before [] ys h i = omega arith
bytes_before (x ∷ xs) ys h zero = h zero
bytes_before (x ∷ xs) ys h (suc i) = bytes_before xs ys (λ j. h (suc j)) i

sections_linked : (ss : List Section) → AreSections ss → IsBytes (sections_bytes ss) → AreLinked (map.from_entries ss)
sections_linked [] are bytes = linked-empty
sections_linked (s ∷ ss) are bytes =
    let front = bytes_before (section_bytes s) (sections_bytes ss) bytes in
    let body = bytes_behind (varint (36 + length s.1)) (s.0 ++ s.1) front in
    linked-insert (map.from_entries ss) s.0 s.1 (sections_linked ss are.1 (bytes_behind (section_bytes s) (sections_bytes ss) bytes))
    (record { link = record { link = are.0.link; bytes = bytes_before s.0 s.1 body }; bytes = bytes_behind s.0 s.1 body; digest = are.0.digest })

pub car_linked : (bytes : List ℕ) (roots : List (List ℕ)) (blocks : BlockMap) → IsBytes bytes → car_of bytes ≡ Ok (roots, blocks) → AreLinked blocks
car_linked bytes roots blocks are car =
    let taken = car_takes bytes (roots, blocks) are car in
    subst AreLinked (sym taken.3) (sections_linked taken.1 taken.2.sections_form (bytes_behind (header_bytes taken.0) (sections_bytes taken.1) (subst IsBytes taken.2.encoded are)))

never_told : (B : FinMap key_cmp (List ℕ)) (r : Result ℕ (List ℕ)) → told B r ≡ Err WalkFault.Memory → ⊥
never_told B (Ok n) e = cc
never_told B (Err c) e = go (map.get B c) e
  where
    go : (o : Option (List ℕ)) → ◌≡◌ {A = Result ℕ WalkFault} (Err (fault_at c o)) (Err WalkFault.Memory) → ⊥
    go None e = cc
    go (Some b) e = cc

-- a tree is walked to one end
pub walk_ends : (B : BlockMap) (r : List ℕ) → AreLinked B → IsNodeLink r → (w : Result ℕ WalkFault) × IsWalked B r w
walk_ends B r linked kind = (walked B r, go (walked B r) refl)
  where
    go : (w : Result ℕ WalkFault) → walked B r ≡ w → IsWalked B r w
    go (Ok n) e = keys_given B r (Ok n) linked kind e
    go (Err (WalkFault.NoBlock c)) e = fault_given B r (Err (WalkFault.NoBlock c)) e
    go (Err (WalkFault.BadNode c)) e = fault_given B r (Err (WalkFault.BadNode c)) e
    go (Err WalkFault.Memory) e = absurd (never_told B (count (whole_of node_of B r)) e)

-- The bytes of a repository come to one answer at most.
use Rattle.std.proofs.Common.{◌≡◌, ℕ, List, [], Option, Some, None, Result, Ok, Err, ◌⊎◌, inl, inr, refl, sym, ap, ◌∙◌}
use Rattle.std.specs.Prelude.{IfOk, IfErr}
use Rattle.std.specs.FinMap as map
use Rattle.at_car.specs.Blocks.{BlockMap}
use Rattle.at_commit.specs.declared.commit.Commit.{Commit}
use Rattle.mst_whole.specs.Counting.{walked}
use Rattle.mst_whole.specs.Walks.{IsWalked}
use Rattle.mst_whole.specs.declared.walking.WalkFault.{WalkFault}
use Rattle.mst_whole.proofs.Walked.{answer_is}
use Rattle.event_checks.specs.Opening.{CarResult}
use Rattle.repo_sync.specs.Checks.{ChecksExactly, IsRefused}
use Rattle.repo_sync.specs.Faults.{of_walk}
use Rattle.event_checks.specs.Lines.{first_of}
use Rattle.repo_sync.specs.Repository.{found_of, lines, HoldsRepository, IsAnswer, IsWhole}
use Rattle.repo_sync.specs.declared.fault.RepoFault.{RepoFault}
use Rattle.repo_sync.specs.declared.found.Found.{Found}

-- what a walk comes to here
walked_as : List ℕ → List ℕ → Commit → Result ℕ WalkFault → Result Found RepoFault
walked_as link block commit (Ok records) = Ok (found_of link block commit records)
walked_as link block commit (Err fault) = Err (of_walk fault)

-- a line is told
record IsTold (told : Option RepoFault) (answer : Result Found RepoFault) : Type 0 where
  fault : RepoFault
  told_is : told ≡ Some fault
  answer_is_it : answer ≡ Err fault

-- no line is told, and the tree was walked
record IsTree (told : Option RepoFault) (bytes : List ℕ) (answer : Result Found RepoFault) : Type 0 where
  shown : told ≡ None
  holds : HoldsRepository bytes
  walk : Result ℕ WalkFault
  walks : IsWalked holds.blocks holds.commit.data_root walk
  answer_is_it : answer ≡ walked_as holds.link holds.block holds.commit walk

sorted : (did : List ℕ) (least : Option ℕ) (bytes : List ℕ) (answer : Result Found RepoFault) → IsAnswer did least bytes answer → IsTold (first_of (lines did least bytes)) answer ⊎ IsTree (first_of (lines did least bytes)) bytes answer
unfolding walked_as
sorted did least bytes (Ok found) is = inr (record { shown = is.shown; holds = is.holds; walk = Ok found.records; walks = is.tree; answer_is_it = ap (λ (f : Found). Ok f) is.found_is })
sorted did least bytes (Err (RepoFault.NotWhole c)) is = inr (record { shown = is.shown; holds = is.holds; walk = Err (WalkFault.NoBlock c); walks = is.tree; answer_is_it = refl })
sorted did least bytes (Err (RepoFault.BadNode c)) is = inr (record { shown = is.shown; holds = is.holds; walk = Err (WalkFault.BadNode c); walks = is.tree; answer_is_it = refl })
sorted did least bytes (Err RepoFault.BadCar) is = inl (record { fault = RepoFault.BadCar; told_is = is; answer_is_it = refl })
sorted did least bytes (Err RepoFault.NoCommit) is = inl (record { fault = RepoFault.NoCommit; told_is = is; answer_is_it = refl })
sorted did least bytes (Err RepoFault.BadCommit) is = inl (record { fault = RepoFault.BadCommit; told_is = is; answer_is_it = refl })
sorted did least bytes (Err RepoFault.OtherDid) is = inl (record { fault = RepoFault.OtherDid; told_is = is; answer_is_it = refl })
sorted did least bytes (Err (RepoFault.Lagging rev)) is = inl (record { fault = RepoFault.Lagging rev; told_is = is; answer_is_it = refl })
sorted did least bytes (Err RepoFault.Memory) is = inl (record { fault = RepoFault.Memory; told_is = is; answer_is_it = refl })
sorted did least bytes (Err RepoFault.TooLong) is = inl (record { fault = RepoFault.TooLong; told_is = is; answer_is_it = refl })
sorted did least bytes (Err RepoFault.BadSignature) is = inl (record { fault = RepoFault.BadSignature; told_is = is; answer_is_it = refl })
sorted did least bytes (Err RepoFault.Failed) is = inl (record { fault = RepoFault.Failed; told_is = is; answer_is_it = refl })

both_told : (told : Option RepoFault) (one other : Result Found RepoFault) → IsTold told one → IsTold told other → one ≡ other
both_told told one other p q =
    let same : p.fault ≡ q.fault = cc (p.told_is, q.told_is) in
    p.answer_is_it ∙ ap (λ (f : RepoFault). Err f) same ∙ sym q.answer_is_it

told_and_not : (told : Option RepoFault) (fault : RepoFault) → told ≡ Some fault → told ≡ None → ⊥
told_and_not told fault some none = cc

-- what a CAR's roots and blocks are, and nothing where there is none
abbrev roots_in : CarResult → List (List ℕ)
roots_in (Ok car) = car.0
roots_in (Err fault) = []

abbrev blocks_in : CarResult → BlockMap
blocks_in (Ok car) = car.1
blocks_in (Err fault) = map.empty

-- the bytes hold one commit object
module _ (bytes : List ℕ) (h k : HoldsRepository bytes) where
  same_roots : h.roots ≡ k.roots
  same_roots = ap roots_in (sym h.car ∙ k.car)

  same_blocks : h.blocks ≡ k.blocks
  same_blocks = ap blocks_in (sym h.car ∙ k.car)

  same_link : h.link ≡ k.link
  same_link = let roots = same_roots in cc (roots, h.root, k.root)

  same_block : h.block ≡ k.block
  same_block = let blocks = same_blocks in let link = same_link in cc (blocks, link, h.there, k.there)

  same_commit : h.commit ≡ k.commit
  same_commit = let block = same_block in cc (block, h.object, k.object)

  one_walk : (w v : Result ℕ WalkFault) → IsWalked h.blocks h.commit.data_root w → IsWalked k.blocks k.commit.data_root v → w ≡ v
  one_walk w v p q =
      sym (answer_is h.blocks h.commit.data_root w p)
      ∙ ap (λ b. walked b h.commit.data_root) same_blocks
      ∙ ap (λ (c : Commit). walked k.blocks c.data_root) same_commit
      ∙ answer_is k.blocks k.commit.data_root v q

  one_walked : (w v : Result ℕ WalkFault) → IsWalked h.blocks h.commit.data_root w → IsWalked k.blocks k.commit.data_root v → walked_as h.link h.block h.commit w ≡ walked_as k.link k.block k.commit v
  one_walked w v p q =
      ap (λ l. walked_as l h.block h.commit w) same_link
      ∙ ap (λ b. walked_as k.link b h.commit w) same_block
      ∙ ap (λ c. walked_as k.link k.block c w) same_commit
      ∙ ap (λ x. walked_as k.link k.block k.commit x) (one_walk w v p q)

both_trees : (told : Option RepoFault) (bytes : List ℕ) (one other : Result Found RepoFault) → IsTree told bytes one → IsTree told bytes other → one ≡ other
both_trees told bytes one other p q = p.answer_is_it ∙ one_walked bytes p.holds q.holds p.walk q.walk p.walks q.walks ∙ sym q.answer_is_it

one_of : (told : Option RepoFault) (bytes : List ℕ) (one other : Result Found RepoFault) → IsTold told one ⊎ IsTree told bytes one → IsTold told other ⊎ IsTree told bytes other → one ≡ other
one_of told bytes one other (inl p) (inl q) = both_told told one other p q
one_of told bytes one other (inl p) (inr q) = absurd (told_and_not told p.fault p.told_is q.shown)
one_of told bytes one other (inr p) (inl q) = absurd (told_and_not told q.fault q.told_is p.shown)
one_of told bytes one other (inr p) (inr q) = both_trees told bytes one other p q

pub one_answer : (did : List ℕ) (least : Option ℕ) (bytes : List ℕ) (one other : Result Found RepoFault) → IsAnswer did least bytes one → IsAnswer did least bytes other → one ≡ other
one_answer did least bytes one other p q = one_of (first_of (lines did least bytes)) bytes one other (sorted did least bytes one p) (sorted did least bytes other q)

-- so an answer is exact
pub exactly : (did : List ℕ) (least : Option ℕ) (bytes : List ℕ) (result : Result Found RepoFault) → IfOk result (IsWhole did least bytes) → IfErr result (IsRefused did least bytes) → ChecksExactly did least bytes result
exactly did least bytes (Ok found) whole refused = λ answer is. one_answer did least bytes answer (Ok found) is whole
exactly did least bytes (Err RepoFault.Memory) whole refused = λ answer is. tt
exactly did least bytes (Err RepoFault.Failed) whole refused = λ answer is. tt
exactly did least bytes (Err RepoFault.BadCar) whole refused = λ answer is. one_answer did least bytes answer (Err RepoFault.BadCar) is refused
exactly did least bytes (Err RepoFault.NoCommit) whole refused = λ answer is. one_answer did least bytes answer (Err RepoFault.NoCommit) is refused
exactly did least bytes (Err RepoFault.BadCommit) whole refused = λ answer is. one_answer did least bytes answer (Err RepoFault.BadCommit) is refused
exactly did least bytes (Err RepoFault.OtherDid) whole refused = λ answer is. one_answer did least bytes answer (Err RepoFault.OtherDid) is refused
exactly did least bytes (Err (RepoFault.Lagging rev)) whole refused = λ answer is. one_answer did least bytes answer (Err (RepoFault.Lagging rev)) is refused
exactly did least bytes (Err (RepoFault.NotWhole c)) whole refused = λ answer is. one_answer did least bytes answer (Err (RepoFault.NotWhole c)) is refused
exactly did least bytes (Err (RepoFault.BadNode c)) whole refused = λ answer is. one_answer did least bytes answer (Err (RepoFault.BadNode c)) is refused
exactly did least bytes (Err RepoFault.TooLong) whole refused = λ answer is. one_answer did least bytes answer (Err RepoFault.TooLong) is refused
exactly did least bytes (Err RepoFault.BadSignature) whole refused = λ answer is. one_answer did least bytes answer (Err RepoFault.BadSignature) is refused

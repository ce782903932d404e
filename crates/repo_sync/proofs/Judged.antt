-- What is kept of a repository shows what its bytes come to.
use Rattle.std.proofs.Common.{◌≡◌, ◌<◌, ◌≤◌, ℕ, Bool, true, false, cond, ltb, List, length, Option, Some, None, Result, Ok, Err, refl, sym, ap, ◌∙◌, subst, arith}
use Rattle.std.specs.Prelude.{not, IfOk, IfErr, IsTrue}
use Rattle.std.proofs.lemmas.Bool.{ltb-true, ltb-false}
use Rattle.at_car.specs.Blocks.{BlockMap}
use Rattle.at_car.specs.Car.{car_of}
use Rattle.at_car.specs.Finishing.{IsKeptOf}
use Rattle.at_car.specs.Sifting.{block_at}
use Rattle.at_car.specs.Standing.{root_of}
use Rattle.at_car.specs.declared.scan.Kept.{Kept}
use Rattle.at_commit.specs.Commit.{commit_of}
use Rattle.at_commit.specs.declared.commit.Commit.{Commit}
use Rattle.mst_whole.specs.Walks.{is_node_block, HasKeys, IsWalkFault}
use Rattle.mst_whole.specs.declared.walking.WalkFault.{WalkFault}
use Rattle.event_checks.specs.Opening.{CarResult, block_in}
use Rattle.repo_sync.specs.Checks.{IsRefused}
use Rattle.repo_sync.specs.Faults.{of_walk}
use Rattle.event_checks.specs.Lines.{first_of}
use Rattle.repo_sync.specs.Repository.{commit_lines, found_of, is_read, lines, HoldsRepository, IsTorn, IsWhole}
use Rattle.repo_sync.specs.Scans.{HoldsKept, IsTornAt, JudgesAs, Scans}
use Rattle.repo_sync.specs.declared.fault.RepoFault.{RepoFault}
use Rattle.repo_sync.specs.declared.found.Found.{Found}
use Rattle.repo_sync.specs.declared.limits.TheConstants.{MOST_REPOSITORY_BYTES}

pub longer : (n : ℕ) → MOST_REPOSITORY_BYTES < n → ltb MOST_REPOSITORY_BYTES n ≡ true
longer n l = elim (ltb MOST_REPOSITORY_BYTES n) as (λ t. ltb MOST_REPOSITORY_BYTES n ≡ t → t ≡ true) [ true ↦ λ e. refl | false ↦ λ e. absurd (omega (arith, ltb-false MOST_REPOSITORY_BYTES n e, l)) ] refl

pub shorter : (n : ℕ) → n ≤ MOST_REPOSITORY_BYTES → ltb MOST_REPOSITORY_BYTES n ≡ false
shorter n l = elim (ltb MOST_REPOSITORY_BYTES n) as (λ t. ltb MOST_REPOSITORY_BYTES n ≡ t → t ≡ false) [ true ↦ λ e. absurd (omega (arith, ltb-true MOST_REPOSITORY_BYTES n e, l)) | false ↦ λ e. refl ] refl

-- what the lines tell, by whether the bytes are too long and what they read as
told_by : List ℕ → Option ℕ → Bool → CarResult → Option RepoFault
told_by did least long car = cond long (Some RepoFault.TooLong) (cond (not (is_read car)) (Some RepoFault.BadCar) (first_of (commit_lines did least (block_in car))))

module _ (did : List ℕ) (least : Option ℕ) (bytes : List ℕ) where
  told_long : MOST_REPOSITORY_BYTES < length bytes → first_of (lines did least bytes) ≡ Some RepoFault.TooLong
  unfolding told_by
  told_long long = ap (λ t. told_by did least t (car_of bytes)) (longer (length bytes) long)

  told_car : (car : CarResult) → length bytes ≤ MOST_REPOSITORY_BYTES → car_of bytes ≡ car → first_of (lines did least bytes) ≡ told_by did least false car
  unfolding told_by
  told_car car short is = ap (λ t. told_by did least t (car_of bytes)) (shorter (length bytes) short) ∙ ap (λ c. told_by did least false c) is

  module _ (kept : Kept) (blocks : BlockMap) (short : length bytes ≤ MOST_REPOSITORY_BYTES) (car : car_of bytes ≡ Ok (kept.roots, blocks)) (of : IsKeptOf is_node_block blocks kept) where
    told_kept : first_of (lines did least bytes) ≡ first_of (commit_lines did least kept.first)
    unfolding told_by
    told_kept = told_car (Ok (kept.roots, blocks)) short car ∙ ap (λ b. first_of (commit_lines did least b)) (sym of.first_is)

    none_told : (held : HoldsKept did least kept) → first_of (lines did least bytes) ≡ None
    none_told held = told_kept ∙ ap (λ b. first_of (commit_lines did least b)) held.first ∙ held.shown

    abbrev holds_of : HoldsKept did least kept → HoldsRepository bytes
    holds_of held = record {
      roots = kept.roots;
      blocks = blocks;
      link = held.link;
      block = held.block;
      commit = held.commit;
      car = car;
      root = held.root;
      there = sym (ap (λ r. block_at r blocks) held.root) ∙ sym of.first_is ∙ held.first;
      object = held.object;
    }

    torn_of : (held : HoldsKept did least kept) (fault : WalkFault) → IsWalkFault blocks held.commit.data_root fault → IsTorn did least bytes fault
    torn_of held fault is = record { shown = none_told held; holds = holds_of held; tree = is }

    pub whole_kept : (result : Result Found RepoFault) → JudgesAs did least blocks kept result → IfOk result (IsWhole did least bytes)
    whole_kept (Ok found) j = record { shown = none_told j.0; holds = holds_of j.0; found_is = j.1; tree = j.2 }
    whole_kept (Err fault) j = tt

    pub refused_kept : (result : Result Found RepoFault) → JudgesAs did least blocks kept result → IfErr result (IsRefused did least bytes)
    refused_kept (Ok found) j = tt
    refused_kept (Err RepoFault.Memory) j = tt
    refused_kept (Err RepoFault.Failed) j = tt
    refused_kept (Err (RepoFault.NotWhole c)) j = torn_of j.0 (WalkFault.NoBlock c) j.1
    refused_kept (Err (RepoFault.BadNode c)) j = torn_of j.0 (WalkFault.BadNode c) j.1
    refused_kept (Err RepoFault.BadCar) j = told_kept ∙ j
    refused_kept (Err RepoFault.NoCommit) j = told_kept ∙ j
    refused_kept (Err RepoFault.BadCommit) j = told_kept ∙ j
    refused_kept (Err RepoFault.OtherDid) j = told_kept ∙ j
    refused_kept (Err (RepoFault.Lagging rev)) j = told_kept ∙ j
    refused_kept (Err RepoFault.TooLong) j = told_kept ∙ j
    refused_kept (Err RepoFault.BadSignature) j = told_kept ∙ j

  -- what is kept is judged
  pub whole_judged : (kept : Kept) (result : Result Found RepoFault) → Scans (Ok kept) bytes → ((blocks : BlockMap) → IsKeptOf is_node_block blocks kept → JudgesAs did least blocks kept result) → IfOk result (IsWhole did least bytes)
  whole_judged kept result s judges = whole_kept kept s.1.0 s.0 s.1.1 s.1.2 result (judges s.1.0 s.1.2)

  pub refused_judged : (kept : Kept) (result : Result Found RepoFault) → Scans (Ok kept) bytes → ((blocks : BlockMap) → IsKeptOf is_node_block blocks kept → JudgesAs did least blocks kept result) → IfErr result (IsRefused did least bytes)
  refused_judged kept result s judges = refused_kept kept s.1.0 s.0 s.1.1 s.1.2 result (judges s.1.0 s.1.2)

  -- what ended the scan
  pub refused_scan : (fault : RepoFault) → Scans (Err fault) bytes → IsRefused did least bytes fault
  unfolding told_by
  refused_scan RepoFault.BadCar s = told_car (Err s.1.0) s.0 s.1.1
  refused_scan RepoFault.TooLong s = told_long s
  refused_scan RepoFault.Memory s = tt
  refused_scan RepoFault.Failed s = tt
  refused_scan RepoFault.NoCommit s = absurd s
  refused_scan RepoFault.BadCommit s = absurd s
  refused_scan RepoFault.OtherDid s = absurd s
  refused_scan (RepoFault.Lagging rev) s = absurd s
  refused_scan (RepoFault.NotWhole c) s = absurd s
  refused_scan (RepoFault.BadNode c) s = absurd s
  refused_scan RepoFault.BadSignature s = absurd s

-- the fault of a tree, as it is called here
pub torn_at : (blocks : BlockMap) (root : List ℕ) (fault : WalkFault) → IsWalkFault blocks root fault → IsTornAt blocks root (of_walk fault)
torn_at blocks root (WalkFault.NoBlock c) is = is
torn_at blocks root (WalkFault.BadNode c) is = is
torn_at blocks root WalkFault.Memory is = tt

pub torn_from : (kept : Kept) (root : List ℕ) (fault : WalkFault) (told : RepoFault) → ((blocks : BlockMap) → IsKeptOf is_node_block blocks kept → IsWalkFault blocks root fault) → told ≡ of_walk fault
    → (blocks : BlockMap) → IsKeptOf is_node_block blocks kept → IsTornAt blocks root told
torn_from kept root fault told is same = λ blocks of. subst (IsTornAt blocks root) (sym same) (torn_at blocks root fault (is blocks of))

-- what is found of a whole tree
pub found_kept : (did : List ℕ) (least : Option ℕ) (kept : Kept) (held : HoldsKept did least kept) (found : Found) (records : ℕ) → found ≡ found_of held.link held.block held.commit records
    → ((blocks : BlockMap) → IsKeptOf is_node_block blocks kept → HasKeys blocks held.commit.data_root records) → (blocks : BlockMap) → IsKeptOf is_node_block blocks kept → JudgesAs did least blocks kept (Ok found)
found_kept did least kept held found records is has blocks of =
    let same : records ≡ found.records = sym (ap (λ (f : Found). f.records) is) in
    (held, is ∙ ap (λ n. found_of held.link held.block held.commit n) same, subst (HasKeys blocks held.commit.data_root) same (has blocks of))

-- what is told of a tree at fault
pub torn_kept : (did : List ℕ) (least : Option ℕ) (kept : Kept) (held : HoldsKept did least kept) (fault : RepoFault) → ((blocks : BlockMap) → IsKeptOf is_node_block blocks kept → IsTornAt blocks held.commit.data_root fault)
    → (blocks : BlockMap) → IsKeptOf is_node_block blocks kept → JudgesAs did least blocks kept (Err fault)
torn_kept did least kept held (RepoFault.NotWhole c) is blocks of = (held, is blocks of)
torn_kept did least kept held (RepoFault.BadNode c) is blocks of = (held, is blocks of)
torn_kept did least kept held RepoFault.Memory is blocks of = tt
torn_kept did least kept held RepoFault.BadCar is blocks of = absurd (is blocks of)
torn_kept did least kept held RepoFault.NoCommit is blocks of = absurd (is blocks of)
torn_kept did least kept held RepoFault.BadCommit is blocks of = absurd (is blocks of)
torn_kept did least kept held RepoFault.OtherDid is blocks of = absurd (is blocks of)
torn_kept did least kept held (RepoFault.Lagging rev) is blocks of = absurd (is blocks of)
torn_kept did least kept held RepoFault.TooLong is blocks of = absurd (is blocks of)
torn_kept did least kept held RepoFault.BadSignature is blocks of = absurd (is blocks of)
torn_kept did least kept held RepoFault.Failed is blocks of = absurd (is blocks of)

-- the tests that the public clauses make
pub told_whole : (tells : Bool) (result : Result Found RepoFault) (did : List ℕ) (least : Option ℕ) (bytes : List ℕ) → (IsTrue tells → IfOk result (IsWhole did least bytes)) → IfOk result (λ found. IsTrue tells → IsWhole did least bytes found)
told_whole tells (Ok found) did least bytes is = is
told_whole tells (Err fault) did least bytes is = tt

pub told_refused : (tells : Bool) (result : Result Found RepoFault) (did : List ℕ) (least : Option ℕ) (bytes : List ℕ) → (IsTrue tells → IfErr result (IsRefused did least bytes)) → IfErr result (λ fault. IsTrue tells → IsRefused did least bytes fault)
told_refused tells (Ok found) did least bytes is = tt
told_refused tells (Err fault) did least bytes is = is

abbrev pub held_kept : (did : List ℕ) (least : Option ℕ) (kept : Kept) (link block read : List ℕ) (commit : Commit) → Some link ≡ root_of kept.roots → kept.first ≡ Some block → read ≡ block → commit_of read ≡ Ok commit → first_of (commit_lines did least (Some read)) ≡ None
    → HoldsKept did least kept
held_kept did least kept link block read commit root first same object shown =
    record { link = link; block = block; commit = commit; root = sym root; first = first; object = ap (λ b. commit_of b) (sym same) ∙ object; shown = ap (λ b. first_of (commit_lines did least (Some b))) (sym same) ∙ shown }

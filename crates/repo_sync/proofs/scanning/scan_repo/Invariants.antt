use Rattle.std.proofs.Common.{length, ◌-◌, ◌≡◌, ◌≤◌, ◌++◌, ℕ, List, IsTrue}
use Rattle.at_cid.specs.Link.{IsBytes}
use Rattle.at_car.specs.Standing.{StandsFor}
use Rattle.mst_whole.specs.Walks.{is_node_block}
use Rattle.repo_sync.specs.declared.limits.TheConstants.{MOST_REPOSITORY_BYTES}
use Rattle.repo_sync.proofs.scanning.scan_repo.Given as goal

abbrev pub invariant-pieces : goal.invariant-pieces
invariant-pieces g l =
    let left = g.R.Repos.left in
    let faults = g.R.Repos.faults in
    record {
      bytes : (bytes : List ℕ) × (length bytes ≡ l.given) × StandsFor is_node_block l.scan.progress bytes × (IsTrue g.R.Repos.tells → left l.fn.repos ≡ bytes ++ left l.repos) × IsBytes bytes;
      most : l.given ≤ MOST_REPOSITORY_BYTES;
      same : IsTrue g.R.Repos.tells → (did : List ℕ) → g.R.Repos.repository l.repos did ≡ g.R.Repos.repository l.fn.repos did;
      steady : faults l.repos ≡ faults l.fn.repos;
    }

abbrev pub decreases-pieces : goal.decreases-pieces
decreases-pieces g l = MOST_REPOSITORY_BYTES - l.given

-- One call more of a disk that tells nothing.
use Rattle.std.proofs.Common.{inl, [], List, ℕ, ◌≤◌, arith}
use Rattle.relay_disk.specs.Disk.{Goes}
use Rattle.relay_disk.specs.Untold.{untold}

pub untold_goes : (part : List ℕ → List ℕ → Type 0) → ((c : List ℕ) → part c c) → (before now : ℕ) → before ≤ now → Goes part (untold before) (untold now)
untold_goes part none before now counts = record {
  content = none [];
  follows = λ c left. (c, tt, none c);
  later = omega arith;
  nothing_else = λ t c le left. inl tt;
  keeps = λ t c le left. tt;
  counts = counts;
}

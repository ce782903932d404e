-- Counts of failures.
use Rattle.std.proofs.Common.{ℕ, ◌≤◌, arith}
use Rattle.at_cid.specs.Counts.{Rose}

-- a count that rose behind one that hadn't fallen
pub rose_behind : (before mid now : ℕ) → before ≤ mid → Rose mid now → Rose before now
rose_behind before mid now le rose = omega (arith, le, rose)

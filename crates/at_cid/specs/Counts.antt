-- Counts of the faults of an object outside, and what they say of a call.
use Rattle.std.specs.Prelude.{◌≡◌, ◌⊎◌, ℕ, ◌+◌, ◌-◌, ◌^◌, ◌≤◌, min}

-- The count has risen. At its last value it can't.
abbrev pub Rose : ℕ → ℕ → Type 0
Rose before now = min (before + 1) (2 ^ 64 - 1) ≤ now

-- A count rose where the call failed for its part, and else stands; it never falls.
pub record Counted (failed : Type 0) (old new : ℕ) : Type 0 where
  pub rose : failed → Rose old new
  pub steady : (failed → ⊥) → new ≡ old
  pub kept : old ≤ new

-- So did the count of one of two disks, and else both stand.
pub record CountedPair (failed : Type 0) (one two one_now two_now : ℕ) : Type 0 where
  pub rose : failed → Rose one one_now ⊎ Rose two two_now
  pub steady : (failed → ⊥) → (one_now ≡ one) × (two_now ≡ two)
  pub one_kept : one ≤ one_now
  pub two_kept : two ≤ two_now

-- A count rose where the call failed for its part, and else stands, unless it may have risen before
-- another failure that was told.
pub record CountedBut (other failed : Type 0) (old new : ℕ) : Type 0 where
  pub rose : failed → Rose old new
  pub steady : (other → ⊥) → (failed → ⊥) → new ≡ old
  pub kept : old ≤ new

-- What crashes leave over a run of calls.
use Rattle.std.specs.Prelude.{◌⊎◌, ◌≤◌, ℕ, List}
use Rattle.relay_disk.specs.Disk.{View}

-- Time goes on from one moment of a disk to a later one, and forgets nothing.
pub record TimeGoesOn (old new : View) : Type 0 where
  pub later : old.moment ≤ new.moment
  -- what a crash left since an earlier time it left up to the one moment, or since that
  pub parts : (t : ℕ) (c : List ℕ) → t ≤ old.moment → new.left_since t c
      → old.left_since t c ⊎ new.left_since old.moment c
  -- and whichever it was, it left it since that time
  pub keeps : (t : ℕ) (c : List ℕ) → t ≤ old.moment → old.left_since t c → new.left_since t c
  pub since : (t : ℕ) (c : List ℕ) → t ≤ old.moment
      → new.left_since old.moment c → new.left_since t c

-- A crash at any moment since old leaves bytes that have P.
pub record LeavesOnly (P : List ℕ → Type 0) (old new : View) : Type 0 where
  pub later : old.moment ≤ new.moment
  pub each : (c : List ℕ) → new.left_since old.moment c → P c
  -- for a run that began earlier
  pub before : (t : ℕ) (c : List ℕ) → t ≤ old.moment → new.left_since t c → old.left_since t c ⊎ P c
  pub time : TimeGoesOn old new

-- what a crash leaves of a call on something that a crash could leave before it
abbrev pub PartOf : (List ℕ → List ℕ → Type 0) → View → List ℕ → Type 0
PartOf part old c = (d : List ℕ) × old.may_leave d × part d c

-- Two disks have no common clock: whatever a crash at a moment since the start left on the one,
-- beside whatever a crash at a moment since the start left on the other, the two have P.
pub record PairLeavesOnly (P : List ℕ → List ℕ → Type 0) (one one_now two two_now : View)
    : Type 0 where
  pub one_later : one.moment ≤ one_now.moment
  pub two_later : two.moment ≤ two_now.moment
  pub each : (c d : List ℕ) → one_now.left_since one.moment c
      → two_now.left_since two.moment d → P c d

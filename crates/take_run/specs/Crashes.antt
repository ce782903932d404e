-- What crashes leave while messages are taken, and room in the log (own).
use Rattle.std.specs.Prelude.{◌≡◌, ◌≢◌, ◌⊎◌, ◌+◌, ◌≤◌, ℕ, List, [], ◌++◌}
use Rattle.relay_disk.specs.Disk.{View}
use Rattle.relay_disk.specs.Moments.{LeavesOnly}
use Rattle.gate_log.specs.Log.{LogState}
use Rattle.gate_log.specs.declared.format.Format.{Format}
use Rattle.relay_row.specs.declared.row.Row.{Row}
use Rattle.relay_store.specs.Journals.{IsLogOf, IsOneOf, IsPairImageOf}
use Rattle.relay_store.specs.Store.{StoreState, Keeps}
use Rattle.run_base.specs.declared.status.Status.{Status}

-- ---- of two disks

-- An image of the journal J with some of these rows after it, from the first on.
pub record IsPairSoFar (J rows : List Row) (c d : List ℕ) : Type 0 where
  pub front : List Row
  pub others : List Row
  pub split : rows ≡ front ++ others
  pub image : IsPairImageOf (J ++ front) c d

-- or with all of them, and after those the rows of a body under way
abbrev pub IsPairOnTheWay : List Row → List Row → List Row → List ℕ → List ℕ → Type 0
IsPairOnTheWay J rows under c d = IsPairSoFar J rows c d ⊎ IsPairImageOf ((J ++ rows) ++ under) c d

-- ---- of the one that the store is open on

-- A log of the journal J with some of these rows after it, from the first on.
pub record IsSoFar (format : Format) (J rows : List Row) (bytes : List ℕ) : Type 0 where
  pub front : List Row
  pub others : List Row
  pub split : rows ≡ front ++ others
  pub log : IsLogOf format (J ++ front) bytes

-- or with all of them, and after those the rows of a body under way
abbrev pub IsOnTheWay : Format → List Row → List Row → List Row → List ℕ → Type 0
IsOnTheWay format J rows under c = IsSoFar format J rows c ⊎ IsLogOf format ((J ++ rows) ++ under) c

-- no row was added, and the log ends where it did; or, with its closed gate, it ends at the most,
-- or before
abbrev pub HadRoom : List Row → LogState → LogState → Type 0
HadRoom rows old new = ((rows ≡ []) × (new.end ≡ old.end)) ⊎ (new.end + 1 ≤ new.most)

-- The disk kept the journal J, and keeps it with these rows. A crash at any moment leaves some of
-- them.
pub record Keeping (J rows : List Row) (old : StoreState) (was : View) (new : StoreState)
    (now : View) : Type 0 where
  pub keeps : Keeps (J ++ rows) new now
  pub moments : LeavesOnly (IsSoFar old.log.format J rows) was now

-- What the disk holds, which kept the journal J before: unless it failed, J with the rows of the
-- steps. A crash at any moment since leaves J with some of those rows in front, or with all of them
-- and those of the body under way; one now leaves all of them, with those under way or without.
pub record Leaves (J rows under : List Row) (old : StoreState) (was : View) (new : StoreState)
    (now : View) (status : Status) : Type 0 where
  pub keeps : status ≢ Status.Disk → Keeps (J ++ rows) new now
  pub moments : LeavesOnly (IsOnTheWay old.log.format J rows under) was now
  pub left : (c : List ℕ) → now.may_leave c → IsOneOf old.log.format (J ++ rows) under c

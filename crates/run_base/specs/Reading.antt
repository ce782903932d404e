-- What was only read of the two disks on one of which the log is (own).
use Rattle.std.specs.Prelude.{◌⊎◌}
use Rattle.relay_disk.specs.Disk.{View, Goes, Same}
use Rattle.gate_log.specs.Image.{IsUnmade}
use Rattle.gate_log.specs.Pick.{IsPicked, of_side, other_side, view_of_side}
use Rattle.gate_log.specs.declared.picking.Side.{Side}
use Rattle.relay_store.specs.Opening.{BothOnlyRead}

-- One side was picked of what the disks held, and the other one was only read.
pub record OtherOnlyRead (one two one_now two_now : View) : Type 0 where
  pub side : Side
  pub picked : IsPicked one.content two.content side
  pub other : Goes Same (view_of_side (other_side side) one two)
      (view_of_side (other_side side) one_now two_now)

-- And so was the picked one, unless it held no log, and one was made there.
pub record OnlyRead (one two one_now two_now : View) : Type 0 where
  pub beside : OtherOnlyRead one two one_now two_now
  pub own : (IsUnmade (of_side beside.side one.content two.content) → ⊥)
      → Goes Same (view_of_side beside.side one two) (view_of_side beside.side one_now two_now)

-- At most the log was written: both disks were only read, or the one without the log was.
abbrev pub AtMostLogWritten : View → View → View → View → Type 0
AtMostLogWritten one two one_now two_now =
    BothOnlyRead one two one_now two_now ⊎ OtherOnlyRead one two one_now two_now

-- At most a log was made: both were only read, or all but a log that was made.
abbrev pub AtMostLogMade : View → View → View → View → Type 0
AtMostLogMade one two one_now two_now =
    BothOnlyRead one two one_now two_now ⊎ OnlyRead one two one_now two_now

-- What cutting the journal of two disks comes to (own).
use Rattle.std.specs.Prelude.{◌≡◌, ◌≢◌, ◌⊎◌, ◌+◌, ◌<◌, ⊤, ℕ, List, length, Result, Ok, Err}
use Rattle.event_window.specs.Held.{oldest_of}
use Rattle.relay_disk.specs.Disk.{View}
use Rattle.gate_log.specs.Image.{HasFront, IsMade, front, generation}
use Rattle.gate_log.specs.Pick.{IsPicked, of_side, other_side}
use Rattle.gate_log.specs.declared.format.Format.{Format}
use Rattle.gate_log.specs.declared.picking.Side.{Side}
use Rattle.relay_row.specs.Folds.{last_seq}
use Rattle.relay_row.specs.declared.row.Row.{Row}
use Rattle.cut_law.specs.Cut.{MayCut, cut}
use Rattle.store_cut.specs.Cutting.{IsUncut}
use Rattle.relay_store.specs.Journals.{bytes_of}
use Rattle.relay_store.specs.Pairs.{StandsFor}
use Rattle.store_cut.specs.Rewriting.{RewriteHasNoRoom, end_behind, singles}
use Rattle.relay_store.specs.Room.{PairHasRoom}
use Rattle.relay_store.specs.Shown.{held_by}
use Rattle.store_cut.specs.declared.cutting.CutDone.{CutDone}
use Rattle.relay_store.specs.declared.fault.StoreFault.{StoreFault}

-- The log of two disks is of this format.
pub record IsOfFormat (format : Format) (one two : List ℕ) : Type 0 where
  pub side : Side
  pub picked : IsPicked one two side
  pub fronted : HasFront format (of_side side one two)

-- Beside the log that one of two disks has, the journal K was written anew on the other, which is picked: in a log of the next
-- generation, each row as a body of its own, and all rows have room.
pub record IsWrittenAnew (most : ℕ) (K : List Row) (one two : List ℕ) : Type 0 where
  pub side : Side
  pub format : Format
  pub former : HasFront format (of_side side one two)
  pub anew : IsMade (Format.Two (generation format + 1)) (bytes_of (singles K))
      (of_side (other_side side) one two)
  pub picked : IsPicked one two (other_side side)
  pub room : end_behind (length (front (Format.Two (generation format + 1)))) K < most

-- what is answered to cutting the journal J at a number: it was cut, and written anew on these two disks; or it is refused,
-- and they still have its log
abbrev pub IsAnswerOf : ℕ → List Row → ℕ → List ℕ → List ℕ → CutDone → Type 0
IsAnswerOf most J c one two (CutDone.Cut oldest last) =
    MayCut J c × (oldest ≡ oldest_of (held_by (cut J c))) × (last ≡ last_seq (cut J c))
    × IsWrittenAnew most (cut J c) one two
IsAnswerOf most J c one two (CutDone.Refused why) = (format : Format) × IsOfFormat format one two
    × IsUncut J format c why

-- why a journal wasn't written anew: a call of a disk failed, or a row has no room in a log of the generation behind that of
-- these two disks, or memory ran out
abbrev pub EndsRewriting : ℕ → List Row → List ℕ → List ℕ → StoreFault → Type 0
EndsRewriting most K one two StoreFault.Disk = ⊤
EndsRewriting most K one two (StoreFault.Full e) = (format : Format) × IsOfFormat format one two
    × RewriteHasNoRoom (length (front (Format.Two (generation format + 1)))) most K e
EndsRewriting most K one two StoreFault.Memory = ⊤
EndsRewriting most K one two fault = ⊥

-- the journal that the disks have then
abbrev pub journal_left : List Row → ℕ → CutDone → List Row
journal_left J c (CutDone.Cut oldest last) = cut J c
journal_left J c (CutDone.Refused why) = J

-- what came of cutting the journal J of two disks: an answer, and they stand for the journal that is left, which has room in the
-- log that is picked; or it wasn't written anew, and unless one of them failed they stand for J
abbrev pub CutCame : ℕ → List Row → ℕ → View → View → Result CutDone StoreFault → Type 0
CutCame most J c one two (Ok done) = IsAnswerOf most J c one.content two.content done
    × StandsFor (journal_left J c done) one two
    × ((journal_left J c done ≡ J)
    ⊎ PairHasRoom most (journal_left J c done) one.content two.content)
CutCame most J c one two (Err fault) = MayCut J c
    × EndsRewriting most (cut J c) one.content two.content fault
    × (fault ≢ StoreFault.Disk → StandsFor J one two)

-- The order of the refusals of one commit. The first one that applies is told:
--   5 to 17: the first of `open_lines`, in the order of that list, 14 before 13;
--   19: there is a gap;
-- 20 to 23: what stops the operations on their way back from `data` (`Stops`), of which one alone
-- applies.
use Rattle.std.specs.Prelude.{◌≡◌, ◌⊎◌, ℕ, List, Bool, true, false, Option, Some, None, Ok}
use Rattle.at_car.specs.Blocks.{BlockMap}
use Rattle.at_commit.specs.declared.commit.Commit.{Commit}
use Rattle.at_event.specs.declared.event.CommitEvent.{CommitEvent}
use Rattle.at_event.specs.declared.refusal.Refusal.{Refusal}
use Rattle.event_checks.specs.Table.{car_in}
use Rattle.event_checks.specs.Opening.{object_in}
use Rattle.commit_check.specs.Step.{Leads, Stops}
use Rattle.event_checks.specs.Lines.{first_of}
use Rattle.event_checks.specs.Table.{open_lines}

-- behind what the message shows: a gap, or else what stops the operations
abbrev pub StopsPast : Bool → CommitEvent → BlockMap → List ℕ → List ℕ → Refusal → Type 0
StopsPast true e blocks former later refusal = refusal ≡ Refusal.Gap
StopsPast false e blocks former later refusal = Stops e blocks former later refusal

-- the CAR of an event, and the commit object under its first root
pub record HoldsCommit (e : CommitEvent) : Type 0 where
  pub roots : List (List ℕ)
  pub blocks : BlockMap
  pub commit : Commit
  pub car : car_in e ≡ Ok (roots, blocks)
  pub object : object_in (car_in e) ≡ Some commit

-- nothing that the message shows applies, and this does
pub record IsStopped (e : CommitEvent) (last : Option ℕ) (gap : Bool) (former : List ℕ)
    (refusal : Refusal) : Type 0 where
  pub shown : first_of (open_lines e last) ≡ None
  pub holds : HoldsCommit e
  pub stops : StopsPast gap e holds.blocks former holds.commit.data_root refusal

-- no refusal applies
pub record IsPassed (e : CommitEvent) (last : Option ℕ) (gap : Bool)
    (former : List ℕ) : Type 0 where
  pub shown : first_of (open_lines e last) ≡ None
  pub no_gap : gap ≡ false
  pub holds : HoldsCommit e
  pub leads : Leads e holds.blocks former holds.commit.data_root

-- the first refusal that applies: to an event behind the last revision, with a gap before it or
-- not, whose operations start from the former root
abbrev pub IsFirstRefusal : CommitEvent → Option ℕ → Bool → List ℕ → Refusal → Type 0
IsFirstRefusal e last gap former refusal = (first_of (open_lines e last) ≡ Some refusal)
    ⊎ IsStopped e last gap former refusal

-- What a relay that follows another one does (own).
use Rattle.std.specs.Prelude.{◌≡◌, ◌≢◌, ◌⊎◌, ℕ, true, List, [], ◌++◌, Some, IsTrue}
use Rattle.backfill.specs.Served.{served}
use Rattle.relay_row.specs.Folds.{cursor}
use Rattle.relay_row.specs.declared.row.Row.{Row}
use Rattle.relay_core.specs.Decide.{Checks}
use Rattle.relay_core.specs.Opening.{OpensRight}
use Rattle.relay_core.specs.Runs.{Run, has_ended}
use Rattle.relay_law.specs.Faithful.{SendWhatTheyKeep}
use Rattle.relay_law.specs.Right.{LinksRight}
use Rattle.relay_step.specs.Steps.{Step, ended_by_all, messages, rows}
use Rattle.store_take.specs.Batches.{messages_sent}
use Rattle.relay_store.specs.Shown.{held_by, is_shown}
use Rattle.run_base.specs.Ends.{HoldsJournal}
use Rattle.run_base.specs.Place.{NoneFell, Place, Tells}
use Rattle.run_base.specs.Reading.{AtMostLogMade, AtMostLogWritten}
use Rattle.run_base.specs.declared.status.Status.{Status}
use Rattle.take_run.specs.Feeds.{bytes_of_messages}
use Rattle.take_run.specs.Ingested.{Followed}
use Rattle.take_run.specs.Taken.{Unopened}
use Rattle.chain_law.specs.Again.{CanGoOn, GoesOn, HasTaken}
use Rattle.chain_law.specs.Chained.{CanFollow, FollowsAll}
use Rattle.chain_law.specs.Given.{AreGiven}
use Rattle.relay_chain.specs.Disks.{AnyRose, BothShow, CountedOf, Disks, HaveJournal, StandAgain}
use Rattle.relay_chain.specs.Ends.{BothOpened, ChainTold, MayEndChaining, MayEndWithoutFailure, read_as}
use Rattle.relay_chain.specs.declared.journals.TheConstants.{MOST_SERVED}

-- Of a journal that a relay made, served to another one in which the host is new: the accounts
-- whose whole history the one shows, and that the other didn't know, follow.
abbrev pub AccountsFollow : List ℕ → List Row → List Row → List Row → Type 0
AccountsFollow host one two rows =
    (checks : Checks) → OpensRight checks → LinksRight checks → AreGiven checks [] one
    → cursor host two ≡ 0 → (did : List ℕ) → CanFollow did (is_shown one) one two rows
    → FollowsAll did one two rows

-- Run after run: of rows that stand in front of a journal that a relay made, the other one had
-- taken all that they send out of an account; of those that have come since it takes all too.
abbrev pub AccountsGoOn : List ℕ → List Row → List Row → List Row → Type 0
AccountsGoOn host one two rows =
    (checks : Checks) → OpensRight checks → LinksRight checks → AreGiven checks [] one
    → (front more : List Row) → one ≡ front ++ more → (did : List ℕ) → HasTaken host did front two
    → CanGoOn did (is_shown one) front more rows → GoesOn host did front more two rows

-- the messages of the steps are all that is given, or all up to the one that ended the host
abbrev pub AllTaken : List ℕ → List (List ℕ) → List Step → Type 0
AllTaken host given steps = (given ≡ bytes_of_messages (messages_sent steps))
    ⊎ ((rest : List (List ℕ)) × (given ≡ bytes_of_messages (messages_sent steps) ++ rest)
    × (has_ended (ended_by_all steps []) host ≡ true))

-- What the journal `one` serves behind the host's cursor was taken into the journal `two` of two
-- disks, and taking it ended so.
pub record Chained (t : Tells) (host : List ℕ) (most : ℕ) (one two : List Row) (old new : Place)
    (taking : Status) : Type 0 where
  pub left : List (List ℕ)
  -- the messages were taken as those of a feed that gives what is served
  pub followed : Followed t true host most MOST_SERVED two old new
      (λ n. served (held_by one) (Some n)) left taking
  -- the rows behind the journal `two` are those of a run over them
  pub run : (checks : Checks) → OpensRight checks → LinksRight checks
      → Run checks two (messages followed.taken.steps) (rows followed.taken.steps)
  -- where it is done they are all that is served, or all up to the host's end
  pub all : taking ≡ Status.Done → AllTaken host
      (served (held_by one) (Some (cursor host two))) followed.taken.steps
  -- what the rows send out is read as what they keep
  pub sends : SendWhatTheyKeep two (rows followed.taken.steps)
  -- and the accounts follow
  pub law : taking ≡ Status.Done → AccountsFollow host one two (rows followed.taken.steps)
  -- run after run
  pub again : taking ≡ Status.Done → host ≢ []
      → AccountsGoOn host one two (rows followed.taken.steps)

-- One of the two pairs wasn't opened, and nothing else was touched; or both were, and what the
-- first serves was taken into the journal `two` of the second.
abbrev pub IsChained : Tells → List ℕ → ℕ → List Row → Disks → Place → Place → Type 0 → Status
    → Type 0
IsChained t host most two first old new untouched status =
    (Unopened t most two old new status × untouched)
    ⊎ ((one : List Row) × HaveJournal one first × (taking : Status) × (status ≡ read_as taking)
    × Chained t host most one two old new taking)

-- A relay behind a relay ran, and ended so.
pub record ChainRan (t : Tells) (host : List ℕ) (most : ℕ) (first first_now : Disks)
    (old new : Place) (untouched : Type 0) (status : Status) : Type 0 where
  -- the second journal has the rows of what was taken
  pub chained : IsTrue first.tells → (two : List Row) → HoldsJournal t two old
      → IsChained t host most two first old new untouched status
  -- the disks of the first were only read
  pub still : IsTrue first.tells → (one : List Row) → HaveJournal one first
      → StandAgain one (BothOpened status) first first_now
  -- which statuses come, what the disks were by the status, what failed by it, and no count fell
  pub may : MayEndChaining status
  pub shows : IsTrue first.tells → IsTrue t.disk → BothShow status first old
  pub told : ChainTold (CountedOf first first_now) old new status
  pub counts : NoneFell old.failed new.failed
  -- unless a disk failed, of the first pair at most a log was made, and of the second at most the
  -- log was written
  pub only_read : IsTrue first.tells → status ≢ Status.Disk
      → AtMostLogMade first.one first.two first_now.one first_now.two
  pub beside : IsTrue t.disk → status ≢ Status.Disk
      → AtMostLogWritten old.one old.two new.one new.two
  -- it is done, unless a count rose, memory ran out, the log is full, or the numbers have ended
  pub complete : IsTrue first.tells → (one : List Row) → HaveJournal one first
      → (two : List Row) → HoldsJournal t two old
      → (AnyRose first first_now old.failed new.failed → ⊥) → MayEndWithoutFailure status

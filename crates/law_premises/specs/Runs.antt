-- Laws of runs, each without one of its premises.
use Rattle.std.specs.Prelude.{ℕ, Bool, Option, List, [], ◌∷◌, ◌++◌}
use Rattle.std.specs.List.{AllByRecursion}
use Rattle.at_cid.specs.Link.{IsBytes}
use Rattle.at_event.specs.Formed.{IsShortText}
use Rattle.at_event.specs.declared.head.Head.{Head}
use Rattle.relay_row.specs.Journal.{IsJournal}
use Rattle.relay_row.specs.declared.row.Row.{Row}
use Rattle.relay_core.specs.Decide.{Checks}
use Rattle.relay_core.specs.Opening.{OpensRight}
use Rattle.relay_core.specs.Runs.{Message, Run}
use Rattle.relay_law.specs.Calls.{as_read}
use Rattle.relay_law.specs.Carried.{AreOfKnown}
use Rattle.relay_law.specs.Faithful.{AreReadBack, IsReadBack, SendsWhatItKeeps}
use Rattle.relay_law.specs.Laws.{AreEvents, operated_row, synced_row}
use Rattle.relay_law.specs.Right.{AreRight, LinksRight}
use Rattle.relay_law.specs.Sound.{IsSound}

-- A run behind a sound journal may leave an unsound one ..
pub record RunsMayBeUnsound : Type 0 where
  -- where the checks aren't right
  pub right : ((checks : Checks) (J : List Row) (messages : List Message) (rows : List Row)
      → AreEvents messages → IsJournal (J ++ rows) → IsSound J → Run checks J messages rows
      → IsSound (J ++ rows)) → ⊥
  -- where an event isn't read from its payload
  pub events : ((checks : Checks) → AreRight checks
      → (J : List Row) (messages : List Message) (rows : List Row) → IsJournal (J ++ rows)
      → IsSound J → Run checks J messages rows → IsSound (J ++ rows)) → ⊥
  -- where the rows are no journal
  pub journal : ((checks : Checks) → AreRight checks
      → (J : List Row) (messages : List Message) (rows : List Row) → AreEvents messages → IsSound J
      → Run checks J messages rows → IsSound (J ++ rows)) → ⊥
  -- where the journal wasn't sound
  pub sound : ((checks : Checks) → AreRight checks
      → (J : List Row) (messages : List Message) (rows : List Row) → AreEvents messages
      → IsJournal (J ++ rows) → Run checks J messages rows → IsSound (J ++ rows)) → ⊥
  -- where the rows are of no run
  pub run : ((checks : Checks) → AreRight checks
      → (J : List Row) (messages : List Message) (rows : List Row) → AreEvents messages
      → IsJournal (J ++ rows) → IsSound J → IsSound (J ++ rows)) → ⊥

-- What the rows of a run send out may read as something else ..
pub record RunsMayBeUnfaithful : Type 0 where
  -- where an event isn't read from its payload
  pub events : ((checks : Checks) (J : List Row) (messages : List Message) (rows : List Row)
      → IsJournal (J ++ rows) → Run checks J messages rows → AreReadBack rows) → ⊥
  -- where the rows are no journal
  pub journal : ((checks : Checks) (J : List Row) (messages : List Message) (rows : List Row)
      → AreEvents messages → Run checks J messages rows → AreReadBack rows) → ⊥
  -- where the rows are of no run
  pub run : ((checks : Checks) (J : List Row) (messages : List Message) (rows : List Row)
      → AreEvents messages → IsJournal (J ++ rows) → AreReadBack rows) → ⊥

-- Rows of no run may accept a commit of an account that was lost, however right the checks.
abbrev pub RowsMayBeOfLost : Type 0
RowsMayBeOfLost = ((checks : Checks) → AreRight checks
    → (J : List Row) (messages : List Message) (rows : List Row) → AreOfKnown J rows) → ⊥

-- What a store took may leave an unsound journal, whichever checks open and link rightly ..
pub record StoresMayBeUnsound : Type 0 where
  -- where the rows are no journal
  pub journal : ((J : List Row) (sent : List (List ℕ × List ℕ)) (rows : List Row)
      → AllByRecursion (λ m. IsBytes m.1) sent → IsSound J
      → ((checks : Checks) → OpensRight checks → LinksRight checks
      → Run checks J (as_read sent) rows) → IsSound (J ++ rows)) → ⊥
  -- where the journal wasn't sound
  pub sound : ((J : List Row) (sent : List (List ℕ × List ℕ)) (rows : List Row)
      → AllByRecursion (λ m. IsBytes m.1) sent → IsJournal (J ++ rows)
      → ((checks : Checks) → OpensRight checks → LinksRight checks
      → Run checks J (as_read sent) rows) → IsSound (J ++ rows)) → ⊥
  -- where the rows are of no run
  pub run : ((J : List Row) (sent : List (List ℕ × List ℕ)) (rows : List Row)
      → AllByRecursion (λ m. IsBytes m.1) sent → IsJournal (J ++ rows) → IsSound J
      → IsSound (J ++ rows)) → ⊥

-- What operators' commands send out may read as something else ..
pub record OperatorsMayBeUnfaithful : Type 0 where
  -- of an account that is taken down or restored, where the time isn't short
  pub operated_time : ((J : List Row) (did : List ℕ) (down : Bool) (time : List ℕ)
      (moment : Option ℕ) → IsJournal (J ++ operated_row J did down time moment ∷ [])
      → SendsWhatItKeeps J (operated_row J did down time moment)) → ⊥
  -- where the rows are no journal
  pub operated_journal : ((J : List Row) (did : List ℕ) (down : Bool) (time : List ℕ)
      (moment : Option ℕ) → IsShortText time
      → SendsWhatItKeeps J (operated_row J did down time moment)) → ⊥
  -- and likewise of a repository that was fetched
  pub synced_time : ((J : List Row) (did time : List ℕ) (head : Head) (records : ℕ) (block : List ℕ)
      (moment : Option ℕ)
      → IsJournal (J ++ synced_row J did time head records block moment ∷ [])
      → IsReadBack (synced_row J did time head records block moment)) → ⊥
  pub synced_journal : ((J : List Row) (did time : List ℕ) (head : Head) (records : ℕ)
      (block : List ℕ) (moment : Option ℕ) → IsShortText time
      → IsReadBack (synced_row J did time head records block moment)) → ⊥

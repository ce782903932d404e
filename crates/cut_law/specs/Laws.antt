-- What holds of all cuts of journals.
use Rattle.std.specs.Prelude.{◌≡◌, ◌⊎◌, ℕ, ◌≤◌, false, List, [], ◌∷◌, ◌++◌, length, take, drop, nat_lt, if◌then◌else◌, Contains}
use Rattle.std.specs.List.{filter}
use Rattle.relay_row.specs.Folds.{cursor, events, is_named, last_seq}
use Rattle.relay_row.specs.Journal.{IsJournal}
use Rattle.relay_row.specs.declared.row.Row.{Row}
use Rattle.account_state.specs.Folds.{account}
use Rattle.host_state.specs.Folds.{hosts}
use Rattle.relay_law.specs.Carried.{AreOfKnown}
use Rattle.relay_law.specs.Histories.{Change, IsCut, AreChanged}
use Rattle.relay_law.specs.Sound.{IsSound}
use Rattle.cut_law.specs.Cut.{is_old, carried_front, rows_behind_front, cut, MayCut}
use Rattle.cut_law.specs.Lives.{AreJournals, AllCuts, WasCut}

-- What follows from a journal's rows follows from what cutting leaves of them: accounts, and which
-- DIDs are named, cursors, and the last number. And the hosts are listed in the same order.
pub record CutsSayTheSame : Type 0 where
  pub accounts : (J : List Row) (c : ℕ) (did : List ℕ) → account did (cut J c) ≡ account did J
  pub named : (J : List Row) (c : ℕ) (did : List ℕ) → is_named did (cut J c) ≡ is_named did J
  pub cursors : (J : List Row) (c : ℕ) (host : List ℕ) → cursor host (cut J c) ≡ cursor host J
  pub hosts : (J : List Row) (c : ℕ) → IsJournal J → hosts (cut J c) ≡ hosts J
  pub last : (J : List Row) (c : ℕ) → last_seq (cut J c) ≡ last_seq J

-- What cutting a journal leaves is a journal, with its carried rows in front, each host and each
-- account once; the events that it has are those above the number; and it is a cut in the sense of
-- histories.
pub record CutsAreJournals : Type 0 where
  pub journal : (J : List Row) (c : ℕ) → IsJournal J → MayCut J c → IsJournal (cut J c)
  pub events : (J : List Row) (c : ℕ) → IsJournal J → MayCut J c
      → events (cut J c) ≡ filter (λ event. nat_lt c event.0) (events J)
  pub is_cut : (J : List Row) (c : ℕ) → IsJournal J → MayCut J c → IsCut J c (cut J c)

-- A cut of a cut is the cut at the second number alone.
abbrev pub CutsOfCuts : Type 0
CutsOfCuts = (J : List Row) (c d : ℕ) → IsJournal J → MayCut (cut J c) d → cut (cut J c) d ≡ cut J d

-- Where no commit of a sound journal is of an account that was lost, that journal cut at a number
-- is sound, and no commit in it is of an account that was lost.
pub record CutsStaySound : Type 0 where
  pub sound : (J : List Row) (c : ℕ) → IsJournal J → MayCut J c → AreOfKnown [] J → IsSound J
      → IsSound (cut J c)
  pub known : (J : List Row) (c : ℕ) → IsJournal J → MayCut J c → AreOfKnown [] J
      → AreOfKnown [] (cut J c)

-- The front is found by one pass, which keeps how many rows it has: with one row more it has all of
-- them, where that row is old, and else as many as before. So many rows are the front, and what is
-- left is the rest.
pub record FrontsAreFound : Type 0 where
  pub grows : (c : ℕ) (rows : List Row) (row : Row)
      → carried_front c (rows ++ row ∷ [])
      ≡ (if is_old c row then rows ++ row ∷ [] else carried_front c rows)
  pub front_is : (c : ℕ) (rows : List Row)
      → take (length (carried_front c rows)) rows ≡ carried_front c rows
  pub rest_is : (c : ℕ) (rows : List Row)
      → drop (length (carried_front c rows)) rows ≡ rows_behind_front c rows

-- Over rows that are added and cuts, each of which leaves a journal, the last number and the
-- cursors never fall; no number stands before two events; an event stays at its number unless a cut
-- there or above comes; each row stays, or is of the front that a cut took; and without a cut all
-- rows stay.
pub record LivesKeep : Type 0 where
  pub last : (J : List Row) (changes : List Change) (K : List Row) (came : AreChanged J changes K)
      → AreJournals J changes K came → last_seq J ≤ last_seq K
  pub cursors : (J : List Row) (changes : List Change) (K : List Row)
      (came : AreChanged J changes K) → AreJournals J changes K came → (host : List ℕ)
      → cursor host J ≤ cursor host K
  pub numbers : (J : List Row) (changes : List Change) (K : List Row)
      (came : AreChanged J changes K) → AreJournals J changes K came
      → (number : ℕ) (message other : List ℕ) → Contains (events J) (number, message)
      → Contains (events K) (number, other) → message ≡ other
  pub events : (J : List Row) (changes : List Change) (K : List Row) → AreChanged J changes K
      → (number : ℕ) (message : List ℕ) → AllCuts (λ at. nat_lt at number) changes
      → Contains (events J) (number, message) → Contains (events K) (number, message)
  pub rows : (J : List Row) (changes : List Change) (K : List Row) (came : AreChanged J changes K)
      (row : Row) → Contains J row → Contains K row ⊎ WasCut row J changes K came
  pub grows : (J : List Row) (changes : List Change) (K : List Row) → AreChanged J changes K
      → AllCuts (λ at. false) changes → (more : List Row) × (K ≡ J ++ more)

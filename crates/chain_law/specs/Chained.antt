-- A relay behind a relay: what the one sends of its journal, taken as messages of one host, and
-- what the other makes of it (own).
use Rattle.std.specs.Prelude.{◌≡◌, ◌≢◌, ⊤, ℕ, Bool, true, false, not, ◌||◌, nat_lt, List, [], ◌∷◌, ◌++◌, map, Option, Some, None, Ok, if◌then◌else◌}
use Rattle.std.specs.List.{AllByRecursion, list_all, filter}
use Rattle.at_event.specs.Frames.{frame_of}
use Rattle.at_event.specs.Seen.{Seen}
use Rattle.at_event.specs.Writing.{out_of}
use Rattle.at_event.specs.declared.frame.Frame.{Frame}
use Rattle.at_event.specs.declared.refusal.Refusal.{Refusal}
use Rattle.relay_row.specs.Folds.{did_of_row, names, events_in, events, is_named}
use Rattle.relay_row.specs.Journal.{is_carried_row}
use Rattle.relay_row.specs.declared.fetched.Fetched.{Fetched}
use Rattle.relay_row.specs.declared.row.Row.{Row}
use Rattle.relay_row.specs.declared.taken.Taken.{Taken}
use Rattle.account_state.specs.Folds.{account, last_rev}
use Rattle.account_state.specs.declared.repo.Repo.{Repo}
use Rattle.relay_core.specs.Runs.{Message}

-- the events of those rows that are shown
abbrev pub events_shown : (Row → Bool) → List Row → List (ℕ × List ℕ)
events_shown shows [] = []
events_shown shows (row ∷ rows) = (if shows row then events_in row else [])
    ++ events_shown shows rows

abbrev pub has_no_event : List (ℕ × List ℕ) → Bool
has_no_event [] = true
has_no_event (event ∷ others) = false

-- a row's event is shown, where it has one
abbrev pub withholds_nothing : (Row → Bool) → Row → Bool
withholds_nothing shows row = has_no_event (events_in row) || shows row

-- events as messages of a host
abbrev pub sent_by : List ℕ → List (ℕ × List ℕ) → List Message
sent_by host events = map (λ event. (host, frame_of event.1)) events

-- the rows that name a DID
abbrev pub rows_about : List ℕ → List Row → List Row
rows_about did rows = filter (λ row. names did (did_of_row row)) rows

-- all of these rows that name the DID pass the test
abbrev pub all_about : List ℕ → (Row → Bool) → List Row → Bool
all_about did test rows = list_all test (rows_about did rows)

-- a refusal is another than that of a revision far ahead of the clock
abbrev pub is_not_ahead : Option Refusal → Bool
is_not_ahead (Some Refusal.FutureRev) = false
is_not_ahead other = true

-- and so is a row's
abbrev pub is_timely : Row → Bool
is_timely (Row.Taken t) = is_not_ahead t.refusal
is_timely row = true

-- a revision is above the last one, where there was one
abbrev pub is_raised : Option ℕ → ℕ → Bool
is_raised None rev = true
is_raised (Some last) rev = nat_lt last rev

abbrev pub fetch_raises : Option ℕ → Fetched → Bool
fetch_raises last (Fetched.Whole w) = is_raised last w.head.rev
fetch_raises last fetched = true

-- a repository that a row takes over raises the revision. An accepted `#sync` always does
abbrev pub raises : Option ℕ → Row → Bool
raises last (Row.Taken t) = fetch_raises last t.fetched
raises last (Row.Synced did whole moment) = is_raised last whole.head.rev
raises last row = true

-- Behind the journal J, each row that names the DID and takes a repository over raises its
-- revision.
abbrev pub AllRaise : List ℕ → List Row → List Row → Type 0
AllRaise did J [] = ⊤
AllRaise did J (row ∷ rows) = (names did (did_of_row row) ≡ true
    → raises (last_rev (account did J).repo) row ≡ true) × AllRaise did (J ++ row ∷ []) rows

-- What a DID has in both journals: in the one its whole history, all of it shown, with rising
-- revisions; in the other nothing, before these rows, none of which is refused for a revision far
-- ahead of the clock.
pub record CanFollow (did : List ℕ) (shows : Row → Bool) (one two rows : List Row) : Type 0 where
  pub uncut : all_about did (λ row. not (is_carried_row row)) one ≡ true
  pub shown : all_about did (withholds_nothing shows) one ≡ true
  pub raised : AllRaise did [] one
  pub new : is_named did two ≡ false
  pub timely : all_about did is_timely rows ≡ true

-- the row accepts the event, under its number, and sends it on under another
pub record AcceptsEvent (event : ℕ × List ℕ) (row : Row) : Type 0 where
  pub taken : Taken
  pub is : row ≡ Row.Taken taken
  pub seen : Seen
  pub reads : frame_of event.1 ≡ Ok (Frame.Event seen)
  pub accepted : taken.refusal ≡ None
  pub numbered : taken.host_seq ≡ event.0
  pub gives : taken.seq ≢ 0
  pub message : taken.message ≡ out_of seen taken.seq

-- one row for each event, in order, which accepts it
abbrev pub AcceptAll : List (ℕ × List ℕ) → List Row → Type 0
AcceptAll [] [] = ⊤
AcceptAll [] (row ∷ rows) = ⊥
AcceptAll (event ∷ others) [] = ⊥
AcceptAll (event ∷ others) (row ∷ rows) = AcceptsEvent event row × AcceptAll others rows

-- What comes of it: the rows that name the DID accept its events, one each, all of them and in
-- order; and unless its repository was lost, both journals know the same of it.
pub record FollowsAll (did : List ℕ) (one two rows : List Row) : Type 0 where
  pub accepted : AcceptAll (events (rows_about did one)) (rows_about did rows)
  pub repo : ((rev : Option ℕ) → (account did one).repo ≢ Repo.Lost rev)
      → (account did (two ++ rows)).repo ≡ (account did one).repo

-- an event is read as one, under its number
pub record IsReadEvent (event : ℕ × List ℕ) : Type 0 where
  pub seen : Seen
  pub reads : frame_of event.1 ≡ Ok (Frame.Event seen)
  pub numbered : seen.seq ≡ event.0

abbrev pub AreReadEvents : List (ℕ × List ℕ) → Type 0
AreReadEvents events = AllByRecursion IsReadEvent events

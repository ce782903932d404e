-- A relay behind a relay, run after run: what the second one has taken of an account, and what
-- comes between its runs (own).
use Rattle.std.specs.Prelude.{◌≡◌, ◌≢◌, ⊤, ℕ, ◌≤◌, Bool, true, false, not, ◌&&◌, nat_le, nat_lt, List, [], ◌∷◌, ◌++◌, Option}
use Rattle.std.specs.List.{list_all, filter}
use Rattle.relay_row.specs.Folds.{cursor, events, last_seq}
use Rattle.relay_row.specs.Journal.{IsJournal, is_carried_row}
use Rattle.relay_row.specs.declared.row.Row.{Row}
use Rattle.account_state.specs.Folds.{account, last_rev}
use Rattle.account_state.specs.State.{State}
use Rattle.account_state.specs.declared.repo.Repo.{Repo}
use Rattle.relay_core.specs.Decide.{Checks}
use Rattle.relay_core.specs.Runs.{Run}
use Rattle.relay_core.specs.Shown.{says_yes}
use Rattle.relay_law.specs.Histories.{IsCut}
use Rattle.chain_law.specs.Given.{AreGiven}
use Rattle.chain_law.specs.Chained.{AllRaise, AcceptAll, all_about, events_shown, is_timely, rows_about, sent_by, withholds_nothing}

-- What a second relay knows of an account, beside what the first one knows: it is active where the
-- first shows it active, nobody took it down, and its repository is the same, or was lost by the
-- first alone, at the same revision.
pub record Trails (a b : State) : Type 0 where
  pub active : b.active ≡ (a.active && not a.down)
  pub up : b.down ≡ false
  pub rev : last_rev b.repo ≡ last_rev a.repo
  pub repo : ((rev : Option ℕ) → a.repo ≢ Repo.Lost rev) → b.repo ≡ a.repo

-- The relay of the journal `two` has taken from the host all that the journal `one` sends out of
-- the DID: no event of it stands above the host's cursor, which isn't past the journal, and it
-- knows of the account what that says.
pub record HasTaken (host did : List ℕ) (one two : List Row) : Type 0 where
  pub within : cursor host two ≤ last_seq one
  pub all : list_all (λ event. nat_le event.0 (cursor host two)) (events (rows_about did one))
      ≡ true
  pub knows : Trails (account did one) (account did two)

-- the events above a number
abbrev pub events_above : ℕ → List (ℕ × List ℕ) → List (ℕ × List ℕ)
events_above n events = filter (λ event. nat_lt n event.0) events

-- Behind the journal `one` more rows have come; the second relay is sent what is shown above its
-- cursor, and makes these rows of it, where whoever is asked says yes.
pub record RunsOn (checks : Checks) (shows : Row → Bool) (host : List ℕ)
    (one more two rows : List Row) : Type 0 where
  pub journal : IsJournal (one ++ more)
  pub given : AreGiven checks [] (one ++ more)
  pub run : Run checks two (sent_by host (events_above (cursor host two)
      (events_shown shows (one ++ more)))) rows
  pub yes : list_all says_yes rows ≡ true

-- What a DID has in the rows that have come: none is carried, all is shown, with rising revisions;
-- and none of the second relay's is refused for a revision far ahead of the clock.
pub record CanGoOn (did : List ℕ) (shows : Row → Bool) (one more rows : List Row) : Type 0 where
  pub uncut : all_about did (λ row. not (is_carried_row row)) more ≡ true
  pub shown : all_about did (withholds_nothing shows) more ≡ true
  pub raised : AllRaise did one more
  pub timely : all_about did is_timely rows ≡ true

-- What comes of it: the second relay's rows that name the DID accept its events in the rows that
-- have come, one each, all of them and in order; and so all was taken.
pub record GoesOn (host did : List ℕ) (one more two rows : List Row) : Type 0 where
  pub accepted : AcceptAll (events (rows_about did more)) (rows_about did rows)
  pub taken : HasTaken host did (one ++ more) (two ++ rows)

-- What comes next, once the second relay has run: the first journal, as it was, is cut at a number,
-- and this is left; the second one becomes this one, by a cut or by what concerns neither the host
-- nor the account; or these rows have come to the first one, the second relay runs again, and makes
-- these.
pub data Stage : Type 0 where
  cut_at : ℕ → List Row → Stage
  becomes : List Row → Stage
  run_on : List Row → List Row → Stage

-- the rows that came to the first journal
abbrev pub rows_come : List Stage → List Row
rows_come [] = []
rows_come (cut_at number now ∷ stages) = rows_come stages
rows_come (becomes now ∷ stages) = rows_come stages
rows_come (run_on more rows ∷ stages) = more ++ rows_come stages

-- and those of the second relay
abbrev pub rows_made : List Stage → List Row
rows_made [] = []
rows_made (cut_at number now ∷ stages) = rows_made stages
rows_made (becomes now ∷ stages) = rows_made stages
rows_made (run_on more rows ∷ stages) = rows ++ rows_made stages

-- what the first journal comes to, and the second one
abbrev pub first_behind : List Row → List Stage → List Row
first_behind one [] = one
first_behind one (cut_at number now ∷ stages) = first_behind now stages
first_behind one (becomes now ∷ stages) = first_behind one stages
first_behind one (run_on more rows ∷ stages) = first_behind (one ++ more) stages

abbrev pub second_behind : List Row → List Stage → List Row
second_behind two [] = two
second_behind two (cut_at number now ∷ stages) = second_behind two stages
second_behind two (becomes now ∷ stages) = second_behind now stages
second_behind two (run_on more rows ∷ stages) = second_behind (two ++ rows) stages

-- From these journals on, one stage comes after another, and each lets the DID go on. What a
-- journal shows hangs on all of it.
abbrev pub AreStages : Checks → (List Row → Row → Bool) → List ℕ → List ℕ → List Row → List Row
    → List Stage → Type 0
AreStages checks shows host did one two [] = ⊤
AreStages checks shows host did one two (cut_at number now ∷ stages) = IsCut one number now
    × AreStages checks shows host did now two stages
AreStages checks shows host did one two (becomes now ∷ stages) = (cursor host now ≡ cursor host two)
    × (account did now ≡ account did two) × AreStages checks shows host did one now stages
AreStages checks shows host did one two (run_on more rows ∷ stages) =
    RunsOn checks (shows (one ++ more)) host one more two rows
    × CanGoOn did (shows (one ++ more)) one more rows
    × AreStages checks shows host did (one ++ more) (two ++ rows) stages

-- What comes of them: the rows of the second relay that name the DID accept its events that came,
-- one each, all of them and in order; and unless its repository was lost, both journals know the
-- same of it in the end.
pub record FollowsOn (did : List ℕ) (one two : List Row) (stages : List Stage) : Type 0 where
  pub accepted : AcceptAll (events (rows_about did (rows_come stages)))
      (rows_about did (rows_made stages))
  pub repo : let a = account did (first_behind one stages) in
      ((rev : Option ℕ) → a.repo ≢ Repo.Lost rev)
      → (account did (second_behind two stages)).repo ≡ a.repo

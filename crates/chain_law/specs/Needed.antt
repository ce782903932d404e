-- The premises of the law of a relay behind a relay, one by one, and which of them it wants.
use Rattle.std.specs.Prelude.{◌≡◌, ◌≢◌, Bool, ℕ, true, false, not, List, []}
use Rattle.std.specs.List.{list_all}
use Rattle.relay_row.specs.Folds.{cursor, is_named}
use Rattle.relay_row.specs.Journal.{IsJournal, is_carried_row}
use Rattle.relay_row.specs.declared.row.Row.{Row}
use Rattle.relay_core.specs.Decide.{Checks}
use Rattle.relay_core.specs.Opening.{OpensRight}
use Rattle.relay_core.specs.Runs.{Run}
use Rattle.relay_core.specs.Shown.{says_yes}
use Rattle.relay_law.specs.Right.{LinksRight}
use Rattle.chain_law.specs.Chained.{AllRaise, FollowsAll, all_about, events_shown, is_timely, sent_by, withholds_nothing}
use Rattle.chain_law.specs.Given.{AreGiven}

pub data Premise : Type 0 where
  wants_journal : Premise
  wants_given : Premise
  wants_cursor : Premise
  wants_run : Premise
  wants_yes : Premise
  wants_uncut : Premise
  wants_shown : Premise
  wants_raised : Premise
  wants_new : Premise
  wants_timely : Premise

-- two relays' journals, the new rows of the second, and an account
pub record Case : Type 0 where
  pub one : List Row
  pub two : List Row
  pub rows : List Row
  pub host : List ℕ
  pub did : List ℕ
  pub shows : Row → Bool

abbrev pub HoldsPremise : Checks → Case → Premise → Type 0
HoldsPremise checks c wants_journal = IsJournal c.one
HoldsPremise checks c wants_given = AreGiven checks [] c.one
HoldsPremise checks c wants_cursor = cursor c.host c.two ≡ 0
HoldsPremise checks c wants_run = Run checks c.two
    (sent_by c.host (events_shown c.shows c.one)) c.rows
HoldsPremise checks c wants_yes = list_all says_yes c.rows ≡ true
HoldsPremise checks c wants_uncut = all_about c.did (λ row. not (is_carried_row row)) c.one ≡ true
HoldsPremise checks c wants_shown = all_about c.did (withholds_nothing c.shows) c.one ≡ true
HoldsPremise checks c wants_raised = AllRaise c.did [] c.one
HoldsPremise checks c wants_new = is_named c.did c.two ≡ false
HoldsPremise checks c wants_timely = all_about c.did is_timely c.rows ≡ true

-- In some case all premises but this hold, for right checks, and the law doesn't.
pub record IsNeeded (premise : Premise) : Type 0 where
  pub checks : Checks
  pub opens : OpensRight checks
  pub links : LinksRight checks
  pub case : Case
  pub others : (other : Premise) → other ≢ premise → HoldsPremise checks case other
  pub fails : FollowsAll case.did case.one case.two case.rows → ⊥

pub record PremisesAreNeeded : Type 0 where
  pub given : IsNeeded wants_given
  pub cursor : IsNeeded wants_cursor
  pub run : IsNeeded wants_run
  pub uncut : IsNeeded wants_uncut
  pub shown : IsNeeded wants_shown
  pub new : IsNeeded wants_new

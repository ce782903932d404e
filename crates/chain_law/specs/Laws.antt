-- What holds of every relay behind a relay.
use Rattle.std.specs.Prelude.{◌≡◌, ◌≢◌, ℕ, ◌≤◌, Bool, true, false, List, []}
use Rattle.std.specs.List.{list_all}
use Rattle.relay_row.specs.Folds.{cursor, events, is_named, last_seq}
use Rattle.relay_row.specs.Journal.{IsJournal}
use Rattle.relay_row.specs.declared.row.Row.{Row}
use Rattle.relay_core.specs.Decide.{Checks}
use Rattle.relay_core.specs.Opening.{OpensRight}
use Rattle.relay_core.specs.Runs.{Run}
use Rattle.relay_core.specs.Shown.{says_yes}
use Rattle.relay_law.specs.Right.{LinksRight}
use Rattle.chain_law.specs.Given.{AreGiven}
use Rattle.chain_law.specs.Chained.{events_shown, sent_by, CanFollow, FollowsAll, AreReadEvents}
use Rattle.chain_law.specs.Again.{AreStages, CanGoOn, FollowsOn, GoesOn, HasTaken, RunsOn, Stage}

-- What one relay shows of its journal, taken by another as messages of a host that is new to it,
-- where whoever is asked of homes and signatures says yes: of each DID whose whole history the one
-- shows and that the other didn't know, all events are accepted, in order.
abbrev pub RelaysFollow : Type 0
RelaysFollow = (checks : Checks) → OpensRight checks → LinksRight checks
    → (one two rows : List Row) (host did : List ℕ) (shows : Row → Bool)
    → IsJournal one → AreGiven checks [] one → cursor host two ≡ 0
    → Run checks two (sent_by host (events_shown shows one)) rows → list_all says_yes rows ≡ true
    → CanFollow did shows one two rows → FollowsAll did one two rows

-- Each event of a journal that a relay made is read as one, under its number: none of them ends its
-- host.
abbrev pub EventsAreRead : Type 0
EventsAreRead = (checks : Checks) → OpensRight checks → LinksRight checks → (J : List Row)
    → IsJournal J → AreGiven checks [] J → AreReadEvents (events J)

-- Where a second relay has taken all that a journal sends out of a DID, and runs again once more
-- rows have come to it, it accepts all events of the DID in these, in order, and has taken them
-- too.
abbrev pub RelaysGoOn : Type 0
RelaysGoOn = (checks : Checks) → OpensRight checks → LinksRight checks
    → (one more two rows : List Row) (host did : List ℕ) (shows : Row → Bool) → host ≢ []
    → RunsOn checks shows host one more two rows → HasTaken host did one two
    → CanGoOn did shows one more rows → GoesOn host did one more two rows

-- So run after run, where the first journal is cut no further than it was taken: of each DID that
-- neither journal named before, all events that come to the first one are accepted by the second
-- relay, once each, in order.
abbrev pub RunsFollow : Type 0
RunsFollow = (checks : Checks) → OpensRight checks → LinksRight checks
    → (shows : List Row → Row → Bool) (host did : List ℕ) → host ≢ []
    → (one two : List Row) (stages : List Stage) → cursor host two ≤ last_seq one
    → is_named did one ≡ false → is_named did two ≡ false
    → AreStages checks shows host did one two stages → FollowsOn did one two stages

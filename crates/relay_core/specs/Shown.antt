-- What a row shows of the answers from which it was made (own).
use Rattle.std.specs.Prelude.{ℕ, Bool, true, false, ◌&&◌, List, [], Option, Some, None, Result, Ok, Err}
use Rattle.std.specs.FinMap as map
use Rattle.at_car.specs.Blocks.{BlockMap}
use Rattle.at_car.specs.Car.{car_of}
use Rattle.at_car.specs.declared.fault.CarFault.{CarFault}
use Rattle.at_event.specs.Frames.{frame_of}
use Rattle.at_event.specs.declared.event.Body.{Body}
use Rattle.at_event.specs.declared.frame.Frame.{Frame}
use Rattle.at_event.specs.declared.frame.FrameFault.{FrameFault}
use Rattle.at_event.specs.declared.refusal.Refusal.{Refusal}
use Rattle.relay_row.specs.declared.fetched.Fetched.{Fetched}
use Rattle.relay_row.specs.declared.row.Row.{Row}
use Rattle.relay_row.specs.declared.taken.Taken.{Taken}
use Rattle.relay_core.specs.Decide.{Outside, Found, absent, unfit, found}

-- not the home where a row says so, else the home
abbrev pub shows_home : Option Refusal → Bool
shows_home (Some Refusal.NotHome) = false
shows_home other = true

-- a bad signature where a row says so, else a good one
abbrev pub shows_verdict : Option Refusal → Bool
shows_verdict (Some Refusal.BadSignature) = false
shows_verdict other = true

-- A row shows that whoever was asked said yes: the host is the account's home, and the signature is
-- good.
abbrev pub says_yes : Row → Bool
says_yes (Row.Taken t) = shows_home t.refusal && shows_verdict t.refusal
says_yes row = true

abbrev pub or_empty : Option (List ℕ) → List ℕ
or_empty None = []
or_empty (Some block) = block

abbrev pub block_of : Result (List (List ℕ) × BlockMap) CarFault → List ℕ → List ℕ
block_of (Ok car) link = or_empty (map.get car.1 link)
block_of (Err fault) link = []

abbrev pub block_in_body : Body → List ℕ → List ℕ
block_in_body (Body.Sync s) link = block_of (car_of s.blocks) link
block_in_body (Body.Commit c) link = []
block_in_body Body.Identity link = []
block_in_body (Body.Account a) link = []

abbrev pub block_in_frame : Result Frame FrameFault → List ℕ → List ℕ
block_in_frame (Ok (Frame.Event e)) link = block_in_body e.body link
block_in_frame other link = []

-- the block under a link in the CAR of a `#sync` message
unfoldable pub commit_block_in : List ℕ → List ℕ → List ℕ
commit_block_in message link = block_in_frame (frame_of message) link

-- what was fetched: of a repository that was taken over, the commit's block stands in its message
abbrev pub found_in : Fetched → Found
found_in Fetched.NotAsked = absent
found_in Fetched.Absent = absent
found_in (Fetched.Refused n) = unfit n
found_in (Fetched.Whole w) = found w.head w.records (commit_block_in w.message w.head.commit)

abbrev pub or_zero : Option ℕ → ℕ
or_zero None = 0
or_zero (Some n) = n

abbrev pub shown : Taken → Outside
shown t = record {
  moment = or_zero t.moment;
  home = shows_home t.refusal;
  verdict = shows_verdict t.refusal;
  fetched = found_in t.fetched;
}

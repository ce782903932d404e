-- The right answers to opening an event: the first refusal that it shows by itself, or the head
-- that its blocks give its repository.
use Rattle.std.specs.Prelude.{◌≡◌, ℕ, List, Option, None, Ok}
use Rattle.at_car.specs.Car.{car_of}
use Rattle.at_commit.specs.declared.commit.Commit.{Commit}
use Rattle.at_event.specs.Seen.{Seen}
use Rattle.at_event.specs.declared.event.Body.{Body}
use Rattle.at_event.specs.declared.head.Head.{Head}
use Rattle.at_event.specs.declared.refusal.Refusal.{Refusal}
use Rattle.event_checks.specs.Lines.{first_of}
use Rattle.event_checks.specs.Opening.{CarResult, IsFound}
use Rattle.event_checks.specs.Table.{car_in, open_lines, sync_lines}
use Rattle.relay_core.specs.Decide.{Checks, refusal_in}

-- the first refusal that an event shows by itself, beside the last revision of its account
abbrev pub shown_alone : Body → Option ℕ → Option Refusal
shown_alone (Body.Commit c) last = first_of (open_lines c last)
shown_alone (Body.Sync s) last = first_of (sync_lines s last)
shown_alone Body.Identity last = None
shown_alone (Body.Account a) last = None

-- the head is that of the commit object under the first root of a CAR
pub record IsHeadIn (car : CarResult) (rev : ℕ) (head : Head) : Type 0 where
  pub block : List ℕ
  pub commit : Commit
  pub found : IsFound car head.commit block commit
  pub rev_is : head.rev ≡ rev
  pub data_is : head.data_root ≡ commit.data_root

abbrev pub IsHeadOf : Body → Head → Type 0
IsHeadOf (Body.Commit c) head = IsHeadIn (car_in c) c.rev head
IsHeadOf (Body.Sync s) head = IsHeadIn (car_of s.blocks) s.rev head
IsHeadOf Body.Identity head = Unit {0}
IsHeadOf (Body.Account a) head = Unit {0}

-- Opening says what is right.
pub record OpensRight (checks : Checks) : Type 0 where
  pub refusal : (e : Seen) (last : Option ℕ)
      → refusal_in (checks.opens e last) ≡ shown_alone e.body last
  pub head : (e : Seen) (last : Option ℕ) (head : Head) → checks.opens e last ≡ Ok head
      → IsHeadOf e.body head

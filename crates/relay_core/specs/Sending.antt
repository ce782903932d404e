-- When the relay's own `#sync` of a commit that was fetched can be sent.
use Rattle.std.specs.Prelude.{◌≡◌, ℕ, ◌+◌, ◌^◌, ◌<◌, ◌≤◌, true, List, length}
use Rattle.at_cbor.specs.Encoding.{IsString, IsText}
use Rattle.at_syntax.specs.Did.{is_did}
use Rattle.at_car.specs.Blocks.{IsLinkOf}
use Rattle.at_event.specs.Seen.{Seen}
use Rattle.at_event.specs.declared.head.Head.{Head}
use Rattle.at_cid.specs.declared.limits.TheConstants.{NUMBERS}
use Rattle.relay_core.specs.Decide.{Found, found, commit_car}

-- The account and the time are those of an event, the block is its link's, and a number is left.
pub record CanBeSent (last : ℕ) (e : Seen) (head : Head) (block : List ℕ) : Type 0 where
  pub did : IsText e.did
  pub named : is_did e.did ≡ true
  pub time : IsText e.time
  pub short : length e.time ≤ 64
  pub rev : head.rev < 2 ^ 64
  pub commit : IsLinkOf head.commit block
  pub car : IsString (commit_car head block)
  pub car_short : length (commit_car head block) < 2 ^ 63
  pub number : last + 1 < NUMBERS

-- the same of what a fetch found, where it found a commit
abbrev pub IsSendable : ℕ → Seen → Found → Type 0
IsSendable last e f = (head : Head) (records : ℕ) (block : List ℕ) → f ≡ found head records block
    → CanBeSent last e head block

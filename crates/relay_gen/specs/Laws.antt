-- A law of made histories.
use Rattle.std.specs.Prelude.{◌≡◌, ◌<◌, ◌≤◌, ℕ, List, Ok}
use Rattle.std.specs.List.{Contains}
use Rattle.at_cbor.specs.Encoding.{IsString}
use Rattle.at_event.specs.Frames.{frame_of}
use Rattle.at_event.specs.Seen.{Seen}
use Rattle.at_event.specs.declared.frame.Frame.{Frame}
use Rattle.relay_gen.specs.declared.history.TheConstants.{MOST_MESSAGES}
use Rattle.relay_gen.specs.Histories.{history}
use Rattle.relay_gen.specs.Names.{generated_did, host_of}

-- the message, if it is an event, is one of an account of the host
pub record IsOfItsHost (host did : List ℕ) : Type 0 where
  pub account : ℕ
  pub low : account < 16
  pub did_is : did ≡ generated_did account
  pub host_is : host ≡ host_of account

-- Each event of a made history is of an account of the host that sends it, so no two hosts tell of
-- one account. (Every message that is at hand is a string of bytes.)
abbrev pub HostsTellOfTheirOwn : Type 0
HostsTellOfTheirOwn = (start n : ℕ) (host message : List ℕ) (e : Seen) → n ≤ MOST_MESSAGES
    → IsString message → Contains (history start n).messages (host, message)
    → frame_of message ≡ Ok (Frame.Event e) → IsOfItsHost host e.did

-- Rows of events whose messages aren't encoded yet (own).
use Rattle.std.specs.Prelude.{⊤, ◌<◌, ℕ, List, Option, Some, None}
use Rattle.at_event.specs.Seen.{Seen}
use Rattle.at_event.specs.Writing.{out_of}
use Rattle.at_cid.specs.declared.limits.TheConstants.{NUMBERS}
use Rattle.relay_row.specs.declared.taken.Taken.{Taken}

-- the message: the event's under the row's number, where there is one
abbrev pub message_of : Taken → Option Seen → List ℕ
message_of t None = t.message
message_of t (Some e) = out_of e t.seq

-- the row, with it
abbrev pub with_message : Taken → Option Seen → Taken
with_message t e = record t { message = message_of t e }

-- an event goes out under a number
abbrev pub HasNumber : Taken → Option Seen → Type 0
HasNumber t None = ⊤
HasNumber t (Some e) = t.seq < NUMBERS

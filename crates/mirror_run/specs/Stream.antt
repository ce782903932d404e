-- Streams of messages, each after its length in four bytes, and how far a mirror can take them
-- (own).
use Rattle.std.specs.Prelude.{◌≡◌, ◌≢◌, ◌≤◌, ◌<◌, ℕ, Bool, true, false, List, [], ◌∷◌, ◌++◌, length, filter, Result, Ok}
use Rattle.std.specs.Int.{to_be_bytes, w32}
use Rattle.std.specs.List.{list_any}
use Rattle.at_event.specs.Frames.{frame_of}
use Rattle.at_event.specs.declared.frame.Frame.{Frame}
use Rattle.at_event.specs.declared.frame.FrameFault.{FrameFault}
use Rattle.backfill.specs.Writing.{with_length}
use Rattle.at_cid.specs.Lengths.{length_prefixed}
use Rattle.relay_io.specs.declared.feed.TheConstants.{LONGEST_FEED_MESSAGE}
use Rattle.mirror.specs.Taken.{is_such_event_of, is_bad, last_behind}
use Rattle.at_event.specs.Bodies.{has_blocks}

-- each message is short, and none is bad behind those before it
abbrev pub AreGood : ℕ → List (List ℕ) → Type 0
AreGood last [] = Unit {0}
AreGood last (m ∷ messages) =
    (length m ≤ LONGEST_FEED_MESSAGE) × (is_bad last (frame_of m) ≡ false)
    × AreGood (last_behind last (frame_of m)) messages

-- the last number behind messages
abbrev pub last_seq_behind : ℕ → List (List ℕ) → ℕ
last_seq_behind last [] = last
last_seq_behind last (m ∷ messages) = last_seq_behind (last_behind last (frame_of m)) messages

-- The bytes begin with these messages, each of which can be taken behind those before it.
pub record BeginWith (bytes : List ℕ) (messages : List (List ℕ)) (rest : List ℕ) : Type 0 where
  pub split : bytes ≡ with_length messages ++ rest
  pub good : AreGood 0 messages

-- Something is left, and no whole message at its front that can be taken behind this number.
pub record IsBadFrom (last : ℕ) (rest : List ℕ) : Type 0 where
  pub some : rest ≢ []
  pub none : (m more : List ℕ) → rest ≡ length_prefixed m ++ more → length m ≤ LONGEST_FEED_MESSAGE
      → is_bad last (frame_of m) ≡ true

-- the same behind messages
abbrev pub IsBadBehind : List (List ℕ) → List ℕ → Type 0
IsBadBehind messages rest = IsBadFrom (last_seq_behind 0 messages) rest

-- bytes end inside a message, or before it: in its length, or in what stands behind that
pub data EndsInMessage (bytes : List ℕ) : Type 0 where
  in_length : length bytes < 4 → EndsInMessage bytes
  in_message : (size : ℕ) (front : List ℕ) → size ≤ LONGEST_FEED_MESSAGE
      → bytes ≡ to_be_bytes w32 size ++ front
      → length front < size → EndsInMessage bytes

-- the message is an event
abbrev pub is_event : Result Frame FrameFault → Bool
is_event (Ok (Frame.Event e)) = true
is_event other = false

-- how many events there are among messages
abbrev pub event_count : List (List ℕ) → ℕ
event_count messages = length (filter (λ m. is_event (frame_of m)) messages)

-- a commit or a `#sync` of the DID is among them
abbrev pub tell_of : List ℕ → List (List ℕ) → Bool
tell_of did messages = list_any (λ m. is_such_event_of has_blocks did (frame_of m)) messages

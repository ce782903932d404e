-- What a reader of a stream's front sees, as a function of the bytes. No public clause cites this
-- file.
use Rattle.std.specs.Prelude.{◌≡◌, ◌≤◌, ◌<◌, ◌^◌, ℕ, List, [], ◌++◌, length, take, drop, nat_lt, if◌then◌else◌}
use Rattle.std.specs.Int.{from_be_bytes, to_be_bytes, w32}
use Rattle.at_cid.specs.Lengths.{length_prefixed}
use Rattle.relay_io.specs.declared.feed.TheConstants.{LONGEST_FEED_MESSAGE}
use Rattle.tape.specs.declared.record.TheConstants.{LONGEST_RECORD}
use Rattle.mirror_run.specs.declared.front.Front.{Front}
use Rattle.mirror_run.specs.Stream.{EndsInMessage}

-- a message and what stands behind it; the length of one that is too long; or too few bytes
pub data Shown : Type 0 where
  found : List ℕ → List ℕ → Shown
  too_long : Shown
  cut : Shown

-- the length of a message is whole and too great
pub record HasLongMessage (bytes : List ℕ) : Type 0 where
  pub size : ℕ
  pub rest : List ℕ
  pub is : bytes ≡ to_be_bytes w32 size ++ rest
  pub long : LONGEST_FEED_MESSAGE < size
  pub fits : size < 2 ^ 32

abbrev pub Shows : List ℕ → Shown → Type 0
Shows bytes (found message rest) = (length message ≤ LONGEST_FEED_MESSAGE)
    × (bytes ≡ length_prefixed message ++ rest)
Shows bytes too_long = HasLongMessage bytes
Shows bytes cut = EndsInMessage bytes

-- behind the length of a message
abbrev pub message_of : ℕ → List ℕ → Shown
message_of size bytes =
    if nat_lt LONGEST_FEED_MESSAGE size then too_long
    else (if nat_lt (length bytes) size then cut else found (take size bytes) (drop size bytes))

abbrev pub front_of : List ℕ → Shown
front_of bytes = if nat_lt (length bytes) 4 then cut
    else message_of (from_be_bytes w32 (take 4 bytes)) (drop 4 bytes)

-- what stands behind a message
abbrev pub rest_of : Shown → List ℕ
rest_of (found message rest) = rest
rest_of too_long = []
rest_of cut = []

-- what the code calls what is seen
abbrev pub IsFront : Front → Shown → Type 0
IsFront (Front.Message m) shown = shown ≡ found m (rest_of shown)
IsFront Front.TooLong shown = shown ≡ too_long
IsFront (Front.More total) shown = shown ≡ cut

-- a message that isn't whole has more bytes than these, and no more than a record of a tape may
-- have
abbrev pub IsLonger : ℕ → Front → Type 0
IsLonger length (Front.More total) = (length < total) × (total ≤ LONGEST_RECORD)
IsLonger length front = Unit {0}

-- what stands at the front of bytes
abbrev pub ShowsFront : Front → List ℕ → Type 0
ShowsFront (Front.Message m) bytes = (rest : List ℕ) × Shows bytes (found m rest)
ShowsFront Front.TooLong bytes = Shows bytes too_long
ShowsFront (Front.More total) bytes = Shows bytes cut

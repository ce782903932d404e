-- What a reader of a front sees, as a function of the bytes. No public clause cites this file.
use Rattle.std.specs.Prelude.{◌≡◌, ◌≤◌, ◌<◌, ℕ, List, [], ◌∷◌, length, take, drop, Bool, true, false, nat_lt, if◌then◌else◌}
use Rattle.std.specs.Int.{from_be_bytes, w32}
use Rattle.at_syntax.specs.Host.{is_host}
use Rattle.relay_io.specs.declared.feed.TheConstants.{LONGEST_FEED_MESSAGE}
use Rattle.tape.specs.declared.record.TheConstants.{LONGEST_RECORD}
use Rattle.tape.specs.declared.front.Front.{Front}
use Rattle.tape.specs.Shown.{Shown, nothing, found, bad_name, too_long, cut, Shows, NeedsMore}

-- behind the length of a message
abbrev pub message_of : List ℕ → ℕ → List ℕ → Shown
message_of name size bytes = if nat_lt LONGEST_FEED_MESSAGE size then too_long else
    (if nat_lt (length bytes) size then cut else found name (take size bytes) (drop size bytes))

-- behind the name of a host
abbrev pub behind_name : List ℕ → List ℕ → Shown
behind_name name bytes = if nat_lt (length bytes) 4 then cut
    else message_of name (from_be_bytes w32 (take 4 bytes)) (drop 4 bytes)

-- a name, and what stands behind it
abbrev pub name_of : List ℕ → List ℕ → Shown
name_of name bytes = if is_host name then behind_name name bytes else bad_name

abbrev pub front_of : List ℕ → Shown
front_of [] = nothing
front_of (count ∷ bytes) = if nat_lt (length bytes) count then cut
    else name_of (take count bytes) (drop count bytes)

abbrev pub needs_more : Shown → Bool
needs_more nothing = true
needs_more (found host message rest) = false
needs_more bad_name = false
needs_more too_long = false
needs_more cut = true

-- what stands behind a record
abbrev pub rest_of : Shown → List ℕ
rest_of nothing = []
rest_of (found host message rest) = rest
rest_of bad_name = []
rest_of too_long = []
rest_of cut = []

-- what the code calls what is seen
abbrev pub IsFront : ℕ → Front → Shown → Type 0
IsFront place (Front.Record r) shown =
    (shown ≡ found r.host r.message (rest_of shown)) × (r.place ≡ place)
IsFront place Front.BadName shown = shown ≡ bad_name
IsFront place Front.TooLong shown = shown ≡ too_long
IsFront place (Front.More total) shown = needs_more shown ≡ true

-- a record that isn't whole has more bytes than these, and no more than a record may have
abbrev pub IsLonger : ℕ → Front → Type 0
IsLonger length (Front.More total) = (length < total) × (total ≤ LONGEST_RECORD)
IsLonger length front = Unit {0}

-- what stands at the front of bytes at a place
abbrev pub ShowsFront : ℕ → Front → List ℕ → Type 0
ShowsFront place (Front.Record r) bytes =
    (rest : List ℕ) × Shows bytes (found r.host r.message rest) × (r.place ≡ place)
ShowsFront place Front.BadName bytes = Shows bytes bad_name
ShowsFront place Front.TooLong bytes = Shows bytes too_long
ShowsFront place (Front.More total) bytes = NeedsMore bytes

-- The head of an item (RFC 8949, section 3), and the first rule that it breaks. A flaw is which
-- rule is broken, and how many bytes are left where the head begins.
use Rattle.std.specs.Prelude.{ℕ, ◌%◌, ◌^◌, pos, negsuc, List, [], ◌∷◌, length, take, drop, slice_index, Bool, true, false, ◌&&◌, ◌||◌, Option, Some, None, Result, Ok, Err, nat_lt, nat_le, ◌==◌, if◌then◌else◌}
use Rattle.std.specs.Int.{Width, w8, w16, w32, w64, byte_len, from_be_bytes}
use Rattle.at_cid.specs.Link.{prefix_of, link_at}
use Rattle.at_cid.specs.declared.cid.Kind.TheVariants.{Node, Raw}
use Rattle.at_cbor.specs.declared.limits.TheConstants.{INTEGERS, TAGGED_LEN}
use Rattle.at_cbor.specs.declared.fault.Cause.{Cause}
use Rattle.at_cbor.specs.declared.fault.Stop.{Stop}
use Rattle.at_cbor.specs.declared.head.Head.{Head}
use Rattle.at_cbor.specs.declared.major.Major.{Major}
use Rattle.at_cbor.specs.Majors.{major_in}

abbrev pub Flaw : Type 0
Flaw = Cause × ℕ

-- what is wrong, where memory wasn't wanted
abbrev pub flaw_of : Stop → Option Flaw
flaw_of Stop.Memory = None
flaw_of (Stop.At cause left) = Some (cause, left)

-- a number of so many bytes, and the bytes behind it
abbrev pub wide_at : Width → List ℕ → Option (ℕ × List ℕ)
wide_at w bytes = if nat_lt (length bytes) (byte_len w) then None
    else Some (from_be_bytes w (take (byte_len w) bytes), drop (byte_len w) bytes)

-- the argument that the low five bits announce
unfoldable pub argument_at : ℕ → List ℕ → Option (ℕ × List ℕ)
argument_at info bytes =
    if info == 24 then wide_at w8 bytes
    else (if info == 25 then wide_at w16 bytes
    else (if info == 26 then wide_at w32 bytes
    else (if info == 27 then wide_at w64 bytes
    else Some (info, bytes))))

-- the least argument that needs its form
abbrev pub least_of : ℕ → ℕ
least_of info =
    if info == 24 then 24
    else (if info == 25 then 2 ^ 8
    else (if info == 26 then 2 ^ 16
    else (if info == 27 then 2 ^ 32
    else 0)))

-- one of the two begins the other
abbrev pub agrees : List ℕ → List ℕ → Bool
agrees [] ys = true
agrees (x ∷ xs) [] = true
agrees (x ∷ xs) (y ∷ ys) = x == y && agrees xs ys

-- too few bytes for a link behind its tag, and so far as in front of one
abbrev pub begins_link : List ℕ → Bool
begins_link bytes = agrees bytes (0x58 ∷ 0x25 ∷ 0x00 ∷ prefix_of Node)
    || agrees bytes (0x58 ∷ 0x25 ∷ 0x00 ∷ prefix_of Raw)

abbrev pub link_behind : ℕ → Option (List ℕ) → List ℕ → Result (Head × List ℕ) Flaw
link_behind left None rest = Err (Cause.BadTag, left)
link_behind left (Some link) rest = Ok (Head.Link link, rest)

-- the link in the 39 bytes behind its tag: the head of a byte string of 37 bytes, a 0, and the link
unfoldable pub whole_link : ℕ → List ℕ → Result (Head × List ℕ) Flaw
whole_link left bytes =
    if slice_index bytes 0 == 0x58 && slice_index bytes 1 == 0x25 && slice_index bytes 2 == 0x00
    then link_behind left (link_at (drop 3 bytes)) (drop TAGGED_LEN bytes)
    else Err (Cause.BadTag, left)

unfoldable pub tagged : ℕ → List ℕ → Result (Head × List ℕ) Flaw
tagged left bytes =
    if nat_le TAGGED_LEN (length bytes) then whole_link left bytes
    else (if begins_link bytes then Err (Cause.Short, left) else Err (Cause.BadTag, left))

-- what the byte of a simple value says
abbrev pub simple_of : ℕ → ℕ → List ℕ → Result (Head × List ℕ) Flaw
simple_of first left rest =
    if first == 0xf4 then Ok (Head.Bool false, rest)
    else (if first == 0xf5 then Ok (Head.Bool true, rest)
    else (if first == 0xf6 then Ok (Head.Null, rest)
    else Err (Cause.BadSimple, left)))

-- an argument for which fewer bytes would do. A simple value has none
abbrev pub is_long : Major → ℕ → ℕ → Bool
is_long Major.Simple info n = false
is_long major info n = nat_lt n (least_of info)

-- what a first byte of this major type and an argument say
unfoldable pub major_of : Major → ℕ → ℕ → ℕ → List ℕ → Result (Head × List ℕ) Flaw
major_of Major.Unsigned first left n rest = if nat_lt n INTEGERS
    then Ok (Head.Int (pos n), rest) else Err (Cause.IntRange, left)
major_of Major.Negative first left n rest = if nat_lt n INTEGERS
    then Ok (Head.Int (negsuc n), rest) else Err (Cause.IntRange, left)
major_of Major.Bytes first left n rest = Ok (Head.Bytes n, rest)
major_of Major.Text first left n rest = Ok (Head.Text n, rest)
major_of Major.List first left n rest = Ok (Head.List n, rest)
major_of Major.Map first left n rest = Ok (Head.Map n, rest)
major_of Major.Tag first left n rest = if n == 42 then tagged left rest
    else Err (Cause.BadTag, left)
major_of Major.Simple first left n rest = simple_of first left rest

-- a first byte and its argument, where that isn't cut
unfoldable pub argued : ℕ → ℕ → Option (ℕ × List ℕ) → Result (Head × List ℕ) Flaw
argued first left None = Err (Cause.Short, left)
argued first left (Some a) =
    if nat_le 28 (first % 32) then Err (Cause.Indefinite, left)
    else (if is_long (major_in first) (first % 32) a.0 then Err (Cause.NotShortest, left)
    else major_of (major_in first) first left a.0 a.1)

unfoldable pub head_at : List ℕ → Result (Head × List ℕ) Flaw
head_at [] = Err (Cause.Short, 0)
head_at (first ∷ bytes) = argued first (length (first ∷ bytes)) (argument_at (first % 32) bytes)

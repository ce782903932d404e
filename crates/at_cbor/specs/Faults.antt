-- What each fault says of the bytes at its place, and of what stands in front of it.
-- (Heads by RFC 8949, section 3. The rules are those of the DAG-CBOR specification; in which order
-- they are asked is this project's own.)
use Rattle.std.specs.Prelude.{◌≡◌, ◌≢◌, ⊤, ◌⊎◌, ℕ, ◌+◌, ◌-◌, ◌*◌, ◌%◌, ◌<◌, ◌≤◌, List, [], ◌∷◌, ◌++◌, length, take, Option, Some, None, IfSome, Bool, true, false, ◌==◌, if◌then◌else◌}
use Rattle.std.specs.Int.{Width, w8, w16, w32, w64, byte_len, to_be_bytes}
use Rattle.std.specs.Str.{is_utf8}
use Rattle.at_cid.specs.Link.{is_link}
use Rattle.at_cbor.specs.declared.limits.TheConstants.{ARGUMENTS, INTEGERS, TAGGED_LEN}
use Rattle.at_cbor.specs.declared.major.Major.{Major}
use Rattle.at_cbor.specs.declared.fault.Cause.{Cause}
use Rattle.at_cbor.specs.declared.head.Head.{Head}
use Rattle.at_cbor.specs.Item.{Item, items_of, fields_of, is_above, last_key}
use Rattle.at_cbor.specs.Majors.{major_number, major_in}
use Rattle.at_cbor.specs.declared.decoding.TheConstants.{DEPTH}
use Rattle.at_cbor.specs.Encoding.{front_of, tail_of, text_encoding, items_encoding, fields_encoding, head_encoding, HeadFits, IsText, ItemsFit, FieldsFit}

-- ---- heads: a first byte of 32 * major type + low five bits, and the argument that these announce

-- how wide the argument behind the first byte is, where it isn't in the low five bits themselves
abbrev pub wide_for : ℕ → Option Width
wide_for info = if info == 24 then Some w8 else (if info == 25 then Some w16
    else (if info == 26 then Some w32 else (if info == 27 then Some w64 else None)))

abbrev pub wide_len : Option Width → ℕ
wide_len None = 0
wide_len (Some w) = byte_len w

abbrev pub argument_len : ℕ → ℕ
argument_len info = wide_len (wide_for info)

-- nothing is there, or the argument is cut by the end of the input
abbrev pub IsCut : List ℕ → Type 0
IsCut [] = ⊤
IsCut (first ∷ rest) = length rest < argument_len (first % 32)

-- the low five bits are 28 to 31
abbrev pub IsReserved : List ℕ → Type 0
IsReserved [] = ⊥
IsReserved (first ∷ rest) = 28 ≤ first % 32

-- a whole head of major type 7 that is neither false, true nor null
abbrev pub IsOtherSimple : List ℕ → Type 0
IsOtherSimple [] = ⊥
IsOtherSimple (first ∷ rest) =
    (major_in first ≡ Major.Simple) × (argument_len (first % 32) ≤ length rest)
    × (first % 32 < 28) × (first ≢ 0xf4) × (first ≢ 0xf5) × (first ≢ 0xf6)

-- an argument for which fewer bytes would do
abbrev pub IsLongForm : List ℕ → Type 0
IsLongForm here = (major : Major) × (info : ℕ) × (w : Width) × (n : ℕ)
    × (rest : List ℕ) × (major ≢ Major.Simple) × (wide_for info ≡ Some w)
    × (here ≡ (32 * major_number major + info) ∷ (to_be_bytes w n ++ rest))
    × (length (tail_of n) < byte_len w)

-- an integer of 2^63 or more, or below -2^63
abbrev pub IsOutOfRange : List ℕ → Type 0
IsOutOfRange here = (n : ℕ) × (rest : List ℕ) × (n < ARGUMENTS)
    × ((here ≡ front_of Major.Unsigned n ++ rest) ⊎ (here ≡ front_of Major.Negative n ++ rest))
    × (INTEGERS ≤ n)

-- what has to stand behind tag 42: the front of a byte string of 37 bytes, a 0, and a link
abbrev pub IsTagged : List ℕ → Type 0
IsTagged body = (link : List ℕ) × (is_link link ≡ true) × (body ≡ 0x58 ∷ 0x25 ∷ 0x00 ∷ link)

-- the 39 bytes behind a tag, or as many of them as are there, may be such, with others behind them
abbrev pub MayBeTagged : List ℕ → Type 0
MayBeTagged behind = (more : List ℕ) × IsTagged (take TAGGED_LEN behind ++ more)

abbrev pub IsOtherTag : List ℕ → Type 0
IsOtherTag here = (n : ℕ) × (rest : List ℕ) × (n < ARGUMENTS)
    × (here ≡ front_of Major.Tag n ++ rest) × (n ≢ 42)

abbrev pub IsTagOfNone : List ℕ → Type 0
IsTagOfNone here = (rest : List ℕ) × (here ≡ front_of Major.Tag 42 ++ rest) × (MayBeTagged rest → ⊥)

abbrev pub IsTagCut : List ℕ → Type 0
IsTagCut here = (rest : List ℕ) × (here ≡ front_of Major.Tag 42 ++ rest)
    × (length rest < TAGGED_LEN) × MayBeTagged rest

-- the rules of heads
abbrev pub BreaksHead : Cause → List ℕ → Type 0
BreaksHead Cause.Short here = IsCut here ⊎ IsTagCut here
BreaksHead Cause.Indefinite here = IsReserved here
BreaksHead Cause.BadSimple here = IsOtherSimple here
BreaksHead Cause.NotShortest here = IsLongForm here
BreaksHead Cause.IntRange here = IsOutOfRange here
BreaksHead Cause.BadTag here = IsOtherTag here ⊎ IsTagOfNone here
BreaksHead Cause.KeyOrder here = ⊥
BreaksHead Cause.TooDeep here = ⊥
BreaksHead Cause.BadText here = ⊥

-- ---- values and keys

-- a byte string or a text, by its major type, that runs past the end
abbrev pub IsStringCut : Major → List ℕ → Type 0
IsStringCut major here = (n : ℕ) × (rest : List ℕ) × (n < ARGUMENTS)
    × (here ≡ front_of major n ++ rest) × (length rest < n)

-- a whole text that isn't UTF-8
abbrev pub IsNoUtf8 : List ℕ → Type 0
IsNoUtf8 here = (text : List ℕ) × (rest : List ℕ) × (length text < ARGUMENTS)
    × (here ≡ text_encoding text ++ rest) × (is_utf8 text ≡ false)

-- a list or a map
abbrev pub IsContainer : List ℕ → Type 0
IsContainer here = (n : ℕ) × (rest : List ℕ) × (n < ARGUMENTS)
    × ((here ≡ front_of Major.List n ++ rest) ⊎ (here ≡ front_of Major.Map n ++ rest))

abbrev pub IsTextHead : Head → Bool
IsTextHead (Head.Text n) = true
IsTextHead head = false

-- a head that keeps the rules, of what is no text
abbrev pub IsNoText : List ℕ → Type 0
IsNoText here = (head : Head) × (rest : List ℕ) × HeadFits head
    × (here ≡ head_encoding head ++ rest) × (IsTextHead head ≡ false)

-- a text that isn't above the key before it
abbrev pub IsLowKey : Option (List ℕ) → List ℕ → Type 0
IsLowKey before here = (key : List ℕ) × (rest : List ℕ) × IsText key
    × (here ≡ text_encoding key ++ rest) × (is_above before key ≡ false)

-- what is wrong where a value is due, inside which so many lists and maps may be in one another
abbrev pub BreaksValue : ℕ → Cause → List ℕ → Type 0
BreaksValue depth Cause.Short here = BreaksHead Cause.Short here
    ⊎ (IsStringCut Major.Bytes here ⊎ IsStringCut Major.Text here)
BreaksValue depth Cause.BadText here = IsNoUtf8 here
BreaksValue depth Cause.TooDeep here = (depth ≡ 0) × IsContainer here
BreaksValue depth cause here = BreaksHead cause here

-- what is wrong where a key is due, behind the key before it
abbrev pub BreaksKey : Option (List ℕ) → Cause → List ℕ → Type 0
BreaksKey before Cause.Short here = BreaksHead Cause.Short here ⊎ IsStringCut Major.Text here
BreaksKey before Cause.BadText here = IsNoUtf8 here
BreaksKey before Cause.KeyOrder here = IsNoText here ⊎ IsLowKey before here
BreaksKey before cause here = BreaksHead cause here

-- ---- what stands in front: lists and maps that are not at their end, and what was read of them

pub data Open : Type 0 where
  -- a list of so many items, of which these were read
  in_list : ℕ → List Item → Open
  -- a map of so many fields, of which these were read, and the key of the next
  in_map : ℕ → List (List ℕ × Item) → List ℕ → Open

abbrev pub open_encoding : Open → List ℕ
open_encoding (in_list n is) = front_of Major.List n ++ items_encoding (items_of is)
open_encoding (in_map n fs key) =
    front_of Major.Map n ++ (fields_encoding (fields_of fs) ++ text_encoding key)

-- they fit, with so much depth inside, and one more is due
abbrev pub OpenFits : Open → ℕ → Type 0
OpenFits (in_list n is) depth = (length is < n) × (n < ARGUMENTS) × ItemsFit (items_of is) depth
OpenFits (in_map n fs key) depth = (length fs < n) × (n < ARGUMENTS)
    × FieldsFit (fields_of fs) None depth × IsText key × (is_above (last_key fs) key ≡ true)

-- each in the one before it
abbrev pub opened : List Open → List ℕ
opened [] = []
opened (o ∷ os) = open_encoding o ++ opened os

abbrev pub AreOpen : List Open → ℕ → Type 0
AreOpen [] depth = ⊤
AreOpen (o ∷ os) depth = (0 < depth) × OpenFits o (depth - 1) × AreOpen os (depth - 1)

-- ---- the fault of an input that no item begins

-- a value is due, and what is here is none
abbrev pub IsNoValue : ℕ → List ℕ → Cause → List ℕ → Type 0
IsNoValue depth bytes cause here = (os : List Open) × AreOpen os depth
    × (bytes ≡ opened os ++ here) × BreaksValue (depth - length os) cause here

-- a key of a map of n fields is due, behind the fields fs, and what is here is none
abbrev pub IsNoKey : ℕ → List ℕ → Cause → List ℕ → Type 0
IsNoKey depth bytes cause here = (os : List Open) × (n : ℕ) × (fs : List (List ℕ × Item))
    × AreOpen os depth × (length os < depth) × (length fs < n)
    × (n < ARGUMENTS) × FieldsFit (fields_of fs) None (depth - length os - 1)
    × (bytes ≡ opened os ++ (front_of Major.Map n ++ (fields_encoding (fields_of fs) ++ here)))
    × BreaksKey (last_key fs) cause here

abbrev pub IsFaultyAt : ℕ → List ℕ → Cause → List ℕ → Type 0
IsFaultyAt depth bytes cause here = IsNoValue depth bytes cause here
    ⊎ IsNoKey depth bytes cause here

-- All in front of the place keeps the rules, and what stands there breaks this one.
abbrev pub IsFaulty : List ℕ → Cause → ℕ → Type 0
IsFaulty bytes cause place =
    (here : List ℕ) × (place + length here ≡ length bytes) × IsFaultyAt DEPTH bytes cause here

-- what a fault says of the bytes; running out of memory says nothing
abbrev pub Blames : List ℕ → Option (Cause × ℕ) → Type 0
Blames bytes fault = IfSome fault (λ f. IsFaulty bytes f.0 f.1)

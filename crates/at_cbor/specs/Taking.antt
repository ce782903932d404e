-- Pieces at the front of some bytes: each with what stands behind it, or nothing where it doesn't
-- stand in front.
-- (The laws of taking say that what is taken is what is encoded there.)
use Rattle.std.specs.Prelude.{ℕ, ◌/◌, ◌%◌, ◌&&◌, ◌==◌, nat_lt, if◌then◌else◌, List, [], ◌∷◌, length, take, drop, slice_index, Option, Some, None, Ok, Err}
use Rattle.std.specs.Str.{is_utf8}
use Rattle.at_cid.specs.Link.{link_at}
use Rattle.at_cid.specs.declared.cid.TheConstants.{LINK_LEN}
use Rattle.at_cbor.specs.declared.major.Major.{Major}
use Rattle.at_cbor.specs.Heads.{argument_at, least_of}
use Rattle.at_cbor.specs.Item.{Item}
use Rattle.at_cbor.specs.Majors.{major_number}
use Rattle.at_cbor.specs.Reading.{Reading, item_at}
use Rattle.at_cbor.specs.declared.decoding.TheConstants.{DEPTH}

infixl 10 ◌>>=◌
abbrev pub ◌>>=◌ : {A B : Type 0} → Option A → (A → Option B) → Option B
(Some x) >>= f = f x
None >>= f = None

-- what was taken, and the bytes behind it
abbrev pub Taking : Type 0 → Type 0
Taking A = Option (A × List ℕ)

-- the bytes behind a front
unfoldable pub behind : List ℕ → List ℕ → Option (List ℕ)
behind [] bytes = Some bytes
behind (x ∷ front) [] = None
behind (x ∷ front) (b ∷ bytes) = if x == b then behind front bytes else None

-- what was taken, where nothing stands behind it
abbrev pub all_of : {A : Type 0} → A × List ℕ → Option A
all_of (x, []) = Some x
all_of (x, b ∷ bytes) = None

abbrev pub shortest : ℕ → Taking ℕ → Taking ℕ
shortest least None = None
shortest least (Some a) = if nat_lt a.0 least then None else Some a

-- the number that a head of a major type tells in its shortest form
unfoldable pub number_at : Major → List ℕ → Taking ℕ
number_at major [] = None
number_at major (first ∷ bytes) = if first / 32 == major_number major && nat_lt (first % 32) 28
    then shortest (least_of (first % 32)) (argument_at (first % 32) bytes) else None

-- so many bytes
abbrev pub string_of : ℕ → List ℕ → Taking (List ℕ)
string_of n bytes = if nat_lt (length bytes) n then None else Some (take n bytes, drop n bytes)

-- as many bytes as a head of a major type tells
abbrev pub string_behind : Major → List ℕ → Taking (List ℕ)
string_behind major bytes = number_at major bytes >>= λ n. string_of n.0 n.1

-- a byte string
unfoldable pub string_at : List ℕ → Taking (List ℕ)
string_at bytes = string_behind Major.Bytes bytes

-- a text
unfoldable pub text_from_front : List ℕ → Taking (List ℕ)
text_from_front bytes = string_behind Major.Text bytes
    >>= λ text. if is_utf8 text.0 then Some text else None

abbrev pub linked : Option (List ℕ) → List ℕ → Taking (List ℕ)
linked None rest = None
linked (Some c) rest = Some (c, rest)

-- a link
unfoldable pub link_from_front : List ℕ → Taking (List ℕ)
link_from_front bytes = behind (0xd8 ∷ 0x2a ∷ 0x58 ∷ 0x25 ∷ 0x00 ∷ []) bytes
    >>= λ b. linked (link_at b) (drop LINK_LEN b)

-- the item that is a link, or null where there is none
abbrev pub link_item : Option (List ℕ) → Item
link_item None = Item.null
link_item (Some c) = Item.link c

-- a link of kind Node, or null
unfoldable pub child_at : List ℕ → Taking (Option (List ℕ))
child_at [] = None
child_at (first ∷ bytes) = if first == 0xf6 then Some (None, bytes)
    else (link_from_front (first ∷ bytes)
    >>= λ c. if slice_index c.0 1 == 0x71 then Some (Some c.0, c.1) else None)

abbrev pub found : {A : Type 0} → Reading A → Taking A
found (Ok x) = Some x
found (Err flaw) = None

-- an item, in which no more lists and maps are in one another than may be
unfoldable pub item_from_front : List ℕ → Taking Item
item_from_front bytes = found (item_at DEPTH bytes)

-- the item that fills the bytes
unfoldable pub whole_item : List ℕ → Option Item
whole_item bytes = item_from_front bytes >>= all_of

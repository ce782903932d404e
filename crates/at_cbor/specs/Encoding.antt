-- The one encoding of each item, and which items have one.
-- (The DAG-CBOR specification, on RFC 8949: heads are of its section 3. That integers are of 64
-- bits with a sign, and how deep lists and maps may be in one another, is this project's own.)
use Rattle.std.specs.Prelude.{◌≡◌, ⊤, ℕ, suc, ◌+◌, ◌-◌, ◌*◌, ◌<◌, ◌≤◌, ◌^◌, max, ℤ, pos, negsuc, List, [], ◌∷◌, ◌++◌, length, Bool, true, false, Option, Some, None, nat_lt, if◌then◌else◌}
use Rattle.std.specs.Str.{is_utf8}
use Rattle.std.specs.Int.{w16, w32, w64, to_be_bytes}
use Rattle.at_cid.specs.Link.{is_link, IsBytes}
use Rattle.at_cbor.specs.declared.limits.TheConstants.{ARGUMENTS, INTEGERS}
use Rattle.at_cbor.specs.declared.major.Major.{Major}
use Rattle.at_cbor.specs.Item.{items_of, fields_of, Item, Items, no_items, item, Fields, no_fields, field}
use Rattle.at_cbor.specs.Item.{is_above}
use Rattle.at_cbor.specs.declared.head.Head.{Head}
use Rattle.at_cbor.specs.Majors.{major_number}

-- the low five bits of the first byte, for an argument in its shortest form
unfoldable pub info_of : ℕ → ℕ
info_of n = if nat_lt n 24 then n else (if nat_lt n (2 ^ 8) then 24
    else (if nat_lt n (2 ^ 16) then 25 else (if nat_lt n (2 ^ 32) then 26 else 27)))

-- the bytes behind it
unfoldable pub tail_of : ℕ → List ℕ
tail_of n =
    if nat_lt n 24 then []
    else (if nat_lt n (2 ^ 8) then n ∷ []
    else (if nat_lt n (2 ^ 16) then to_be_bytes w16 n
    else (if nat_lt n (2 ^ 32) then to_be_bytes w32 n
    else to_be_bytes w64 n)))

-- a major type and its argument
abbrev pub front_of : Major → ℕ → List ℕ
front_of major n = (32 * major_number major + info_of n) ∷ tail_of n

abbrev pub int_encoding : ℤ → List ℕ
int_encoding (pos n) = front_of Major.Unsigned n
int_encoding (negsuc n) = front_of Major.Negative n

abbrev pub bool_encoding : Bool → List ℕ
bool_encoding false = 0xf4 ∷ []
bool_encoding true = 0xf5 ∷ []

abbrev pub text_encoding : List ℕ → List ℕ
text_encoding text = front_of Major.Text (length text) ++ text

-- tag 42, and the link in a byte string behind a 0
abbrev pub link_encoding : List ℕ → List ℕ
link_encoding link = 0xd8 ∷ 0x2a ∷ 0x58 ∷ 0x25 ∷ 0x00 ∷ link

abbrev pub items_count : Items → ℕ
items_count no_items = 0
items_count (item i is) = suc (items_count is)

abbrev pub fields_count : Fields → ℕ
fields_count no_fields = 0
fields_count (field k i fs) = suc (fields_count fs)

abbrev mutual
  pub encoding : Item → List ℕ
  encoding (Item.int z) = int_encoding z
  encoding (Item.bytes bs) = front_of Major.Bytes (length bs) ++ bs
  encoding (Item.text bs) = text_encoding bs
  encoding (Item.list is) = front_of Major.List (items_count is) ++ items_encoding is
  encoding (Item.map fs) = front_of Major.Map (fields_count fs) ++ fields_encoding fs
  encoding (Item.link bs) = link_encoding bs
  encoding (Item.bool b) = bool_encoding b
  encoding Item.null = 0xf6 ∷ []

  pub items_encoding : Items → List ℕ
  items_encoding no_items = []
  items_encoding (item i is) = encoding i ++ items_encoding is

  pub fields_encoding : Fields → List ℕ
  fields_encoding no_fields = []
  fields_encoding (field k i fs) = text_encoding k ++ (encoding i ++ fields_encoding fs)

-- how many lists and maps are in one another
abbrev mutual
  pub nesting : Item → ℕ
  nesting (Item.int z) = 0
  nesting (Item.bytes bs) = 0
  nesting (Item.text bs) = 0
  nesting (Item.list is) = suc (items_nesting is)
  nesting (Item.map fs) = suc (fields_nesting fs)
  nesting (Item.link bs) = 0
  nesting (Item.bool b) = 0
  nesting Item.null = 0

  pub items_nesting : Items → ℕ
  items_nesting no_items = 0
  items_nesting (item i is) = max (nesting i) (items_nesting is)

  pub fields_nesting : Fields → ℕ
  fields_nesting no_fields = 0
  fields_nesting (field k i fs) = max (nesting i) (fields_nesting fs)

abbrev pub IsInt : ℤ → Type 0
IsInt (pos n) = n < INTEGERS
IsInt (negsuc n) = n < INTEGERS

abbrev pub IsString : List ℕ → Type 0
IsString bytes = (length bytes < ARGUMENTS) × IsBytes bytes

abbrev pub IsText : List ℕ → Type 0
IsText bytes = IsString bytes × (is_utf8 bytes ≡ true)

-- Items that have an encoding, with at most so many lists and maps in one another. The keys of a
-- map ascend, behind a key before them.
abbrev mutual
  pub Fits : Item → ℕ → Type 0
  Fits (Item.int z) depth = IsInt z
  Fits (Item.bytes bs) depth = IsString bs
  Fits (Item.text bs) depth = IsText bs
  Fits (Item.list is) depth = (0 < depth) × (items_count is < ARGUMENTS) × ItemsFit is (depth - 1)
  Fits (Item.map fs) depth =
      (0 < depth) × (fields_count fs < ARGUMENTS) × FieldsFit fs None (depth - 1)
  Fits (Item.link bs) depth = (is_link bs ≡ true) × IsBytes bs
  Fits (Item.bool b) depth = ⊤
  Fits Item.null depth = ⊤

  pub ItemsFit : Items → ℕ → Type 0
  ItemsFit no_items depth = ⊤
  ItemsFit (item i is) depth = Fits i depth × ItemsFit is depth

  pub FieldsFit : Fields → Option (List ℕ) → ℕ → Type 0
  FieldsFit no_fields before depth = ⊤
  FieldsFit (field k i fs) before depth =
      IsText k × (is_above before k ≡ true) × Fits i depth × FieldsFit fs (Some k) depth

-- it has an encoding at each depth at which its lists and maps are nested
abbrev pub IsSpellable : Item → Type 0
IsSpellable i = (depth : ℕ) → nesting i ≤ depth → Fits i depth

abbrev pub AreSpellable : List Item → Type 0
AreSpellable is = (depth : ℕ) → items_nesting (items_of is) ≤ depth → ItemsFit (items_of is) depth

abbrev pub AreFieldsSpellable : List (List ℕ × Item) → Type 0
AreFieldsSpellable fs = (depth : ℕ) → fields_nesting (fields_of fs) ≤ depth
    → FieldsFit (fields_of fs) None depth

-- a head that keeps the rules, with its argument or its link
abbrev pub head_encoding : Head → List ℕ
head_encoding (Head.Int z) = int_encoding z
head_encoding (Head.Bytes n) = front_of Major.Bytes n
head_encoding (Head.Text n) = front_of Major.Text n
head_encoding (Head.List n) = front_of Major.List n
head_encoding (Head.Map n) = front_of Major.Map n
head_encoding (Head.Link link) = link_encoding link
head_encoding (Head.Bool b) = bool_encoding b
head_encoding Head.Null = 0xf6 ∷ []

abbrev pub HeadFits : Head → Type 0
HeadFits (Head.Int z) = IsInt z
HeadFits (Head.Bytes n) = n < ARGUMENTS
HeadFits (Head.Text n) = n < ARGUMENTS
HeadFits (Head.List n) = n < ARGUMENTS
HeadFits (Head.Map n) = n < ARGUMENTS
HeadFits (Head.Link link) = (is_link link ≡ true) × IsBytes link
HeadFits (Head.Bool b) = ⊤
HeadFits Head.Null = ⊤

-- Readers of bytes, from left to right.
use Rattle.std.specs.Prelude.{◌≡◌, ⊤, ℕ, pos, negsuc, ℤ, List, [], ◌∷◌, Bool, ◌==◌, nat_lt, if◌then◌else◌, Option, Some, None, option_map, Result, Ok, Err}
use Rattle.at_cbor.specs.Item.{Item}
use Rattle.at_cbor.specs.Kinds.{int_in, text_in, bytes_in, bool_in, link_in}
use Rattle.at_cbor.specs.declared.major.Major.{Major}
use Rattle.at_cbor.specs.Taking.{item_from_front, number_at as front_at}
use Rattle.at_syntax.specs.Tid.{tid_of}
use Rattle.row_codec.specs.declared.fault.RowFault.{RowFault}
use Rattle.relay_row.specs.declared.limits.TheConstants.{PLACES}

-- what stands at the front of bytes, and the bytes behind it
abbrev pub Reading : Type 0 → Type 0
Reading A = List ℕ → Option (A × List ℕ)

-- What a reader answers: this, seen by view, and nothing where it isn't there, unless memory ran
-- out.
abbrev pub Reads : {X Y : Type 0} → (X → Y) → Result X RowFault → Option Y → Type 0
Reads view (Ok x) found = found ≡ Some (view x)
Reads view (Err RowFault.BadRow) found = found ≡ None
Reads view (Err RowFault.Memory) found = ⊤

abbrev pub behind : {A B : Type 0} → Option (A × List ℕ) → (A → Reading B) → Option (B × List ℕ)
behind None f = None
behind (Some x) f = f x.0 x.1

infixl 10 ◌>>=◌
abbrev pub ◌>>=◌ : {A B : Type 0} → Reading A → (A → Reading B) → Reading B
(r >>= f) = λ bytes. behind (r bytes) f

abbrev pub give : {A : Type 0} → A → Reading A
give x bytes = Some (x, bytes)

abbrev pub fail : {A : Type 0} → Reading A
fail bytes = None

-- this, where it is there
abbrev pub given : {A : Type 0} → Option A → Reading A
given None = fail
given (Some x) = give x

-- an item of DAG-CBOR
unfoldable pub item_at : Reading Item
item_at bytes = item_from_front bytes

-- an item of a form
abbrev pub formed : {A : Type 0} → (Item → Option A) → Reading A
formed form bytes = behind (item_at bytes) (λ i. given (form i))

abbrev pub natural : ℤ → Option ℕ
natural (pos n) = Some n
natural (negsuc n) = None

abbrev pub natural_of : Option ℤ → Option ℕ
natural_of None = None
natural_of (Some z) = natural z

abbrev pub number_in : Item → Option ℕ
number_in i = natural_of (int_in i)

abbrev pub below : ℕ → Option ℕ → Option ℕ
below most None = None
below most (Some n) = if nat_lt n most then Some n else None

abbrev pub tid_from : Option (List ℕ) → Option ℕ
tid_from None = None
tid_from (Some text) = tid_of text

abbrev pub rev_in : Item → Option ℕ
rev_in i = tid_from (text_in i)

-- null, or an item of this form
abbrev pub null_or : {A : Type 0} → (Item → Option A) → Item → Option (Option A)
null_or form Item.null = Some None
null_or form i = option_map Some (form i)

unfoldable pub number_at : Reading ℕ
number_at = formed number_in

-- a number of one byte
unfoldable pub byte_at : Reading ℕ
byte_at = formed (λ i. below 256 (number_in i))

-- a number of four bytes
unfoldable pub place_at : Reading ℕ
place_at = formed (λ i. below PLACES (number_in i))

unfoldable pub text_at : Reading (List ℕ)
text_at = formed text_in

unfoldable pub bytes_at : Reading (List ℕ)
bytes_at = formed bytes_in

unfoldable pub bool_at : Reading Bool
bool_at = formed bool_in

unfoldable pub link_at : Reading (List ℕ)
link_at = formed link_in

unfoldable pub rev_at : Reading ℕ
rev_at = formed rev_in

unfoldable pub null_or_rev_at : Reading (Option ℕ)
null_or_rev_at = formed (null_or rev_in)

unfoldable pub null_or_text_at : Reading (Option (List ℕ))
null_or_text_at = formed (null_or text_in)

-- the front of a list: how many items follow
unfoldable pub count_at : Reading ℕ
count_at bytes = front_at Major.List bytes

-- null, which stands for this, or what the reader reads
abbrev pub or_null_at : {A : Type 0} → A → Reading A → Reading A
or_null_at x r [] = None
or_null_at x r (b ∷ bytes) = if b == 246 then Some (x, bytes) else r (b ∷ bytes)

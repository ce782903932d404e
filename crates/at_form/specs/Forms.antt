-- The forms of fields, and how the fields of a map have them.
-- (DIDs and TIDs by the AT Protocol's specifications of identifiers; numbers by its Data Model.)
use Rattle.std.specs.Prelude.{ℕ, pos, negsuc, ℤ, List, length, nat_le, nat_lt, if◌then◌else◌, Option, Some, None, option_map}
use Rattle.at_cid.specs.Link.{kind_of}
use Rattle.at_cid.specs.declared.cid.Kind.{Kind}
use Rattle.at_cid.specs.declared.cid.Kind.TheVariants.{Node, Raw}
use Rattle.at_cbor.specs.Item.{Item}
use Rattle.at_cbor.specs.Kinds.{int_in, text_in, link_in, null_in, field_of}
use Rattle.at_cbor.specs.Taking.{◌>>=◌}
use Rattle.at_syntax.specs.Did.{is_did}
use Rattle.at_syntax.specs.Tid.{tid_of}
use Rattle.at_cid.specs.declared.limits.TheConstants.{NUMBERS}
use Rattle.at_form.specs.declared.forms.TheConstants.{LONGEST_SHORT_TEXT}

-- a text that is a DID
unfoldable pub did_in : Item → Option (List ℕ)
did_in i = text_in i >>= λ text. if is_did text then Some text else None

-- the value of a text that is a TID
unfoldable pub tid_in : Item → Option ℕ
tid_in i = text_in i >>= tid_of

-- a text of at most so many bytes
unfoldable pub short_text_in : Item → Option (List ℕ)
short_text_in i = text_in i >>= λ text. if nat_le (length text) LONGEST_SHORT_TEXT
    then Some text else None

abbrev pub of_node : Kind → List ℕ → Option (List ℕ)
of_node Node link = Some link
of_node Raw link = None

-- a link of kind Node
unfoldable pub node_in : Item → Option (List ℕ)
node_in i = link_in i >>= λ link. of_node (kind_of link) link

abbrev pub number_from : ℤ → Option ℕ
number_from (pos n) = if nat_lt n NUMBERS then Some n else None
number_from (negsuc n) = None

-- an integer from 0 on, below the limit of numbers
unfoldable pub number_in : Item → Option ℕ
number_in i = int_in i >>= number_from

-- what is there, unless it is null
abbrev pub not_null : Option Item → Option Item
not_null (Some i) = if null_in i then None else Some i
not_null None = None

-- the value of a key, unless it is null
unfoldable pub present_value : Item → List ℕ → Option Item
present_value fields name = not_null (field_of fields name)

-- what is there has the form
abbrev pub formed : {A : Type 0} → (Item → Option A) → Option Item → Option (Option A)
formed form (Some i) = option_map Some (form i)
formed form None = Some None

-- the value of a key in a form, or nothing where it is null or absent
abbrev pub optional : {A : Type 0} → (Item → Option A) → Item → List ℕ → Option (Option A)
optional form fields name = formed form (present_value fields name)

-- the value of a key in a form
abbrev pub required : {A : Type 0} → (Item → Option A) → Item → List ℕ → Option A
required form fields name = field_of fields name >>= form

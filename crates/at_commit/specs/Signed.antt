-- What the signature of a commit object covers: the object without its field `sig`.
use Rattle.std.specs.Prelude.{ℕ, List, [], ◌++◌, Bool, not, if◌then◌else◌, codes}
use Rattle.std.specs.List.{filter}
use Rattle.std.specs.Str.{bytes_eq}
use Rattle.at_cbor.specs.Item.{Item, Fields, fields_of, fields_list}
use Rattle.at_cbor.specs.Encoding.{text_encoding, encoding}

-- each name but `sig`
abbrev pub is_signed_name : List ℕ → Bool
is_signed_name name = not (bytes_eq name (codes "sig"))

-- the field has such a name
abbrev pub is_signed : List ℕ × Item → Bool
is_signed field = is_signed_name field.0

-- all fields but `sig`
abbrev pub unsigned_of : Fields → Fields
unsigned_of fields = fields_of (filter is_signed (fields_list fields))

-- what a field is encoded by there: nothing where it is `sig`
abbrev pub signed_encoding : List ℕ × Item → List ℕ
signed_encoding field = if is_signed field then text_encoding field.0 ++ encoding field.1 else []

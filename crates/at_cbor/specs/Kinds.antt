-- What an item says if it is of a kind, and nothing if it is of another.
use Rattle.std.specs.Prelude.{ℕ, suc, ℤ, Bool, true, false, List, Option, Some, None, if◌then◌else◌}
use Rattle.std.specs.Str.{bytes_eq}
use Rattle.at_cbor.specs.Item.{Item, Fields, no_fields, field, items_list, fields_list}

abbrev pub int_in : Item → Option ℤ
int_in (Item.int z) = Some z
int_in i = None

abbrev pub bytes_in : Item → Option (List ℕ)
bytes_in (Item.bytes bs) = Some bs
bytes_in i = None

abbrev pub text_in : Item → Option (List ℕ)
text_in (Item.text bs) = Some bs
text_in i = None

abbrev pub list_in : Item → Option (List Item)
list_in (Item.list is) = Some (items_list is)
list_in i = None

abbrev pub map_in : Item → Option (List (List ℕ × Item))
map_in (Item.map fs) = Some (fields_list fs)
map_in i = None

abbrev pub link_in : Item → Option (List ℕ)
link_in (Item.link bs) = Some bs
link_in i = None

abbrev pub bool_in : Item → Option Bool
bool_in (Item.bool b) = Some b
bool_in i = None

abbrev pub null_in : Item → Bool
null_in Item.null = true
null_in i = false

-- the value of a key among fields
abbrev pub value_of : Fields → List ℕ → Option Item
value_of no_fields name = None
value_of (field k i fs) name = if bytes_eq k name then Some i else value_of fs name

-- the place of a key's field, where so many fields are before these
abbrev pub place_from : ℕ → Fields → List ℕ → Option ℕ
place_from n no_fields name = None
place_from n (field k i fs) name = if bytes_eq k name then Some n else place_from (suc n) fs name

-- the fields, with the value of a key replaced, where it is there
abbrev pub value_put : List ℕ → Item → Fields → Fields
value_put name value no_fields = no_fields
value_put name value (field k i fs) = if bytes_eq k name then field k value fs
    else field k i (value_put name value fs)

-- the value of a key, where the item is a map that has it
abbrev pub field_of : Item → List ℕ → Option Item
field_of (Item.map fs) name = value_of fs name
field_of i name = None

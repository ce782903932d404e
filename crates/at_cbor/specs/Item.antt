-- What a value of DAG-CBOR says, without where it lies in memory: the IPLD data model without
-- floats.
use Rattle.std.specs.Prelude.{ℕ, ℤ, suc, ◌+◌, ◌==◌, ◌&&◌, ◌||◌, nat_lt, true, Some, None, Bool, List, [], ◌∷◌, ◌-◌, length, slice_get, Option, option_map}
use Rattle.std.specs.Ordering.{is_lt}
use Rattle.at_cid.specs.Order.{key_cmp}

mutual
  pub data Item : Type 0 where
    int : ℤ → Item
    bytes : List ℕ → Item
    text : List ℕ → Item
    list : Items → Item
    map : Fields → Item
    link : List ℕ → Item
    bool : Bool → Item
    null : Item

  pub data Items : Type 0 where
    no_items : Items
    item : Item → Items → Items

  pub data Fields : Type 0 where
    no_fields : Fields
    field : List ℕ → Item → Fields → Fields

abbrev pub items_of : List Item → Items
items_of [] = no_items
items_of (i ∷ is) = item i (items_of is)

abbrev pub fields_of : List (List ℕ × Item) → Fields
fields_of [] = no_fields
fields_of (f ∷ fs) = field f.0 f.1 (fields_of fs)

-- the items of a list, and the fields of a map, in order
abbrev pub items_list : Items → List Item
items_list no_items = []
items_list (item i is) = i ∷ items_list is

abbrev pub fields_list : Fields → List (List ℕ × Item)
fields_list no_fields = []
fields_list (field k i fs) = (k, i) ∷ fields_list fs

-- how many parts an item has, itself among them
abbrev mutual
  pub size_of : Item → ℕ
  size_of (int z) = 1
  size_of (bytes bs) = 1
  size_of (text bs) = 1
  size_of (list is) = suc (items_size is)
  size_of (map fs) = suc (fields_size fs)
  size_of (link bs) = 1
  size_of (bool b) = 1
  size_of null = 1

  pub items_size : Items → ℕ
  items_size no_items = 1
  items_size (item i is) = suc (size_of i + items_size is)

  pub fields_size : Fields → ℕ
  fields_size no_fields = 1
  fields_size (field k i fs) = suc (size_of i + fields_size fs)

abbrev pub list_size : List Item → ℕ
list_size is = items_size (items_of is)

abbrev pub pairs_size : List (List ℕ × Item) → ℕ
pairs_size fs = fields_size (fields_of fs)

-- the key of the last field
abbrev pub last_key : List (List ℕ × Item) → Option (List ℕ)
last_key fs = option_map (λ f. f.0) (slice_get fs (length fs - 1))

-- (The DAG-CBOR specification, map keys.) A key comes after the one before it: it is longer, or as
-- long and greater byte by byte
abbrev pub is_above : Option (List ℕ) → List ℕ → Bool
is_above None key = true
is_above (Some before) key = nat_lt (length before) (length key)
    || (length before == length key && is_lt (key_cmp before key))

-- the keys ascend, behind a key before them
abbrev pub are_ascending : Option (List ℕ) → List (List ℕ × Item) → Bool
are_ascending before [] = true
are_ascending before (f ∷ fs) = is_above before f.0 && are_ascending (Some f.0) fs

-- JSON values by the lists of their parts.
use Rattle.std.specs.Prelude.{ℕ, List, [], ◌∷◌, Option, Some, None}
use Rattle.serde_json.specs.Data.{Data, array, object, Members, no_members, member, put}
use Rattle.serde_json.specs.View.{items_of}

-- a member of an object: its name and its value
abbrev pub Member : Type 0
Member = List ℕ × Data

abbrev pub members_by : List Member → Members
members_by [] = no_members
members_by (m ∷ ms) = member m.0 m.1 (members_by ms)

-- the object of these members
abbrev pub object_with : List Member → Data
object_with ms = object (members_by ms)

-- the array of these values
abbrev pub array_of : List Data → Data
array_of ds = array (items_of ds)

-- a member put among others, where there is a value for it
abbrev pub put_some : List ℕ → Option Data → Members → Members
put_some name None ms = ms
put_some name (Some value) ms = put name value ms

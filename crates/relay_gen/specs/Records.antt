-- Records and changes as keys and operations.
use Rattle.std.specs.Prelude.{ℕ, zero, suc, ◌+◌, Bool, false, if◌then◌else◌, List, [], ◌∷◌, slice_get, Option, Some, None}
use Rattle.std.specs.Str.{bytes_eq}
use Rattle.mst_list.specs.declared.item.Item.{Item}
use Rattle.mst_list.specs.declared.item.Item.TheVariants.{Key}
use Rattle.mst_list.specs.declared.op.Op.{Op}
use Rattle.mst_node.specs.Fits.{is_less}
use Rattle.relay_gen.specs.declared.records.Record.{Record}
use Rattle.relay_gen.specs.declared.records.Change.{Change}

abbrev pub item_of : Record → Item
item_of r = Key r.path r.value

abbrev pub op_of : Change → Op
op_of c = record { key = c.path; was = c.was; now = c.now }

-- the record's path is below another
abbrev pub is_below : List ℕ → Record → Bool
is_below path r = is_less r.path path

abbrev pub has_path : List ℕ → Option Record → Bool
has_path path None = false
has_path path (Some r) = bytes_eq r.path path

abbrev pub path_or_none : Option Record → List (List ℕ)
path_or_none None = []
path_or_none (Some r) = r.path ∷ []

-- the path of the record before a place
abbrev pub last_path : List Record → ℕ → List (List ℕ)
last_path rs zero = []
last_path rs (suc n) = path_or_none (slice_get rs n)

-- the place behind that of a path, where the path is there
abbrev pub behind : Bool → ℕ → ℕ
behind there n = if there then n + 1 else n

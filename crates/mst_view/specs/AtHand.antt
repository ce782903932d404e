-- Marks at the places of blocks' links.
use Rattle.std.specs.Prelude.{◌≡◌, ℕ, ◌%◌, Bool, true, false, List, Some, slice_index_or}
use Rattle.std.specs.FinMap as map
use Rattle.at_car.specs.Blocks.{BlockMap}
use Rattle.at_car.specs.Links.{first_word}
use Rattle.mst_view.specs.declared.at_hand.TheConstants.{MARKS}

-- the place of a link's mark
abbrev pub place_of : List ℕ → ℕ
place_of link = first_word link % MARKS

-- whether there is a mark at the place of a link
abbrev pub is_marked : List Bool → List ℕ → Bool
is_marked marks link = slice_index_or marks (place_of link) false

-- there is one for each link that has a block
abbrev pub AreMarked : List Bool → BlockMap → Type 0
AreMarked marks blocks = (link block : List ℕ)
    → map.get blocks link ≡ Some block → is_marked marks link ≡ true

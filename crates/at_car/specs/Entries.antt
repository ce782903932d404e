-- Links, each with a place.
use Rattle.std.specs.Prelude.{ℕ, List, [], ◌∷◌, Option, Some, None, if◌then◌else◌}
use Rattle.std.specs.declared.cmp.Ordering.{Ordering}
use Rattle.std.specs.Ordering.{eq_by_cmp}
use Rattle.std.specs.List.Sorted.{IsStrictlySortedBy}
use Rattle.at_cid.specs.Order.{key_cmp}
use Rattle.at_car.specs.declared.entry.ScanEntry.{ScanEntry}
use Rattle.at_car.specs.declared.place.BlockPlace.{BlockPlace}

abbrev pub by_link : ScanEntry → ScanEntry → Ordering
by_link a b = key_cmp a.link b.link

-- their links ascend, and none stands twice
abbrev pub AreInOrder : List ScanEntry → Type 0
AreInOrder entries = IsStrictlySortedBy by_link entries

-- the first place of a link
abbrev pub place_of : List ℕ → List ScanEntry → Option BlockPlace
place_of link [] = None
place_of link (e ∷ entries) = if eq_by_cmp key_cmp link e.link then Some e.place
    else place_of link entries

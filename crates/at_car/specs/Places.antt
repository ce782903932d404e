-- Blocks that lie in one buffer, each at its place.
use Rattle.std.specs.Prelude.{ℕ, ◌+◌, ◌≤◌, List, take, drop, length, map}
use Rattle.std.specs.FinMap as finite
use Rattle.at_car.specs.Blocks.{BlockMap, IsLinkOf}
use Rattle.at_car.specs.declared.entry.ScanEntry.{ScanEntry}
use Rattle.at_car.specs.declared.place.BlockPlace.{BlockPlace}

-- the bytes at a place
abbrev pub bytes_at : List ℕ → BlockPlace → List ℕ
bytes_at buffer place = take place.len (drop place.start buffer)

-- a link, and the bytes at its place
abbrev pub laid : List ℕ → ScanEntry → List ℕ × List ℕ
laid buffer e = (e.link, bytes_at buffer e.place)

-- the place ends within so many bytes
abbrev pub IsWithin : ℕ → BlockPlace → Type 0
IsWithin size place = place.start + place.len ≤ size

-- the link is one of the bytes at its place
abbrev pub IsLaid : List ℕ → ScanEntry → Type 0
IsLaid buffer e = IsWithin (length buffer) e.place × IsLinkOf e.link (bytes_at buffer e.place)

-- the blocks at the places of links
abbrev pub blocks_at : List ℕ → List ScanEntry → BlockMap
blocks_at buffer entries = finite.from_entries (map (laid buffer) entries)

-- What is told of blocks that came one after the other: of each its link, and the block where it is
-- held.
use Rattle.std.specs.Prelude.{◌≡◌, ℕ, Bool, true, false, ◌==◌, not, if◌then◌else◌, List, [], ◌∷◌, Option, Some, None}
use Rattle.at_car.specs.Places.{bytes_at, IsLaid}
use Rattle.at_car.specs.declared.entry.ScanEntry.{ScanEntry}

abbrev pub Told : Type 0
Told = List ℕ × Option (List ℕ)

-- the block of the entry is held. No block that is held begins at 0
abbrev pub is_held : ScanEntry → Bool
is_held e = not (e.place.start == 0)

abbrev pub told : List ℕ → ScanEntry → Told
told buffer e = (e.link, if is_held e then Some (bytes_at buffer e.place) else None)

-- a block that is held lies in the buffer, and the link is one of it
abbrev pub IsTold : List ℕ → ScanEntry → Type 0
IsTold buffer e = is_held e ≡ true → IsLaid buffer e

-- the block, where it is held
abbrev pub held : Option (Option (List ℕ)) → Option (List ℕ)
held None = None
held (Some block) = block

-- there was a block, and it isn't held
abbrev pub was_let_go : Option (Option (List ℕ)) → Bool
was_let_go None = false
was_let_go (Some None) = true
was_let_go (Some (Some block)) = false

-- the links of the entries whose blocks aren't held
abbrev pub links_let_go : List ScanEntry → List (List ℕ)
links_let_go [] = []
links_let_go (e ∷ entries) = if is_held e then links_let_go entries
    else e.link ∷ links_let_go entries

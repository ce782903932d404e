-- What holds of all CARs that are written.
use Rattle.std.specs.Prelude.{ℕ, ◌+◌, ◌≤◌, List, length}
use Rattle.std.specs.FinMap as map
use Rattle.at_cid.specs.Link.{IsLink}
use Rattle.at_car.specs.Writing.{written}

-- the CAR of one block, which is its root, has at most 128 bytes more than the block
abbrev pub OneBlockIsShort : Type 0
OneBlockIsShort = (link block : List ℕ) → IsLink link
    → length (written link (map.insert map.empty link block)) ≤ length block + 128

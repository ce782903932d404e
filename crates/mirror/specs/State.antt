-- What a mirror holds of each DID.
use Rattle.std.specs.Prelude.{ℕ, Bool, List, [], Option, Some, None}
use Rattle.std.specs.BTreeMap.{get_by_text}
use Rattle.std.specs.Option.{is_some, unwrap_or}
use Rattle.mst_list.specs.declared.item.Item.{Item}
use Rattle.mirror.specs.declared.holding.Holding.{Holding}
use Rattle.mirror.specs.declared.keeping.Mirror.{Mirror}

-- what is held before any message
abbrev pub at_start : Holding
at_start = Holding.Mapped None []

-- what is held of the account of a DID
abbrev pub held_by : Mirror → List ℕ → Holding
held_by m did = unwrap_or (get_by_text m.accounts did) at_start

-- a commit or a `#sync` of it was taken
abbrev pub is_known : Mirror → List ℕ → Bool
is_known m did = is_some (get_by_text m.accounts did)

-- the map that is held, with the revision that gave it
abbrev pub map_held : Holding → Option (ℕ × List Item)
map_held (Holding.Mapped (Some rev) map) = Some (rev, map)
map_held (Holding.Mapped None map) = None
map_held Holding.Waiting = None

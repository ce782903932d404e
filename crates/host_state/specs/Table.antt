-- What the table of hosts tells.
use Rattle.std.specs.Prelude.{ℕ, Bool, ◌||◌, List, String, map}
use Rattle.std.specs.Option.{is_some}
use Rattle.std.specs.String.{string_bytes}
use Rattle.std.specs.Global.{Global}
use Rattle.indexmap.specs.IndexMap.{get_by_text}
use Rattle.host_state.specs.declared.hosts.Hosts.{Hosts}

-- a host's name and its cursor
abbrev pub pair : String Global × ℕ → List ℕ × ℕ
pair e = (string_bytes e.0, e.1)

-- the hosts, in the table's order
abbrev pub listed : Hosts → List (List ℕ × ℕ)
listed h = map pair h.map.entries

-- whether there is room for a host
abbrev pub has_room : Hosts → List ℕ → Bool
has_room h host = is_some (get_by_text h.map host) || is_some (get_by_text h.ready host)

-- The hosts of a journal, as a left fold over its rows (own).
use Rattle.std.specs.Prelude.{ℕ, List, [], ◌∷◌, if◌then◌else◌}
use Rattle.std.specs.Str.{bytes_eq}
use Rattle.relay_row.specs.declared.row.Row.{Row}
use Rattle.relay_row.specs.Folds.{folded, host_in, host_seq_in}

-- a host's cursor is set: at its place where it stands in the list, else behind all others
abbrev pub set_cursor : List (List ℕ × ℕ) → List ℕ → ℕ → List (List ℕ × ℕ)
set_cursor [] host n = (host, n) ∷ []
set_cursor (h ∷ hs) host n = if bytes_eq host h.0 then (h.0, n) ∷ hs else h ∷ set_cursor hs host n

-- the hosts after one more row. The empty text names no host
abbrev pub hosts_after : List (List ℕ × ℕ) → Row → List (List ℕ × ℕ)
hosts_after hs row = if bytes_eq (host_in row) [] then hs
    else set_cursor hs (host_in row) (host_seq_in row)

-- the hosts that the rows of a journal name, in the order of their first rows, each with its cursor
unfoldable pub hosts : List Row → List (List ℕ × ℕ)
hosts rows = folded hosts_after [] rows

-- the cursor of a host in such a list, or 0
abbrev pub cursor_of : List (List ℕ × ℕ) → List ℕ → ℕ
cursor_of [] host = 0
cursor_of (h ∷ hs) host = if bytes_eq host h.0 then h.1 else cursor_of hs host

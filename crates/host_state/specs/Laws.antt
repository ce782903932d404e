-- What holds of the hosts of all journals.
use Rattle.std.specs.Prelude.{◌≡◌, ℕ, List, ◌++◌}
use Rattle.relay_row.specs.declared.row.Row.{Row}
use Rattle.relay_row.specs.Folds.{folded, cursor}
use Rattle.host_state.specs.Folds.{hosts_after, hosts, cursor_of}

-- The list of hosts tells the cursor of each.
abbrev pub HostsTellCursors : Type 0
HostsTellCursors = (host : List ℕ) (rows : List Row)
    → cursor_of (hosts rows) host ≡ cursor host rows

-- The hosts behind a journal in two halves are those of the second half behind the hosts of the
-- first.
abbrev pub HostsJoin : Type 0
HostsJoin = (xs ys : List Row) → hosts (xs ++ ys) ≡ folded hosts_after (hosts xs) ys

-- The order of a journal's rows (own).
use Rattle.std.specs.Prelude.{◌≡◌, ℕ, List, [], ◌∷◌, ◌++◌, Bool, true, false, not, ◌&&◌, ◌||◌, ◌==◌, nat_lt}
use Rattle.std.specs.List.{list_all}
use Rattle.relay_row.specs.declared.carried.Carried.{Carried}
use Rattle.relay_row.specs.declared.row.Row.{Row}
use Rattle.relay_row.specs.Folds.{cursor, last_seq, seq_in, is_named}
use Rattle.relay_row.specs.Rules.{is_row}

-- a carried last number or host
abbrev pub is_last_or_host : Row → Bool
is_last_or_host (Row.Carried (Carried.Last seq)) = true
is_last_or_host (Row.Carried (Carried.Host host n)) = true
is_last_or_host (Row.Carried (Carried.Account a)) = false
is_last_or_host (Row.Taken t) = false
is_last_or_host (Row.Synced did whole moment) = false
is_last_or_host (Row.Operated o) = false

abbrev pub is_carried_row : Row → Bool
is_carried_row (Row.Carried carried) = true
is_carried_row (Row.Taken t) = false
is_carried_row (Row.Synced did whole moment) = false
is_carried_row (Row.Operated o) = false

abbrev pub are_none : List Row → Bool
are_none [] = true
are_none (row ∷ rows) = false

-- a number stands above the last one, or is none
abbrev pub rises_above : ℕ → ℕ → Bool
rises_above last seq = seq == 0 || nat_lt last seq

-- Behind these rows a row keeps the order: a message stands above its host's cursor, and a number
-- above the last one. What is carried stands in front of all other rows: the last number first,
-- then the hosts, each once, then the accounts, each once.
abbrev pub keeps_order : List Row → Row → Bool
keeps_order before (Row.Taken t) =
    nat_lt (cursor t.host before) t.host_seq && rises_above (last_seq before) (seq_in (Row.Taken t))
keeps_order before (Row.Synced did whole moment) = rises_above (last_seq before) whole.seq
keeps_order before (Row.Operated o) = rises_above (last_seq before) o.seq
keeps_order before (Row.Carried (Carried.Last seq)) = are_none before
keeps_order before (Row.Carried (Carried.Host host n)) =
    not (are_none before) && (list_all is_last_or_host before && cursor host before == 0)
keeps_order before (Row.Carried (Carried.Account a)) =
    not (are_none before) && (list_all is_carried_row before && not (is_named a.did before))

-- A journal: well formed rows, of which each keeps the order behind those in front of it.
pub record IsJournal (rows : List Row) : Type 0 where
  pub formed : list_all is_row rows ≡ true
  pub ordered : (before : List Row) (row : Row) (after : List Row)
      → rows ≡ before ++ row ∷ after → keeps_order before row ≡ true

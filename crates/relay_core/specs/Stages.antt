-- How far the front of a journal goes.
use Rattle.std.specs.Prelude.{Bool, true, false, List, if◌then◌else◌}
use Rattle.std.specs.List.{list_all}
use Rattle.relay_row.specs.declared.carried.Carried.{Carried}
use Rattle.relay_row.specs.declared.row.Row.{Row}
use Rattle.relay_row.specs.Journal.{are_none, is_last_or_host, is_carried_row}
use Rattle.relay_core.specs.declared.stage.Stage.{Stage}

-- the stage behind these rows
abbrev pub stage_of : List Row → Stage
stage_of rows = if are_none rows then Stage.Start
    else (if list_all is_last_or_host rows then Stage.Hosts
    else (if list_all is_carried_row rows then Stage.Accounts else Stage.Events))

abbrev pub is_start : Stage → Bool
is_start Stage.Start = true
is_start Stage.Hosts = false
is_start Stage.Accounts = false
is_start Stage.Events = false

abbrev pub takes_hosts : Stage → Bool
takes_hosts Stage.Start = false
takes_hosts Stage.Hosts = true
takes_hosts Stage.Accounts = false
takes_hosts Stage.Events = false

abbrev pub takes_accounts : Stage → Bool
takes_accounts Stage.Start = false
takes_accounts Stage.Hosts = true
takes_accounts Stage.Accounts = true
takes_accounts Stage.Events = false

-- the stage behind one more row
abbrev pub next_stage : Stage → Row → Stage
next_stage Stage.Start (Row.Carried (Carried.Last seq)) = Stage.Hosts
next_stage Stage.Start (Row.Carried (Carried.Host host n)) = Stage.Hosts
next_stage Stage.Start (Row.Carried (Carried.Account a)) = Stage.Accounts
next_stage Stage.Hosts (Row.Carried (Carried.Last seq)) = Stage.Hosts
next_stage Stage.Hosts (Row.Carried (Carried.Host host n)) = Stage.Hosts
next_stage Stage.Hosts (Row.Carried (Carried.Account a)) = Stage.Accounts
next_stage Stage.Accounts (Row.Carried carried) = Stage.Accounts
next_stage Stage.Events (Row.Carried carried) = Stage.Events
next_stage stage (Row.Taken t) = Stage.Events
next_stage stage (Row.Synced did whole moment) = Stage.Events
next_stage stage (Row.Operated o) = Stage.Events

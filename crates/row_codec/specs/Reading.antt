-- Rows, read item by item.
use Rattle.std.specs.Prelude.{ℕ, zero, suc, ◌+◌, List, [], ◌∷◌, ◌==◌, ◌&&◌, nat_lt, nat_le, if◌then◌else◌, Option, Some, None, option_map}
use Rattle.at_event.specs.Refusals.{plain_refusal}
use Rattle.at_event.specs.declared.head.Head.{Head}
use Rattle.at_event.specs.declared.refusal.Refusal.{Refusal}
use Rattle.at_event.specs.declared.refusal.TheConstants.{BAD_NODE, OTHER_OP, NOT_COVERED, OTHER_DATA}
use Rattle.relay_row.specs.declared.limits.TheConstants.{MOST_ROWS}
use Rattle.relay_row.specs.declared.fetched.Whole.{Whole}
use Rattle.relay_row.specs.declared.fetched.Fetched.{Fetched}
use Rattle.relay_row.specs.declared.taken.Effect.{Effect}
use Rattle.relay_row.specs.declared.taken.Taken.{Taken}
use Rattle.relay_row.specs.declared.operated.Operated.{Operated}
use Rattle.relay_row.specs.declared.carried.CarriedRepo.{CarriedRepo}
use Rattle.relay_row.specs.declared.carried.CarriedAccount.{CarriedAccount}
use Rattle.relay_row.specs.declared.carried.Carried.{Carried}
use Rattle.relay_row.specs.declared.row.Row.{Row}
use Rattle.row_codec.specs.Readers.{Reading, ◌>>=◌, give, fail, given, number_at, byte_at, place_at, text_at, bytes_at, bool_at, link_at, rev_at, null_or_rev_at, null_or_text_at, count_at, or_null_at}
use Rattle.relay_row.specs.Rules.{is_row}

unfoldable pub head_at : Reading Head
head_at = do
  rev ← rev_at
  data_root ← link_at
  commit ← link_at
  give (record { rev = rev; data_root = data_root; commit = commit })

unfoldable pub whole_items_at : Reading Whole
whole_items_at = do
  seq ← number_at
  head ← head_at
  records ← number_at
  message ← bytes_at
  give (record { seq = seq; head = head; records = records; message = message })

abbrev pub whole_of : ℕ → Reading Whole
whole_of count = if count == 6 then whole_items_at else fail

unfoldable pub whole_at : Reading Whole
whole_at = count_at >>= whole_of

-- no refusal, or one without a detail
unfoldable pub plain : ℕ → Option (Option Refusal)
plain n = if n == 0 then Some None else option_map Some (plain_refusal n)

unfoldable pub one_detail : ℕ → Reading (Option Refusal)
one_detail n =
    if n == BAD_NODE then (link_at >>= λ link. give (Some (Refusal.BadNode link)))
    else (if n == OTHER_OP then (place_at >>= λ i. give (Some (Refusal.OtherOp i)))
    else (if n == NOT_COVERED then (place_at >>= λ i. give (Some (Refusal.NotCovered i)))
    else fail))

unfoldable pub two_details : ℕ → Reading (Option Refusal)
two_details n = if n == OTHER_DATA
    then (link_at >>= λ want. link_at >>= λ got. give (Some (Refusal.OtherData want got))) else fail

abbrev pub details : ℕ → ℕ → Reading (Option Refusal)
details n count = if count == 0 then given (plain n)
    else (if count == 1 then one_detail n else (if count == 2 then two_details n else fail))

-- the refusal with this number, from its detail
unfoldable pub detail_at : ℕ → Reading (Option Refusal)
detail_at n = count_at >>= details n

unfoldable pub account_effect : Reading Effect
account_effect = do
  active ← bool_at
  status ← null_or_text_at
  give (Effect.Account active status)

abbrev pub effect_of : ℕ → Reading Effect
effect_of count = if count == 3 then (head_at >>= λ head. give (Effect.Repo head))
    else (if count == 2 then account_effect else fail)

unfoldable pub effect_at : Reading Effect
effect_at = or_null_at Effect.Nothing (count_at >>= effect_of)

abbrev pub number_or_whole : Reading Fetched
number_or_whole [] = None
number_or_whole (b ∷ bytes) =
    if b == 0 then Some (Fetched.Absent, bytes)
    else (if nat_lt b 24 then Some (Fetched.Refused b, bytes)
    else (whole_at >>= λ whole. give (Fetched.Whole whole)) (b ∷ bytes))

unfoldable pub fetched_at : Reading Fetched
fetched_at = or_null_at Fetched.NotAsked number_or_whole

abbrev pub repo_of : ℕ → Reading CarriedRepo
repo_of count = if count == 3 then (head_at >>= λ head. give (CarriedRepo.Good head))
    else (if count == 1 then (null_or_rev_at >>= λ rev. give (CarriedRepo.Lost rev)) else fail)

unfoldable pub repo_at : Reading CarriedRepo
repo_at = or_null_at CarriedRepo.Missing (count_at >>= repo_of)

-- a moment behind so many items, where there is one more
unfoldable pub moment_at : ℕ → ℕ → Reading (Option ℕ)
moment_at others count = if count == others then give None
    else (if count == others + 1 then (number_at >>= λ moment. give (Some moment)) else fail)

unfoldable pub taken_at : ℕ → Reading Taken
taken_at count = do
  host ← text_at
  host_seq ← number_at
  did ← text_at
  kind ← byte_at
  which ← byte_at
  refusal ← detail_at which
  seq ← number_at
  message ← bytes_at
  effect ← effect_at
  fetched ← fetched_at
  moment ← moment_at 11 count
  give (record {
    host = host;
    host_seq = host_seq;
    did = did;
    kind = kind;
    refusal = refusal;
    seq = seq;
    message = message;
    effect = effect;
    fetched = fetched;
    moment = moment;
  })

unfoldable pub synced_at : ℕ → Reading Row
synced_at count = do
  did ← text_at
  whole ← whole_at
  moment ← moment_at 3 count
  give (Row.Synced did whole moment)

unfoldable pub operated_at : ℕ → Reading Operated
operated_at count = do
  did ← text_at
  down ← bool_at
  seq ← number_at
  message ← bytes_at
  moment ← moment_at 5 count
  give (record { did = did; down = down; seq = seq; message = message; moment = moment })

unfoldable pub account_at : Reading CarriedAccount
account_at = do
  did ← text_at
  active ← bool_at
  status ← null_or_text_at
  down ← bool_at
  repo ← repo_at
  give (record { did = did; active = active; status = status; down = down; repo = repo })

unfoldable pub host_at : Reading Carried
host_at = do
  host ← text_at
  cursor ← number_at
  give (Carried.Host host cursor)

abbrev pub carried_of : ℕ → ℕ → Reading Carried
carried_of count which =
    if which == 0 && count == 3 then (number_at >>= λ seq. give (Carried.Last seq))
    else (if which == 1 && count == 4 then host_at else (if which == 2 && count == 7
    then (account_at >>= λ account. give (Carried.Account account)) else fail))

unfoldable pub carried_at : ℕ → Reading Carried
carried_at count = byte_at >>= carried_of count

abbrev pub row_of : ℕ → ℕ → Reading Row
row_of count which =
    if which == 1 then (taken_at count >>= λ taken. give (Row.Taken taken))
    else (if which == 2 then synced_at count
    else (if which == 3 then (operated_at count >>= λ operated. give (Row.Operated operated))
    else (if which == 4 then (carried_at count >>= λ carried. give (Row.Carried carried))
    else fail)))

-- the items of a row, of which there are so many
unfoldable pub row_items_at : ℕ → Reading Row
row_items_at count = byte_at >>= row_of count

abbrev pub well_formed : Row → Reading Row
well_formed row = if is_row row then give row else fail

unfoldable pub row_at : Reading Row
row_at = do
  count ← count_at
  row ← row_items_at count
  well_formed row

-- so many rows
unfoldable pub rows_at : ℕ → Reading (List Row)
rows_at zero = give []
rows_at (suc n) = do
  row ← row_at
  rows ← rows_at n
  give (row ∷ rows)

abbrev pub all_of : Option (List Row × List ℕ) → Option (List Row)
all_of None = None
all_of (Some (rows, [])) = Some rows
all_of (Some (rows, b ∷ bytes)) = None

abbrev pub few : ℕ → Reading (List Row)
few count = if nat_le 1 count && nat_le count MOST_ROWS then rows_at count else fail

-- the rows of a body
unfoldable pub rows_in : List ℕ → Option (List Row)
rows_in body = all_of ((count_at >>= few) body)

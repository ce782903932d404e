-- What follows from the rows of a journal, as left folds over them (own).
use Rattle.std.specs.Prelude.{ℕ, List, [], ◌∷◌, ◌++◌, Bool, not, ◌&&◌, ◌==◌, if◌then◌else◌}
use Rattle.std.specs.List.{list_any}
use Rattle.std.specs.Str.{bytes_eq}
use Rattle.relay_row.specs.declared.fetched.Fetched.{Fetched}
use Rattle.relay_row.specs.declared.carried.Carried.{Carried}
use Rattle.relay_row.specs.declared.row.Row.{Row}

abbrev pub folded : {A : Type 0} → (A → Row → A) → A → List Row → A
folded step a [] = a
folded step a (row ∷ rows) = folded step (step a row) rows

-- the host that a row names, or the empty text
abbrev pub host_in : Row → List ℕ
host_in (Row.Taken t) = t.host
host_in (Row.Synced did whole moment) = []
host_in (Row.Operated o) = []
host_in (Row.Carried (Carried.Last seq)) = []
host_in (Row.Carried (Carried.Host host cursor)) = host
host_in (Row.Carried (Carried.Account a)) = []

-- the account that a row names, or the empty text
abbrev pub did_of_row : Row → List ℕ
did_of_row (Row.Taken t) = t.did
did_of_row (Row.Synced did whole moment) = did
did_of_row (Row.Operated o) = o.did
did_of_row (Row.Carried (Carried.Last seq)) = []
did_of_row (Row.Carried (Carried.Host host cursor)) = []
did_of_row (Row.Carried (Carried.Account a)) = a.did

-- the host's number in a row: how far the host's stream was taken
abbrev pub host_seq_in : Row → ℕ
host_seq_in (Row.Taken t) = t.host_seq
host_seq_in (Row.Synced did whole moment) = 0
host_seq_in (Row.Operated o) = 0
host_seq_in (Row.Carried (Carried.Last seq)) = 0
host_seq_in (Row.Carried (Carried.Host host cursor)) = cursor
host_seq_in (Row.Carried (Carried.Account a)) = 0

-- this name is the text of a row. The empty text names nothing
abbrev pub names : List ℕ → List ℕ → Bool
names name text = not (bytes_eq name []) && bytes_eq name text

-- whether a row of these names a DID
unfoldable pub is_named : List ℕ → List Row → Bool
is_named did rows = list_any (λ row. names did (did_of_row row)) rows

-- the cursor of a host after one more row
abbrev pub cursor_after : List ℕ → ℕ → Row → ℕ
cursor_after host n row = if names host (host_in row) then host_seq_in row else n

-- the cursor of a host: the host's number of its last row, or 0
unfoldable pub cursor : List ℕ → List Row → ℕ
cursor host rows = folded (cursor_after host) 0 rows

-- the event that a fetch gave, if it did
abbrev pub events_of : Fetched → List (ℕ × List ℕ)
events_of Fetched.NotAsked = []
events_of Fetched.Absent = []
events_of (Fetched.Refused n) = []
events_of (Fetched.Whole w) = (w.seq, w.message) ∷ []

-- the event that a row sends out, if it does: its number and its message. A well formed row sends
-- one at most
abbrev pub events_in : Row → List (ℕ × List ℕ)
events_in (Row.Taken t) = if t.seq == 0 then events_of t.fetched else (t.seq, t.message) ∷ []
events_in (Row.Synced did whole moment) = (whole.seq, whole.message) ∷ []
events_in (Row.Operated o) = (o.seq, o.message) ∷ []
events_in (Row.Carried carried) = []

-- the events of a journal, in order
abbrev pub events : List Row → List (ℕ × List ℕ)
events [] = []
events (row ∷ rows) = events_in row ++ events rows

-- the number of an event, or 0
abbrev pub first_seq : List (ℕ × List ℕ) → ℕ
first_seq [] = 0
first_seq (event ∷ others) = event.0

-- the number that a row gives or carries, or 0
abbrev pub seq_in : Row → ℕ
seq_in (Row.Taken t) = first_seq (events_in (Row.Taken t))
seq_in (Row.Synced did whole moment) = whole.seq
seq_in (Row.Operated o) = o.seq
seq_in (Row.Carried (Carried.Last seq)) = seq
seq_in (Row.Carried (Carried.Host host cursor)) = 0
seq_in (Row.Carried (Carried.Account a)) = 0

abbrev pub last_after : ℕ → Row → ℕ
last_after n row = if seq_in row == 0 then n else seq_in row

-- the last number of a journal, or 0
unfoldable pub last_seq : List Row → ℕ
last_seq rows = folded last_after 0 rows

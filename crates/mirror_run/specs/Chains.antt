-- What a mirror that reads a journal's stream holds (own).
use Rattle.std.specs.Prelude.{◌≡◌, ℕ, List}
use Rattle.backfill.specs.Writing.{with_length}
use Rattle.mst_list.specs.declared.item.Item.{Item}
use Rattle.relay_row.specs.declared.row.Row.{Row}
use Rattle.mirror.specs.Repository.{Repositories}
use Rattle.mirror_law.specs.Laws.{MayBeMirrored}
use Rattle.mirror_law.specs.Mirrored.{IsMirrored, sent}
use Rattle.mirror_law.specs.Open.{open_chain}

-- Where the input is what a replay from the start writes of a journal, up to any of its rows: of
-- each account of which nothing is withheld a mirror of the messages holds the map to which its
-- open chain replays, at the chain's revision.
abbrev pub HoldsChains : Repositories → List ℕ → List (List ℕ) → Type 0
HoldsChains repositories input messages =
    (J front : List Row) (did : List ℕ) (s : List Item) → MayBeMirrored J front did repositories s
    → input ≡ with_length (sent J front)
    → IsMirrored repositories did messages (open_chain did front) s

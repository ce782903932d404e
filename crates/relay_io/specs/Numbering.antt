-- Messages with numbers, and those behind a number.
use Rattle.std.specs.Prelude.{ℕ, List, [], ◌∷◌, map, nat_lt, if◌then◌else◌}
use Rattle.relay_io.specs.declared.memory_feed.Numbered.{Numbered}

-- the messages from the first one on that has a greater number
abbrev pub from_behind : ℕ → List Numbered → List Numbered
from_behind cursor [] = []
from_behind cursor (m ∷ ms) = if nat_lt cursor m.number then m ∷ ms else from_behind cursor ms

abbrev pub texts_of : List Numbered → List (List ℕ)
texts_of ms = map (λ m. m.message) ms

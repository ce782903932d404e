-- The lines of a mirror (own): parts are separated by one blank, numbers are decimal, and each line
-- ends in a line feed.
use Rattle.std.specs.Prelude.{ℕ, List, ◌∷◌, ◌++◌, [], length, Option, Some, None, codes, decimal}
use Rattle.at_cid.specs.Text.{text_of}
use Rattle.at_syntax.specs.Tid.{digits_of}
use Rattle.mst_list.specs.declared.item.Item.{Item}
use Rattle.mst_node.specs.Trees.{root}
use Rattle.mirror.specs.State.{map_held}
use Rattle.mirror.specs.declared.holding.Holding.{Holding}

-- how many records there are
unfoldable pub records_words : ℕ → List ℕ
records_words count = codes " records " ++ decimal count

-- the root of the map
unfoldable pub root_words : List ℕ → List ℕ
root_words link = codes " root " ++ text_of link

-- what is said of a map: the revision that gave it, how many records it has, and its root
abbrev pub map_words : ℕ → List Item → List ℕ
map_words rev map = digits_of rev ++ (records_words (length map) ++ root_words (root map))

abbrev pub held_words : Option (ℕ × List Item) → List ℕ
held_words (Some held) = map_words held.0 held.1
held_words None = codes "waiting"

abbrev pub line_with : List ℕ → Option (ℕ × List Item) → List ℕ
line_with did map = did ++ (codes " " ++ (held_words map ++ 10 ∷ []))

-- the line of an account: what is said of its map, or that it waits
abbrev pub mirror_line : List ℕ → Holding → List ℕ
mirror_line did held = line_with did (map_held held)

-- the last line, with the number of events
abbrev pub mirror_end_line : ℕ → List ℕ
mirror_end_line n = codes "end " ++ (decimal n ++ 10 ∷ [])

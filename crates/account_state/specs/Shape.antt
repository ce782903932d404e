-- What a tree of accounts shows, and how low it is.
use Rattle.std.specs.Prelude.{◌≡◌, ℕ, ◌+◌, ◌^◌, ◌<◌, ◌≤◌, ◌⊎◌, List, [], length}
use Rattle.account_state.specs.Entries.{Entry}

-- the level of the first node and that of its right side, the nodes on the longest way down, and
-- the entries in order
pub record Shape : Type 0 where
  pub level : ℕ
  pub right_level : ℕ
  pub depth : ℕ
  pub entries : List Entry

abbrev pub no_entries : Shape
no_entries = record { level = 0; right_level = 0; depth = 0; entries = [] }

-- n entries are at most 2 log2 (n + 1) deep: a level has at most two nodes on a way down, and a
-- tree of level l has at least 2 ^ l - 1 entries. With one node on its own level (its right side is
-- lower) a tree is less deep by one.
pub record IsLow (tree : Shape) : Type 0 where
  pub right_level : tree.right_level ≤ tree.level
  pub depth : tree.depth ≤ tree.level + tree.right_level
  pub entries : 2 ^ tree.level ≤ length tree.entries + 1

-- a side of a node at a level: it is low, and stands on that level or on the one below it
pub record IsSide (at : ℕ) (side : Shape) : Type 0 where
  pub low : IsLow side
  pub most : side.level ≤ at
  pub least : at ≤ side.level + 1

-- the sides of a node at a level in an AA tree: the left one stands one level lower, and no three
-- nodes of one level stand in a row to the right
pub record AreSides (at : ℕ) (left right : Shape) : Type 0 where
  pub on_left : IsSide at left
  pub on_right : IsSide at right
  pub lower : left.level + 1 ≡ at
  pub ends : right.right_level < at

-- a tree takes one entry more: it keeps its level, or two of its nodes stood on that level and now
-- one stands above it
abbrev pub IsRaised : ℕ → ℕ → Shape → Type 0
IsRaised level right_level new = (right_level ≡ level) × (new.level ≡ level + 1)
    × (new.right_level ≡ level)

abbrev pub Settles : ℕ → ℕ → Shape → Type 0
Settles level right_level new = (new.level ≡ level) ⊎ IsRaised level right_level new

-- a tree whose accounts changed and whose nodes stayed
pub record IsAsLow (old new : Shape) : Type 0 where
  pub level : new.level ≡ old.level
  pub right_level : new.right_level ≡ old.right_level
  pub depth : new.depth ≡ old.depth

-- The blocks that a host gives with a commit: those on the ways to what it changed (own).
use Rattle.std.specs.Prelude.{ℕ, Bool, ◌&&◌, List, [], ◌∷◌, ◌++◌, map, Option, Some, None}
use Rattle.std.specs.List.{filter, list_any}
use Rattle.mst_list.specs.declared.item.Item.{Item}
use Rattle.mst_list.specs.declared.op.Op.{Op}
use Rattle.mst_list.specs.Edits.{before, after}
use Rattle.mst_node.specs.Covers.{Encoded, encoded_blocks, last_key, first_key}
use Rattle.mst_node.specs.Fits.{is_under}
use Rattle.mst_node.specs.Reading.{is_over}
use Rattle.mst_node.specs.Trees.{nodes}

-- one of the keys lies between two bounds
abbrev pub one_between : Option (List ℕ) → Option (List ℕ) → List (List ℕ) → Bool
one_between low high keys = list_any (λ k. is_over low k && is_under k high) keys

-- the block is on the way to one of the keys: it is encoded over a part of the map whose bounds lie
-- round the key
abbrev pub is_on_ways : List (List ℕ) → Encoded → Bool
is_on_ways keys e = one_between e.low e.high keys

-- the blocks that are on the way to one of the keys
abbrev pub on_ways : List (List ℕ) → List Encoded → List (List ℕ)
on_ways keys blocks = map (λ (e : Encoded). e.block) (filter (is_on_ways keys) blocks)

abbrev pub key_or_none : Option (List ℕ) → List (List ℕ)
key_or_none None = []
key_or_none (Some k) = k ∷ []

-- the neighbours, in the map t, of a key that is created: the next smaller and the next greater one
abbrev pub neighbours : List Item → List ℕ → Option (List ℕ) → List (List ℕ)
neighbours t k None = key_or_none (last_key (before k t)) ++ key_or_none (first_key (after k t))
neighbours t k (Some was) = []

-- the keys whose ways cover the operations that led to the map t
abbrev pub covered_keys : List Item → List Op → List (List ℕ)
covered_keys t [] = []
covered_keys t (op ∷ ops) = op.key ∷ (neighbours t op.key op.was ++ covered_keys t ops)

-- the blocks of the tree of t that cover the operations, parents first
abbrev pub cover : List Item → List Op → List (List ℕ)
cover t ops = on_ways (covered_keys t ops) (encoded_blocks t)

-- the blocks that are given: the empty node where the map is empty, and else the cover
abbrev pub blocks_given : List Item → List Op → List (List ℕ)
blocks_given [] ops = nodes []
blocks_given (x ∷ t) ops = cover (x ∷ t) ops

-- The chain of an account that is open behind rows: how it began, and its commits (own).
use Rattle.std.specs.Prelude.{ℕ, List, [], ◌∷◌, ◌++◌}
use Rattle.backfill.specs.Served.{messages_of}
use Rattle.relay_row.specs.Folds.{events_in, folded}
use Rattle.relay_row.specs.declared.row.Row.{Row}
use Rattle.commit_check.specs.Step.{empty_root}
use Rattle.relay_law.specs.Chains.{Part, commits, rests, nothing, part_of}

-- a chain began empty, or at a base: the root of its map, and what the base's row sent out
pub data Beginning : Type 0 where
  empty : Beginning
  base : List ℕ → List (List ℕ) → Beginning

-- the root of the map with which it began
abbrev pub beginning_root : Beginning → List ℕ
beginning_root empty = empty_root
beginning_root (base root sent) = root

-- how it began, and its commits, each with its message and its `data`
pub record OpenChain : Type 0 where
  pub began : Beginning
  pub commits : List (List ℕ × List ℕ)

-- a chain after a row that is this to it and sent this out: one commit more, or a new chain
abbrev pub opened_by : Part → List (List ℕ) → OpenChain → OpenChain
opened_by (commits message data_root) sent chain =
    record { began = chain.began; commits = chain.commits ++ (message, data_root) ∷ [] }
opened_by (rests root) sent chain = record { began = base root sent; commits = [] }
opened_by nothing sent chain = chain

-- a chain of a DID after one more row
abbrev pub opened_after : List ℕ → OpenChain → Row → OpenChain
opened_after did chain row = opened_by (part_of did row) (messages_of (events_in row)) chain

abbrev pub first_chain : OpenChain
first_chain = record { began = empty; commits = [] }

-- the chain of a DID that is open behind rows
abbrev pub open_chain : List ℕ → List Row → OpenChain
open_chain did rows = folded (opened_after did) first_chain rows

-- the `data` of the last of these commits, or the root before them
abbrev pub root_behind : List ℕ → List (List ℕ × List ℕ) → List ℕ
root_behind root [] = root
root_behind root (k ∷ ks) = root_behind k.1 ks

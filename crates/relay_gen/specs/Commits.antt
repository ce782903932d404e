-- The commits of a made history (own).
use Rattle.std.specs.Prelude.{ℕ, zero, suc, ◌+◌, ◌*◌, ◌%◌, ◌==◌, if◌then◌else◌, List, [], ◌∷◌, length, Option, Some, None}
use Rattle.mst_list.specs.declared.item.Item.{Item}
use Rattle.mst_list.specs.declared.op.Op.{Op}
use Rattle.mst_list.specs.Maps.{edited}
use Rattle.mst_node.specs.Trees.{root}
use Rattle.relay_gen.specs.declared.past.Past.{Past}
use Rattle.relay_gen.specs.Draws.{next, drawn}
use Rattle.relay_gen.specs.Drafts.{Draft, drafted}

-- a commit of an account, its number in the stream of its host, and the map that it leaves
pub record Commit : Type 0 where
  pub account : ℕ
  pub seq : ℕ
  pub rev : ℕ
  pub past : Option Past
  pub ops : List Op
  pub map : List Item

-- commits, the last one first, and the state of the draws behind them
pub record Drawn : Type 0 where
  pub commits : List Commit
  pub state : ℕ

-- the last commit of an account
abbrev pub last_of : ℕ → List Commit → Option Commit
last_of a [] = None
last_of a (c ∷ commits) = if c.account == a then Some c else last_of a commits

-- the last number of a host's stream
abbrev pub last_generated : ℕ → List Commit → ℕ
last_generated host [] = 0
last_generated host (c ∷ commits) = if c.account % 4 == host then c.seq
    else last_generated host commits

abbrev pub generated_map : Option Commit → List Item
generated_map None = []
generated_map (Some c) = c.map

abbrev pub past_of : Option Commit → Option Past
past_of None = None
past_of (Some c) = Some (record { rev = c.rev; data_root = root c.map })

-- A first commit is of the empty map, and has no operations.
abbrev pub generated_ops : Option Commit → ℕ → ℕ → Draft
generated_ops None i x = record { ops = []; state = x }
generated_ops (Some c) i x = drafted c.map i x

-- commit i, of an account with these operations, behind those before it
abbrev pub generated_commit : ℕ → ℕ → List Commit → List Op → Commit
generated_commit i a commits ops = record {
  account = a;
  seq = suc (last_generated (a % 4) commits);
  rev = i * 1024;
  past = past_of (last_of a commits);
  ops = ops;
  map = edited (generated_map (last_of a commits)) ops;
}

-- Behind others commit i: its account is drawn, and then its operations are.
abbrev pub with_commit : ℕ → Drawn → Drawn
with_commit i d =
    let a = drawn 16 (next d.state) in
    let draft = generated_ops (last_of a d.commits) i (next d.state) in
    record { commits = generated_commit i a d.commits draft.ops ∷ d.commits; state = draft.state }

-- the first n commits that are drawn from a number
abbrev pub commits_from : ℕ → ℕ → Drawn
commits_from start zero = record { commits = []; state = start }
commits_from start (suc i) = with_commit (suc i) (commits_from start i)

-- how many keys the last maps of accounts have: of so many, from one on
abbrev pub keys_from : ℕ → ℕ → List Commit → ℕ
keys_from a zero commits = 0
keys_from a (suc left) commits = length (generated_map (last_of a commits)) + keys_from
    (suc a) left commits

-- The state of a making. No public clause cites this file.
use Rattle.std.specs.Prelude.{◌≡◌, ◌<◌, ◌≤◌, ◌*◌, ℕ, List, [], ◌∷◌, ◌++◌, length, slice_get, slice_index, Option, Some}
use Rattle.mst_list.specs.declared.item.Item.{Item}
use Rattle.mst_list.specs.declared.item.Item.TheVariants.{Key, Hole}
use Rattle.mst_list.specs.declared.op.Op.{Op}
use Rattle.mst_list.specs.Lists.{IsMap}
use Rattle.mst_list.specs.Edits.{AreApart, AreFormedOps}
use Rattle.mst_list.specs.Maps.{AllApply, edited}
use Rattle.relay_gen.specs.declared.past.Past.{Past}
use Rattle.relay_gen.specs.Commits.{Commit, Drawn, last_of, last_generated, generated_map, past_of}
use Rattle.relay_gen.specs.Names.{generated_path}
use Rattle.at_cid.specs.Link.{cid}
use Rattle.at_event.specs.declared.kind.EventKind.{EventKind}
use Rattle.at_event.specs.Writing.{event_message}
use Rattle.mst_node.specs.Trees.{root}
use Rattle.relay_gen.specs.Covers.{blocks_given}
use Rattle.relay_gen.specs.Messages.{car_with, message, generated_object, payload_of}

-- the map of an account, and its last commit
pub record Repository : Type 0 where
  pub map : List Item
  pub past : Option Past

abbrev pub repository_of : Option Commit → Repository
repository_of o = record { map = generated_map o; past = past_of o }

-- the operations can be played on the map, in any order
pub record CanPlay (s : List Item) (ops : List Op) : Type 0 where
  pub apply : AllApply s ops
  pub apart : AreApart ops
  pub formed : AreFormedOps ops
  pub few : length ops ≤ 4

-- each key is the path of a number below another
abbrev pub AreOlder : ℕ → List Item → Type 0
AreOlder n [] = Unit {0}
AreOlder n (Key k v ∷ s) = ((m : ℕ) × (m < n) × (k ≡ generated_path m)) × AreOlder n s
AreOlder n (Hole l c ∷ s) = ⊥

-- the commits are from before commit i
abbrev pub AreBefore : ℕ → List Commit → Type 0
AreBefore i [] = Unit {0}
AreBefore i (c ∷ commits) = IsMap c.map × AreOlder (i * 4) c.map × (length c.map ≤ i * 4)
    × (c.seq < i) × AreBefore i commits

-- what a making holds behind commits: the state of the draws, each account's repository, and the
-- last number of each host
pub record IsBehind (d : Drawn) (state : ℕ) (accounts : List Repository)
    (seqs : List ℕ) : Type 0 where
  pub draws : state ≡ d.state
  pub count : length accounts ≡ 16
  pub hosts : length seqs ≡ 4
  pub repositories : (a : ℕ) → a < 16 → slice_get accounts a
      ≡ Some (repository_of (last_of a d.commits))
  pub numbers : (host : ℕ) → host < 4 → slice_index seqs host ≡ last_generated host d.commits

-- the operations that undo these: the last one first, each turned round
abbrev pub turned_of : List Op → List Op
turned_of [] = []
turned_of (op ∷ ops) = turned_of ops ++ record { key = op.key; was = op.now; now = op.was } ∷ []

-- the repository after a commit
abbrev pub after_commit : ℕ → List Item → List Op → Repository
after_commit rev s ops = record {
  map = edited s ops;
  past = Some (record { rev = rev; data_root = root (edited s ops) });
}

-- the message of a commit that left the map t
abbrev pub commit_message : List ℕ → ℕ → ℕ → Option Past → List Op → List Item → List ℕ
commit_message did seq rev past ops t =
    let object = generated_object did rev (root t) in
    event_message EventKind.Commit (payload_of did seq rev past ops (cid object)
    (car_with object (blocks_given t ops)))

-- the first of some commits is of this account, and has this message
abbrev pub IsLast : List Commit → ℕ → List ℕ → Type 0
IsLast [] account bytes = ⊥
IsLast (c ∷ commits) account bytes = (c.account ≡ account) × (message c ≡ bytes)

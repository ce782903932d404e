-- Sound journals: each accepted commit of a chain follows from what stands before it, and so each
-- chain replays.
use Rattle.std.specs.Prelude.{◌≡◌, ℕ, List, [], ◌∷◌, ◌++◌, Ok}
use Rattle.std.specs.List.{AllByRecursion}
use Rattle.at_car.specs.Blocks.{BlockMap}
use Rattle.at_event.specs.Frames.{frame_of}
use Rattle.at_event.specs.Seen.{Seen}
use Rattle.at_event.specs.declared.event.Body.{Body}
use Rattle.at_event.specs.declared.event.CommitEvent.{CommitEvent}
use Rattle.at_event.specs.declared.frame.Frame.{Frame}
use Rattle.event_checks.specs.Table.{car_in}
use Rattle.mst_list.specs.declared.item.Item.{Item}
use Rattle.mst_list.specs.Edits.{Plays}
use Rattle.mst_list.specs.Lists.{IsMap}
use Rattle.mst_node.specs.Trees.{root, nodes, Distinct, IsView}
use Rattle.relay_row.specs.declared.row.Row.{Row}
use Rattle.commit_check.specs.Step.{edits_of, blocks_named, ReplaysBy}
use Rattle.relay_law.specs.Chains.{Chain, chains}

-- the blocks in a commit event's CAR
pub record HasBlocks (c : CommitEvent) (blocks : BlockMap) : Type 0 where
  pub roots : List (List ℕ)
  pub car : car_in c ≡ Ok (roots, blocks)

-- a message is read as a commit event
pub record IsCommit (message : List ℕ) (c : CommitEvent) : Type 0 where
  pub event : Seen
  pub reads : frame_of message ≡ Ok (Frame.Event event)
  pub says : event.body ≡ Body.Commit c

-- a commit event goes from root to root: on every map with the former root its operations play, and
-- give a map with the later one, unless different blocks share a digest
pub record GoesFrom (c : CommitEvent) (former later : List ℕ) : Type 0 where
  pub blocks : BlockMap
  pub has : HasBlocks c blocks
  pub replays : ReplaysBy (edits_of c) blocks former later

-- an accepted commit's message is a commit event that goes from the former root to its `data`
pub record Follows (former message data_root : List ℕ) : Type 0 where
  pub commit : CommitEvent
  pub is : IsCommit message commit
  pub goes : GoesFrom commit former data_root

-- each commit follows from the `data` of the one before it, the first from the base
abbrev pub IsLinked : List ℕ → List (List ℕ × List ℕ) → Type 0
IsLinked former [] = Unit {0}
IsLinked former (c ∷ cs) = Follows former c.0 c.1 × IsLinked c.1 cs

abbrev pub AreLinked : List Chain → Type 0
AreLinked chains = AllByRecursion (λ chain. IsLinked chain.0 chain.1) chains

-- In a sound journal, each commit of each chain follows from what stands before it.
abbrev pub IsSound : List Row → Type 0
IsSound rows = (did : List ℕ) → AreLinked (chains did rows)

-- different blocks of a map's tree and of those that a commit's step names don't share a digest
abbrev pub BlocksAreApart : List Item → CommitEvent → BlockMap → List ℕ → Type 0
BlocksAreApart s c blocks data_root = (F : List Item) → IsView blocks data_root F
    → Distinct (nodes s ++ blocks_named (edits_of c) F)

-- a map goes by a commit to this map, whose tree has the commit's `data` as root
pub record GoesTo (s : List Item) (c : CommitEvent) (data_root : List ℕ)
    (t : List Item) : Type 0 where
  pub is_map : IsMap t
  pub plays : Plays s (edits_of c) t
  pub rooted : root t ≡ data_root

-- from this map, commit by commit, a chain replays, for as long as different blocks don't share a
-- digest
abbrev pub Replays : List Item → List (List ℕ × List ℕ) → Type 0
Replays s [] = Unit {0}
Replays s (k ∷ ks) = (c : CommitEvent) × IsCommit k.0 c
    × ((blocks : BlockMap) → HasBlocks c blocks → BlocksAreApart s c blocks k.1 → (t : List Item)
    × GoesTo s c k.1 t × Replays t ks)

-- each chain replays from every map whose tree has the root of its base
abbrev pub AllReplay : List Chain → Type 0
AllReplay chains =
    AllByRecursion (λ chain. (s : List Item) → IsMap s → root s ≡ chain.0
    → Replays s chain.1) chains

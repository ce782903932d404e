-- A mirror beside the journal whose stream it reads (own).
use Rattle.std.specs.Prelude.{◌≡◌, ℕ, List, [], ◌∷◌, Option, Some, None, Ok}
use Rattle.at_car.specs.Blocks.{BlockMap}
use Rattle.at_event.specs.Frames.{frame_of}
use Rattle.at_event.specs.Seen.{Seen}
use Rattle.at_event.specs.declared.event.Body.{Body}
use Rattle.at_event.specs.declared.event.CommitEvent.{CommitEvent}
use Rattle.at_event.specs.declared.event.SyncEvent.{SyncEvent}
use Rattle.at_event.specs.declared.frame.Frame.{Frame}
use Rattle.at_event.specs.declared.head.Head.{Head}
use Rattle.backfill.specs.Served.{messages_of}
use Rattle.mst_list.specs.declared.item.Item.{Item}
use Rattle.mst_list.specs.Edits.{Plays}
use Rattle.mst_node.specs.Trees.{root}
use Rattle.relay_row.specs.declared.row.Row.{Row}
use Rattle.commit_check.specs.Step.{edits_of}
use Rattle.relay_law.specs.Sound.{BlocksAreApart, GoesTo, HasBlocks, IsCommit}
use Rattle.relay_store.specs.Shown.{shown_of}
use Rattle.mirror.specs.Held.{IsHeld}
use Rattle.mirror.specs.Repository.{Repositories, Answers}
use Rattle.mirror.specs.declared.holding.Holding.{Holding}
use Rattle.mirror_law.specs.Open.{Beginning, empty, base, OpenChain, beginning_root, root_behind}

-- what the rows send to a stream, as the journal J stands
abbrev pub sent : List Row → List Row → List (List ℕ)
sent J rows = messages_of (shown_of J rows)

-- a message is read as a `#sync`
pub record IsSync (message : List ℕ) (sync : SyncEvent) : Type 0 where
  pub event : Seen
  pub reads : frame_of message ≡ Ok (Frame.Event event)
  pub says : event.body ≡ Body.Sync sync

-- The message is a `#sync` that its account's repository answers by this map, whose tree has this
-- root.
pub record IsBase (repositories : Repositories) (r message : List ℕ) (s : List Item) : Type 0 where
  pub sync : SyncEvent
  pub is : IsSync message sync
  pub answers : Answers repositories sync s
  pub rooted : root s ≡ r

-- A chain begins with this map: the empty one where it began empty, else the one that answers its
-- base. A base that was carried over sent nothing out, so that no mirror begins with it.
abbrev pub IsFirstMap : Repositories → Beginning → List Item → Type 0
IsFirstMap repositories empty s = s ≡ []
IsFirstMap repositories (base r (message ∷ [])) s = IsBase repositories r message s
IsFirstMap repositories (base r messages) s = ⊥

-- commit by commit, from the first map on, different blocks of the map's tree and of those that the
-- step names don't share a digest
abbrev pub StayApart : List Item → List (List ℕ × List ℕ) → Type 0
StayApart s [] = Unit {0}
StayApart s (k ∷ ks) = (c : CommitEvent) (blocks : BlockMap) → IsCommit k.0 c → HasBlocks c blocks
    → BlocksAreApart s c blocks k.1 × ((t : List Item) → Plays s (edits_of c) t → StayApart t ks)

-- commit by commit, the operations play from the one map to the other, and each map's tree has its
-- commit's `data` as root
abbrev pub Replay : List Item → List (List ℕ × List ℕ) → List Item → Type 0
Replay s [] t = t ≡ s
Replay s (k ∷ ks) t =
    (c : CommitEvent) × (middle : List Item)
    × IsCommit k.0 c × GoesTo s c k.1 middle × Replay middle ks t

-- the revision at which a chain begins: none where it began empty, else that of its base
abbrev pub IsFirstRev : Beginning → Option ℕ → Type 0
IsFirstRev empty rev = rev ≡ None
IsFirstRev (base r (message ∷ [])) rev =
    (sync : SyncEvent) × IsSync message sync × (rev ≡ Some sync.rev)
IsFirstRev (base r messages) rev = ⊥

-- the revision of a chain: that of the last of its commits, or where it has none, that at which it
-- begins
abbrev pub IsLastRev : Beginning → List (List ℕ × List ℕ) → Option ℕ → Type 0
IsLastRev began [] rev = IsFirstRev began rev
IsLastRev began (k ∷ []) rev = (c : CommitEvent) × IsCommit k.0 c × (rev ≡ Some c.rev)
IsLastRev began (k ∷ (next ∷ ks)) rev = IsLastRev began (next ∷ ks) rev

-- The chain replays from s, and what is held after the messages is the map that it replays to, at
-- the chain's revision. The map's tree has the `data` of the last commit as root. So an account
-- whose chain has a commit or a base isn't waiting, and one whose chain began empty and has no
-- commits is as at the start: the empty map, without a revision.
pub record IsMirrored (repositories : Repositories) (did : List ℕ) (messages : List (List ℕ))
    (chain : OpenChain) (s : List Item) : Type 0 where
  pub map : List Item
  pub rev : Option ℕ
  pub replayed : Replay s chain.commits map
  pub rooted : root map ≡ root_behind (beginning_root chain.began) chain.commits
  pub last : IsLastRev chain.began chain.commits rev
  pub held : (holding : Holding) → IsHeld repositories did messages holding
      → holding ≡ Holding.Mapped rev map

-- What is held after the messages is a map at the revision of this head, whose tree has the head's
-- `data` as root.
pub record HoldsHead (repositories : Repositories) (did : List ℕ) (messages : List (List ℕ))
    (head : Head) : Type 0 where
  pub map : List Item
  pub rooted : root map ≡ head.data_root
  pub held : (holding : Holding) → IsHeld repositories did messages holding
      → holding ≡ Holding.Mapped (Some head.rev) map

-- What holds of all mirrors.
use Rattle.std.specs.Prelude.{◌≡◌, ℕ, true, List, [], ◌∷◌, ◌++◌, Some, Ok}
use Rattle.std.specs.List.{AllByRecursion}
use Rattle.at_event.specs.Frames.{frame_of}
use Rattle.at_event.specs.declared.frame.Frame.{Frame}
use Rattle.at_event.specs.declared.head.Head.{Head}
use Rattle.backfill.specs.Served.{served}
use Rattle.backfill.specs.Writing.{with_length}
use Rattle.mst_list.specs.declared.item.Item.{Item}
use Rattle.relay_row.specs.Journal.{IsJournal}
use Rattle.relay_row.specs.declared.row.Row.{Row}
use Rattle.account_state.specs.Folds.{account}
use Rattle.account_state.specs.declared.repo.Repo.{Repo}
use Rattle.relay_law.specs.Chains.{Chain, chains}
use Rattle.relay_law.specs.Faithful.{IsFaithfulJournal}
use Rattle.chain_law.specs.Chained.{all_about, withholds_nothing}
use Rattle.relay_store.specs.Shown.{held_by, is_shown}
use Rattle.mirror.specs.Held.{IsHeld}
use Rattle.mirror.specs.Repository.{Repositories}
use Rattle.mirror.specs.declared.holding.Holding.{Holding}
use Rattle.mirror_law.specs.Mirrored.{HoldsHead, IsFirstMap, IsMirrored, StayApart, sent}
use Rattle.mirror_law.specs.Open.{open_chain, beginning_root}

-- What a mirror wants: the journal J, of which this is a front, is faithful; nothing of the account
-- is withheld, as J stands; and its chain that is open after the front began with the map s, from
-- which on different blocks don't share a digest.
pub record MayBeMirrored (J front : List Row) (did : List ℕ) (repositories : Repositories)
    (s : List Item) : Type 0 where
  pub others : List Row
  pub whole : J ≡ front ++ others
  pub journal : IsFaithfulJournal J
  pub shown : all_about did (withholds_nothing (is_shown J)) J ≡ true
  pub begins : IsFirstMap repositories (open_chain did front).began s
  pub apart : StayApart s (open_chain did front).commits

-- After each front of a journal, so after each commit, a mirror that reads what was sent of it
-- holds of such an account the map to which its open chain replays, at the chain's revision.
abbrev pub MirrorsHoldChains : Type 0
MirrorsHoldChains =
    (J front : List Row) (did : List ℕ) (repositories : Repositories) (s : List Item)
    → MayBeMirrored J front did repositories s
    → IsMirrored repositories did (sent J front) (open_chain did front) s

-- And where the account is good after the front, the mirror holds its head.
abbrev pub MirrorsHoldHeads : Type 0
MirrorsHoldHeads =
    (J front : List Row) (did : List ℕ) (repositories : Repositories) (s : List Item) (head : Head)
    → MayBeMirrored J front did repositories s → (account did front).repo ≡ Repo.Good head
    → HoldsHead repositories did (sent J front) head

-- each message is read as a frame
abbrev pub AreFrames : List (List ℕ) → Type 0
AreFrames messages = AllByRecursion (λ m. (frame : Frame) × (frame_of m ≡ Ok frame)) messages

-- Frames that are written as what is sent of a faithful journal's front, each after its length, are
-- what is sent.
abbrev pub WrittenAreSent : Type 0
WrittenAreSent = (J front others : List Row) (messages : List (List ℕ)) → J ≡ front ++ others
    → IsFaithfulJournal J → AreFrames messages
    → with_length messages ≡ with_length (sent J front) → messages ≡ sent J front

-- What is served from the start is what the journal's rows send, front by front.
abbrev pub StreamsAreSent : Type 0
StreamsAreSent = (J front others : List Row) → J ≡ front ++ others → IsJournal J
    → served (held_by J) (Some 0) ≡ sent J front ++ sent J others

-- The last chain of a journal's rows is the one that is open after them.
abbrev pub ChainsEndOpen : Type 0
ChainsEndOpen = (J : List Row) (did : List ℕ) → (closed : List Chain)
    × (chains did J ≡ closed ++ (
      beginning_root (open_chain did J).began,
      (open_chain did J).commits,
    ) ∷ [])

-- At most one thing is held after messages.
abbrev pub OneIsHeld : Type 0
OneIsHeld = (repositories : Repositories) (did : List ℕ) (messages : List (List ℕ))
    (one other : Holding) → IsHeld repositories did messages one
    → IsHeld repositories did messages other → one ≡ other

-- What a mirror holds of an account: the map of its repository, as the messages of a stream lead to
-- it (own definition).
use Rattle.std.specs.Prelude.{◌≡◌, ℕ, Bool, true, false, not, ◌&&◌, is_some, List, [], ◌∷◌, Option, Some, None, Result, Ok}
use Rattle.std.specs.List.{list_all}
use Rattle.std.specs.Str.{bytes_eq}
use Rattle.at_event.specs.Frames.{frame_of}
use Rattle.at_event.specs.Seen.{Seen}
use Rattle.at_event.specs.declared.event.Body.{Body}
use Rattle.at_event.specs.declared.event.CommitEvent.{CommitEvent}
use Rattle.at_event.specs.declared.event.SyncEvent.{SyncEvent}
use Rattle.at_event.specs.declared.frame.Frame.{Frame}
use Rattle.at_event.specs.declared.frame.FrameFault.{FrameFault}
use Rattle.at_event.specs.declared.ops.Action.{Action}
use Rattle.at_event.specs.declared.ops.EventOp.{EventOp}
use Rattle.commit_check.specs.Step.{edits_of}
use Rattle.mst_list.specs.declared.item.Item.{Item}
use Rattle.relay_io.specs.Choices.{WhereElse}
use Rattle.mst_list.specs.Edits.{Plays, AreApart, AreFormedOps}
use Rattle.mirror.specs.Repository.{Repositories, Answers}
use Rattle.mirror.specs.declared.holding.Holding.{Holding}

-- a create states the new record alone, a delete the former one alone, an update both
abbrev pub states_edit : Action → Bool → Bool → Bool
states_edit Action.Create was now = not was && now
states_edit Action.Update was now = was && now
states_edit Action.Delete was now = was && not now
states_edit Action.Other was now = false

abbrev pub is_edit : EventOp → Bool
is_edit op = states_edit op.action (is_some op.prev) (is_some op.cid)

-- A commit follows on the revision that is held, and its operations, on different keys, play on the
-- map and give this one.
pub record Continues (c : CommitEvent) (rev : Option ℕ) (s t : List Item) : Type 0 where
  pub since : c.since ≡ rev
  pub edits : list_all is_edit c.ops ≡ true
  pub formed : AreFormedOps (edits_of c)
  pub apart : AreApart (edits_of c)
  pub plays : Plays s (edits_of c) t

-- what a commit makes of what is held: the map that it continues to, and nothing where it continues
-- to none
abbrev pub IsAfterCommit : CommitEvent → Holding → Holding → Type 0
IsAfterCommit c (Holding.Mapped rev s) (Holding.Mapped now t) = (now ≡ Some c.rev)
    × Continues c rev s t
IsAfterCommit c (Holding.Mapped rev s) Holding.Waiting = (t : List Item) → Continues c rev s t → ⊥
IsAfterCommit c Holding.Waiting now = now ≡ Holding.Waiting

-- what a `#sync` makes of it, whatever was held: the map of the account's repository, and nothing
-- where that has none
abbrev pub IsAfterSync : Repositories → SyncEvent → Holding → Type 0
IsAfterSync repositories sync (Holding.Mapped now t) = (now ≡ Some sync.rev)
    × Answers repositories sync t
IsAfterSync repositories sync Holding.Waiting = (t : List Item) → Answers repositories sync t → ⊥

-- other events leave it as it is
abbrev pub IsAfterBody : Repositories → Body → Holding → Holding → Type 0
IsAfterBody repositories (Body.Commit c) old new = IsAfterCommit c old new
IsAfterBody repositories (Body.Sync sync) old new = IsAfterSync repositories sync new
IsAfterBody repositories body old new = new ≡ old

-- and so do events of other accounts
abbrev pub IsAfterEvent : Repositories → List ℕ → Seen → Holding → Holding → Type 0
IsAfterEvent repositories did e old new =
    WhereElse (bytes_eq did e.did) (IsAfterBody repositories e.body old new) (new ≡ old)

-- and messages that are no events
abbrev pub IsAfterFrame : Repositories → List ℕ → Result Frame FrameFault → Holding → Holding
    → Type 0
IsAfterFrame repositories did (Ok (Frame.Event e)) old new = IsAfterEvent repositories did e old new
IsAfterFrame repositories did other old new = new ≡ old

-- what one message makes of what is held of the account of a DID
abbrev pub IsAfter : Repositories → List ℕ → List ℕ → Holding → Holding → Type 0
IsAfter repositories did message old new = IsAfterFrame repositories did (frame_of message) old new

-- what messages make of it, one after another
abbrev pub IsHeldFrom : Repositories → List ℕ → Holding → List (List ℕ) → Holding → Type 0
IsHeldFrom repositories did old [] new = new ≡ old
IsHeldFrom repositories did old (message ∷ messages) new =
    (middle : Holding) × IsAfter repositories did message old middle
    × IsHeldFrom repositories did middle messages new

-- what is held behind a stream of messages: at its start the empty map, without a revision
abbrev pub IsHeld : Repositories → List ℕ → List (List ℕ) → Holding → Type 0
IsHeld repositories did messages holding =
    IsHeldFrom repositories did (Holding.Mapped None []) messages holding

-- What the check of a commit by itself accepts, and what that says of repositories.
use Rattle.std.specs.Prelude.{◌≡◌, ℕ, List, Bool, false, not, ◌&&◌, ◌||◌, is_some, Option, Some, None}
use Rattle.std.specs.List.{list_any}
use Rattle.at_event.specs.declared.event.CommitEvent.{CommitEvent}
use Rattle.at_event.specs.declared.refusal.Refusal.{Refusal}
use Rattle.commit_check.specs.declared.fault.CheckFault.{CheckFault}
use Rattle.commit_check.specs.Order.{HoldsCommit, IsFirstRefusal}
use Rattle.commit_check.specs.Refusing.{Tells}
use Rattle.commit_check.specs.Step.{empty_root, edits_of, lacks_prev, IsCoveredBy, Leads, ReplaysBy}
use Rattle.event_checks.specs.Lines.{first_of}
use Rattle.event_checks.specs.Table.{open_lines}

-- the root that the operations start from: the event's own `prevData`, or the empty tree
abbrev pub start_in : Option (List ℕ) → List ℕ
start_in None = empty_root
start_in (Some prev_data) = prev_data

abbrev pub start_of : CommitEvent → List ℕ
start_of e = start_in e.prev_data

-- an event that follows on another, but doesn't say on which `data`, or a change that doesn't say
-- of what
abbrev pub has_gap : CommitEvent → Bool
has_gap e = (is_some e.since && not (is_some e.prev_data)) || list_any lacks_prev e.ops

-- no refusal applies: the commit leads from the root that it states to its `data`
pub record IsAccepted (e : CommitEvent) (from to : List ℕ) : Type 0 where
  pub shown : first_of (open_lines e None) ≡ None
  pub no_gap : has_gap e ≡ false
  pub holds : HoldsCommit e
  pub from_is : from ≡ start_of e
  pub to_is : to ≡ holds.commit.data_root
  pub leads : Leads e holds.blocks from to

-- the first refusal that applies, none being stale
abbrev pub IsRefusedWith : CommitEvent → Refusal → Type 0
IsRefusedWith e refusal = IsFirstRefusal e None (has_gap e) (start_of e) refusal

-- why the check fails
abbrev pub IsRefused : CommitEvent → CheckFault → Type 0
IsRefused e = Tells (IsRefusedWith e)

-- Soundness: on every map whose tree has the first root, the operations play, and they give a map
-- whose tree has the second root.
abbrev pub Replays : CommitEvent → List ℕ → List ℕ → Type 0
Replays e from to = (held : HoldsCommit e) → ReplaysBy (edits_of e) held.blocks from to

-- the event is in order, and its operations play from a map with the root that it states to one
-- with its `data`, whose cover its blocks hold
pub record IsCoveredAlone (e : CommitEvent) : Type 0 where
  pub shown : first_of (open_lines e None) ≡ None
  pub no_gap : has_gap e ≡ false
  pub holds : HoldsCommit e
  pub covered : IsCoveredBy (edits_of e) holds.blocks (start_of e) holds.commit.data_root

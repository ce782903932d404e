-- The forms of an event's fields.
use Rattle.std.specs.Prelude.{◌≡◌, ⊤, ◌<◌, ◌≤◌, ℕ, List, length, IsTrue, Option, Some, None}
use Rattle.std.specs.List.{AllByRecursion}
use Rattle.at_cid.specs.Link.{IsLinkOrNone, IsNodeLink, IsNodeLinkOrNone}
use Rattle.at_cbor.specs.Encoding.{IsString, IsText}
use Rattle.at_syntax.specs.Did.{is_did}
use Rattle.at_cid.specs.declared.limits.TheConstants.{NUMBERS}
use Rattle.at_form.specs.declared.forms.TheConstants.{LONGEST_SHORT_TEXT}
use Rattle.at_event.specs.declared.event.Body.{Body}
use Rattle.at_event.specs.declared.event.CommitEvent.{CommitEvent}
use Rattle.at_event.specs.declared.event.SyncEvent.{SyncEvent}
use Rattle.at_event.specs.declared.frame.Frame.{Frame}
use Rattle.at_event.specs.declared.ops.EventOp.{EventOp}
use Rattle.at_event.specs.Seen.{Seen}

-- a short text, of UTF-8
pub record IsShortText (bytes : List ℕ) : Type 0 where
  pub text : IsText bytes
  pub short : length bytes ≤ LONGEST_SHORT_TEXT

-- a short text, where there is one
abbrev pub IsShortOrNone : Option (List ℕ) → Type 0
IsShortOrNone None = ⊤
IsShortOrNone (Some bytes) = IsShortText bytes

-- an operation: its path is a text of UTF-8, and its links are links
pub record IsReadOp (op : EventOp) : Type 0 where
  pub path : IsText op.path
  pub cid : IsLinkOrNone op.cid
  pub prev : IsLinkOrNone op.prev

abbrev pub AreReadOps : List EventOp → Type 0
AreReadOps ops = AllByRecursion IsReadOp ops

-- a commit of the account of this DID
pub record IsCommitOf (did : List ℕ) (event : CommitEvent) : Type 0 where
  pub repo : event.repo ≡ did
  pub prev_data : IsNodeLinkOrNone event.prev_data
  pub commit : IsNodeLink event.commit
  pub blocks : IsString event.blocks
  pub ops : AreReadOps event.ops

-- a repository's state, of the account of this DID
pub record IsSyncOf (did : List ℕ) (event : SyncEvent) : Type 0 where
  pub did_is : event.did ≡ did
  pub blocks : IsString event.blocks

-- what an event of the account of this DID says
abbrev pub IsBodyOf : List ℕ → Body → Type 0
IsBodyOf did (Body.Commit commit) = IsCommitOf did commit
IsBodyOf did (Body.Sync sync) = IsSyncOf did sync
IsBodyOf did Body.Identity = ⊤
IsBodyOf did (Body.Account account) = IsShortOrNone account.status

pub record IsFormed (event : Seen) : Type 0 where
  pub seq : event.seq < NUMBERS
  pub did : IsTrue (is_did event.did)
  pub did_text : IsText event.did
  pub time : IsShortText event.time
  pub body : IsBodyOf event.did event.body

-- the same of the event that a frame is, where it is one
abbrev pub IsFormedFrame : Frame → Type 0
IsFormedFrame (Frame.Event event) = IsFormed event
IsFormedFrame (Frame.Faulty seq) = seq < NUMBERS
IsFormedFrame Frame.Info = ⊤
IsFormedFrame Frame.Error = ⊤
IsFormedFrame Frame.Unknown = ⊤

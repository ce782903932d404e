-- Which fields of which form an event has, as the Lexicon `com.atproto.sync.subscribeRepos` lists
-- them. All other fields are passed on unread.
use Rattle.std.specs.Prelude.{ℕ, List, [], ◌∷◌, Bool, false, if◌then◌else◌, Option, Some, None, codes}
use Rattle.std.specs.Str.{bytes_eq}
use Rattle.at_cbor.specs.Item.{Item}
use Rattle.at_cbor.specs.Kinds.{text_in, bytes_in, list_in, link_in, bool_in, field_of}
use Rattle.at_event.specs.declared.event.AccountEvent.{AccountEvent}
use Rattle.at_event.specs.declared.event.Body.{Body}
use Rattle.at_event.specs.declared.event.CommitEvent.{CommitEvent}
use Rattle.at_event.specs.declared.event.SyncEvent.{SyncEvent}
use Rattle.at_event.specs.declared.kind.EventKind.{EventKind}
use Rattle.at_event.specs.declared.ops.Action.{Action}
use Rattle.at_event.specs.declared.ops.EventOp.{EventOp}
use Rattle.at_cbor.specs.Taking.{◌>>=◌}
use Rattle.at_form.specs.Forms.{did_in, tid_in, short_text_in, node_in, number_in, optional, required}
use Rattle.at_event.specs.Seen.{Seen}

abbrev pub action_of : List ℕ → Action
action_of text =
    if bytes_eq text (codes "create") then Action.Create
    else (if bytes_eq text (codes "update") then Action.Update
    else (if bytes_eq text (codes "delete") then Action.Delete
    else Action.Other))

-- an operation
unfoldable pub op_of : Item → Option EventOp
op_of fields = do
  action ← required text_in fields (codes "action")
  path ← required text_in fields (codes "path")
  cid ← optional link_in fields (codes "cid")
  prev ← optional link_in fields (codes "prev")
  Some (record { action = action_of action; path = path; cid = cid; prev = prev })

-- operations, each of which has its form
unfoldable pub ops_of : List Item → Option (List EventOp)
ops_of [] = Some []
ops_of (i ∷ is) = do
  op ← op_of i
  ops ← ops_of is
  Some (op ∷ ops)

-- a list of operations
unfoldable pub ops_in : Item → Option (List EventOp)
ops_in i = list_in i >>= ops_of

-- `tooBig`: true, false, or absent, which is false
abbrev pub flag_of : Option Item → Option Bool
flag_of (Some i) = bool_in i
flag_of None = Some false

unfoldable pub too_big_in : Item → Option Bool
too_big_in fields = flag_of (field_of fields (codes "tooBig"))

-- the fields of a `#commit`
unfoldable pub commit_event_of : Item → Option CommitEvent
commit_event_of fields = do
  repo ← required did_in fields (codes "repo")
  rev ← required tid_in fields (codes "rev")
  since ← optional tid_in fields (codes "since")
  prev_data ← optional node_in fields (codes "prevData")
  commit ← required node_in fields (codes "commit")
  too_big ← too_big_in fields
  blocks ← required bytes_in fields (codes "blocks")
  ops ← required ops_in fields (codes "ops")
  Some (record {
    repo = repo;
    rev = rev;
    since = since;
    prev_data = prev_data;
    commit = commit;
    too_big = too_big;
    blocks = blocks;
    ops = ops;
  })

-- the fields of a `#sync`
unfoldable pub sync_of : Item → Option SyncEvent
sync_of fields = do
  did ← required did_in fields (codes "did")
  rev ← required tid_in fields (codes "rev")
  blocks ← required bytes_in fields (codes "blocks")
  Some (record { did = did; rev = rev; blocks = blocks })

-- the fields of an `#account`, besides its DID and its time
unfoldable pub account_of : Item → Option AccountEvent
account_of fields = do
  active ← required bool_in fields (codes "active")
  status ← optional short_text_in fields (codes "status")
  Some (record { active = active; status = status })

-- what an event of this kind says
unfoldable pub event_body_of : EventKind → Item → Option Body
event_body_of EventKind.Commit fields = do
  commit ← commit_event_of fields
  Some (Body.Commit commit)
event_body_of EventKind.Sync fields = do
  sync ← sync_of fields
  Some (Body.Sync sync)
event_body_of EventKind.Identity fields = Some Body.Identity
event_body_of EventKind.Account fields = do
  account ← account_of fields
  Some (Body.Account account)

-- the key under which an event has its DID
abbrev pub did_key : EventKind → List ℕ
did_key EventKind.Commit = codes "repo"
did_key EventKind.Sync = codes "did"
did_key EventKind.Identity = codes "did"
did_key EventKind.Account = codes "did"

-- the event of this kind, with this number, that the payload states
unfoldable pub event_of : EventKind → ℕ → Item → Option Seen
event_of kind seq payload = do
  did ← required did_in payload (did_key kind)
  time ← required short_text_in payload (codes "time")
  body ← event_body_of kind payload
  Some (record { seq = seq; did = did; time = time; body = body; payload = payload })

-- an event's number
unfoldable pub seq_of : Item → Option ℕ
seq_of payload = required number_in payload (codes "seq")

abbrev pub event_kind_of : Body → EventKind
event_kind_of (Body.Commit c) = EventKind.Commit
event_kind_of (Body.Sync s) = EventKind.Sync
event_kind_of Body.Identity = EventKind.Identity
event_kind_of (Body.Account a) = EventKind.Account

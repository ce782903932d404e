-- The frames that go out: Event Stream specification, and the Lexicon
-- `com.atproto.sync.subscribeRepos`.
use Rattle.std.specs.Prelude.{ℕ, ◌^◌, ◌-◌, pos, List, ◌++◌, length, min, Bool, if◌then◌else◌, Option, Some, None, codes}
use Rattle.std.specs.Str.{bytes_eq}
use Rattle.at_cbor.specs.Item.{Item, Fields, no_fields, field}
use Rattle.at_cbor.specs.Encoding.{encoding, fields_encoding}
use Rattle.at_syntax.specs.Tid.{digits_of}
use Rattle.at_cid.specs.declared.limits.TheConstants.{NUMBERS}
use Rattle.at_event.specs.declared.event.Body.{Body}
use Rattle.at_event.specs.declared.kind.EventKind.{EventKind}
use Rattle.at_event.specs.Seen.{Seen}
use Rattle.at_event.specs.Table.{event_kind_of}

-- how a header names an event
abbrev pub kind_name : EventKind → List ℕ
kind_name EventKind.Commit = codes "#commit"
kind_name EventKind.Sync = codes "#sync"
kind_name EventKind.Identity = codes "#identity"
kind_name EventKind.Account = codes "#account"

-- the header `{t, op}`
abbrev pub header_of : EventKind → Item
header_of kind = Item.map (field (codes "t") (Item.text (kind_name kind))
    (field (codes "op") (Item.int (pos 1)) no_fields))

-- the message of a kind of event with a payload
unfoldable pub event_message : EventKind → Item → List ℕ
event_message kind payload = encoding (header_of kind) ++ encoding payload

-- a key and its value
abbrev pub field_encoding : List ℕ → Item → List ℕ
field_encoding key value = fields_encoding (field key value no_fields)

-- the fields, with the value of this key replaced
abbrev pub with_field_value : List ℕ → Item → Fields → Fields
with_field_value name value no_fields = no_fields
with_field_value name value (field k i fs) =
    field k (if bytes_eq k name then value else i) (with_field_value name value fs)

-- the blocks that an event states
abbrev pub blocks_of : Body → Option (List ℕ)
blocks_of (Body.Commit commit) = Some commit.blocks
blocks_of (Body.Sync sync) = Some sync.blocks
blocks_of Body.Identity = None
blocks_of (Body.Account account) = None

-- the fields, with `blocks` replaced by these, where there are some
abbrev pub fields_with_blocks : Option (List ℕ) → Fields → Fields
fields_with_blocks (Some blocks) fs = with_field_value (codes "blocks") (Item.bytes blocks) fs
fields_with_blocks None fs = fs

-- the same of a payload
abbrev pub with_blocks : Option (List ℕ) → Item → Item
with_blocks blocks (Item.map fs) = Item.map (fields_with_blocks blocks fs)
with_blocks blocks i = i

abbrev pub number_item : ℕ → Item
number_item n = Item.int (pos n)

-- the payload, with its `seq` replaced
abbrev pub with_seq : ℕ → Item → Item
with_seq n (Item.map fs) = Item.map (with_field_value (codes "seq") (number_item n) fs)
with_seq n i = i

-- the event under another number
abbrev pub numbered : Seen → ℕ → Seen
numbered event n = record {
  seq = n;
  did = event.did;
  time = event.time;
  body = event.body;
  payload = with_seq n event.payload;
}

-- the frame in which an event goes out under a number
unfoldable pub out_of : Seen → ℕ → List ℕ
out_of event n = event_message (event_kind_of event.body) (with_seq n event.payload)

-- how long that frame is where the number takes nine bytes, as the greatest does; at most the
-- greatest number of 64 bits
unfoldable pub out_length : Seen → ℕ
out_length event = min (length (out_of event (NUMBERS - 1))) (2 ^ 64 - 1)

-- the payload of a `#sync` of the relay's own
unfoldable pub sync_payload : List ℕ → ℕ → List ℕ → List ℕ → ℕ → Item
sync_payload did rev blocks time seq =
    Item.map (field (codes "did") (Item.text did)
    (field (codes "rev") (Item.text (digits_of rev))
    (field (codes "seq") (number_item seq)
    (field (codes "time") (Item.text time)
    (field (codes "blocks") (Item.bytes blocks) no_fields)))))

-- `status`, where there is one
abbrev pub status_field : Option (List ℕ) → Fields
status_field (Some status) = field (codes "status") (Item.text status) no_fields
status_field None = no_fields

-- the payload of an `#account` of the relay's own
unfoldable pub account_payload : List ℕ → Bool → Option (List ℕ) → List ℕ → ℕ → Item
account_payload did active status time seq =
    Item.map (field (codes "did") (Item.text did)
    (field (codes "seq") (number_item seq)
    (field (codes "time") (Item.text time)
    (field (codes "active") (Item.bool active) (status_field status)))))

-- these events as they are read
abbrev pub sync_seen : List ℕ → ℕ → List ℕ → List ℕ → ℕ → Seen
sync_seen did rev blocks time seq = record {
  seq = seq;
  did = did;
  time = time;
  body = Body.Sync (record { did = did; rev = rev; blocks = blocks });
  payload = sync_payload did rev blocks time seq;
}

abbrev pub account_seen : List ℕ → Bool → Option (List ℕ) → List ℕ → ℕ → Seen
account_seen did active status time seq = record {
  seq = seq;
  did = did;
  time = time;
  body = Body.Account (record { active = active; status = status });
  payload = account_payload did active status time seq;
}

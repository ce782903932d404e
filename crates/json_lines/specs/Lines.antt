-- The operations of commits as lines of JSON: the members of the Lexicon
-- `com.atproto.sync.subscribeRepos#repoOp`, and those of its commit.
use Rattle.std.specs.Prelude.{ℕ, Bool, true, List, [], ◌∷◌, ◌++◌, Option, Some, None, codes, ◌+◌, slice_get, option_and_then, Result, Ok, Err, if◌then◌else◌}
use Rattle.std.specs.Str.{bytes_eq}
use Rattle.serde_json.specs.Data.{Data, number, string, unsigned}
use Rattle.json_text.specs.Texts.{json_text}
use Rattle.json_text.specs.Values.{Member, object_with}
use Rattle.at_cid.specs.Text.{text_of}
use Rattle.at_cbor.specs.Item.{Item, items_list}
use Rattle.at_cbor.specs.Kinds.{field_of}
use Rattle.at_syntax.specs.Path.{collection_of}
use Rattle.at_syntax.specs.Tid.{digits_of}
use Rattle.at_event.specs.Seen.{Seen}
use Rattle.at_event.specs.declared.event.Body.{Body}
use Rattle.at_event.specs.declared.frame.Frame.{Frame}
use Rattle.at_event.specs.declared.frame.FrameFault.{FrameFault}
use Rattle.at_event.specs.declared.ops.Action.{Action}
use Rattle.at_event.specs.declared.ops.EventOp.{EventOp}

-- a link in JSON (AT Protocol, Data Model)
abbrev pub link_value : List ℕ → Data
link_value link = object_with ((codes "$link", string (text_of link)) ∷ [])

-- a member, where there is a link
abbrev pub link_member : List ℕ → Option (List ℕ) → List Member
link_member name None = []
link_member name (Some link) = (name, link_value link) ∷ []

-- the text of an item, or the empty one where it isn't one
abbrev pub text_of_item : Option Item → List ℕ
text_of_item (Some (Item.text text)) = text
text_of_item other = []

-- the item of a list at a place
abbrev pub list_item : Option Item → ℕ → Option Item
list_item (Some (Item.list items)) place = slice_get (items_list items) place
list_item other place = None

-- the text of the action of the operation at a place, as the payload has it
abbrev pub action_at : Item → ℕ → List ℕ
action_at payload place = text_of_item (option_and_then (λ op. field_of op (codes "action"))
    (list_item (field_of payload (codes "ops")) place))

-- the action of an operation, in one word; one that the Lexicon doesn't know as it came
abbrev pub action_text : Action → List ℕ → List ℕ
action_text Action.Create other = codes "create"
action_text Action.Update other = codes "update"
action_text Action.Delete other = codes "delete"
action_text Action.Other other = other

-- an operation of the commit event with this number, of this account, at this revision
abbrev pub op_value : ℕ → List ℕ → ℕ → List ℕ → EventOp → Data
op_value seq did rev action op = object_with (
    (codes "action", string action)
    ∷ (link_member (codes "cid") op.cid
    ++ ((codes "did", string did) ∷ (codes "path", string op.path)
    ∷ (link_member (codes "prev") op.prev
    ++ ((codes "rev", string (digits_of rev)) ∷ (codes "seq", number (unsigned seq)) ∷ []))))
    )

-- its line
abbrev pub op_line : ℕ → List ℕ → ℕ → List ℕ → EventOp → List ℕ
op_line seq did rev action op = json_text (op_value seq did rev action op) ++ 10 ∷ []

-- the record of the operation is in the collection, or in any where none is named
abbrev pub is_in : Option (List ℕ) → EventOp → Bool
is_in None op = true
is_in (Some collection) op = bytes_eq (collection_of op.path) collection

-- the lines of the operations from a place on
abbrev pub lines_from : Option (List ℕ) → Seen → ℕ → ℕ → List EventOp → List ℕ
lines_from collection event rev place [] = []
lines_from collection event rev place (op ∷ ops) =
    (if is_in collection op
    then op_line event.seq event.did rev (action_text op.action (action_at event.payload place)) op
    else []) ++ lines_from collection event rev (place + 1) ops

-- those of an event that says this
abbrev pub lines_in : Option (List ℕ) → Seen → Body → List ℕ
lines_in collection event (Body.Commit commit) = lines_from collection event commit.rev 0 commit.ops
lines_in collection event (Body.Sync sync) = []
lines_in collection event Body.Identity = []
lines_in collection event (Body.Account account) = []

-- the lines of an event: one for each operation of a commit whose record is in the collection
abbrev pub lines_of_event : Option (List ℕ) → Seen → List ℕ
lines_of_event collection event = lines_in collection event event.body

-- the lines of a message, by what is read of it
abbrev pub lines_read : Option (List ℕ) → Result Frame FrameFault → List ℕ
lines_read collection (Ok (Frame.Event event)) = lines_of_event collection event
lines_read collection (Ok (Frame.Faulty seq)) = []
lines_read collection (Ok Frame.Info) = []
lines_read collection (Ok Frame.Error) = []
lines_read collection (Ok Frame.Unknown) = []
lines_read collection (Err fault) = []

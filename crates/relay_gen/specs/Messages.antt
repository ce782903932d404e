-- The message of a made commit (own), by the Lexicon `com.atproto.sync.subscribeRepos` and the
-- Repository specification.
use Rattle.std.specs.Prelude.{ℕ, pos, false, List, [], ◌∷◌, ◌++◌, map, codes, Option, Some, None}
use Rattle.std.specs.FinMap as finite
use Rattle.std.specs.List.{repeat}
use Rattle.at_cid.specs.Link.{cid}
use Rattle.at_cbor.specs.Item.{Item, items_of, fields_of, no_items}
use Rattle.at_cbor.specs.Encoding.{encoding}
use Rattle.at_cbor.specs.Taking.{link_item}
use Rattle.at_car.specs.Blocks.{BlockMap, kept}
use Rattle.at_car.specs.Writing.{written}
use Rattle.at_syntax.specs.Tid.{digits_of}
use Rattle.at_event.specs.declared.kind.EventKind.{EventKind}
use Rattle.at_event.specs.Writing.{event_message, number_item}
use Rattle.mst_list.specs.declared.op.Op.{Op}
use Rattle.mst_node.specs.Trees.{root}
use Rattle.relay_gen.specs.Names.{generated_did}
use Rattle.relay_gen.specs.declared.past.Past.{Past}
use Rattle.relay_gen.specs.Commits.{Commit}
use Rattle.relay_gen.specs.Covers.{blocks_given}

-- the commit object: its signature is 64 zeros
unfoldable pub generated_object : List ℕ → ℕ → List ℕ → List ℕ
generated_object did rev data_root = encoding (Item.map (fields_of (
    (codes "did", Item.text did)
    ∷ (codes "rev", Item.text (digits_of rev))
    ∷ (codes "sig", Item.bytes (repeat 64 (0 ∷ [])))
    ∷ (codes "data", Item.link data_root)
    ∷ (codes "prev", Item.null)
    ∷ (codes "version", Item.int (pos 3))
    ∷ [])))

-- with blocks more, each under its link
abbrev pub with_blocks : BlockMap → List (List ℕ) → BlockMap
with_blocks m [] = m
with_blocks m (block ∷ blocks) = with_blocks (kept m (cid block) block) blocks

-- the CAR of a commit object, which is its root, and of blocks
unfoldable pub car_with : List ℕ → List (List ℕ) → List ℕ
car_with object blocks = written (cid object) (with_blocks finite.empty (object ∷ blocks))

abbrev pub generated_action : Option (List ℕ) → Option (List ℕ) → List ℕ
generated_action None now = codes "create"
generated_action (Some was) (Some now) = codes "update"
generated_action (Some was) None = codes "delete"

-- the link before, where there is one, and the action
abbrev pub ends_of : Option (List ℕ) → Option (List ℕ) → List (List ℕ × Item)
ends_of None now = (codes "action", Item.text (generated_action None now)) ∷ []
ends_of (Some was) now = (codes "prev", Item.link was)
    ∷ (codes "action", Item.text (generated_action (Some was) now)) ∷ []

-- an operation, as a message states it
unfoldable pub op_item : Op → Item
op_item op = Item.map (fields_of ((codes "cid", link_item op.now) ∷ (codes "path", Item.text op.key)
    ∷ ends_of op.was op.now))

abbrev pub since_item : Option Past → Item
since_item None = Item.null
since_item (Some past) = Item.text (digits_of past.rev)

abbrev pub prev_data : Option Past → List (List ℕ × Item)
prev_data None = []
prev_data (Some past) = (codes "prevData", Item.link past.data_root) ∷ []

-- the fields of a `#commit`, in their order: those up to the DID, those up to the blocks, and those
-- behind
abbrev pub front_fields : List Op → ℕ → ℕ → List ℕ → List (List ℕ × Item)
front_fields ops rev seq did =
    (codes "ops", Item.list (items_of (map op_item ops)))
    ∷ (codes "rev", Item.text (digits_of rev))
    ∷ (codes "seq", number_item seq)
    ∷ (codes "repo", Item.text did)
    ∷ []

abbrev pub middle_fields : Option Past → List ℕ → List (List ℕ × Item)
middle_fields past blocks =
    (codes "time", Item.text (codes "2025-01-01T00:00:00Z"))
    ∷ (codes "blobs", Item.list no_items)
    ∷ (codes "since", since_item past)
    ∷ (codes "blocks", Item.bytes blocks)
    ∷ []

abbrev pub back_fields : Option Past → List ℕ → List (List ℕ × Item)
back_fields past commit =
    (codes "commit", Item.link commit)
    ∷ (codes "rebase", Item.bool false)
    ∷ (codes "tooBig", Item.bool false)
    ∷ prev_data past

-- the payload of a `#commit`
unfoldable pub payload_of : List ℕ → ℕ → ℕ → Option Past → List Op → List ℕ → List ℕ → Item
payload_of did seq rev past ops commit blocks =
    Item.map (fields_of (front_fields ops rev seq did
    ++ (middle_fields past blocks ++ back_fields past commit)))

-- the commit object of a commit
abbrev pub object : Commit → List ℕ
object c = generated_object (generated_did c.account) c.rev (root c.map)

-- the message of a commit, with the commit object and the blocks that are given
unfoldable pub message : Commit → List ℕ
message c = event_message EventKind.Commit
    (payload_of (generated_did c.account) c.seq c.rev c.past c.ops (cid (object c))
    (car_with (object c) (blocks_given c.map c.ops)))

-- A message that is written is read as it was meant.
use Rattle.std.proofs.Common.{◌≡◌, ℕ, ◌<◌, ◌^◌, List, ◌++◌, Option, None, Some, Ok, codes, refl, ap, ◌∙◌, subst, lit<}
use Rattle.at_cid.specs.Link.{IsBytes}
use Rattle.at_cbor.specs.Item.{Item}
use Rattle.at_cbor.specs.Kinds.{map_in}
use Rattle.at_cbor.specs.Encoding.{encoding, IsText, Fits}
use Rattle.at_cbor.specs.Taking.{◌>>=◌, item_from_front, whole_item}
use Rattle.at_cbor.proofs.Taken.{item_taken, item_taken_again, whole_takes, whole_again}
use Rattle.at_cbor.proofs.Depths.{fits_nested}
use Rattle.at_form.proofs.Held.{some_same, step_from}
use Rattle.at_event.specs.declared.frame.Frame.{Frame}
use Rattle.at_event.specs.declared.kind.EventKind.{EventKind}
use Rattle.at_event.specs.declared.kind.Heading.{Heading}
use Rattle.at_event.specs.Events.{IsEvent}
use Rattle.at_event.specs.Frames.{items_in, IsMessage, heading_named, heading_of, headed, framed, frame_of, payload_frame, announced, event_frame}
use Rattle.at_event.specs.Seen.{Seen}
use Rattle.at_event.specs.Table.{seq_of, event_kind_of}
use Rattle.at_event.specs.Writing.{kind_name, header_of, event_message, numbered, out_of}
use Rattle.at_event.specs.Laws.{FramesAreRenumbered, PayloadsAreMaps}
use Rattle.at_event.proofs.Renumbered.{numbered_is_event, numbered_again}
use Rattle.at_event.proofs.Texts.{ascii_text}

-- ---- the header

name_fits : (kind : EventKind) → IsText (kind_name kind)
name_fits EventKind.Commit = ascii_text (codes "#commit") refl (lit< tt)
name_fits EventKind.Sync = ascii_text (codes "#sync") refl (lit< tt)
name_fits EventKind.Identity = ascii_text (codes "#identity") refl (lit< tt)
name_fits EventKind.Account = ascii_text (codes "#account") refl (lit< tt)

header_fits : (kind : EventKind) → Fits (header_of kind) 64
header_fits kind = (lit< tt, lit< tt, (ascii_text (codes "t") refl (lit< tt), refl, name_fits kind, (ascii_text (codes "op") refl (lit< tt), refl, lit< tt, tt)))

heading_read : (kind : EventKind) → heading_of (header_of kind) ≡ Some (Heading.Event kind)
unfolding heading_of heading_named
heading_read EventKind.Commit = refl
heading_read EventKind.Sync = refl
heading_read EventKind.Identity = refl
heading_read EventKind.Account = refl

-- what stands behind the header of an event is whole or not
framed_behind : (kind : EventKind) (whole : Option Item) → framed (whole >>= λ payload. Some (header_of kind, payload)) ≡ payload_frame kind whole
framed_behind kind None = refl
framed_behind kind (Some payload) = ap (λ (heading : Option Heading). headed heading (map_in payload) payload) (heading_read kind)

pub headed_message : (kind : EventKind) (message rest : List ℕ) → message ≡ encoding (header_of kind) ++ rest → frame_of message ≡ payload_frame kind (whole_item rest)
unfolding frame_of items_in
headed_message kind message rest is =
    ap (λ (found : Option (Item × List ℕ)). framed (found >>= λ header. whole_item header.1 >>= λ payload. Some (header.0, payload)))
    (ap item_from_front is ∙ item_taken_again (header_of kind) rest (header_fits kind))
    ∙ framed_behind kind (whole_item rest)

-- ---- the two items

items_read : (h p : Item) → Fits h 64 → Fits p 64 → items_in (encoding h ++ encoding p) ≡ Some (h, p)
unfolding items_in
items_read h p fits_h fits_p = rw (item_taken_again h (encoding p) fits_h, whole_again p fits_p) refl

pub message_read : (message : List ℕ) (header payload : Item) → IsMessage message header payload → items_in message ≡ Some (header, payload)
message_read message header payload h = ap items_in h.encoded ∙ items_read header payload h.header_form h.payload_form

-- what is read of a message is encoded there
pub items_taken : (message : List ℕ) (x : Item × Item) → IsBytes message → items_in message ≡ Some x → IsMessage message x.0 x.1
unfolding items_in
items_taken message x bytes e =
    let header = step_from (item_from_front message) (λ header. whole_item header.1 >>= λ payload. Some (header.0, payload)) x e in
    let payload = step_from (whole_item header.0.1) (λ payload. Some (header.0.0, payload)) x header.2 in
    let front = item_taken message header.0 bytes header.1 in
    let rest = whole_takes payload.0 header.0.1 front.0.rest_fits payload.1 in
    subst (λ (y : Item × Item). IsMessage message y.0 y.1) (some_same (header.0.0, payload.0) x payload.2) (record {
      header_form = front.1;
      payload_form = rest.0;
      encoded = front.0.parts ∙ ap (λ (l : List ℕ). encoding header.0.0 ++ l) rest.1;
    })

-- a payload whose number is read is a map
numbered_is_map : (payload : Item) (n : ℕ) → seq_of payload ≡ Some n → (fs : List (List ℕ × Item)) × (map_in payload ≡ Some fs)
unfolding seq_of
numbered_is_map (Item.map fs) n e = (_, refl)
numbered_is_map (Item.int z) n e = absurd cc
numbered_is_map (Item.bytes bs) n e = absurd cc
numbered_is_map (Item.text bs) n e = absurd cc
numbered_is_map (Item.list is) n e = absurd cc
numbered_is_map (Item.link bs) n e = absurd cc
numbered_is_map (Item.bool b) n e = absurd cc
numbered_is_map Item.null n e = absurd cc

-- the message of an event is read as the event
pub event_again : (event : Seen) → IsEvent event → frame_of (event_message (event_kind_of event.body) event.payload) ≡ Ok (Frame.Event event)
unfolding frame_of event_message announced event_frame
event_again event h =
    let there = numbered_is_map event.payload event.seq h.number in
    rw (items_read (header_of (event_kind_of event.body)) event.payload (header_fits (event_kind_of event.body)) h.fits, heading_read (event_kind_of event.body), there.1, h.number, h.read) refl

-- an event that goes out under a number is read as the event under that number
pub out_again : (event : Seen) (n : ℕ) → n < 2 ^ 53 → IsEvent event → frame_of (out_of event n) ≡ Ok (Frame.Event (numbered event n))
unfolding out_of
out_again event n lt h = event_again (numbered event n) (numbered_is_event event n lt h)

pub frames_renumbered : FramesAreRenumbered
frames_renumbered event n m is n_fits m_fits = (out_again event n n_fits is, numbered_is_event event n n_fits is, numbered_again event m n)

pub payloads_maps : PayloadsAreMaps
payloads_maps event is = (numbered_is_map event.payload event.seq is.number, fits_nested event.payload 64 is.fits)

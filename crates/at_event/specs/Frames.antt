-- Which frame a message is: Event Stream specification, and the Lexicon
-- `com.atproto.sync.subscribeRepos`.
use Rattle.std.specs.Prelude.{◌≡◌, ℕ, ◌==◌, ℤ, pos, negsuc, List, ◌++◌, if◌then◌else◌, Option, Some, None, Result, Ok, Err, codes}
use Rattle.std.specs.Str.{bytes_eq}
use Rattle.at_cid.specs.Memory.{Gives}
use Rattle.at_cbor.specs.declared.decoding.TheConstants.{DEPTH}
use Rattle.at_cbor.specs.Item.{Item}
use Rattle.at_cbor.specs.Kinds.{int_in, text_in, map_in}
use Rattle.at_cbor.specs.Encoding.{encoding, Fits}
use Rattle.at_cbor.specs.Taking.{◌>>=◌, item_from_front, whole_item}
use Rattle.at_form.specs.Forms.{required}
use Rattle.at_event.specs.declared.frame.Frame.{Frame}
use Rattle.at_event.specs.declared.frame.FrameFault.{FrameFault}
use Rattle.at_event.specs.declared.kind.EventKind.{EventKind}
use Rattle.at_event.specs.declared.kind.Heading.{Heading}
use Rattle.at_event.specs.Seen.{Seen}
use Rattle.at_event.specs.Table.{event_of, seq_of}

-- the header and the payload that a message is, with nothing behind them
unfoldable pub items_in : List ℕ → Option (Item × Item)
items_in message = do
  header ← item_from_front message
  payload ← whole_item header.1
  Some (header.0, payload)

-- the message is the encoding of the header, and behind it that of the payload
pub record IsMessage (message : List ℕ) (header payload : Item) : Type 0 where
  pub header_form : Fits header DEPTH
  pub payload_form : Fits payload DEPTH
  pub encoded : message ≡ encoding header ++ encoding payload

-- the kind of message that `t` names
unfoldable pub heading_named : List ℕ → Heading
heading_named t =
    if bytes_eq t (codes "#commit") then Heading.Event EventKind.Commit
    else (if bytes_eq t (codes "#sync") then Heading.Event EventKind.Sync
    else (if bytes_eq t (codes "#identity") then Heading.Event EventKind.Identity
    else (if bytes_eq t (codes "#account") then Heading.Event EventKind.Account
    else (if bytes_eq t (codes "#info") then Heading.Info
    else Heading.Unknown))))

-- `op` 1 is a message with its kind in `t`, and -1 is an error
abbrev pub operated : ℤ → Item → Option Heading
operated (pos n) header = if n == 1 then
    (required text_in header (codes "t") >>= λ t. Some (heading_named t)) else Some Heading.Unknown
operated (negsuc n) header = if n == 0 then Some Heading.Error else Some Heading.Unknown

-- what the header announces, where it is one
unfoldable pub heading_of : Item → Option Heading
heading_of header = required int_in header (codes "op") >>= λ op. operated op header

abbrev pub formed_frame : ℕ → Option Seen → Frame
formed_frame seq None = Frame.Faulty seq
formed_frame seq (Some event) = Frame.Event event

-- an event of this kind, where it has a number
abbrev pub numbered_frame : EventKind → Item → Option ℕ → Result Frame FrameFault
numbered_frame kind payload None = Err FrameFault.NoSeq
numbered_frame kind payload (Some seq) = Ok (formed_frame seq (event_of kind seq payload))

unfoldable pub event_frame : EventKind → Item → Result Frame FrameFault
event_frame kind payload = numbered_frame kind payload (seq_of payload)

unfoldable pub announced : Heading → Item → Result Frame FrameFault
announced Heading.Error payload = Ok Frame.Error
announced Heading.Unknown payload = Ok Frame.Unknown
announced Heading.Info payload = Ok Frame.Info
announced (Heading.Event kind) payload = event_frame kind payload

-- a message whose payload is a map
abbrev pub headed : Option Heading → Option (List (List ℕ × Item)) → Item → Result Frame FrameFault
headed None fields payload = Err FrameFault.BadFrame
headed (Some heading) None payload = Err FrameFault.BadFrame
headed (Some heading) (Some fields) payload = announced heading payload

abbrev pub framed : Option (Item × Item) → Result Frame FrameFault
framed None = Err FrameFault.BadFrame
framed (Some items) = headed (heading_of items.0) (map_in items.1) items.1

-- the frame of a message with the header of an event, where this is the whole of what stands behind
-- it
abbrev pub payload_frame : EventKind → Option Item → Result Frame FrameFault
payload_frame kind None = Err FrameFault.BadFrame
payload_frame kind (Some payload) = headed (Some (Heading.Event kind)) (map_in payload) payload

-- the frame that a message is, or why it is none
unfoldable pub frame_of : List ℕ → Result Frame FrameFault
frame_of message = framed (items_in message)

-- the cause that a fault names, but running out of memory, which is none
abbrev pub cause_of : FrameFault → Option FrameFault
cause_of FrameFault.BadFrame = Some FrameFault.BadFrame
cause_of FrameFault.NoSeq = Some FrameFault.NoSeq
cause_of FrameFault.Memory = None

-- the result is this answer, unless memory ran out
abbrev pub ReadsAs : Result Frame FrameFault → Result Frame FrameFault → Type 0
ReadsAs result answer = Gives (λ frame. frame) cause_of result answer

-- The message is the encodings of two items, and the frame is what they say.
pub record IsFrameOf (message : List ℕ) (frame : Frame) : Type 0 where
  pub header : Item
  pub payload : Item
  pub items : IsMessage message header payload
  pub says : framed (Some (header, payload)) ≡ Ok frame

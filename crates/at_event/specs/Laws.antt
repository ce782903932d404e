-- What holds of all outgoing frames.
use Rattle.std.specs.Prelude.{◌≡◌, ℕ, ◌<◌, ◌≤◌, List, Some, Ok}
use Rattle.at_cid.specs.Link.{IsBytes}
use Rattle.at_cbor.specs.declared.decoding.TheConstants.{DEPTH}
use Rattle.at_cbor.specs.Item.{Item}
use Rattle.at_cbor.specs.Kinds.{map_in}
use Rattle.at_cbor.specs.Encoding.{nesting}
use Rattle.at_cid.specs.declared.limits.TheConstants.{NUMBERS}
use Rattle.at_event.specs.declared.frame.Frame.{Frame}
use Rattle.at_event.specs.Events.{IsEvent}
use Rattle.at_event.specs.Formed.{IsFormed}
use Rattle.at_event.specs.Frames.{frame_of}
use Rattle.at_event.specs.Seen.{Seen}
use Rattle.at_event.specs.Writing.{numbered, out_of}

-- a frame is read as its event, under its number, and gives the frame of any other number
abbrev pub FramesAreRenumbered : Type 0
FramesAreRenumbered = (event : Seen) (n m : ℕ) → IsEvent event → n < NUMBERS → m < NUMBERS
    → (frame_of (out_of event n) ≡ Ok (Frame.Event (numbered event n)))
    × IsEvent (numbered event n) × (out_of (numbered event n) m ≡ out_of event m)

-- the payload of an event is a map, with no more lists and maps in one another than may be
abbrev pub PayloadsAreMaps : Type 0
PayloadsAreMaps = (event : Seen) → IsEvent event
    → ((fields : List (List ℕ × Item)) × (map_in event.payload ≡ Some fields))
    × (nesting event.payload ≤ DEPTH)

-- the fields of an event have their forms
abbrev pub EventsAreFormed : Type 0
EventsAreFormed = (event : Seen) → IsEvent event → IsFormed event

-- the event that a message is read as is made of the fields of its payload
abbrev pub FramesAreEvents : Type 0
FramesAreEvents = (message : List ℕ) (event : Seen) → IsBytes message
    → frame_of message ≡ Ok (Frame.Event event) → IsEvent event

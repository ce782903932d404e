-- What an event owes its payload.
use Rattle.std.specs.Prelude.{◌≡◌, Some}
use Rattle.at_cbor.specs.declared.decoding.TheConstants.{DEPTH}
use Rattle.at_cbor.specs.Encoding.{Fits}
use Rattle.at_cbor.specs.View.{item_of}
use Rattle.at_event.specs.declared.event.Event.TheInside.{Inside}
use Rattle.at_event.specs.Seen.{Seen}
use Rattle.at_event.specs.Table.{event_of, seq_of, event_kind_of}
use Rattle.at_event.specs.Writing.{blocks_of, with_blocks}

-- The payload is a map with no more lists and maps in one another than may be, from which all other
-- fields are read.
pub record IsEvent (event : Seen) : Type 0 where
  pub fits : Fits event.payload DEPTH
  pub number : seq_of event.payload ≡ Some event.seq
  pub read : event_of (event_kind_of event.body) event.seq event.payload ≡ Some event

-- The payload is what is kept of it, with the blocks of the body, where it has some, put back.
abbrev pub seen_of : Inside → Seen
seen_of a = record {
  seq = a.seq;
  did = a.did;
  time = a.time;
  body = a.body;
  payload = with_blocks (blocks_of a.body) (item_of a.rest);
}

abbrev pub IsInside : Inside → Type 0
IsInside a = IsEvent (seen_of a)

-- An event that is made of the fields of its payload.
use Rattle.std.proofs.Common.{◌≡◌, ℕ, List, Some, codes, refl}
use Rattle.at_cbor.specs.Item.{Item}
use Rattle.at_cbor.specs.Encoding.{Fits}
use Rattle.at_event.specs.declared.event.Body.{Body}
use Rattle.at_event.specs.declared.kind.EventKind.{EventKind}
use Rattle.at_event.specs.Events.{IsEvent}
use Rattle.at_form.specs.Forms.{did_in, short_text_in, required}
use Rattle.at_event.specs.Table.{event_of, seq_of, event_body_of, did_key, event_kind_of}

pub is_event : (kind : EventKind) (seq : ℕ) (did time : List ℕ) (body : Body) (payload : Item) → Fits payload 64 → seq_of payload ≡ Some seq
    → required did_in payload (did_key kind) ≡ Some did → required short_text_in payload (codes "time") ≡ Some time → event_body_of kind payload ≡ Some body → event_kind_of body ≡ kind
    → IsEvent (record { seq = seq; did = did; time = time; body = body; payload = payload })
unfolding event_of
is_event kind seq did time body payload fits number has_did has_time has_body is_kind = record { fits = fits; number = number; read = rw is_kind (rw (has_did, has_time, has_body) refl) }

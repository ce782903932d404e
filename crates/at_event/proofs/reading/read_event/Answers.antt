use Rattle.std.proofs.Common.{subst}
use Rattle.at_cbor.specs.Item.{Item}
use Rattle.at_cbor.specs.View.{item_of}
use Rattle.at_event.specs.Events.{IsEvent}
use Rattle.at_event.proofs.Made.{is_event}
use Rattle.at_event.proofs.reading.read_event.Goals as goal

pub invariant_of-result : goal.invariant_of-result
invariant_of-result c =
    let did = rw c.did_key.ensures at c.in_ok-did.ensures in
    let is = is_event c.args.kind c.args.seq c.in_ok-did.did c.in_ok-time.time c.in_ok-body.body (item_of c.args.payload) c.requires.fits c.requires.number did c.in_ok-time.ensures c.in_ok-body.ensures.body c.in_ok-body.ensures.kind in
    subst (λ (payload : Item). IsEvent (record { seq = c.args.seq; did = c.in_ok-did.did; time = c.in_ok-time.time; body = c.in_ok-body.body; payload = payload })) c.in_ok-body.ensures.left is

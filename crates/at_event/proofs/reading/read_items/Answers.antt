use Rattle.std.proofs.Common.{◌≡◌, ap, sym, ◌∙◌, Some, arith}
use Rattle.std.specs.Prelude.{option_map}
use Rattle.at_cbor.specs.View.{item_of}
use Rattle.at_cbor.specs.Taking.{item_from_front, whole_item}
use Rattle.at_cbor.proofs.Taken.{item_taken, whole_takes}
use Rattle.at_event.proofs.reading.read_items.Goals as goal

pub returns-in-Some-2-clause-fits : goal.returns-in-Some-2-clause-fits
returns-in-Some-2-clause-fits c =
    let read : item_from_front c.args.message.now ≡ Some (item_of c.in-Some.header, c.in-Some.rest.now) = sym c.in_ok-header.ensures ∙ ap (option_map (λ x. (item_of x.0, x.1.now))) c.in-Some.is in
    let whole : whole_item c.in-Some.rest.now ≡ Some (item_of c.in-Some-2.payload) = sym c.in_ok-payload.ensures ∙ ap (option_map item_of) c.in-Some-2.is in
    let front = item_taken c.args.message.now (item_of c.in-Some.header, c.in-Some.rest.now) (λ i. omega (arith, c.type_inv.message i)) read in
    (whole_takes (item_of c.in-Some-2.payload) c.in-Some.rest.now front.0.rest_fits whole).0

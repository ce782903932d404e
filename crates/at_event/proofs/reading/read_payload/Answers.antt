use Rattle.std.proofs.Common.{◌≡◌, Some, ap, arith, sym, ◌∙◌}
use Rattle.std.specs.Prelude.{option_map}
use Rattle.at_cbor.specs.Taking.{whole_item}
use Rattle.at_cbor.specs.View.{item_of}
use Rattle.at_cbor.proofs.Taken.{whole_takes}
use Rattle.at_event.proofs.reading.read_payload.Goals as goal

pub read_numbered-requires : goal.read_numbered-requires
read_numbered-requires c =
    let whole : whole_item c.args.bytes.now ≡ Some (item_of c.in-Some.payload) = sym c.in_ok-payload.ensures ∙ ap (option_map item_of) c.in-Some.is in
    (whole_takes (item_of c.in-Some.payload) c.args.bytes.now (λ i. omega (arith, c.type_inv.bytes i)) whole).0

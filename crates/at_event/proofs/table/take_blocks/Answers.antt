use Rattle.std.proofs.Common.{Some, sym, ap, ◌∙◌}
use Rattle.at_cbor.specs.Item.{fields_of}
use Rattle.at_cbor.specs.View.{item_of}
use Rattle.at_event.proofs.Blocks.{blocks_back}
use Rattle.at_event.proofs.table.take_blocks.Goals as goal

pub returns-in-Bytes-clause-left : goal.returns-in-Bytes-clause-left
returns-in-Bytes-clause-left c =
    let fits = rw c.in-Map.is at c.requires in
    let there = sym c.in-Some.ensures.taken ∙ ap (λ v. Some (item_of v)) c.in-Bytes.is in
    rw c.in-Map.is (blocks_back (fields_of c.in-Map.fields) (fields_of c.replace.new.self) c.in-Bytes.blocks _ fits there c.replace.ensures.put)

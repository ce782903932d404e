use Rattle.std.proofs.Common.{ap, ◌∙◌}
use Rattle.std.proofs.lemmas.List.{take_rest}
use Rattle.at_cid.specs.Link.{link_at}
use Rattle.at_cbor.proofs.HeadLaws.{link_read}
use Rattle.at_cbor.proofs.head.read_link.Goals as goal

pub returns-in-Some-parse_binary-clause-head : goal.returns-in-Some-parse_binary-clause-head
returns-in-Some-parse_binary-clause-head c =
    let taken = c.in-Some.ensures.bytes in
    rw taken.2 (link_read c.args.reader.now.left c.args.reader.now.rest.now c.in-Some.body.now c.in-Some-parse_binary.link taken.1 c.if-body-ne88.false c.if-body-ne37.false c.if-body-ne0.false (c.in-Some-parse_binary.ensures ∙ ap link_at (take_rest c.in-Some.body.now 3)))

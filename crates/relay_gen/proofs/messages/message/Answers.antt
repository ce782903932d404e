use Rattle.std.proofs.Common.{◌++◌, ◌+◌, map, sym, ap, ◌∙◌}
use Rattle.at_cbor.specs.declared.major.Major.{Major}
use Rattle.at_cbor.specs.Item.{fields_of}
use Rattle.at_cbor.specs.Encoding.{fields_count, fields_encoding, front_of, encoding}
use Rattle.at_event.specs.declared.kind.EventKind.{EventKind}
use Rattle.at_event.specs.Writing.{header_of, event_message}
use Rattle.relay_gen.specs.Messages.{back_fields, front_fields, middle_fields, prev_data}
use Rattle.relay_gen.specs.Records.{op_of}
use Rattle.relay_gen.proofs.Counts.{five, payload_encoded}
use Rattle.relay_gen.proofs.messages.message.Goals as goal

pub returns : goal.returns
unfolding event_message
returns c =
    let s = c.args.stated.now in let ops = map op_of s.changes.now in
    let H = encoding (header_of EventKind.Commit) in let N = front_of Major.Map (11 + fields_count (fields_of (prev_data s.past))) in
    let F = fields_encoding (fields_of (front_fields ops s.rev s.seq s.did.now)) in let M = fields_encoding (fields_of (middle_fields s.past s.blocks.now)) in let B = fields_encoding (fields_of (back_fields s.past s.commit)) in
    c.in_ok-write_back.ensures ∙ ap (λ x. x ++ B) (c.in_ok-write_middle.ensures ∙ ap (λ x. x ++ M) (c.in_ok-write_front.ensures ∙ ap (λ x. x ++ F) (c.in_ok-write_count.ensures ∙ ap (λ x. x ++ N) (c.in_ok-write_header.ensures ∙ ap (λ x. x ++ H) c.new-out.ensures))))
    ∙ five H N F M B ∙ ap (λ x. H ++ x) (sym (payload_encoded s.did.now s.seq s.rev s.past ops s.commit s.blocks.now))

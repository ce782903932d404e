use Rattle.std.proofs.Common.{◌^◌, ◌-◌, min, length, ap, ◌∙◌, arith}
use Rattle.at_cbor.specs.Encoding.{encoding}
use Rattle.at_event.specs.Writing.{kind_name, number_item}
use Rattle.at_event.proofs.OutLengths.{number_there, number_within, number_short, name_short, length_of}
use Rattle.at_event.proofs.writing.frame_len.Goals as goal

pub number_len-number-requires : goal.number_len-number-requires
number_len-number-requires c = (number_there _ _ c.event.invariant.number).1

pub overflow_sub-payload : goal.overflow_sub-payload
overflow_sub-payload c =
    number_within c.args.event.now c.kind.ensures.event c.payload_len-payload.result c.number_len-number.result (c.payload_len-payload.ensures ∙ ap (λ e. min (length (encoding e.payload)) (2 ^ 64 - 1)) c.event.view_is) (c.number_len-number.ensures ∙ ap (λ e. min (length (encoding (number_item e.seq))) (2 ^ 64 - 1)) c.event.view_is)

pub overflow_add-number_len : goal.overflow_add-number_len
overflow_add-number_len c = omega (arith, number_short c.args.seq c.number_len.result c.number_len.ensures, ap length c.name.ensures, name_short c.kind.result)

pub returns : goal.returns
returns c =
    length_of c.args.event.now c.kind.ensures.event c.payload_len-payload.result c.number_len-number.result (c.payload_len-payload.ensures ∙ ap (λ e. min (length (encoding e.payload)) (2 ^ 64 - 1)) c.event.view_is) (c.number_len-number.ensures ∙ ap (λ e. min (length (encoding (number_item e.seq))) (2 ^ 64 - 1)) c.event.view_is)
    c.args.seq (length c.name.result.now) c.number_len.result c.saturating_add.result c.number_len.ensures (ap length (c.name.ensures ∙ ap kind_name c.kind.ensures.value)) c.saturating_add.ensures

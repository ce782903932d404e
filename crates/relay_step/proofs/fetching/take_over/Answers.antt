use Rattle.std.proofs.Common.{◌+◌, ℕ, List, length, ◌<◌, ◌^◌, ap, ◌∙◌, subst}
use Rattle.at_car.specs.Blocks.{kept}
use Rattle.at_cbor.specs.Encoding.{IsString}
use Rattle.at_cbor.proofs.Texts.{typed_string}
use Rattle.at_event.specs.Writing.{event_message, sync_payload}
use Rattle.at_event.specs.declared.kind.EventKind.{EventKind}
use Rattle.relay_step.proofs.Sending.{message_kept, typed_is, whole_is}
use Rattle.relay_step.proofs.fetching.take_over.Goals as goal

pub returns-clause-whole : goal.returns-clause-whole
returns-clause-whole c =
    let found = c.args.found.now in
    whole_is c.args.did.now c.args.time.now found.head found.block c.new-blocks.result c.put.new.self c.in_ok-car.car c.new-blocks.ensures
    (c.in_ok-put.ensures.ok ∙ ap (λ (b : List ℕ). kept c.new-blocks.result found.head.commit b) c.as_slice.ensures.value) c.in_ok-car.ensures.encoded c.in_ok-message.message (c.args.last + 1) found.records
    (c.in_ok-message.ensures.encoded ∙ ap (λ (b : List ℕ). event_message EventKind.Sync (sync_payload c.args.did.now found.head.rev b c.args.time.now (c.args.last + 1))) c.as_slice-2.ensures.value)

pub returns-clause-typed : goal.returns-clause-typed
returns-clause-typed c =
    let found = c.args.found.now in
    let P : List ℕ → Type 0 = λ b. IsString b in
    let Q : List ℕ → Type 0 = λ b. length b < 2 ^ 63 in
    typed_is c.args.did.now c.args.time.now found.head found.block c.new-blocks.result c.put.new.self c.in_ok-car.car c.new-blocks.ensures
    (c.in_ok-put.ensures.ok ∙ ap (λ (b : List ℕ). kept c.new-blocks.result found.head.commit b) c.as_slice.ensures.value) c.in_ok-car.ensures.encoded
    (typed_string c.args.did.now c.ghost_text.ensures.bytes c.ghost_text.ensures.length) c.ghost_text.ensures.utf8 (typed_string c.args.time.now c.ghost_text-2.ensures.bytes c.ghost_text-2.ensures.length) c.ghost_text-2.ensures.utf8 c.ghost_value.ensures (subst P c.as_slice-3.ensures.value (typed_string c.as_slice-3.result.now c.ghost_bytes.ensures.bytes c.ghost_bytes.ensures.length)) (subst Q c.as_slice-3.ensures.value c.ghost_bytes.ensures.length)

pub returns-clause-message : goal.returns-clause-message
returns-clause-message c =
    let found = c.args.found.now in
    let P : List ℕ → Type 0 = λ b. IsString b in
    message_kept c.in_ok-message.message (sync_payload c.args.did.now found.head.rev c.as_slice-2.result.now c.args.time.now (c.args.last + 1)) c.in_ok-message.ensures.encoded (subst P c.as_slice-4.ensures.value (typed_string c.as_slice-4.result.now c.ghost_bytes-2.ensures.bytes c.ghost_bytes-2.ensures.length))

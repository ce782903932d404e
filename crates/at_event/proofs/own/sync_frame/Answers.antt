use Rattle.at_cbor.proofs.Texts.{typed_string}
use Rattle.at_event.specs.Writing.{event_message}
use Rattle.at_event.proofs.OwnEvents.{sync_again}
use Rattle.at_event.proofs.own.sync_frame.Goals as goal

pub returns-clause-again : goal.returns-clause-again
unfolding event_message
returns-clause-again c = λ is short.
    rw (c.in_ok-write_sync.ensures, c.in_ok-write_header.ensures.written, c.new-out.ensures)
    (sync_again c.args.did.now c.args.rev c.args.blocks.now c.args.time.now c.args.seq (typed_string c.args.did.now c.ghost_text.ensures.bytes c.ghost_text.ensures.length) c.ghost_text.ensures.utf8 is c.ghost_value.ensures (typed_string c.args.blocks.now c.ghost_bytes.ensures.bytes c.ghost_bytes.ensures.length) (typed_string c.args.time.now c.ghost_text-2.ensures.bytes c.ghost_text-2.ensures.length) c.ghost_text-2.ensures.utf8 short c.requires)

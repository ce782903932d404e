use Rattle.at_cbor.proofs.Texts.{typed_string}
use Rattle.at_event.specs.Writing.{event_message}
use Rattle.at_event.proofs.OwnEvents.{account_again, some_string}
use Rattle.at_event.proofs.own.account_frame.Goals as goal

pub returns-clause-again : goal.returns-clause-again
unfolding event_message
returns-clause-again c = λ is brief short.
    rw (c.in_ok-write_account.ensures, c.in_ok-write_header.ensures.written, c.new-out.ensures)
    (account_again c.args.did.now c.args.active c.args.time.now c.args.seq (typed_string c.args.did.now c.ghost_text.ensures.bytes c.ghost_text.ensures.length) c.ghost_text.ensures.utf8 is (typed_string c.args.time.now c.ghost_text-2.ensures.bytes c.ghost_text-2.ensures.length) c.ghost_text-2.ensures.utf8 short c.requires c.args.status (some_string c.args.status c.ghost_text_or_none.ensures.bytes c.ghost_text_or_none.ensures.length) c.ghost_text_or_none.ensures.utf8 brief)

use Rattle.std.proofs.Common.{ap}
use Rattle.at_cbor.proofs.Texts.{typed_string}
use Rattle.relay_row.specs.declared.operated.Operated.{Operated}
use Rattle.relay_row.specs.declared.row.Row.{Row}
use Rattle.relay_step.proofs.Sending.{text_of, text_tested}
use Rattle.relay_step.proofs.Commands.{operated_kept}
use Rattle.relay_step.proofs.operating.operate.Goals as goal

pub returns-clause-formed : goal.returns-clause-formed
returns-clause-formed g c =
    operated_kept c.args.core.now c.args.did.now c.args.down c.args.time.now c.in_ok-moment.moment (Row.Operated c.in_ok-operated.operated) c.operated_rows_are_formed.ensures (ap (λ (o : Operated). Row.Operated o) c.in_ok-operated.ensures)
    (text_tested c.args.did.now (typed_string c.args.did.now c.ghost_text.ensures.bytes c.ghost_text.ensures.length) c.ghost_text.ensures.utf8) c.requires.did (record { text = text_of c.args.time.now (typed_string c.args.time.now c.ghost_text-2.ensures.bytes c.ghost_text-2.ensures.length) c.ghost_text-2.ensures.utf8; short = c.requires.time })
    c.in_ok-moment.ensures.number (c.is_full.ensures.free c.if-is_full.false)

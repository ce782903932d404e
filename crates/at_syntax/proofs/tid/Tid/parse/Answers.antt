use Rattle.std.proofs.Common.{sym, ◌∙◌, ap}
use Rattle.at_syntax.specs.Tid.{is_tid, tid_value, digits_of}
use Rattle.at_syntax.proofs.Tids.{tid_tested_not, tid_again}
use Rattle.at_syntax.proofs.tid.Tid.parse.Goals as goal

pub returns-then-is_tid-clause-encoded : goal.returns-then-is_tid-clause-encoded
returns-then-is_tid-clause-encoded c =
    let value = c.value.ensures in
    let bytes = c.as_bytes-bytes.ensures.value in
    let test = c.is_tid.ensures in
    tid_again c.args.text.now (ap is_tid (sym bytes) ∙ sym test ∙ c.if-is_tid.true) ∙ ap digits_of (ap tid_value (sym bytes) ∙ sym value)

pub returns-else-is_tid-clause-encoded : goal.returns-else-is_tid-clause-encoded
returns-else-is_tid-clause-encoded c =
    let bytes = c.as_bytes-bytes.ensures.value in
    tid_tested_not c.args.text.now (ap is_tid (sym bytes) ∙ sym c.is_tid.ensures ∙ c.if-is_tid.false)

use Rattle.std.proofs.Common.{◌≡◌, ◌∙◌, ℕ, List, Option, Some, None, length}
use Rattle.at_cbor.specs.Encoding.{front_of}
use Rattle.at_cbor.specs.declared.major.Major.{Major}
use Rattle.row_codec.specs.Bodies.{encoded_rows}
use Rattle.store_read.proofs.Buffering.{body_front, if_some, rows_behind, starts, starts_some}
use Rattle.store_read.proofs.buffer.first_row.Goals as goal

pub returns-in_default-clause-none : goal.returns-in_default-clause-none
returns-in_default-clause-none c = λ none rows is.
    let both : ◌≡◌ {A = Option (ℕ × List ℕ)} None (Some (length rows, encoded_rows rows)) = c.in_default.ensures ∙ body_front rows c.args.body.now is in
    absurd cc

pub returns-clause-first : goal.returns-clause-first
returns-clause-first c = if_some c.start_of.result _ (λ at found rows is.
    let behind = rows_behind rows c.args.body.now _ c.in-Some.rows.now is (c.in-Some.ensures) in
    starts c.start_of.result c.args.body.now c.in-Some.rows.now c.start_of.ensures.start (front_of Major.List (length rows)) behind.1 at found ∙ behind.0)

pub returns-clause-none : goal.returns-clause-none
returns-clause-none c = λ none rows is.
    let behind = rows_behind rows c.args.body.now _ c.in-Some.rows.now is (c.in-Some.ensures) in
    starts_some c.start_of.result c.args.body.now c.in-Some.rows.now c.start_of.ensures.start (front_of Major.List (length rows)) behind.1 none

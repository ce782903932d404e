use Rattle.std.proofs.Common.{◌∙◌, ◌++◌, refl, sym, take}
use Rattle.row_codec.specs.Bodies.{encoded_rows}
use Rattle.store_read.proofs.Buffering.{behind_front, empty_rows, if_some, is_none, is_some, no_borrow, none_behind, some_behind, starts, starts_some}
use Rattle.store_read.proofs.buffer.next_row.Goals as goal

pub returns-then-is_empty-clause-none : goal.returns-then-is_empty-clause-none
returns-then-is_empty-clause-none c = λ none rows formed is.
    empty_rows rows c.split_at.result.1.now (c.split_at.ensures.back ∙ is) (is_none c.split_at.result.1.now c.is_empty.result c.is_empty.ensures c.if-is_empty.true)

pub returns-in_default-clause-none : goal.returns-in_default-clause-none
returns-in_default-clause-none c = λ none rows formed is. none_behind _ c.split_at.result.1.now (λ row more. c.behind_row.ensures row (encoded_rows more)) rows formed (c.split_at.ensures.back ∙ is) (no_borrow c.behind_row.result c.in_default.is)

pub returns-clause-next : goal.returns-clause-next
returns-clause-next c = if_some c.start_of.result _ (λ at found rows formed is.
    let behind = some_behind _ c.split_at.result.1.now (λ row more. c.in-Some.ensures row (encoded_rows more)) rows c.in-Some.rest.now formed (c.split_at.ensures.back ∙ is)
    (is_some c.split_at.result.1.now c.is_empty.result c.is_empty.ensures c.if-is_empty.false) refl in
    starts c.start_of.result c.args.body.now c.in-Some.rest.now c.start_of.ensures.start (take c.args.at c.args.body.now ++ behind.0)
    (behind_front c.args.at c.args.body.now behind.0 c.in-Some.rest.now (sym c.split_at.ensures.back ∙ behind.1)) at found ∙ behind.2)

pub returns-clause-none : goal.returns-clause-none
returns-clause-none c = λ none rows formed is.
    let behind = some_behind _ c.split_at.result.1.now (λ row more. c.in-Some.ensures row (encoded_rows more)) rows c.in-Some.rest.now formed (c.split_at.ensures.back ∙ is)
    (is_some c.split_at.result.1.now c.is_empty.result c.is_empty.ensures c.if-is_empty.false) refl in
    absurd (starts_some c.start_of.result c.args.body.now c.in-Some.rest.now c.start_of.ensures.start (take c.args.at c.args.body.now ++ behind.0)
    (behind_front c.args.at c.args.body.now behind.0 c.in-Some.rest.now (sym c.split_at.ensures.back ∙ behind.1)) none)

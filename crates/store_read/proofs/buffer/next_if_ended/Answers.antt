use Rattle.std.proofs.Common.{◌∙◌, ◌++◌, ap, refl, sym, take}
use Rattle.std.proofs.lemmas.Option.{same_Some}
use Rattle.row_codec.specs.Bodies.{encoded_rows, row_encoding}
use Rattle.row_peek.specs.Passing.{ended_row}
use Rattle.store_read.proofs.Buffering.{behind_front, if_some, is_none, is_some, no_borrow, some_behind, some_encoded, starts, starts_some}
use Rattle.store_read.proofs.buffer.next_if_ended.Goals as goal

pub returns-then-is_empty-clause-row : goal.returns-then-is_empty-clause-row
returns-then-is_empty-clause-row c = λ row more is e. absurd (some_encoded row more (sym e ∙ sym c.split_at.ensures.back ∙ is_none c.split_at.result.1.now c.is_empty.result c.is_empty.ensures c.if-is_empty.true))

pub returns-in_default-clause-row : goal.returns-in_default-clause-row
returns-in_default-clause-row c = λ row more is e.
    let none = no_borrow c.behind_ended_row.result c.in_default.is in
    let some = c.behind_ended_row.ensures.row row more is (c.split_at.ensures.back ∙ e) in
    absurd cc

pub returns-clause-next : goal.returns-clause-next
returns-clause-next c = if_some c.start_of.result _ (λ at found rows formed is.
    let behind = some_behind _ c.split_at.result.1.now c.in-Some.ensures.row rows c.in-Some.rest.now formed (c.split_at.ensures.back ∙ is)
    (is_some c.split_at.result.1.now c.is_empty.result c.is_empty.ensures c.if-is_empty.false) refl in
    starts c.start_of.result c.args.body.now c.in-Some.rest.now c.start_of.ensures.start (take c.args.at c.args.body.now ++ behind.0)
    (behind_front c.args.at c.args.body.now behind.0 c.in-Some.rest.now (sym c.split_at.ensures.back ∙ behind.1)) at found ∙ behind.2)

pub returns-clause-ends : goal.returns-clause-ends
returns-clause-ends c = if_some c.start_of.result _ (λ at found. (c.in-Some.rest.now, ap ended_row (sym c.split_at.ensures.back) ∙ sym c.in-Some.ensures.found))

pub returns-clause-row : goal.returns-clause-row
returns-clause-row c = λ row more is e none.
    let rest = same_Some c.in-Some.rest.now (encoded_rows more) (c.in-Some.ensures.row row more is (c.split_at.ensures.back ∙ e)) in
    starts_some c.start_of.result c.args.body.now c.in-Some.rest.now c.start_of.ensures.start (take c.args.at c.args.body.now ++ row_encoding row)
    (behind_front c.args.at c.args.body.now (row_encoding row) c.in-Some.rest.now (e ∙ ap (λ l. row_encoding row ++ l) (sym rest))) none

use Rattle.std.proofs.Common.{[]}
use Rattle.row_codec.proofs.Left.{row_taken, no_row}
use Rattle.row_codec.proofs.body_rows.BodyRows.next.Goals as goal

pub returns-in-Ok : goal.returns-in-Ok
returns-in-Ok c = row_taken c.args.self.now c.self.inside.reader.rest.now c.self.inside.left c.self.view_is c.if-self-eq0-2.false c.in-Ok.row _ c.ghost_bytes.ensures.bytes c.in-Ok.ensures

pub returns-in-Err : goal.returns-in-Err
returns-in-Err c = no_row c.args.self.now c.self.inside.reader.rest.now c.self.inside.left c.self.view_is c.if-self-eq0-2.false _ (λ row. (row, [])) c.in-Err.fault c.self.view_is c.in-Err.ensures

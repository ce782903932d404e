use Rattle.relay_row.proofs.Journals.{no_rows, grows, grew, fronts}
use Rattle.relay_row.proofs.laws.journals_grow.Goals as goal

pub returns : goal.returns
returns c = record { none = no_rows; grows = grows; grew = grew; fronts = fronts }

use Rattle.std.proofs.Common.{◌≡◌, ◌-◌}
use Rattle.row_codec.specs.Reading.{rows_at}
use Rattle.row_codec.proofs.Loops.{with_front}
use Rattle.row_codec.proofs.reading.read_counted.Given as goal

abbrev pub invariant-rows : goal.invariant-rows
invariant-rows l = with_front l.rows (rows_at (l.count - l.counter) l.reader.rest.now) ≡ rows_at l.count l.fn.reader.rest.now

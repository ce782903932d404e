use Rattle.std.proofs.Common.{◌≡◌, ◌≤◌, ◌<◌, ◌+◌, ◌-◌, IsTrue, length}
use Rattle.relay_io.specs.declared.feed.TheConstants.{LONGEST_FEED_MESSAGE}
use Rattle.relay_row.specs.declared.limits.TheConstants.{MOST_ROWS}
use Rattle.tape.specs.Reading.{coming}
use Rattle.take_run.specs.Groups.{AreRead, bytes_together}
use Rattle.take_run.specs.Tapes.{AreRecords, encoded_records}
use Rattle.take_run.proofs.group.read_group.Given as goal

abbrev pub invariant-reading : goal.invariant-reading
invariant-reading g l =
    let left = g.I.Source.left in
    record {
      read : IsTrue g.I.Source.tells → AreRead l.fn.tape (left l.fn.input) l.messages.items (coming l.tape (left l.input));
      records : AreRecords l.messages.items;
      few : length l.messages.items ≤ MOST_ROWS;
      some : length l.messages.items ≡ 0 → l.size ≡ 0;
      place : l.tape.place ≡ l.fn.tape.place + length (encoded_records l.messages.items);
      most : l.tape.most ≡ l.fn.tape.most;
      steady : g.I.Source.faults l.input ≡ g.I.Source.faults l.fn.input;
      bytes : bytes_together l.messages.items ≡ l.size;
      small : l.size < LONGEST_FEED_MESSAGE + LONGEST_FEED_MESSAGE;
    }

abbrev pub decreases-reading : goal.decreases-reading
decreases-reading g l = MOST_ROWS - length l.messages.items

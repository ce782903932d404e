use Rattle.std.proofs.Common.{◌≡◌, ◌+◌, ◌++◌, drop}
use Rattle.take_run.specs.Said.{IsNoted, answered, text_of}
use Rattle.take_run.specs.declared.tally.Tally.{Tally}
use Rattle.take_run.proofs.answering.note_all.Given as goal

abbrev pub invariant-loop-i : goal.invariant-loop-i
invariant-loop-i l = record {
  count : l.tally.messages ≡ l.fn.tally.messages + l.i;
  noted : (new : Tally) → IsNoted (answered (drop l.i l.group) (drop l.i l.outcomes)) l.tally new → IsNoted (answered l.group l.outcomes) l.fn.tally new;
  text : l.text ++ text_of (answered (drop l.i l.group) (drop l.i l.outcomes)) ≡ l.fn.text ++ text_of (answered l.group l.outcomes);
}

use Rattle.std.proofs.Common.{◌<◌, ◌++◌, length, sym, arith}
use Rattle.take_run.specs.Said.{answered, text_of}
use Rattle.take_run.proofs.Answers.{note_one, note_all_of, text_all_of, text_one}
use Rattle.take_run.proofs.answering.note_all.Goals as goal

pub loop-i-preserved : goal.loop-i-preserved
loop-i-preserved c =
    let group = c.args.group.now in
    let outcomes = c.args.outcomes.now in
    let few : c.loop-i.i < length outcomes = omega (arith, c.loop-i-test.true) in
    let below : c.loop-i.i < length group = omega (arith, few, c.requires.few) in
    record {
      count = omega (arith, c.in_ok-note.ensures.messages, c.loop-i.invariant.count);
      noted = note_one group outcomes c.loop-i.i c.index-group-i.result c.index-outcomes-i.result c.as_str-host.result.now below few c.as_str-host.ensures.value (sym c.index-outcomes-i.is)
          (answered group outcomes) c.args.tally.now c.loop-i.tally c.note.new.self c.loop-i.invariant.noted c.in_ok-note.ensures;
      text = text_one group outcomes c.loop-i.i c.index-group-i.result c.index-outcomes-i.result c.as_str-host.result.now below few c.as_str-host.ensures.value (sym c.index-outcomes-i.is)
          (c.args.text.now ++ text_of (answered group outcomes)) c.loop-i.text c.line.new.out c.loop-i.invariant.text c.in_ok-line.ensures.ok;
    }

pub returns-clause-noted : goal.returns-clause-noted
returns-clause-noted c =
    note_all_of c.args.group.now c.args.outcomes.now c.loop-i.i (answered c.args.group.now c.args.outcomes.now) c.args.tally.now c.loop-i.tally
    (omega (arith, c.loop-i-test.false)) c.loop-i.invariant.noted

pub returns-clause-text : goal.returns-clause-text
returns-clause-text c =
    text_all_of c.args.group.now c.args.outcomes.now c.loop-i.i (c.args.text.now ++ text_of (answered c.args.group.now c.args.outcomes.now)) c.loop-i.text
    (omega (arith, c.loop-i-test.false)) c.loop-i.invariant.text

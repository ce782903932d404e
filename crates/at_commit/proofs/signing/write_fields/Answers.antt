use Rattle.at_commit.proofs.Unsigned.{field_more}
use Rattle.at_commit.proofs.signing.write_fields.Goals as goal

pub loop-key-preserved : goal.loop-key-preserved
loop-key-preserved c = field_more c.args.out.now c.loop-key.out c.write_field.new.out c.args.fields.now c.loop-key.key-index c.loop-key-item.result c.loop-key-test.true c.loop-key-item.is c.loop-key.invariant c.in_ok-write_field.ensures

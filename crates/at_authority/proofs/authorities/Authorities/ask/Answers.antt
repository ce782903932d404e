use Rattle.std.proofs.Common.{arith}
use Rattle.at_authority.specs.Calls.{fails}
use Rattle.at_authority.specs.Asking.{call_of}
use Rattle.at_authority.proofs.MethodLists.{counted_failed, counted_wanting, goes_further, answered}
use Rattle.at_authority.proofs.authorities.Authorities.ask.Goals as goal

pub returns-in-Ok-clause-asks : goal.returns-in-Ok-clause-asks
returns-in-Ok-clause-asks g c =
    answered _ _ _ c.loop-self.self.entries.items c.loop-self.self.fallen c.ask.new.authority c.index_mut.result.now (call_of c.args.did.now c.args.question c.in-Ok.good) c.loop-self.invariant.goes (omega arith) c.index_mut.ensures.value c.in-Ok.ensures.does c.in-Ok.ensures.counted

pub returns-in-Err-Memory-clause-asks : goal.returns-in-Err-Memory-clause-asks
returns-in-Err-Memory-clause-asks g c =
    answered _ _ _ c.loop-self.self.entries.items c.loop-self.self.fallen c.ask.new.authority c.index_mut.result.now (fails c.args.did.now) c.loop-self.invariant.goes (omega arith) c.index_mut.ensures.value c.in-Err-Memory.ensures.kept (counted_wanting _ _ _ c.in-Err-Memory.field-0-is c.in-Err-Memory.ensures.counted)

pub loop-self-preserved : goal.loop-self-preserved
loop-self-preserved g c = record {
  goes = goes_further _ _ _ c.loop-self.self.entries.items c.loop-self.self.fallen c.ask.new.authority c.index_mut.result.now c.loop-self.invariant.goes (omega arith) c.index_mut.ensures.value c.in-Err-Failed.ensures.kept (counted_failed _ _ _ c.in-Err-Failed.field-0-is c.in-Err-Failed.ensures.counted);
  method = c.loop-self.invariant.method;
}

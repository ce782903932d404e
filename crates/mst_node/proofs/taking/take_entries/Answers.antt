use Rattle.std.proofs.Common.{arith, ◌∙◌}
use Rattle.std.proofs.lemmas.Result.{err_from_is_err_and}
use Rattle.std.specs.Prelude.{map}
use Rattle.mst_node.proofs.Encoded.{next_fewest, room_left}
use Rattle.mst_node.proofs.Rounds.{go_on, stopped, done}
use Rattle.mst_node.proofs.taking.take_entries.Goals as goal

pub returns-in_err-rest-clause-taken : goal.returns-in_err-rest-clause-taken
returns-in_err-rest-clause-taken g c =
    let p = err_from_is_err_and c.from_residual-in_err-rest.result c.from_residual-in_err-rest.ensures.1 in
    rw (p.1, p.2) (stopped (map g.E.Keyed.entry c.entries.entries.items) c.args.count c.entries.counter c.entries.rest.now _ c.in_err-rest.field-0.0 c.entries-test.true c.in_err-rest.ensures.taken c.entries.invariant.so_far)

pub entries-preserved : goal.entries-preserved
entries-preserved g c =
    let i = c.entries.invariant in
    let fewest = next_fewest (map g.E.Keyed.entry c.entries.entries.items) c.entries.rest.now (map g.E.Keyed.entry c.push_entry.new.entries.items, c.in_ok-rest.rest.now) i.bytes c.in_ok-rest.ensures.taken in
    let behind = fewest.fewest in let so_far = i.behind in let counted = i.counted in let one = c.in_ok-rest.ensures.one in
    record {
      so_far = go_on (map g.E.Keyed.entry c.entries.entries.items) c.args.count c.entries.counter c.entries.rest.now _ (map g.E.Keyed.entry c.push_entry.new.entries.items) c.in_ok-rest.rest.now c.entries-test.true c.in_ok-rest.ensures.taken i.so_far;
      bare = c.in_ok-rest.ensures.bare i.bare;
      bytes = fewest.rest_fits;
      behind = omega arith;
      counted = omega arith;
      room = c.in_ok-rest.ensures.kept (room_left _ _ _ _ _ _ _ counted i.room c.entries-test.true i.behind fewest.fewest) ∙ i.room;
    }

pub returns-clause-taken : goal.returns-clause-taken
returns-clause-taken g c = done (map g.E.Keyed.entry c.entries.entries.items) c.args.count c.entries.counter c.entries.rest.now _ c.entries-test.false c.entries.invariant.so_far

pub returns-clause-room : goal.returns-clause-room
returns-clause-room g c = let room = c.entries.invariant.room in omega arith

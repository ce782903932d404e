use Rattle.std.proofs.Common.{arith, rules, ◌<◌, ◌+◌, ◌-◌, ◌^◌}
use Rattle.mst_node.proofs.Fronts.{run_held}
use Rattle.mst_node.proofs.hashing.+all_stand_behind.Goals as goal

pub all_stand_behind-requires : goal.all_stand_behind-requires
all_stand_behind-requires g t c κs within =
    let smaller : 2 ^ 64 - (c.args.count + 64) < 2 ^ 64 - c.args.count = omega (arith, c.ranges.count.fits) in (
      search (rules, smaller),
      (
        within,
        run_held g.E.Keyed.entry c.args.hasher.now c.given.result c.args.count _ _ c.runs.rest.now c.split_at.result.0.now
            c.given.ensures c.split_at.ensures.front c.runs.invariant.1 c.in-Some.ensures.alike,
      ),
    )

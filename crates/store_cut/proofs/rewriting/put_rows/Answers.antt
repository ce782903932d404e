use Rattle.std.proofs.Common.{◌≡◌, [], List, Err, arith, rules, subst}
use Rattle.relay_disk.proofs.Moments.{joined}
use Rattle.relay_row.specs.declared.row.Row.{Row}
use Rattle.store_cut.specs.Rewriting.{AllShort}
use Rattle.relay_store.specs.declared.fault.StoreFault.{StoreFault}
use Rattle.store_cut.proofs.Ordering.{done_none}
use Rattle.store_cut.proofs.Rewritten.{IsPutting, adding_is, copied_none, put_all, put_full, put_more, put_ordered, put_short, put_stops}
use Rattle.store_cut.proofs.rewriting.put_rows.Goals as goal

pub rows-init : goal.rows-init
rows-init g c =
    let split : c.args.rows.items ≡ c.from_vec-left.result.items = search rules in
    record { done = []; split = split; copied = copied_none _ _ _ (g.met.D.Disk.is_disk _) c.requires.on; ordered = done_none _ _; short = subst AllShort split c.requires.short }

pub put_row-requires : goal.put_row-requires
put_row-requires g c = record { on = c.rows.invariant.copied.on; short = put_short _ _ _ _ _ _ _ _ _ c.rows.invariant c.in-Some.ensures.items }

pub rows-preserved : goal.rows-preserved
rows-preserved g c = put_more _ _ _ _ _ _ _ _ _ c.rows.invariant c.in-Some.ensures.items _ _ c.in_ok-put_row.ensures.copied c.if-not-is_next.ensures

pub returns-in_err-put_row-clause-run : goal.returns-in_err-put_row-clause-run
returns-in_err-put_row-clause-run g c = λ tells. joined _ _ _ _ (c.rows.invariant.copied.run tells) (c.put_row.ensures.run tells)

pub returns-in_err-put_row-clause-disk : goal.returns-in_err-put_row-clause-disk
returns-in_err-put_row-clause-disk g c = λ is.
    let failed : c.put_row.result ≡ Err StoreFault.Disk = search rules in
    omega (arith, c.rows.invariant.copied.steady, c.put_row.ensures.disk failed)

pub returns-in_err-put_row-clause-counts : goal.returns-in_err-put_row-clause-counts
returns-in_err-put_row-clause-counts g c = omega (arith, c.rows.invariant.copied.steady, c.put_row.ensures.counts)

pub returns-in_err-put_row-clause-full : goal.returns-in_err-put_row-clause-full
returns-in_err-put_row-clause-full g c = λ e is.
    let failed : c.put_row.result ≡ Err (StoreFault.Full e) = search rules in
    put_full _ _ _ _ _ _ _ _ _ c.rows.invariant c.in-Some.ensures.items e (c.put_row.ensures.full e failed)

pub returns-clause-copied : goal.returns-clause-copied
returns-clause-copied g c =
    let none : c.rows.left.items ≡ [] = search rules in
    put_all _ _ _ _ _ _ (subst (λ (l : List Row). IsPutting g.D.Disk.tells c.args.rows.items l c.args.rewrite.now c.rows.rewrite (g.D.Disk.view c.args.other.now) (g.D.Disk.view c.rows.other)) none c.rows.invariant)

pub returns-clause-run : goal.returns-clause-run
returns-clause-run g c = c.rows.invariant.copied.run

pub returns-clause-counts : goal.returns-clause-counts
returns-clause-counts g c = omega (arith, c.rows.invariant.copied.steady)

pub returns-then-not-is_next-clause-bad_log : goal.returns-then-not-is_next-clause-bad_log
returns-then-not-is_next-clause-bad_log g c = λ p is. put_stops _ _ _ _ _ _ _ _ _ c.rows.invariant c.in-Some.ensures.items c.if-not-is_next.ensures

pub returns-then-not-is_next-clause-run : goal.returns-then-not-is_next-clause-run
returns-then-not-is_next-clause-run g c = c.rows.invariant.copied.run

pub returns-then-not-is_next-clause-counts : goal.returns-then-not-is_next-clause-counts
returns-then-not-is_next-clause-counts g c = omega (arith, c.rows.invariant.copied.steady)

pub returns-in_err-put_row-clause-bad_log : goal.returns-in_err-put_row-clause-bad_log
returns-in_err-put_row-clause-bad_log g c = λ p is.
    let failed : c.put_row.result ≡ Err (StoreFault.BadLog p) = search rules in
    absurd (c.put_row.ensures.few (StoreFault.BadLog p) failed)

pub returns-in_err-put_row-clause-few : goal.returns-in_err-put_row-clause-few
returns-in_err-put_row-clause-few g c = λ f is.
    let failed : c.put_row.result ≡ Err f = search rules in
    adding_is f (c.put_row.ensures.few f failed)

pub returns-clause-ordered : goal.returns-clause-ordered
returns-clause-ordered g c =
    let none : c.rows.left.items ≡ [] = search rules in
    put_ordered _ _ _ _ _ _ (subst (λ (l : List Row). IsPutting g.D.Disk.tells c.args.rows.items l c.args.rewrite.now c.rows.rewrite (g.D.Disk.view c.args.other.now) (g.D.Disk.view c.rows.other)) none c.rows.invariant)

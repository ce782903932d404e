use Rattle.std.proofs.Common.{◌≡◌, Err, arith, rules, sym}
use Rattle.relay_disk.proofs.Moments.{joined}
use Rattle.host_state.specs.Table.{listed}
use Rattle.relay_store.specs.declared.fault.StoreFault.{StoreFault}
use Rattle.store_cut.proofs.Carried.{host_short, hosts_full, hosts_more}
use Rattle.store_cut.proofs.Rewritten.{copied_none}
use Rattle.store_cut.proofs.carrying.carry_hosts.Goals as goal

pub each-init : goal.each-init
each-init g c = copied_none _ _ _ (g.met.D.Disk.is_disk _) c.requires.on

pub carry_host-requires : goal.carry_host-requires
carry_host-requires g c = record { on = c.each.invariant.on; short = host_short (listed c.args.hosts.now) c.each.place (c.in-Some.name.now, c.in-Some.cursor) (sym c.in-Some.ensures) c.requires.short }

pub each-preserved : goal.each-preserved
each-preserved g c = hosts_more _ (listed c.args.hosts.now) c.each.place (c.in-Some.name.now, c.in-Some.cursor) (sym c.in-Some.ensures) _ _ _ _ c.each.invariant _ _ c.in_ok-carry_host.ensures.copied

pub returns-in_err-carry_host-clause-run : goal.returns-in_err-carry_host-clause-run
returns-in_err-carry_host-clause-run g c = λ tells. joined _ _ _ _ (c.each.invariant.run tells) (c.carry_host.ensures.run tells)

pub returns-in_err-carry_host-clause-disk : goal.returns-in_err-carry_host-clause-disk
returns-in_err-carry_host-clause-disk g c = λ is.
    let failed : c.carry_host.result ≡ Err StoreFault.Disk = search rules in
    omega (arith, c.each.invariant.steady, c.carry_host.ensures.disk failed)

pub returns-in_err-carry_host-clause-counts : goal.returns-in_err-carry_host-clause-counts
returns-in_err-carry_host-clause-counts g c = omega (arith, c.each.invariant.steady, c.carry_host.ensures.counts)

pub returns-in_err-carry_host-clause-full : goal.returns-in_err-carry_host-clause-full
returns-in_err-carry_host-clause-full g c = λ e is.
    let failed : c.carry_host.result ≡ Err (StoreFault.Full e) = search rules in
    hosts_full _ (listed c.args.hosts.now) c.each.place (c.in-Some.name.now, c.in-Some.cursor) (sym c.in-Some.ensures) _ _ _ _ c.each.invariant e (c.carry_host.ensures.full e failed)

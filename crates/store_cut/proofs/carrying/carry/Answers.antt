use Rattle.std.proofs.Common.{◌≡◌, ◌∷◌, ◌++◌, [], List, Err, refl, rules, subst, sym}
use Rattle.host_state.specs.Table.{listed}
use Rattle.host_state.specs.declared.hosts.Hosts.{Hosts}
use Rattle.relay_row.specs.declared.carried.Carried.{Carried}
use Rattle.relay_row.specs.declared.row.Row.{Row}
use Rattle.account_state.specs.Dids.{dids}
use Rattle.cut_law.specs.Cut.{account_rows, host_rows}
use Rattle.store_cut.specs.Rewriting.{AllShort, RewriteHasNoRoom}
use Rattle.relay_store.specs.declared.fault.StoreFault.{StoreFault}
use Rattle.store_cut.proofs.Carried.{carried_is}
use Rattle.store_cut.proofs.Rewritten.{copied_both, no_room_behind, no_room_front, on_ok_as}
use Rattle.store_cut.proofs.ShortCarried.{hosts_short, last_short}
use Rattle.store_cut.proofs.carrying.carry.Goals as goal

pub put_row-requires-clause-short : goal.put_row-requires-clause-short
put_row-requires-clause-short g c = last_short c.last_seq.result

pub carry_hosts-requires-clause-short : goal.carry_hosts-requires-clause-short
carry_hosts-requires-clause-short g c = subst (λ (hosts : Hosts). AllShort (host_rows (listed hosts))) (sym c.hosts.ensures) (hosts_short c.args.core.now c.requires.known)

pub returns-in_err-put_row-clause-full : goal.returns-in_err-put_row-clause-full
returns-in_err-put_row-clause-full g c = λ e is A holds.
    let failed : c.put_row.result ≡ Err (StoreFault.Full e) = search rules in
    subst (λ (l : List Row). RewriteHasNoRoom c.args.rewrite.now.build.end c.args.rewrite.now.build.most l e) (carried_is c.args.core.now A c.last_seq.result c.args.core.now.hosts _ holds c.last_seq.ensures refl refl)
    (no_room_front _ _ _ (account_rows A (dids A)) e (no_room_front _ _ _ (host_rows (listed c.args.core.now.hosts)) e (c.put_row.ensures.full e failed)))

pub returns-in_err-carry_hosts-clause-full : goal.returns-in_err-carry_hosts-clause-full
returns-in_err-carry_hosts-clause-full g c = λ e is A holds.
    let failed : c.carry_hosts.result ≡ Err (StoreFault.Full e) = search rules in
    subst (λ (l : List Row). RewriteHasNoRoom c.args.rewrite.now.build.end c.args.rewrite.now.build.most l e) (carried_is c.args.core.now A c.last_seq.result _ _ holds c.last_seq.ensures c.hosts.ensures refl)
    (no_room_front _ _ _ (account_rows A (dids A)) e (no_room_behind _ _ (host_rows (listed c.hosts.result.now)) _ _ _ _ e c.in_ok-put_row.ensures.copied (c.carry_hosts.ensures.full e failed)))

pub returns-clause-copied : goal.returns-clause-copied
returns-clause-copied g c = on_ok_as c.carry_accounts.result (λ copied. (
  ((Row.Carried (Carried.Last c.last_seq.result) ∷ []) ++ host_rows (listed c.hosts.result.now)) ++ copied.0,
  copied_both _ _ _ _ _ _ _ _ _ (copied_both _ _ _ _ _ _ _ _ _ c.in_ok-put_row.ensures.copied c.in_ok-carry_hosts.ensures.copied) copied.1,
  λ A holds. carried_is c.args.core.now A c.last_seq.result _ copied.0 holds c.last_seq.ensures c.hosts.ensures (copied.2 A holds),
)) c.carry_accounts.ensures.copied

pub returns-clause-full : goal.returns-clause-full
returns-clause-full g c = λ e is A holds.
    subst (λ (l : List Row). RewriteHasNoRoom c.args.rewrite.now.build.end c.args.rewrite.now.build.most l e) (carried_is c.args.core.now A c.last_seq.result _ _ holds c.last_seq.ensures c.hosts.ensures refl)
    (no_room_behind _ _ (account_rows A (dids A)) _ _ _ _ e (copied_both _ _ _ _ _ _ _ _ _ c.in_ok-put_row.ensures.copied c.in_ok-carry_hosts.ensures.copied) (c.carry_accounts.ensures.full e is A holds))

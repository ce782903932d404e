use Rattle.std.proofs.Common.{◌≡◌, ◌∷◌, [], Err, arith, rules, subst, sym}
use Rattle.relay_disk.proofs.Moments.{joined}
use Rattle.relay_row.specs.declared.row.Row.{Row}
use Rattle.account_state.specs.State.{state_of}
use Rattle.account_state.proofs.Left.{fewer_left}
use Rattle.store_cut.specs.Rewriting.{IsShort, RewriteHasNoRoom, IsCopied}
use Rattle.relay_store.specs.declared.fault.StoreFault.{StoreFault}
use Rattle.store_cut.proofs.Carried.{carrying_all, carrying_full, carrying_more, carrying_none}
use Rattle.store_cut.proofs.ShortCarried.{account_short}
use Rattle.store_cut.proofs.carrying.carry_accounts.Goals as goal

pub accounts-init : goal.accounts-init
accounts-init g c = (carrying_none _ _ _ _ _ (search rules) (g.met.D.Disk.is_disk _) c.requires.on, search rules)

pub put_row-requires : goal.put_row-requires
put_row-requires g c = record {
  on = c.accounts.invariant.0.copied.on;
  short = subst IsShort (sym c.in_ok-row.ensures) (account_short c.args.core.now c.requires.known c.in-Some.name.now (state_of c.in-Some.account.now) c.in-Some.ensures.found);
}

pub accounts-preserved : goal.accounts-preserved
accounts-preserved g c = (
  carrying_more _ _ _ _ _ _ _ c.accounts.invariant.0 c.in-Some.name.now (state_of c.in-Some.account.now) c.in-Some.ensures.found c.in-Some.ensures.above c.in-Some.ensures.least _ _
      (subst (λ (r : Row). IsCopied g.D.Disk.tells (r ∷ []) c.accounts.rewrite c.put_row.new.rewrite (g.D.Disk.view c.accounts.other) (g.D.Disk.view c.put_row.new.other)) c.in_ok-row.ensures c.in_ok-put_row.ensures.copied),
  search rules,
)

pub returns-in_err-put_row-clause-run : goal.returns-in_err-put_row-clause-run
returns-in_err-put_row-clause-run g c = λ tells. joined _ _ _ _ (c.accounts.invariant.0.copied.run tells) (c.put_row.ensures.run tells)

pub returns-in_err-put_row-clause-disk : goal.returns-in_err-put_row-clause-disk
returns-in_err-put_row-clause-disk g c = λ is.
    let failed : c.put_row.result ≡ Err StoreFault.Disk = search rules in
    omega (arith, c.accounts.invariant.0.copied.steady, c.put_row.ensures.disk failed)

pub returns-in_err-put_row-clause-counts : goal.returns-in_err-put_row-clause-counts
returns-in_err-put_row-clause-counts g c = omega (arith, c.accounts.invariant.0.copied.steady, c.put_row.ensures.counts)

pub returns-in_err-put_row-clause-full : goal.returns-in_err-put_row-clause-full
returns-in_err-put_row-clause-full g c = λ e is.
    let failed : c.put_row.result ≡ Err (StoreFault.Full e) = search rules in
    carrying_full _ _ _ _ _ _ _ c.accounts.invariant.0 c.in-Some.name.now (state_of c.in-Some.account.now) c.in-Some.ensures.found c.in-Some.ensures.above c.in-Some.ensures.least e
    (subst (λ (r : Row). RewriteHasNoRoom c.accounts.rewrite.build.end c.accounts.rewrite.build.most (r ∷ []) e) c.in_ok-row.ensures (c.put_row.ensures.full e failed))

pub accounts-smaller : goal.accounts-smaller
accounts-smaller g c =
    fewer_left c.accounts.did.now c.in-Some.name.now c.in-Some.ensures.above c.args.core.now.accounts (state_of c.in-Some.account.now) c.in-Some.ensures.found

pub returns-clause-copied : goal.returns-clause-copied
returns-clause-copied g c =
    (c.accounts.invariant.0.rows, c.accounts.invariant.0.copied, carrying_all _ _ _ _ _ _ _ c.accounts.invariant.0 (c.next_after.ensures.none c.in_default.is))

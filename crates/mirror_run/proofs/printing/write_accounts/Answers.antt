use Rattle.std.proofs.Common.{◌∙◌, refl, inl, inr, rules}
use Rattle.std.specs.String.{string_bytes}
use Rattle.mirror_run.proofs.Printed.{printed_all, printed_part, printed_so_far, printing_more, printing_starts}
use Rattle.mirror_run.proofs.Walking.{fewer_behind}
use Rattle.mirror_run.proofs.printing.write_accounts.Goals as goal

pub accounts-init : goal.accounts-init
accounts-init g c = (
  record {
    printing = λ told dids are. printing_starts c.args.mirror.now dids _ c.args.text.now c.requires.named c.requires.start are;
    steady = refl;
  },
  search rules,
)

pub returns-in_default-clause-written : goal.returns-in_default-clause-written
returns-in_default-clause-written g c = λ told dids are.
    printed_all c.args.mirror.now dids c.accounts.last.now _ _ _ (c.accounts.invariant.0.printing told dids are) (c.next_after.ensures.none c.in_default.is)

pub returns-in-Err-clause-front : goal.returns-in-Err-clause-front
returns-in-Err-clause-front g c = (
  inr refl,
  λ told dids are. printed_so_far c.args.mirror.now dids c.accounts.last.now _ _ _ (c.accounts.invariant.0.printing told dids are),
)

pub returns-in-Err-write_some-clause-front : goal.returns-in-Err-write_some-clause-front
returns-in-Err-write_some-clause-front g c = (
  inl refl,
  λ told dids are.
      printed_part c.args.mirror.now dids c.accounts.last.now _ _ _ (c.accounts.invariant.0.printing told dids are) c.in-Some.did.now c.in-Some.ensures.found c.in-Some.ensures.above c.in-Some.ensures.least
      c.add_account.new.text c.in-Ok.ensures _ (c.in-Err-write_some.ensures.front told),
)

pub accounts-smaller : goal.accounts-smaller
accounts-smaller g c =
    fewer_behind string_bytes c.accounts.last.now c.in-Some.did.now c.in-Some.ensures.above c.args.mirror.now.accounts.entries c.in-Some.ensures.found

pub accounts-preserved : goal.accounts-preserved
accounts-preserved g c = (
  record {
    printing = λ told dids are.
        printing_more c.args.mirror.now dids c.accounts.last.now _ _ _ (c.accounts.invariant.0.printing told dids are) c.in-Some.did.now c.in-Some.ensures.found c.in-Some.ensures.above c.in-Some.ensures.least
        c.add_account.new.text c.in-Ok.ensures _ _ (c.in-Ok-write_some.ensures.moved told);
    steady = c.in-Ok-write_some.ensures.counts.steady (λ is. absurd cc) ∙ c.accounts.invariant.0.steady;
  },
  search rules,
)

use Rattle.at_authority.proofs.Methods.{on_ok}
use Rattle.relay_store.proofs.RowsApplied.{body_applied, body_bad}
use Rattle.relay_store.proofs.loading.apply_body.Goals as goal

pub returns-clause-applied : goal.returns-clause-applied
returns-clause-applied c = on_ok c.apply_rows.result (body_applied c.args.body.now c.in_ok-rows.rows c.in_ok-rows.ensures _ _ _ _ _) c.apply_rows.ensures.applied

pub returns-clause-bad : goal.returns-clause-bad
returns-clause-bad c = λ is J holds. body_bad c.args.body.now c.in_ok-rows.rows c.in_ok-rows.ensures J (c.apply_rows.ensures.bad is J holds)

use Rattle.std.proofs.Common.{Some, refl, sym, rules}
use Rattle.std.proofs.lemmas.Map.Text.{btree_map_updates_text}
use Rattle.mirror.specs.Held.{IsAfterCommit}
use Rattle.mirror.proofs.Changed.{on_err, one_changed, one_same}
use Rattle.mirror.proofs.keeping.Mirror.apply.Goals as goal

pub returns-in_err-apply-in-Some-clause-same : goal.returns-in_err-apply-in-Some-clause-same
returns-in_err-apply-in-Some-clause-same c =
    let old = c.args.self.now in let did = c.args.did.now in let now = c.apply.new.self in let accounts = c.get_mut.follows.lender now in
    let all = btree_map_updates_text did old.accounts accounts (Some now) ((c.get_mut.follows.holds now).3 (search rules)) in
    on_err _ _ (one_same did old (record old { accounts = accounts }) c.in-Some.held.now now (sym c.in-Some.ensures.value) all c.in_err-apply-in-Some.ensures.same refl)

pub returns-in_ok-apply-in-Some-clause-changed : goal.returns-in_ok-apply-in-Some-clause-changed
returns-in_ok-apply-in-Some-clause-changed c =
    let old = c.args.self.now in let did = c.args.did.now in let now = c.apply.new.self in let accounts = c.get_mut.follows.lender now in
    let all = btree_map_updates_text did old.accounts accounts (Some now) ((c.get_mut.follows.holds now).3 (search rules)) in
    one_changed did old (record old { accounts = accounts }) c.in-Some.held.now now (sym c.in-Some.ensures.value) all (IsAfterCommit c.args.commit.now) c.step_of.result
    c.in_ok-apply-in-Some.ensures.after c.step_of.ensures

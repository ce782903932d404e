use Rattle.std.proofs.Common.{◌≡◌, ◌∙◌, ◌+◌, ◌++◌, ◌∷◌, [], List, drop, length, inl, ⊎_elim, Some, None, arith, refl, sym, ap, subst, length-drop}
use Rattle.std.proofs.lemmas.List.{drop_all}
use Rattle.at_syntax.specs.Host.{is_host}
use Rattle.relay_step.specs.Around.{Around, around_of}
use Rattle.store_take.specs.Batches.{message_from}
use Rattle.store_take.specs.Taking.{IsGathering, Stopped}
use Rattle.relay_store.specs.declared.fault.StoreFault.{StoreFault}
use Rattle.store_take.specs.declared.message.Message.{Message}
use Rattle.store_take.specs.declared.outcome.Outcome.{Outcome}
use Rattle.store_take.proofs.Asks.{nothing_here, nothing_in_vain}
use Rattle.store_take.proofs.Gathers.{at_next, at_start, gathering_ends, gathering_more, host_at, stops_here, stops_in_vain, stops_late}
use Rattle.store_take.proofs.Nexts.{next_none, next_nothing}
use Rattle.store_take.proofs.Spent.{late_not_authority, spent_vain}
use Rattle.store_take.proofs.gathering.gather.Goals as goal

pub group-init : goal.group-init
group-init g c = record { taken = at_start _ _ _ _ _ _ _ _ _ c.requires.rows c.new-outcomes.ensures.items; clock_counts = omega arith; repos_count = omega arith; clock_steady = refl; repos_steady = refl; unspent = λ name spent. spent; same = record { judges = refl; repos = refl; clock = refl } }

pub prepare-requires-clause-host : goal.prepare-requires-clause-host
prepare-requires-clause-host g c = ap is_host c.as_str-host.ensures.value ∙ host_at c.args.group.now c.group.message-index c.message-item.result c.requires.hosts c.group-test.true c.message-item.is

pub prepare-requires-clause-few : goal.prepare-requires-clause-few
prepare-requires-clause-few g c =
    let so_far = c.group.invariant.taken.gathered in
    omega (arith, so_far.few, so_far.pending.count, length-drop c.group.message-index c.args.group.now, c.group-test.true, c.requires.few)

pub prepare-requires-clause-begun : goal.prepare-requires-clause-begun
prepare-requires-clause-begun g c = c.group.invariant.taken.gathered.pending.begun

pub prepare-requires-clause-fits : goal.prepare-requires-clause-fits
prepare-requires-clause-fits g c = c.group.invariant.taken.gathered.fits

pub returns-then-is_err-clause-stopped : goal.returns-then-is_err-clause-stopped
returns-then-is_err-clause-stopped g c =
    let a : Around = around_of g.P.Judges.panel g.C.Clock.moments g.R.Repos.repository c.args.asked.now in
    let b : Around = around_of g.P.Judges.panel g.C.Clock.moments g.R.Repos.repository c.group.asked in
    subst (λ (os : List Outcome). Stopped g.C.Clock.tells g.R.Repos.tells c.args.log.now c.args.group.now c.args.core.now c.group.core c.args.window.now.places c.group.window.places c.group.pending a b os (Some StoreFault.Memory)) (sym c.reserve.ensures.items)
    (stops_here _ _ _ _ _ _ _ _ _ _ _ _ _ c.group.invariant.taken (Some StoreFault.Memory) (omega arith) (λ none. let no : ⊥ = cc in absurd no) (λ failed none. let no : ⊥ = omega (arith, ap length none, length-drop c.group.message-index c.args.group.now, c.group-test.true) in no) (λ x. nothing_in_vain _ _ x x _ (nothing_here _ _ x)) tt (next_none _ _ _ _ _ _ StoreFault.Memory tt))

pub returns-in-Err-clause-stopped : goal.returns-in-Err-clause-stopped
returns-in-Err-clause-stopped g c =
    let a : Around = around_of g.P.Judges.panel g.C.Clock.moments g.R.Repos.repository c.args.asked.now in
    let b : Around = around_of g.P.Judges.panel g.C.Clock.moments g.R.Repos.repository c.prepare.new.asked in
    let m : Message = message_from c.as_str-host.result.now c.as_slice-bytes.result.now in
    let same : m ≡ c.message-item.result = λ i. record { host = c.as_str-host.ensures.value i; bytes = c.as_slice-bytes.ensures.value i } in
    let now = at_next _ _ _ _ c.group.message-index c.message-item.result m _ _ _ _ _ _ _ _ c.group-test.true c.message-item.is same c.group.invariant.taken in
    let made = c.in-Err.ensures.prepared in
    subst (λ (os : List Outcome). Stopped g.C.Clock.tells g.R.Repos.tells c.args.log.now c.args.group.now c.args.core.now c.prepare.new.core c.args.window.now.places c.prepare.new.window.places c.prepare.new.pending a b os (Some c.in-Err.fault)) (sym c.reserve.ensures.items)
    (⊎_elim
    (λ vain. stops_in_vain _ _ _ _ _ _ _ _ _ _ _ _ _ _ now _ _ _ _ c.in-Err.fault made.0 c.prepare.ensures.fits vain)
    (λ late. stops_late _ _ _ _ _ _ _ _ _ _ _ _ _ _ now late.0 _ late.1 _ _ _ c.in-Err.fault made.0 c.prepare.ensures.fits late.2)
    made.1)

pub returns-then-is_end-clause-stopped : goal.returns-then-is_end-clause-stopped
returns-then-is_end-clause-stopped g c =
    let a : Around = around_of g.P.Judges.panel g.C.Clock.moments g.R.Repos.repository c.args.asked.now in
    let b : Around = around_of g.P.Judges.panel g.C.Clock.moments g.R.Repos.repository c.prepare.new.asked in
    let m : Message = message_from c.as_str-host.result.now c.as_slice-bytes.result.now in
    let same : m ≡ c.message-item.result = λ i. record { host = c.as_str-host.ensures.value i; bytes = c.as_slice-bytes.ensures.value i } in
    let now = at_next _ _ _ _ c.group.message-index c.message-item.result m _ _ _ _ _ _ _ _ c.group-test.true c.message-item.is same c.group.invariant.taken in
    let made = c.in-Ok.ensures.prepared in
    let items : c.push_reserved.new.self.items ≡ c.group.outcomes.items ++ c.in-Ok.outcome ∷ [] = c.push_reserved.ensures.items ∙ ap (λ (l : List Outcome). l ++ c.in-Ok.outcome ∷ []) c.reserve.ensures.items in
    subst (λ (os : List Outcome). Stopped g.C.Clock.tells g.R.Repos.tells c.args.log.now c.args.group.now c.args.core.now c.prepare.new.core c.args.window.now.places c.prepare.new.window.places c.prepare.new.pending a b os None) (sym items)
    (gathering_ends _ _ _ _ _ _ _ _ _ _ _ _ _ _ now made.0 _ made.1 _ _ _ c.in-Ok.outcome made.2 made.3 c.prepare.ensures.fits (sym c.if-is_end.ensures))

pub group-preserved : goal.group-preserved
group-preserved g c =
    let a : Around = around_of g.P.Judges.panel g.C.Clock.moments g.R.Repos.repository c.args.asked.now in
    let b : Around = around_of g.P.Judges.panel g.C.Clock.moments g.R.Repos.repository c.prepare.new.asked in
    let m : Message = message_from c.as_str-host.result.now c.as_slice-bytes.result.now in
    let same : m ≡ c.message-item.result = λ i. record { host = c.as_str-host.ensures.value i; bytes = c.as_slice-bytes.ensures.value i } in
    let now = at_next _ _ _ _ c.group.message-index c.message-item.result m _ _ _ _ _ _ _ _ c.group-test.true c.message-item.is same c.group.invariant.taken in
    let made = c.in-Ok.ensures.prepared in
    let items : c.push_reserved.new.self.items ≡ c.group.outcomes.items ++ c.in-Ok.outcome ∷ [] = c.push_reserved.ensures.items ∙ ap (λ (l : List Outcome). l ++ c.in-Ok.outcome ∷ []) c.reserve.ensures.items in
    record {
      taken = subst (λ (os : List Outcome). IsGathering g.C.Clock.tells g.R.Repos.tells c.args.log.now c.args.group.now (drop (c.group.message-index + 1) c.args.group.now) c.args.core.now c.prepare.new.core c.args.window.now.places c.prepare.new.window.places c.prepare.new.pending a b os) (sym items)
          (gathering_more _ _ _ _ _ _ _ _ _ _ _ _ _ _ now made.0 _ made.1 _ _ _ c.in-Ok.outcome made.2 made.3 c.prepare.ensures.fits (sym c.if-is_end.ensures));
      clock_counts = omega (arith, c.group.invariant.clock_counts, c.prepare.ensures.clock_counts);
      repos_count = omega (arith, c.group.invariant.repos_count, c.prepare.ensures.repos_count);
      clock_steady = c.in-Ok.ensures.clock_steady (λ err. absurd cc) ∙ c.group.invariant.clock_steady;
      repos_steady = c.in-Ok.ensures.repos_steady (λ err. absurd cc) ∙ c.group.invariant.repos_steady;
      unspent = λ name spent. c.group.invariant.unspent name (c.in-Ok.ensures.unspent (λ err. absurd cc) name spent);
      same = record {
        judges = c.prepare.ensures.same.judges ∙ c.group.invariant.same.judges;
        repos = c.prepare.ensures.same.repos ∙ c.group.invariant.same.repos;
        clock = c.prepare.ensures.same.clock ∙ c.group.invariant.same.clock;
      };
    }

pub returns-clause-stopped : goal.returns-clause-stopped
returns-clause-stopped g c =
    stops_here _ _ _ _ _ _ _ _ _ _ _ _ _ c.group.invariant.taken None refl (λ none. inl (drop_all c.group.message-index c.args.group.now c.group-test.false)) (λ failed. absurd (failed refl)) (λ x. nothing_here _ _ x) tt (next_nothing _ _ _ _ _ _)

pub returns-then-is_err-clause-clock_steady : goal.returns-then-is_err-clause-clock_steady
returns-then-is_err-clause-clock_steady g c = λ other. c.group.invariant.clock_steady

pub returns-then-is_err-clause-repos_steady : goal.returns-then-is_err-clause-repos_steady
returns-then-is_err-clause-repos_steady g c = λ other. c.group.invariant.repos_steady

pub returns-then-is_err-clause-unspent : goal.returns-then-is_err-clause-unspent
returns-then-is_err-clause-unspent g c = λ other. c.group.invariant.unspent

pub returns-in-Err-clause-clock_steady : goal.returns-in-Err-clause-clock_steady
returns-in-Err-clause-clock_steady g c = λ other. c.in-Err.ensures.clock_steady (λ is. other cc) ∙ c.group.invariant.clock_steady

pub returns-in-Err-clause-repos_steady : goal.returns-in-Err-clause-repos_steady
returns-in-Err-clause-repos_steady g c = λ other. c.in-Err.ensures.repos_steady (λ is. other cc) ∙ c.group.invariant.repos_steady

pub returns-in-Err-clause-unspent : goal.returns-in-Err-clause-unspent
returns-in-Err-clause-unspent g c = λ other. λ name spent. c.group.invariant.unspent name (c.in-Err.ensures.unspent (λ is. other cc) name spent)

pub returns-then-is_end-clause-clock_steady : goal.returns-then-is_end-clause-clock_steady
returns-then-is_end-clause-clock_steady g c = λ other. c.in-Ok.ensures.clock_steady (λ err. absurd cc) ∙ c.group.invariant.clock_steady

pub returns-then-is_end-clause-repos_steady : goal.returns-then-is_end-clause-repos_steady
returns-then-is_end-clause-repos_steady g c = λ other. c.in-Ok.ensures.repos_steady (λ err. absurd cc) ∙ c.group.invariant.repos_steady

pub returns-then-is_end-clause-unspent : goal.returns-then-is_end-clause-unspent
returns-then-is_end-clause-unspent g c = λ other. λ name spent. c.group.invariant.unspent name (c.in-Ok.ensures.unspent (λ err. absurd cc) name spent)

pub returns-clause-clock_steady : goal.returns-clause-clock_steady
returns-clause-clock_steady g c = λ other. c.group.invariant.clock_steady

pub returns-clause-repos_steady : goal.returns-clause-repos_steady
returns-clause-repos_steady g c = λ other. c.group.invariant.repos_steady

pub returns-clause-unspent : goal.returns-clause-unspent
returns-clause-unspent g c = λ other. c.group.invariant.unspent

pub returns-then-is_err-clause-spent : goal.returns-then-is_err-clause-spent
returns-then-is_err-clause-spent g c = λ is. let no : ⊥ = cc in absurd no

pub returns-in-Err-clause-spent : goal.returns-in-Err-clause-spent
returns-in-Err-clause-spent g c = λ is.
    let same : c.in-Err.fault ≡ StoreFault.Authority = cc in
    ⊎_elim
    (λ vain. spent_vain _ _ _ _ _ _ _ _ c.in-Err.fault vain same)
    (λ late. absurd (late_not_authority _ _ _ c.in-Err.fault late.2 same))
    c.in-Err.ensures.prepared.1

pub returns-then-is_end-clause-spent : goal.returns-then-is_end-clause-spent
returns-then-is_end-clause-spent g c = λ is. let no : ⊥ = cc in absurd no

pub returns-clause-spent : goal.returns-clause-spent
returns-clause-spent g c = λ is. let no : ⊥ = cc in absurd no

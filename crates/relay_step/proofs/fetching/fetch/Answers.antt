use Rattle.std.proofs.Common.{◌≡◌, ◌≢◌, ℕ, None, Some, ap, ◌∙◌, arith}
use Rattle.repo_sync.specs.declared.fault.RepoFault.{RepoFault}
use Rattle.relay_step.specs.Fetches.{refused_as}
use Rattle.relay_step.proofs.Fetched.{judged_fetched, may_by, refused_fetched}
use Rattle.relay_step.proofs.fetching.fetch.Goals as goal

not_none : (n : ℕ) → Some n ≡ None → ⊥
not_none n none = absurd cc

refused_read : (fault : RepoFault) (n : ℕ) → Some n ≡ refused_as fault → fault ≢ RepoFault.Failed
refused_read fault n refused is = not_none n (refused ∙ ap refused_as is)

pub returns-in-Some : goal.returns-in-Some
returns-in-Some g c =
    let some = c.in-Err.ensures.some in
    record {
      fetched = refused_fetched g.R.Repos.tells (g.R.Repos.repository c.args.repos.now c.args.did.now) (g.R.Repos.left c.open.new.self) c.args.did.now c.args.least c.args.moment c.in-Ok-true.field-0 c.in-Ok-true.ensures.opened c.in-Ok-true.field-0-test c.in-Err.fault c.in-Some.number some.bytes
          (g.P.Judges.panel c.args.judges.now) c.in-Some.ensures some.are some.refused c.in-Err.ensures.refused;
      may = may_by c.in-Err.fault c.in-Some.number c.in-Some.ensures;
      same = λ told did. c.in-Err.ensures.same told did ∙ c.in-Ok-true.ensures.same told did;
      in_vain = tt;
      caused = tt;
      counts = omega (arith, c.in-Ok-true.ensures.counts, c.in-Err.ensures.counts);
      unspent = λ other name spent. spent;
      steady = λ other. c.in-Err.ensures.steady (λ failed.
          let same : c.in-Err.fault ≡ RepoFault.Failed = cc in
          refused_read c.in-Err.fault c.in-Some.number c.in-Some.ensures same) ∙ c.in-Ok-true.ensures.steady;
    }

pub returns-in-Ok-None-clause-fetched : goal.returns-in-Ok-None-clause-fetched
returns-in-Ok-None-clause-fetched g c =
    let some = c.in-Ok.ensures.some in
    judged_fetched g.R.Repos.tells (g.R.Repos.repository c.args.repos.now c.args.did.now) (g.R.Repos.left c.open.new.self) c.args.did.now c.args.least c.args.moment c.in-Ok-true.field-0 c.in-Ok-true.ensures.opened c.in-Ok-true.field-0-test (g.P.Judges.panel c.args.judges.now)
    (g.P.Judges.panel c.judge_found.new.judges) c.in-Ok.found c.in-Ok-None.field-0 c.in-Ok.ensures.whole (record { bytes = some.bytes; are = some.are; whole = some.whole }) c.in-Ok-None.ensures.judged None c.in-Ok-None.field-0-is

pub returns-in-Ok-Some-clause-fetched : goal.returns-in-Ok-Some-clause-fetched
returns-in-Ok-Some-clause-fetched g c =
    let some = c.in-Ok.ensures.some in
    judged_fetched g.R.Repos.tells (g.R.Repos.repository c.args.repos.now c.args.did.now) (g.R.Repos.left c.open.new.self) c.args.did.now c.args.least c.args.moment c.in-Ok-true.field-0 c.in-Ok-true.ensures.opened c.in-Ok-true.field-0-test (g.P.Judges.panel c.args.judges.now)
    (g.P.Judges.panel c.judge_found.new.judges) c.in-Ok.found c.in-Ok-Some.field-0 c.in-Ok.ensures.whole (record { bytes = some.bytes; are = some.are; whole = some.whole }) c.in-Ok-Some.ensures.judged (Some c.in-Ok-Some.number) c.in-Ok-Some.field-0-is

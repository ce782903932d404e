use Rattle.std.proofs.Common.{ap, ◌∙◌}
use Rattle.std.proofs.lemmas.Result.{err_from_is_err_and}
use Rattle.repo_sync.proofs.Judged.{found_kept, held_kept, torn_kept}
use Rattle.repo_sync.specs.Repository.{found_of}
use Rattle.repo_sync.proofs.judging.judge.Goals as goal

pub returns-in_err-records-clause-judges : goal.returns-in_err-records-clause-judges
returns-in_err-records-clause-judges c =
    let p = err_from_is_err_and c.from_residual-in_err-records.result c.from_residual-in_err-records.ensures.1 in
    let held = held_kept c.args.did.now c.args.least c.args.kept.now c.in-Some.link c.in-Some-first.block c.as_slice.result.now c.in_ok-commit.commit c.in-Some.ensures c.in-Some-first.is c.as_slice.ensures.value c.in_ok-commit.ensures.object c.in_ok-commit.ensures.shown in
    rw (p.1, p.2) (torn_kept c.args.did.now c.args.least c.args.kept.now held c.in_err-records.field-0.0 c.in_err-records.ensures.torn)

pub returns-clause-judges : goal.returns-clause-judges
returns-clause-judges c =
    let held = held_kept c.args.did.now c.args.least c.args.kept.now c.in-Some.link c.in-Some-first.block c.as_slice.result.now c.in_ok-commit.commit c.in-Some.ensures c.in-Some-first.is c.as_slice.ensures.value c.in_ok-commit.ensures.object c.in_ok-commit.ensures.shown in
    found_kept c.args.did.now c.args.least c.args.kept.now held c.found_in.result c.in_ok-records.records (c.found_in.ensures ∙ ap (λ b. found_of c.in-Some.link b c.in_ok-commit.commit c.in_ok-records.records) c.in_ok-try_clone.ensures) (λ blocks k. c.in_ok-records.ensures.whole blocks k c.in_ok-commit.ensures.data)

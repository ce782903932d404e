use Rattle.std.proofs.Common.{[], ◌++◌, ◌∙◌, refl, sym, arith, append-nil, length-append}
use Rattle.repo_sync.proofs.Pieces.{all_scanned, bytes_joined, ended, joined}
use Rattle.repo_sync.proofs.scanning.scan_repo.Goals as goal

pub returns-then-count-eq0-clause-scanned : goal.returns-then-count-eq0-clause-scanned
returns-then-count-eq0-clause-scanned g c = λ told.
    let was = c.pieces.invariant.bytes in let came = c.in_ok-count.ensures.moved in
    ended c.finish.result (g.R.Repos.left c.args.repos.now) was.0 came.0 (g.R.Repos.left c.pieces.repos) (g.R.Repos.left c.take_piece.new.repos)
    (was.3 told) (came.3 told) (c.in_ok-count.ensures.end told c.if-count-eq0.true) (omega (arith, was.1, c.pieces.invariant.most)) (c.finish.ensures (was.0 ++ came.0) (came.4 was.0 was.2))

pub returns-then-count-eq0-clause-some : goal.returns-then-count-eq0-clause-some
returns-then-count-eq0-clause-some g c =
    let was = c.pieces.invariant.bytes in let came = c.in_ok-count.ensures.moved in
    let all = was.0 ++ came.0 in
    (all, bytes_joined was.0 came.0 was.4 came.2, all_scanned c.finish.result all all [] (sym (append-nil all)) refl (omega (arith, length-append was.0 came.0, was.1, came.1, c.if-count-eq0.true, c.pieces.invariant.most)) (c.finish.ensures all (came.4 was.0 was.2)))

pub returns-then-given-gt-MOST_REPOSITORY_BYTES-clause-some : goal.returns-then-given-gt-MOST_REPOSITORY_BYTES-clause-some
returns-then-given-gt-MOST_REPOSITORY_BYTES-clause-some g c =
    let was = c.pieces.invariant.bytes in let came = c.in_ok-count.ensures.moved in
    (was.0 ++ came.0, bytes_joined was.0 came.0 was.4 came.2, omega (arith, length-append was.0 came.0, was.1, came.1, c.if-given-gt-MOST_REPOSITORY_BYTES.true))

pub pieces-preserved : goal.pieces-preserved
pieces-preserved g c =
    let was = c.pieces.invariant.bytes in let came = c.in_ok-count.ensures.moved in
    record {
      bytes = (
        was.0 ++ came.0,
        length-append was.0 came.0 ∙ omega (arith, was.1, came.1),
        came.4 was.0 was.2,
        λ told. joined (g.R.Repos.left c.args.repos.now) was.0 came.0 (g.R.Repos.left c.pieces.repos) (g.R.Repos.left c.take_piece.new.repos) (was.3 told) (came.3 told),
        bytes_joined was.0 came.0 was.4 came.2,
      );
      most = omega (arith, c.if-given-gt-MOST_REPOSITORY_BYTES.false);
      same = λ told did. c.in_ok-count.ensures.same told did ∙ c.pieces.invariant.same told did;
      steady = c.in_ok-count.ensures.steady (λ e. absurd (cc)) ∙ c.pieces.invariant.steady;
    }

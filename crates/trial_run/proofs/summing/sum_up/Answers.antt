use Rattle.std.proofs.Common.{◌++◌, List, ℕ, ap, ◌∙◌}
use Rattle.trial_run.specs.Summary.{first_line, roots_below}
use Rattle.trial_run.proofs.Sums.{put_together}
use Rattle.trial_run.proofs.summing.sum_up.Goals as goal

pub returns : goal.returns
returns c = λ same J holds.
    put_together (first_line c.args.start c.args.n c.args.keys J) _ _ _ (roots_below 16 J)
    (c.in_ok-add_first_line.ensures J (c.in_ok-known.ensures.known J holds) (c.last_seq.ensures ∙ holds.last) ∙ ap (λ (l : List ℕ). l ++ first_line c.args.start c.args.n c.args.keys J) c.new-text.ensures)
    (c.in_ok-add_verdict.ensures same) c.cid_of.ensures (c.as_slice.ensures.value ∙ c.in_ok-known.ensures.roots J holds ∙ ap (λ (l : List ℕ). l ++ roots_below 16 J) c.new-roots.ensures) c.in_ok-add_link.ensures c.in_ok-extend.ensures.ok

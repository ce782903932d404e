use Rattle.std.proofs.Common.{◌^◌, ◌-◌, ◌≤◌, ◌∙◌, min, length, ap, sym, subst, lit≤}
use Rattle.at_event.specs.Writing.{out_length, out_of}
use Rattle.at_event.proofs.OutLengths.{nine_bytes, most_bytes, less_of}
use Rattle.at_event.proofs.writing.out_len.Goals as goal

pub returns-clause-nine : goal.returns-clause-nine
returns-clause-nine c = λ n least below.
    c.frame_len.ensures ∙ ap (λ k. min k (2 ^ 64 - 1)) (nine_bytes c.args.event.now c.ghost_event.ensures (2 ^ 53 - 1) n (lit≤ tt) least)

pub returns-clause-most : goal.returns-clause-most
returns-clause-most c = λ n below.
    subst (λ k. min (length (out_of c.args.event.now n)) (2 ^ 64 - 1) ≤ k) (sym c.frame_len.ensures) (less_of _ _ (most_bytes c.args.event.now c.ghost_event.ensures n (2 ^ 53 - 1) (lit≤ tt)))

pub returns-clause-value : goal.returns-clause-value
unfolding out_length
returns-clause-value c = c.frame_len.ensures

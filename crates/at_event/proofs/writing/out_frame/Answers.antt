use Rattle.std.proofs.Common.{◌++◌, ap, ◌∙◌}
use Rattle.at_event.specs.Frames.{frame_of}
use Rattle.at_event.specs.Writing.{out_of}
use Rattle.at_event.proofs.Messages.{out_again}
use Rattle.at_event.proofs.writing.out_frame.Goals as goal

pub returns-clause-again : goal.returns-clause-again
returns-clause-again c =
    ap frame_of (c.in_ok-write_frame.ensures.written ∙ ap (λ l. l ++ out_of c.args.event.now c.args.seq) c.new-out.ensures) ∙ out_again c.args.event.now c.args.seq c.requires c.ghost_event.ensures

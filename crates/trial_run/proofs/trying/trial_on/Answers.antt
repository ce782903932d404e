use Rattle.std.proofs.Common.{◌∙◌, List, ℕ, subst}
use Rattle.relay_io.specs.Streams.{AddsFront}
use Rattle.trial_run.proofs.trying.trial_on.Goals as goal

pub returns-clause-tried : goal.returns-clause-tried
returns-clause-tried g c =
    let came = c.in-Ok.ensures in
    record {
      ones = came.ones;
      others = came.others;
      one = came.one;
      other = came.other;
      written = λ told. subst (λ (t : List ℕ). AddsFront (g.O.Sink.written c.args.out.now) (g.O.Sink.written c.write_all.new.out) t) (c.as_slice.ensures.value ∙ came.written) (c.write_all.ensures.front told);
      first_holds = came.first_holds;
      second_holds = came.second_holds;
    }

use Rattle.cut_law.specs.Cut.{cut}
use Rattle.cut_law.proofs.Cutting.{cut_is}
use Rattle.cut_law.proofs.Following.{cut_events, cut_journal}
use Rattle.cut_law.proofs.laws.cuts_are_journals.Goals as goal

pub returns : goal.returns
returns c = record {
  journal = λ J at is may. cut_journal J at (cut J at) (cut_is J at is may) is;
  events = λ J at is may. cut_events J at (cut J at) (cut_is J at is may);
  is_cut = cut_is;
}

use Rattle.cut_law.specs.Cut.{cut}
use Rattle.cut_law.proofs.Cutting.{cut_is}
use Rattle.cut_law.proofs.Sounding.{cut_known, cut_sound}
use Rattle.cut_law.proofs.laws.cuts_stay_sound.Goals as goal

pub returns : goal.returns
returns c = record {
  sound = λ J at is may known sound. cut_sound J at (cut J at) (cut_is J at is may) known is sound;
  known = λ J at is may known. cut_known J at (cut J at) (cut_is J at is may) known;
}

use Rattle.mst_law.proofs.Links.{sound_link}
use Rattle.mst_law.proofs.laws.sound_link_law.Goals as goal

pub returns : goal.returns
returns c = sound_link

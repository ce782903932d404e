use Rattle.mirror_law.proofs.Mirroring.{heads_hold}
use Rattle.mirror_law.proofs.laws.mirrors_hold_heads.Goals as goal

pub returns : goal.returns
returns c = heads_hold

use Rattle.relay_disk.proofs.AnyBytes.{ranges_left}
use Rattle.relay_disk.proofs.laws.ranges_are_left_by_parts.Goals as goal

pub returns : goal.returns
returns c = ranges_left

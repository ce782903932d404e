use Rattle.mirror.proofs.Maps.{map_of_bytes}
use Rattle.mirror.proofs.syncing.map_of.Goals as goal

pub returns-in_ok-map_under-in-Ok-clause-map : goal.returns-in_ok-map_under-in-Ok-clause-map
returns-in_ok-map_under-in-Ok-clause-map g c = λ tells.
    let scanned = c.in-Ok.ensures.scanned tells in
    map_of_bytes _ _ _ scanned.1.0 c.in_ok-map_under-in-Ok.field-0 scanned.0 scanned.1.1 (c.in_ok-map_under-in-Ok.ensures scanned.1.0 scanned.1.2)

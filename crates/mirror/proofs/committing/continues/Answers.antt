use Rattle.std.proofs.Common.{List, Some, subst}
use Rattle.mst_list.specs.declared.op.Op.{Op}
use Rattle.mst_list.specs.Faults.{IsClash}
use Rattle.mirror.proofs.Playing.{clash_stops}
use Rattle.mirror.specs.Playing.{IsPlayableAs}
use Rattle.mirror.proofs.committing.continues.Goals as goal

pub returns-in-Err-Clash-clause-no : goal.returns-in-Err-Clash-clause-no
returns-in-Err-Clash-clause-no c = λ is t continued.
    let edits = c.in-Some.edits in let s = c.args.map.now in let place = c.in-Err-Clash.field-0-0 in
    let playable : IsPlayableAs c.args.commit.now (Some edits) = rw c.in-Some.is at c.requires in
    let fault : IsClash s edits place = rw c.in-Err-Clash.field-0-is at c.in-Err-Clash.ensures.fault.0 in
    clash_stops s _ place t (subst (λ (ops : List Op). IsClash s ops place) playable.0 fault) continued.plays

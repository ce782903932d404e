-- What a failed check says. The running out of memory may stand in place of each answer.
use Rattle.std.specs.Prelude.{◌≡◌, IfSome, false, Option, Some, None, Result, Err}
use Rattle.at_cid.specs.Memory.{Gives}
use Rattle.at_event.specs.declared.refusal.Refusal.{Refusal}
use Rattle.event_checks.specs.Lines.{is_judged}
use Rattle.event_checks.specs.declared.fault.OpenFault.{OpenFault}
use Rattle.mst_list.specs.declared.undoing.UndoFault.{UndoFault}
use Rattle.mst_view.specs.declared.viewing.ViewFault.{ViewFault}
use Rattle.commit_check.specs.declared.fault.CheckFault.{CheckFault}

-- the refusal, unless memory ran out
abbrev pub refusal_of : CheckFault → Option Refusal
refusal_of (CheckFault.Refused refusal) = Some refusal
refusal_of CheckFault.Memory = None

-- a refusal that is told is one of these
abbrev pub Tells : (Refusal → Type 0) → CheckFault → Type 0
Tells these fault = IfSome (refusal_of fault) these

-- it was shown
abbrev pub IsShown : Option Refusal → CheckFault → Type 0
IsShown shown = Tells (λ refusal. shown ≡ Some refusal)

-- it is no judge's
abbrev pub IsUnjudged : CheckFault → Type 0
IsUnjudged = Tells (λ refusal. is_judged refusal ≡ false)

-- there is none: memory ran out
abbrev pub IsMemory : CheckFault → Type 0
IsMemory = Tells (λ refusal. ⊥)

-- this refusal is told
abbrev pub RefusesWith : {X : Type 0} → Refusal → Result X CheckFault → Type 0
RefusesWith refusal result = Gives (λ x. x) refusal_of result (Err refusal)

-- why the blocks aren't accepted
abbrev pub opening_told : OpenFault → CheckFault
opening_told (OpenFault.Refused refusal) = CheckFault.Refused refusal
opening_told OpenFault.Memory = CheckFault.Memory

-- why there is no view
abbrev pub view_told : ViewFault → CheckFault
view_told (ViewFault.NoBlock link) = CheckFault.Refused (Refusal.BadNode link)
view_told (ViewFault.BadNode link) = CheckFault.Refused (Refusal.BadNode link)
view_told ViewFault.Memory = CheckFault.Memory

-- why operations can't be undone
abbrev pub undoing_told : UndoFault → CheckFault
undoing_told (UndoFault.OtherOp i) = CheckFault.Refused (Refusal.OtherOp i)
undoing_told (UndoFault.NotCovered i) = CheckFault.Refused (Refusal.NotCovered i)
undoing_told UndoFault.Memory = CheckFault.Memory

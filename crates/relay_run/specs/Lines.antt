-- The lines of what was answered to an operator, and how a command may end (own): numbers are
-- decimal, and each line ends in a line feed.
use Rattle.std.specs.Prelude.{◌≡◌, ◌⊎◌, ⊤, ℕ, List, [], ◌∷◌, ◌++◌, codes}
use Rattle.at_event.specs.Refusals.{code_of}
use Rattle.relay_core.specs.Report.{refused_of}
use Rattle.store_cut.specs.declared.cutting.CutDone.{CutDone}
use Rattle.store_take.specs.declared.done.Done.{Done}
use Rattle.report_lines.specs.Lines.{numbered}
use Rattle.run_base.specs.declared.status.Status.{Status}

-- under which number it goes out, with how many records of a repository that was taken over; or
-- that it is refused
abbrev pub done_text : Done → List ℕ
done_text (Done.Event seq) = numbered (codes "event ") seq ++ 10 ∷ []
done_text (Done.Synced seq records) = numbered (codes "synced ") seq
    ++ (numbered (codes " records ") records ++ 10 ∷ [])
done_text (Done.Refused refusal) = refused_of refusal ++ 10 ∷ []

-- at which number the journal was cut, its oldest and its last one; or that it is refused
abbrev pub cut_text : ℕ → CutDone → List ℕ
cut_text seq (CutDone.Cut oldest last) =
    numbered (codes "cut ") seq ++ (numbered (codes " oldest ") oldest
    ++ (numbered (codes " last ") last ++ 10 ∷ []))
cut_text seq (CutDone.Refused refusal) = done_text (Done.Refused refusal)

-- the line is written, or a call of the output failed
abbrev pub IsDone : Status → Type 0
IsDone status = (status ≡ Status.Done) ⊎ (status ≡ Status.WriteFault)

-- how a command may end by what was answered: memory runs out for a refusal alone
abbrev pub IsEndOf : Done → Status → Type 0
IsEndOf (Done.Event seq) status = IsDone status
IsEndOf (Done.Synced seq records) status = IsDone status
IsEndOf (Done.Refused refusal) status = (status ≡ Status.Refused (code_of refusal))
    ⊎ ((status ≡ Status.WriteFault) ⊎ (status ≡ Status.Memory))

abbrev pub EndsCut : CutDone → Status → Type 0
EndsCut (CutDone.Cut oldest last) status = IsDone status
EndsCut (CutDone.Refused refusal) status = IsEndOf (Done.Refused refusal) status

-- ---- which statuses may come, whatever the disks

-- of a command that shows the journal
abbrev pub MayEndShowing : Status → Type 0
MayEndShowing Status.Done = ⊤
MayEndShowing Status.WriteFault = ⊤
MayEndShowing Status.Disk = ⊤
MayEndShowing (Status.BadLog place) = ⊤
MayEndShowing Status.Memory = ⊤
MayEndShowing status = ⊥

-- of the one that cuts it
abbrev pub MayEndCutting : Status → Type 0
MayEndCutting (Status.Refused code) = ⊤
MayEndCutting (Status.Full end) = ⊤
MayEndCutting status = MayEndShowing status

-- of one that takes an account down or restores it
abbrev pub MayEndOperating : Status → Type 0
MayEndOperating Status.SeqEnd = ⊤
MayEndOperating Status.Clock = ⊤
MayEndOperating status = MayEndCutting status

-- of the one that takes a repository over
abbrev pub MayEndSyncing : Status → Type 0
MayEndSyncing Status.Authority = ⊤
MayEndSyncing Status.Repos = ⊤
MayEndSyncing status = MayEndOperating status

-- The cause of an end is that of its status.
use Rattle.std.proofs.Common.{◌≡◌, ◌⊎◌, ℕ, refl, subst, sym}
use Rattle.std.specs.Prelude.{⊤}
use Rattle.at_cid.specs.Counts.{Rose, Counted}
use Rattle.mirror_run.specs.Ends.{MayEndMirroring}
use Rattle.run_base.specs.Ends.{Caused}
use Rattle.run_base.specs.Place.{Place as Parts}
use Rattle.run_base.specs.declared.status.Status.{Status}
use Rattle.trial_run.specs.Tried.{MayEndTrying}
use Rattle.relay_cli.specs.Runs.{Checked, Streams}
use Rattle.relay_cli.specs.Statuses.{status_of}
use Rattle.relay_cli.specs.declared.verdict.CheckVerdict.{CheckVerdict}

pub caused_mirror : (status : Status) (old new : Parts) → MayEndMirroring status
    → Counted (status ≡ Status.ReadFault) old.failed.input new.failed.input
    → Counted (status ≡ Status.Repos) old.failed.repos new.failed.repos
    → Counted (status ≡ Status.WriteFault) old.failed.output new.failed.output → Caused status old new
caused_mirror Status.Done old new may input repos output = tt
caused_mirror (Status.BadTape place) old new may input repos output = absurd may
caused_mirror Status.Usage old new may input repos output = absurd may
caused_mirror Status.ReadFault old new may input repos output = input.rose refl
caused_mirror Status.WriteFault old new may input repos output = output.rose refl
caused_mirror Status.Disk old new may input repos output = absurd may
caused_mirror Status.Authority old new may input repos output = absurd may
caused_mirror Status.Repos old new may input repos output = repos.rose refl
caused_mirror Status.Feed old new may input repos output = absurd may
caused_mirror Status.Door old new may input repos output = absurd may
caused_mirror (Status.BadLog place) old new may input repos output = absurd may
caused_mirror (Status.Full end) old new may input repos output = absurd may
caused_mirror Status.SeqEnd old new may input repos output = absurd may
caused_mirror Status.TooLong old new may input repos output = tt
caused_mirror Status.Memory old new may input repos output = tt
caused_mirror (Status.Refused code) old new may input repos output = absurd may
caused_mirror Status.Clock old new may input repos output = absurd may
caused_mirror (Status.BadStream place) old new may input repos output = tt
caused_mirror Status.Wire old new may input repos output = absurd may

pub caused_trial : (status : Status) (old new : Parts) → MayEndTrying status
    → Counted (status ≡ Status.WriteFault) old.failed.output new.failed.output → Caused status old new
caused_trial Status.Done old new may output = tt
caused_trial (Status.BadTape place) old new may output = absurd may
caused_trial Status.Usage old new may output = absurd may
caused_trial Status.ReadFault old new may output = absurd may
caused_trial Status.WriteFault old new may output = output.rose refl
caused_trial Status.Disk old new may output = absurd may
caused_trial Status.Authority old new may output = absurd may
caused_trial Status.Repos old new may output = absurd may
caused_trial Status.Feed old new may output = absurd may
caused_trial Status.Door old new may output = absurd may
caused_trial (Status.BadLog place) old new may output = absurd may
caused_trial (Status.Full end) old new may output = absurd may
caused_trial Status.SeqEnd old new may output = absurd may
caused_trial Status.TooLong old new may output = absurd may
caused_trial Status.Memory old new may output = tt
caused_trial (Status.Refused code) old new may output = absurd may
caused_trial Status.Clock old new may output = absurd may
caused_trial (Status.BadStream place) old new may output = absurd may
caused_trial Status.Wire old new may output = absurd may

-- the status of a verdict
abbrev OfVerdict : Status → Type 0
OfVerdict Status.Done = ⊤
OfVerdict (Status.Refused code) = ⊤
OfVerdict status = ⊥

of_verdict : (verdict : CheckVerdict) (status : Status) → status ≡ status_of verdict → OfVerdict status
of_verdict (CheckVerdict.Accepted from to ops) status is = subst OfVerdict (sym is) tt
of_verdict (CheckVerdict.Refused refusal) status is = subst OfVerdict (sym is) tt

pub caused_check : (limit : ℕ) (streams now : Streams) (old new : Parts) (status : Status) → (Rose streams.read_faults now.read_faults → Rose old.failed.input new.failed.input) → (Rose streams.write_faults now.write_faults → Rose old.failed.output new.failed.output) → Checked limit streams now status → Caused status old new
caused_check limit streams now old new Status.Done input output done = tt
caused_check limit streams now old new (Status.BadTape place) input output done = tt
caused_check limit streams now old new Status.Usage input output done = tt
caused_check limit streams now old new Status.ReadFault input output done = input done.0
caused_check limit streams now old new Status.WriteFault input output done = output done.1.cause
caused_check limit streams now old new Status.Disk input output done = absurd (of_verdict done.0 Status.Disk done.1.status_is)
caused_check limit streams now old new Status.Authority input output done = absurd (of_verdict done.0 Status.Authority done.1.status_is)
caused_check limit streams now old new Status.Repos input output done = absurd (of_verdict done.0 Status.Repos done.1.status_is)
caused_check limit streams now old new Status.Feed input output done = absurd (of_verdict done.0 Status.Feed done.1.status_is)
caused_check limit streams now old new Status.Door input output done = absurd (of_verdict done.0 Status.Door done.1.status_is)
caused_check limit streams now old new (Status.BadLog place) input output done = tt
caused_check limit streams now old new (Status.Full end) input output done = tt
caused_check limit streams now old new Status.SeqEnd input output done = tt
caused_check limit streams now old new Status.TooLong input output done = tt
caused_check limit streams now old new Status.Memory input output done = tt
caused_check limit streams now old new (Status.Refused code) input output done = tt
caused_check limit streams now old new Status.Clock input output done = absurd (of_verdict done.0 Status.Clock done.1.status_is)
caused_check limit streams now old new (Status.BadStream place) input output done = tt
caused_check limit streams now old new Status.Wire input output done = absurd (of_verdict done.0 Status.Wire done.1.status_is)

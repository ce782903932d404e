-- The status of a run by the end of what it did, own.
use Rattle.at_event.specs.Refusals.{code_of}
use Rattle.run_base.specs.declared.status.Status.{Status}
use Rattle.relay_cli.specs.declared.verdict.CheckVerdict.{CheckVerdict}

-- how a run ends that came to this verdict
abbrev pub status_of : CheckVerdict → Status
status_of (CheckVerdict.Accepted from to ops) = Status.Done
status_of (CheckVerdict.Refused refusal) = Status.Refused (code_of refusal)

use denote.Shadow.{shadow}
use denote.Text.{Utf8}
use Rattle.std.proofs.Common.{◌≡◌, ℕ, List, IsTrue}
use Rattle.std.specs.String.{string_bytes}
use Rattle.mirror_run.specs.Printing.{AreKnown}
use Rattle.mirror_run.proofs.Printed.{IsPrinting}
use Rattle.mirror_run.proofs.Walking.{count_behind}
use Rattle.mirror_run.proofs.printing.write_accounts.Given as goal

abbrev pub invariant-accounts : goal.invariant-accounts
invariant-accounts g l =
    let written = g.O.Sink.written in
    record {
      printing : IsTrue g.O.Sink.tells → (dids : List (List ℕ)) → AreKnown l.mirror dids → IsPrinting l.mirror dids l.last (written l.fn.out) (written l.out) l.text;
      steady : g.O.Sink.faults l.out ≡ g.O.Sink.faults l.fn.out;
    } × shadow (Utf8 l.last)

abbrev pub decreases-accounts : goal.decreases-accounts
decreases-accounts g l = count_behind string_bytes l.last l.mirror.accounts.entries

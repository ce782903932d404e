use Rattle.std.proofs.Common.{◌≡◌, ◌≤◌, ◌-◌, ◌^◌, max, IsTrue}
use Rattle.std.specs.Prelude.{option_map}
use Rattle.event_window.specs.Held.{Held}
use Rattle.run_base.specs.declared.status.Status.{Status}
use Rattle.read_run.specs.Events.{WereRead}
use Rattle.read_run.proofs.Lining.{IsLining}
use Rattle.read_run.proofs.writing.write_lines.Given as goal

abbrev pub invariant-events : goal.invariant-events
invariant-events g l =
    record {
      known : IsTrue g.E.Events.tells → (held : Held) × g.E.Events.holds l.events held;
      lining : IsTrue g.E.Events.tells → (held : Held) → g.E.Events.holds l.fn.events held
          → IsLining g.O.Sink.tells (option_map (λ text. text.now) l.collection) held.shown l.cursor l.last
          (g.O.Sink.written l.fn.out) (g.O.Sink.written l.out);
      read : WereRead g.E.Events.tells g.E.Events.holds g.E.Events.faults g.E.Events.damage l.fn.events l.events Status.Done;
      output : g.O.Sink.faults l.out ≡ g.O.Sink.faults l.fn.out;
      rising : l.cursor ≤ l.last;
      given : g.E.Events.given_upto l.fn.events ≤ l.cursor → max l.cursor (g.E.Events.given_upto l.events) ≡ l.last;
      later : g.E.Events.later l.fn.events l.events;
    }

abbrev pub decreases-events : goal.decreases-events
decreases-events g l = 2 ^ 64 - l.last

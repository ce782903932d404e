use Rattle.std.proofs.Common.{◌≡◌, ◌≤◌, IsTrue}
use Rattle.event_window.specs.Held.{Held}
use Rattle.run_base.specs.declared.status.Status.{Status}
use Rattle.read_run.specs.AtDoor.{at_door}
use Rattle.read_run.specs.Events.{WereRead}
use Rattle.read_run.proofs.Counting.{IsServing}
use Rattle.read_run.proofs.serving.serve_guests.Given as goal

abbrev pub invariant-guests : goal.invariant-guests
invariant-guests g l =
    record {
      known : IsTrue g.E.Events.tells → (held : Held) × g.E.Events.holds l.events held;
      serving : IsTrue g.E.Events.tells → (held : Held) → g.E.Events.holds l.fn.events held
          → IsServing g.G.Door.tells g.O.Sink.tells l.served held
          (at_door (g.G.Door.guests l.fn.door) (g.G.Door.turns l.fn.door) (g.G.Door.session_faults l.fn.door))
          (at_door (g.G.Door.guests l.door) (g.G.Door.turns l.door) (g.G.Door.session_faults l.door))
          (g.O.Sink.written l.fn.out) (g.O.Sink.written l.out);
      read : WereRead g.E.Events.tells g.E.Events.holds g.E.Events.faults g.E.Events.damage l.fn.events l.events Status.Done;
      door : g.G.Door.faults l.door ≡ g.G.Door.faults l.fn.door;
      sessions : g.G.Door.session_faults l.fn.door ≤ g.G.Door.session_faults l.door;
      output : g.O.Sink.faults l.out ≡ g.O.Sink.faults l.fn.out;
      later : g.E.Events.later l.fn.events l.events;
    }

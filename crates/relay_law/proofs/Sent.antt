-- What hosts sent, as it is read, and the runs of a store over it.
use Rattle.std.proofs.Common.{◌≡◌, ℕ, List, [], ◌∷◌, Result, Ok, Err, refl}
use Rattle.at_event.specs.Events.{IsEvent}
use Rattle.at_event.specs.Frames.{frame_of}
use Rattle.at_event.specs.Seen.{Seen}
use Rattle.at_event.specs.declared.frame.Frame.{Frame}
use Rattle.at_event.specs.declared.frame.FrameFault.{FrameFault}
use Rattle.at_event.proofs.Formed.{frames_events}
use Rattle.relay_core.specs.Runs.{Message}
use Rattle.relay_law.specs.Calls.{as_read}
use Rattle.relay_law.specs.Laws.{AreEvents, SentAreEvents, StoresStaySound}
use Rattle.relay_law.proofs.Choosing.{some_right}
use Rattle.relay_law.proofs.Right.{checks_right}
use Rattle.relay_law.proofs.Sounding.{runs_sound}

more_events : (host : List ℕ) (r : Result Frame FrameFault) (messages : List Message) → ((e : Seen) → r ≡ Ok (Frame.Event e) → IsEvent e) → AreEvents messages → AreEvents ((host, r) ∷ messages)
more_events host (Ok (Frame.Event e)) messages is are = (is e refl, are)
more_events host (Ok (Frame.Faulty seq)) messages is are = are
more_events host (Ok Frame.Info) messages is are = are
more_events host (Ok Frame.Error) messages is are = are
more_events host (Ok Frame.Unknown) messages is are = are
more_events host (Err fault) messages is are = are

pub sent_events : SentAreEvents
sent_events [] bytes = tt
sent_events ((host, message) ∷ sent) bytes = more_events host (frame_of message) (as_read sent) (λ e is. frames_events message e bytes.0 is) (sent_events sent bytes.1)

pub stores_sound : StoresStaySound
stores_sound J sent rows bytes journal sound run =
    let opens = some_right.1 in
    let links = some_right.2 in
    runs_sound some_right.0 (checks_right some_right.0 opens links) J (as_read sent) rows (sent_events sent bytes) journal sound (run some_right.0 opens links)

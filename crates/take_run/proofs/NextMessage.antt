-- Why taking messages ends before the next one, from what the store says by its state.
use Rattle.std.proofs.Common.{◌≡◌, ◌≢◌, ◌∙◌, ℕ, ◌≤◌, ◌+◌, List, [], ◌∷◌, None, Some, Result, Ok, Err, refl, ap, subst}
use Rattle.at_authority.specs.Panels.{Panel}
use Rattle.at_cid.specs.declared.limits.TheConstants.{NUMBERS}
use Rattle.at_event.specs.Frames.{frame_of}
use Rattle.at_event.specs.declared.frame.Frame.{Frame}
use Rattle.at_event.specs.declared.frame.FrameFault.{FrameFault}
use Rattle.host_state.specs.Folds.{cursor_of}
use Rattle.host_state.proofs.Cursors.{hosts_tell}
use Rattle.relay_row.specs.Folds.{cursor, seq_in}
use Rattle.relay_row.specs.declared.row.Row.{Row}
use Rattle.relay_core.specs.Decide.{passed}
use Rattle.relay_core.specs.Entries.{Holds, cursor_in}
use Rattle.relay_core.specs.declared.journal_state.Core.{Core}
use Rattle.relay_step.specs.Around.{Around}
use Rattle.relay_step.specs.Causes.{IsSpentFor}
use Rattle.relay_step.specs.Messages.{EndsNumbers}
use Rattle.store_take.specs.Batches.{EndsNext}
use Rattle.relay_store.specs.declared.fault.StoreFault.{StoreFault}
use Rattle.store_take.specs.declared.message.Message.{Message}
use Rattle.run_base.specs.Place.{Tells}
use Rattle.run_base.specs.Statuses.{status_of_fault}
use Rattle.run_base.specs.declared.status.Status.{Status}
use Rattle.take_run.specs.NextMessage.{MessageEndsNumbers, MessageIsSpent, NextEnds, OfNext}

module _ (core : Core) (K : List Row) (holds : Holds core K) where
  above_cursor : (host : List ℕ) (frame : Frame) → passed (cursor_in core host) frame ≡ None → passed (cursor host K) frame ≡ None
  above_cursor host frame is =
      let same : cursor_in core host ≡ cursor host K = ap (λ (hs : List (List ℕ × ℕ)). cursor_of hs host) holds.hosts ∙ hosts_tell host K in
      subst (λ (n : ℕ). passed n frame ≡ None) same is

  message_ends : (t : Tells) (old : Around) (m : Message) (new : Around) → EndsNumbers t.clock t.repos core old m.host (frame_of m.bytes) new → MessageEndsNumbers t K old m new
  message_ends t old m new e = record {
    event = e.event;
    outside = e.outside;
    taken = e.taken;
    is = e.is;
    above = above_cursor m.host (Frame.Event e.event) e.above;
    decides = λ checks opens links. e.decides checks K opens links holds;
    asked = e.asked K holds;
    gives = subst (λ (n : ℕ). seq_in (Row.Taken e.taken) ≡ n + 1) holds.last e.gives;
    ends = subst (λ (n : ℕ). NUMBERS ≤ n + 1) holds.last e.ends;
  }

  message_is_spent : (m : Message) (frame : Result Frame FrameFault) (panel : Panel) → frame_of m.bytes ≡ frame → IsSpentFor core m.host frame panel → MessageIsSpent K m panel
  message_is_spent m (Ok (Frame.Event e)) panel is spent = record { event = e; is = is; above = above_cursor m.host (Frame.Event e) spent.0; short = spent.1; spent = spent.2 }
  message_is_spent m (Ok (Frame.Faulty seq)) panel is spent = absurd spent
  message_is_spent m (Ok Frame.Info) panel is spent = absurd spent
  message_is_spent m (Ok Frame.Unknown) panel is spent = absurd spent
  message_is_spent m (Ok Frame.Error) panel is spent = absurd spent
  message_is_spent m (Err fault) panel is spent = absurd spent

  numbers_next : (t : Tells) (behind : List Message) (old new : Around) → EndsNext t.clock t.repos core behind old new (Some StoreFault.SeqEnd) → OfNext (λ m. MessageEndsNumbers t K old m new) behind
  numbers_next t [] old new next = absurd next
  numbers_next t (m ∷ behind) old new next = message_ends t old m new next

  spent_next : (t : Tells) (behind : List Message) (old new : Around) → EndsNext t.clock t.repos core behind old new (Some StoreFault.Authority) → OfNext (λ m. MessageIsSpent K m new.panel) behind
  spent_next t [] old new next = absurd next
  spent_next t (m ∷ behind) old new next = message_is_spent m (frame_of m.bytes) new.panel refl next

-- no status that speaks of the next message
pub none_ends : (t : Tells) (K : List Row) (behind : List Message) (old new : Around) (status : Status) → status ≢ Status.SeqEnd → status ≢ Status.Authority → NextEnds t K behind old new status
none_ends t K behind old new status numbers spent = record { numbers = λ is. absurd (numbers is); spent = λ is. absurd (spent is) }

-- a fault of the store
pub next_ends : (t : Tells) (K : List Row) (core : Core) (behind : List Message) (old new : Around) (fault : StoreFault) → Holds core K → EndsNext t.clock t.repos core behind old new (Some fault) → NextEnds t K behind old new (status_of_fault fault)
next_ends t K core behind old new StoreFault.SeqEnd known next = record { numbers = λ _. numbers_next core K known t behind old new next; spent = λ is. absurd cc }
next_ends t K core behind old new StoreFault.Authority known next = record { numbers = λ is. absurd cc; spent = λ _. spent_next core K known t behind old new next }
next_ends t K core behind old new StoreFault.Disk known next = none_ends t K behind old new Status.Disk (λ is. cc) (λ is. cc)
next_ends t K core behind old new (StoreFault.BadLog p) known next = none_ends t K behind old new (Status.BadLog p) (λ is. cc) (λ is. cc)
next_ends t K core behind old new (StoreFault.Full e) known next = none_ends t K behind old new (Status.Full e) (λ is. cc) (λ is. cc)
next_ends t K core behind old new StoreFault.Repos known next = none_ends t K behind old new Status.Repos (λ is. cc) (λ is. cc)
next_ends t K core behind old new StoreFault.Memory known next = none_ends t K behind old new Status.Memory (λ is. cc) (λ is. cc)
next_ends t K core behind old new StoreFault.Clock known next = none_ends t K behind old new Status.Clock (λ is. cc) (λ is. cc)

-- What reading leaves of events, call by call.
use Rattle.std.proofs.Common.{◌≡◌, ◌≢◌, ◌∙◌, ◌≤◌, ℕ, Bool, Option, Result, Err, IsTrue, refl, sym, ap, subst, arith}
use Rattle.at_cid.specs.Counts.{Rose, Counted}
use Rattle.event_window.specs.Held.{Held, damage_after}
use Rattle.event_window.specs.declared.fault.EventsFault.{EventsFault}
use Rattle.relay_disk.specs.Disk.{View, Goes, Same}
use Rattle.backfill.specs.Faults.{damage_replayed, damage_served}
use Rattle.backfill.specs.declared.replay_fault.ReplayFault.{ReplayFault}
use Rattle.backfill.specs.declared.serve_fault.ServeFault.{ServeFault}
use Rattle.backfill.specs.declared.serving.Served.{Served}
use Rattle.run_base.specs.Ends.{IsFinished, status_in}
use Rattle.run_base.specs.declared.status.Status.{Status}
use Rattle.run_base.proofs.Ended.{by_finished}
use Rattle.read_run.specs.Ends.{damage_told, session_after, status_of_events, status_of_replay}
use Rattle.read_run.specs.Events.{WasRead, WereRead}
use Rattle.read_run.specs.declared.session.Session.{Session}

-- ---- statuses that the disks have no part in

pub record Spares (status : Status) : Type 0 where
  pub disk : status ≢ Status.Disk
  pub bad : (place : ℕ) → status ≢ Status.BadLog place
  pub damage : (before : Option ℕ) → damage_told before status ≡ before

done_disk : Status.Done ≢ Status.Disk
done_disk is = cc

pub done_spares : Spares Status.Done
done_spares = record { disk = λ is. absurd (done_disk is); bad = λ place is. no place is; damage = λ before. refl }
  where
    no : (place : ℕ) → Status.Done ≢ Status.BadLog place
    no place is = cc

pub memory_spares : Spares Status.Memory
memory_spares = record { disk = λ is. not is; bad = λ place is. no place is; damage = λ before. refl }
  where
    not : Status.Memory ≢ Status.Disk
    not is = cc

    no : (place : ℕ) → Status.Memory ≢ Status.BadLog place
    no place is = cc

write_spares : Spares Status.WriteFault
write_spares = record { disk = λ is. not is; bad = λ place is. no place is; damage = λ before. refl }
  where
    not : Status.WriteFault ≢ Status.Disk
    not is = cc

    no : (place : ℕ) → Status.WriteFault ≢ Status.BadLog place
    no place is = cc

pub door_spares : Spares Status.Door
door_spares = record { disk = λ is. not is; bad = λ place is. no place is; damage = λ before. refl }
  where
    not : Status.Door ≢ Status.Disk
    not is = cc

    no : (place : ℕ) → Status.Door ≢ Status.BadLog place
    no place is = cc

pub finished_spares : (status : Status) → IsFinished status → Spares status
finished_spares status is = by_finished Spares done_spares write_spares memory_spares status is

-- ---- events

module _ {E : Type 0} (tells : Bool) (holds : E → Held → Type 0) (faults : E → ℕ) (damage : E → Option ℕ) where
  -- a call that found none
  pub read_well : (old new : E) (status : Status) → Spares status
      → (IsTrue tells → (held : Held) → holds old held → holds new held) → faults new ≡ faults old
      → damage new ≡ damage old
      → WereRead tells holds faults damage old new status
  read_well old new status spares same steady undamaged = record {
    same = same;
    counts = record { rose = λ is. absurd (spares.disk is); steady = λ _. steady; kept = omega (arith, steady) };
    damaged = undamaged ∙ sym (spares.damage (damage old));
    good = λ place is. absurd (spares.bad place is);
  }

  -- no call
  pub read_here : (e : E) (status : Status) → Spares status → WereRead tells holds faults damage e e status
  read_here e status spares = read_well e e status spares (λ told held holds. holds) refl refl

  -- one call after others
  pub read_again : (old mid new : E) (status : Status) → WereRead tells holds faults damage old mid Status.Done
      → WereRead tells holds faults damage mid new status
      → WereRead tells holds faults damage old new status
  read_again old mid new status first second = record {
    same = λ told held holds. second.same told held (first.same told held holds);
    counts = subst (λ (n : ℕ). Counted (status ≡ Status.Disk) n (faults new)) (first.counts.steady done_disk)
        second.counts;
    damaged = second.damaged ∙ ap (λ (d : Option ℕ). damage_told d status) first.damaged;
    good = λ place is told held holds. second.good place is told held (first.same told held holds);
  }

  -- and then it ended otherwise
  pub read_then : (old new : E) (status : Status) → Spares status
      → WereRead tells holds faults damage old new Status.Done → WereRead tells holds faults damage old new status
  read_then old new status spares read = read_well old new status spares read.same (read.counts.steady done_disk)
      read.damaged

-- a fault as it is handed up
abbrev pub unserved : ServeFault → Result Served ServeFault
unserved fault = Err fault

abbrev pub unreplayed : ReplayFault → Result ℕ ReplayFault
unreplayed fault = Err fault

abbrev pub unread : EventsFault → Result (Option ℕ) EventsFault
unread fault = Err fault

module _ {E : Type 0} (tells : Bool) (holds : E → Held → Type 0) (faults : E → ℕ) (damage : E → Option ℕ) (old new : E)
    (same : IsTrue tells → (held : Held) → holds old held → holds new held) (kept : faults old ≤ faults new) where
  -- serving
  pub read_serving : (fault : ServeFault) (result : Result Session Status) → result ≡ session_after fault
      → (unserved fault ≡ unserved ServeFault.Disk → Rose (faults old) (faults new))
      → (unserved fault ≢ unserved ServeFault.Disk → faults new ≡ faults old)
      → damage new ≡ damage_served {A = Served} (damage old) (Err fault)
      → ((place : ℕ) → unserved fault ≡ unserved (ServeFault.BadLog place) → IsTrue tells → (held : Held)
      → holds old held → ⊥) → WereRead tells holds faults damage old new (status_in result)
  read_serving fault result is rose steady damaged good =
      subst (λ (r : Result Session Status). WereRead tells holds faults damage old new (status_in r)) (sym is)
      (by fault rose steady damaged good)
    where
      by : (f : ServeFault) → (unserved f ≡ unserved ServeFault.Disk → Rose (faults old) (faults new))
          → (unserved f ≢ unserved ServeFault.Disk → faults new ≡ faults old)
          → damage new ≡ damage_served {A = Served} (damage old) (Err f)
          → ((place : ℕ) → unserved f ≡ unserved (ServeFault.BadLog place) → IsTrue tells → (held : Held)
          → holds old held → ⊥)
          → WereRead tells holds faults damage old new (status_in (session_after f))
      by (ServeFault.Door n) rose steady damaged good =
          read_well tells holds faults damage old new Status.Done done_spares same (steady (λ is. absurd cc)) damaged
      by ServeFault.Disk rose steady damaged good =
          record {
            same = same;
            counts = record { rose = λ _. rose refl; steady = λ not. absurd (not refl); kept = kept };
            damaged = damaged;
            good = λ place is. absurd cc;
          }
      by ServeFault.Memory rose steady damaged good =
          read_well tells holds faults damage old new Status.Memory memory_spares same (steady (λ is. absurd cc))
          damaged
      by (ServeFault.BadLog p) rose steady damaged good = record {
        same = same;
        counts = record { rose = λ is. absurd cc; steady = λ _. steady (λ is. absurd cc); kept = kept };
        damaged = damaged;
        good = λ place is. good place cc;
      }

  -- a replay
  pub read_replaying : (fault : ReplayFault) (status : Status) → status ≡ status_of_replay fault
      → (unreplayed fault ≡ unreplayed ReplayFault.Disk → Rose (faults old) (faults new))
      → (unreplayed fault ≢ unreplayed ReplayFault.Disk → faults new ≡ faults old)
      → damage new ≡ damage_replayed {A = ℕ} (damage old) (Err fault)
      → ((place : ℕ) → unreplayed fault ≡ unreplayed (ReplayFault.BadLog place) → IsTrue tells → (held : Held)
      → holds old held → ⊥) → WereRead tells holds faults damage old new status
  read_replaying fault status is rose steady damaged good =
      subst (λ (s : Status). WereRead tells holds faults damage old new s) (sym is) (by fault rose steady damaged good)
    where
      by : (f : ReplayFault) → (unreplayed f ≡ unreplayed ReplayFault.Disk → Rose (faults old) (faults new))
          → (unreplayed f ≢ unreplayed ReplayFault.Disk → faults new ≡ faults old)
          → damage new ≡ damage_replayed {A = ℕ} (damage old) (Err f)
          → ((place : ℕ) → unreplayed f ≡ unreplayed (ReplayFault.BadLog place) → IsTrue tells → (held : Held)
          → holds old held → ⊥)
          → WereRead tells holds faults damage old new (status_of_replay f)
      by ReplayFault.Output rose steady damaged good =
          read_well tells holds faults damage old new Status.WriteFault write_spares same (steady (λ is. absurd cc))
          damaged
      by ReplayFault.Disk rose steady damaged good =
          record {
            same = same;
            counts = record { rose = λ _. rose refl; steady = λ not. absurd (not refl); kept = kept };
            damaged = damaged;
            good = λ place is. absurd cc;
          }
      by ReplayFault.Memory rose steady damaged good =
          read_well tells holds faults damage old new Status.Memory memory_spares same (steady (λ is. absurd cc))
          damaged
      by (ReplayFault.BadLog p) rose steady damaged good = record {
        same = same;
        counts = record { rose = λ is. absurd cc; steady = λ _. steady (λ is. absurd cc); kept = kept };
        damaged = damaged;
        good = λ place is. good place cc;
      }

  -- the next event
  pub read_next : (fault : EventsFault) (status : Status) → status ≡ status_of_events fault
      → (unread fault ≡ unread EventsFault.Disk → Rose (faults old) (faults new))
      → ((unread fault ≡ unread EventsFault.Disk → ⊥) → faults new ≡ faults old)
      → damage new ≡ damage_after (damage old) (unread fault)
      → ((place : ℕ) → unread fault ≡ unread (EventsFault.BadLog place) → IsTrue tells → (held : Held) → holds old held
      → ⊥) → WereRead tells holds faults damage old new status
  read_next fault status is rose steady damaged good =
      subst (λ (s : Status). WereRead tells holds faults damage old new s) (sym is) (by fault rose steady damaged good)
    where
      by : (f : EventsFault) → (unread f ≡ unread EventsFault.Disk → Rose (faults old) (faults new))
          → ((unread f ≡ unread EventsFault.Disk → ⊥) → faults new ≡ faults old)
          → damage new ≡ damage_after (damage old) (unread f)
          → ((place : ℕ) → unread f ≡ unread (EventsFault.BadLog place) → IsTrue tells → (held : Held) → holds old held
          → ⊥)
          → WereRead tells holds faults damage old new (status_of_events f)
      by EventsFault.Disk rose steady damaged good =
          record {
            same = same;
            counts = record { rose = λ _. rose refl; steady = λ not. absurd (not refl); kept = kept };
            damaged = damaged;
            good = λ place is. absurd cc;
          }
      by EventsFault.Memory rose steady damaged good =
          read_well tells holds faults damage old new Status.Memory memory_spares same (steady (λ is. absurd cc))
          damaged
      by (EventsFault.BadLog p) rose steady damaged good = record {
        same = same;
        counts = record { rose = λ is. absurd cc; steady = λ _. steady (λ is. absurd cc); kept = kept };
        damaged = damaged;
        good = λ place is. good place cc;
      }

-- ---- the disk that they are on

-- what was read is told of it
pub disk_read : {E D : Type 0} (tells : Bool) (holds : E → Held → Type 0) (faults : E → ℕ) (damage : E → Option ℕ)
    (first last : E) (view : D → View) (old mid new now : D) (status : Status)
    → mid ≡ old → now ≡ new → Goes Same (view mid) (view new) → faults first ≡ (view mid).faults
    → faults last ≡ (view new).faults → (IsTrue tells → (held : Held) × holds first held)
    → WereRead tells holds faults damage first last status → WasRead tells (view old) (view now) status
disk_read {D = D} tells holds faults damage first last view old mid new now status begins ends goes before after known
    read =
    subst (λ (x : D). WasRead tells (view x) (view now) status) begins
    (subst (λ (x : D). WasRead tells (view mid) (view x) status) (sym ends) (record {
      goes = goes;
      counts = subst (λ (n : ℕ). Counted (status ≡ Status.Disk) n (view new).faults) before
          (subst (λ (n : ℕ). Counted (status ≡ Status.Disk) (faults first) n) after read.counts);
      good = λ place is told. let held = known told in read.good place is told held.0 held.1;
    }))

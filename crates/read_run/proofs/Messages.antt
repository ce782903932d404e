-- The messages of a replay, and what was written of them.
use Rattle.std.proofs.Common.{◌≡◌, ◌⊎◌, inl, inr, ◌≤◌, ℕ, List, [], ◌++◌, Bool, true, false, Some, IsTrue, refl, sym, subst, take, drop}
use Rattle.std.proofs.lemmas.List.{append-nil, take-append-drop}
use Rattle.event_window.specs.Held.{Held}
use Rattle.relay_io.specs.Streams.{AddsFront}
use Rattle.backfill.specs.Served.{served}
use Rattle.backfill.specs.Writing.{AddsMessages, IsOfReading, with_length}
use Rattle.backfill.specs.declared.replay_fault.ReplayFault.{ReplayFault}
use Rattle.at_cid.specs.Counts.{CountedBut, Rose}
use Rattle.run_base.specs.Ends.{Writes}
use Rattle.run_base.specs.declared.status.Status.{Status}
use Rattle.read_run.specs.Ends.{IsOfDisks, MayEndReading, status_of_replay}
use Rattle.read_run.specs.Replayed.{IsReplay}
use Rattle.read_run.proofs.EventsRead.{unreplayed}

not_told : IsTrue false → ⊥
not_told told = cc

-- what was written of a text, and what is left
cut_by : (tells : Bool) (text old new : List ℕ) → (IsTrue tells → AddsFront old new text)
    → (lines : List ℕ) × (last : List ℕ) × (text ≡ lines ++ last) × (IsTrue tells → new ≡ old ++ lines)
cut_by true text old new front = let f = front refl in
    (take f.0 text, drop f.0 text, sym (take-append-drop f.0 text), λ _. f.2)
cut_by false text old new front = ([], text, refl, λ told. absurd (not_told told))

abbrev Replay : Bool → Type 0 → Held → ℕ → List ℕ → List ℕ → Status → Type 0
Replay tells failed held cursor old new status = (r : IsReplay tells failed held cursor old new status)
    × (IsTrue tells → Writes status r.lines r.last old new)

module _ (tells : Bool) (failed : Type 0) (held : Held) (cursor : ℕ) (old new : List ℕ) where
  -- all of them were written
  pub replay_done : (IsTrue tells → new ≡ old ++ with_length (served held (Some cursor)))
      → Replay tells failed held cursor old new Status.Done
  replay_done whole = (
    record {
      lines = [];
      last = with_length (served held (Some cursor));
      split = refl;
      unbroken = λ t _ _. inl
          (record {
            written = served held (Some cursor);
            left = [];
            split = sym (append-nil (served held (Some cursor)));
            bytes = whole t;
          });
    },
    whole,
  )

  -- or a front of them
  pub replay_failed : (fault : ReplayFault) (status : Status) → status ≡ status_of_replay fault
      → (IsTrue tells → AddsFront old new (with_length (served held (Some cursor))))
      → (IsOfReading fault → IsTrue tells → AddsMessages (served held (Some cursor)) old new ⊎ failed)
      → Replay tells failed held cursor old new status
  replay_failed fault status is front unbroken = subst (λ (s : Status). Replay tells failed held cursor old new s) (sym
      is) (by fault unbroken)
    where
      by : (f : ReplayFault)
          → (IsOfReading f → IsTrue tells → AddsMessages (served held (Some cursor)) old new ⊎ failed)
          → Replay tells failed held cursor old new (status_of_replay f)
      by ReplayFault.Output unbroken = (
        record {
          lines = [];
          last = with_length (served held (Some cursor));
          split = refl;
          unbroken = λ t not _. absurd (not refl);
        },
        front,
      )
      by ReplayFault.Disk unbroken =
          let cut = cut_by tells (with_length (served held (Some cursor))) old new front in
          (record { lines = cut.0; last = cut.1; split = cut.2; unbroken = λ t _ _. unbroken tt t }, cut.3)
      by ReplayFault.Memory unbroken = (
        record {
          lines = [];
          last = with_length (served held (Some cursor));
          split = refl;
          unbroken = λ t _ not. absurd (not refl);
        },
        front,
      )
      by (ReplayFault.BadLog p) unbroken =
          let cut = cut_by tells (with_length (served held (Some cursor))) old new front in
          (record { lines = cut.0; last = cut.1; split = cut.2; unbroken = λ t _ _. unbroken tt t }, cut.3)

-- the disks ended it where reading failed
pub of_reading : (fault : ReplayFault) (status : Status) → status ≡ status_of_replay fault → IsOfDisks status
    → IsOfReading fault
of_reading fault status is of = by fault (subst IsOfDisks is of)
  where
    by : (f : ReplayFault) → IsOfDisks (status_of_replay f) → IsOfReading f
    by ReplayFault.Disk of = tt
    by (ReplayFault.BadLog p) of = tt
    by ReplayFault.Output (inl is) = absurd cc
    by ReplayFault.Output (inr (p, is)) = absurd cc
    by ReplayFault.Memory (inl is) = absurd cc
    by ReplayFault.Memory (inr (p, is)) = absurd cc

pub replay_may : (fault : ReplayFault) (status : Status) → status ≡ status_of_replay fault → MayEndReading status
replay_may fault status is = subst MayEndReading (sym is) (by fault)
  where
    by : (f : ReplayFault) → MayEndReading (status_of_replay f)
    by ReplayFault.Output = tt
    by ReplayFault.Disk = tt
    by ReplayFault.Memory = tt
    by (ReplayFault.BadLog p) = tt

-- what the output's count tells of a fault
pub replay_counts : (fault : ReplayFault) (status : Status) (old new : ℕ) → status ≡ status_of_replay fault
    → (unreplayed fault ≡ unreplayed ReplayFault.Output → Rose old new)
    → (unreplayed fault ≡ unreplayed ReplayFault.Memory → new ≡ old) → old ≤ new
    → CountedBut (IsOfDisks status) (status ≡ Status.WriteFault) old new
replay_counts fault status old new is rose memory kept =
    subst (λ (s : Status). CountedBut (IsOfDisks s) (s ≡ Status.WriteFault) old new) (sym is) (by fault rose memory)
  where
    by : (f : ReplayFault) → (unreplayed f ≡ unreplayed ReplayFault.Output → Rose old new)
        → (unreplayed f ≡ unreplayed ReplayFault.Memory → new ≡ old)
        → CountedBut (IsOfDisks (status_of_replay f)) (status_of_replay f ≡ Status.WriteFault) old new
    by ReplayFault.Output rose memory = record {
      rose = λ _. rose refl;
      steady = λ _ not. absurd (not refl);
      kept = kept;
    }
    by ReplayFault.Disk rose memory = record {
      rose = λ at. absurd cc;
      steady = λ not _. absurd (not (inl refl));
      kept = kept;
    }
    by ReplayFault.Memory rose memory = record { rose = λ at. absurd cc; steady = λ _ _. memory refl; kept = kept }
    by (ReplayFault.BadLog p) rose memory = record {
      rose = λ at. absurd cc;
      steady = λ not _. absurd
          (not (inr (p, refl)));
      kept = kept;
    }

-- ---- disks that weren't opened

-- nothing was written
pub adds_nothing : (messages : List (List ℕ)) (old : List ℕ) → AddsMessages messages old old
adds_nothing messages old = record { written = []; left = messages; split = refl; bytes = sym (append-nil old) }

abbrev pub replay_unopened : {tells : Bool} {failed : Type 0} {held : Held} {cursor : ℕ} {old : List ℕ}
    {status : Status} → IsReplay tells failed held cursor old old status
replay_unopened {held = held} {cursor = cursor} {old = old} = record {
  lines = [];
  last = with_length (served held (Some cursor));
  split = refl;
  unbroken = λ t _ _. inl (adds_nothing (served held (Some cursor)) old);
}

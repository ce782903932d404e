-- While guests are served, and how that ends.
use Rattle.std.proofs.Common.{◌≡◌, ◌∙◌, ◌⊎◌, ⊎_elim, inl, inr, ℕ, ◌+◌, ◌≤◌, List, [], ◌∷◌, ◌++◌, length, Bool, Some, Ok, Err, IsTrue, refl, sym, ap, arith, append_assoc, length-append, subst}
use Rattle.std.proofs.lemmas.List.{append-nil}
use Rattle.event_window.specs.Held.{Held}
use Rattle.relay_store.specs.Opening.{IsOfReading}
use Rattle.relay_store.specs.declared.fault.StoreFault.{StoreFault}
use Rattle.run_base.specs.Ends.{IsFinished, IsUnwritten, Writes}
use Rattle.run_base.specs.Statuses.{status_of_fault}
use Rattle.run_base.specs.declared.status.Status.{Status}
use Rattle.run_base.proofs.Ended.{by_finished, by_unwritten}
use Rattle.read_run.specs.AtDoor.{AtDoor, NobodyComes, IsStill, IsStopped, GuestAccepted, Visited}
use Rattle.read_run.specs.Ends.{IsUnmet}
use Rattle.read_run.specs.Guests.{GuestsServed, IsBehind, session_lines, sessions_end}
use Rattle.read_run.specs.Sessions.{Visit, sessions_end_line, lines_behind, session_line}
use Rattle.read_run.specs.declared.session.Session.{Session}
use Rattle.read_run.proofs.Accepts.{lines_more, visited_more, visited_none}
use Rattle.read_run.proofs.Ending.{by_unmet, last_written, line_unwritten, lines_unmet}

-- While guests are served: these visits were made, and their lines written.
pub record IsServing (tells told : Bool) (served : ℕ) (held : Held) (door door_now : AtDoor) (old now : List ℕ) : Type 0
  where
    pub visits : List Visit
    pub visited : Visited tells held visits door door_now
    pub number : served ≡ length visits
    pub written : IsTrue told → now ≡ old ++ lines_behind 0 visits

pub serving_none : (tells told : Bool) (held : Held) (door : AtDoor) (old : List ℕ)
    → IsServing tells told 0 held door door old old
serving_none tells told held door old = record {
  visits = [];
  visited = visited_none tells held door;
  number = refl;
  written = λ _. sym (append-nil old);
}

pub still_same : (tells : Bool) (door : AtDoor) → IsStill tells door door
still_same tells door = (refl, λ _. (refl, refl))

-- the lines of these visits and of one more
lines_then : (visits : List Visit) (v : Visit) (served : ℕ) (session : Session) → served ≡ length visits
    → v.session ≡ session → lines_behind 0 (visits ++ v ∷ []) ≡ lines_behind 0 visits ++ session_line
    (served + 1) session
lines_then visits v served session number is =
    let next : 0 + length visits + 1 ≡ served + 1 = omega (arith, number) in
    lines_more 0 visits v ∙ ap (λ (n : ℕ). lines_behind 0 visits ++ session_line n v.session) next ∙ ap
    (λ (s : Session). lines_behind 0 visits ++ session_line (served + 1) s) is

behind_unwritten : (tells : Bool) (held : Held) (all : Type 0) (status : Status) (old new : AtDoor) → IsUnwritten status
    → IsStill tells old new ⊎ NobodyComes tells old new → IsBehind tells held all status old new
behind_unwritten tells held all status old new un was =
    by_unwritten (λ s. IsBehind tells held all s old new) was (⊎_elim (λ still. inl still) (λ over. inr (inl over)) was)
    status un

behind_finished : (tells : Bool) (held : Held) (all : Type 0) (status : Status) (old new : AtDoor) → IsFinished status
    → (all × IsStill tells old new) ⊎ NobodyComes tells old new → IsBehind tells held all status old new
behind_finished tells held all status old new is was =
    by_finished (λ s. IsBehind tells held all s old new) was (⊎_elim (λ still. inl still.1) (λ over. inr over) was)
    (⊎_elim (λ still. inl still.1) (λ over. inr (inl over)) was) status is

behind_unmet : (tells : Bool) (held : Held) (all : Type 0) (status : Status) (old new : AtDoor) → IsUnmet status
    → IsStopped tells held status old new → IsBehind tells held all status old new
behind_unmet tells held all status old new un =
    by_unmet (λ s. IsStopped tells held s old new → IsBehind tells held all s old new)
    (λ still. still) (λ was. ⊎_elim (λ still. inl still) (λ broken. inr (inr broken)) was) (λ was. was) (λ p was. was)
    status un

-- guests were served, and their lines written
abbrev Served : Bool → Bool → ℕ → Held → AtDoor → AtDoor → List ℕ → List ℕ → Status → Type 0
Served tells told count held door new old then status = (g : GuestsServed tells count held door new status)
    × (IsTrue told → Writes status (session_lines g) (sessions_end g) old then)

module _ (tells told : Bool) (count served : ℕ) (held : Held) (door mid new : AtDoor) (old now : List ℕ)
    (few : served ≤ count) (serving : IsServing tells told served held door mid old now) where
  -- one more guest was served
  pub serving_more : (session : Session) (then : List ℕ) → GuestAccepted tells held mid new (Ok (Some session))
      → (IsTrue told → then ≡ now ++ session_line (served + 1) session)
      → IsServing tells told (served + 1) held door new old then
  serving_more session then accepted writes = record {
    visits = serving.visits ++ accepted.0 ∷ [];
    visited = visited_more tells held serving.visits accepted.0 door mid new serving.visited accepted.2;
    number = omega (arith, serving.number, length-append serving.visits (accepted.0 ∷ []));
    written = λ t. writes t ∙ ap (λ (l : List ℕ). l ++ session_line (served + 1) session) (serving.written t)
        ∙ append_assoc old (lines_behind 0 serving.visits) (session_line (served + 1) session)
        ∙ ap (λ (l : List ℕ). old ++ l)
        (sym (lines_then serving.visits accepted.0 served session serving.number accepted.1));
  }

  -- the line of its session wasn't written
  pub serving_unwritten : (session : Session) (then : List ℕ) (status : Status)
      → GuestAccepted tells held mid new (Ok (Some session)) → served + 1 ≤ count → IsUnwritten status
      → (IsTrue told → Writes status [] (session_line (served + 1) session) now then)
      → Served tells told count held door new old then status
  serving_unwritten session then status accepted one un wrote =
      let visits = serving.visits ++ accepted.0 ∷ [] in (
        record {
          visits = visits;
          mid = new;
          visited = visited_more tells held serving.visits accepted.0 door mid new serving.visited accepted.2;
          few = omega (arith, one, serving.number, length-append serving.visits (accepted.0 ∷ []));
          behind = behind_unwritten tells held (length visits ≡ count) status new new un (inl (still_same tells new));
        },
        λ t. subst (λ (l : List ℕ). Writes status l (sessions_end_line (length visits)) old then)
            (sym (lines_then serving.visits accepted.0 served session serving.number accepted.1))
            (line_unwritten status (lines_behind 0 serving.visits) (session_line (served + 1) session)
            (sessions_end_line (length visits)) old now then un (serving.written t) (wrote t)),
      )

  -- no more guest was met
  pub serving_stopped : (status : Status) → IsUnmet status → GuestAccepted tells held mid new (Err status)
      → Served tells told count held door new old now status
  serving_stopped status un accepted = (
    record {
      visits = serving.visits;
      mid = mid;
      visited = serving.visited;
      few = omega (arith, few, serving.number);
      behind = behind_unmet tells held (length serving.visits ≡ count) status mid new un accepted;
    },
    λ t. lines_unmet status (lines_behind 0 serving.visits) (sessions_end_line (length serving.visits)) old now un
        (serving.written t),
  )

  -- none is left, however the last line ended
  pub serving_over : (then : List ℕ) (status : Status)
      → ((served ≡ count) × IsStill tells mid new) ⊎ NobodyComes tells mid new → IsFinished status
      → (IsTrue told → Writes status [] (sessions_end_line served) now then)
      → Served tells told count held door new old then status
  serving_over then status over is wrote = (
    record {
      visits = serving.visits;
      mid = mid;
      visited = serving.visited;
      few = omega (arith, few, serving.number);
      behind = behind_finished tells held (length serving.visits ≡ count) status mid new is
          (⊎_elim (λ all. inl (omega (arith, all.0, serving.number), all.1)) (λ nobody. inr nobody) over);
    },
    λ t. subst (λ (n : ℕ). Writes status (lines_behind 0 serving.visits) (sessions_end_line n) old then) serving.number
        (last_written status (lines_behind 0 serving.visits) (sessions_end_line served) old now then is
        (serving.written t) (wrote t)),
  )

-- ---- disks that weren't opened

pub behind_unopened : (tells : Bool) (held : Held) (all : Type 0) (fault : StoreFault) (status : Status) (door : AtDoor)
    → status ≡ status_of_fault fault → IsOfReading fault → IsBehind tells held all status door door
behind_unopened tells held all fault status door is of =
    subst (λ (s : Status). IsBehind tells held all s door door) (sym is) (by fault of)
  where
    by : (f : StoreFault) → IsOfReading f → IsBehind tells held all (status_of_fault f) door door
    by StoreFault.Disk of = inl (still_same tells door)
    by (StoreFault.BadLog p) of = inl (still_same tells door)
    by (StoreFault.Full e) of = absurd of
    by StoreFault.SeqEnd of = absurd of
    by StoreFault.Authority of = absurd of
    by StoreFault.Repos of = absurd of
    by StoreFault.Memory of = inl (still_same tells door)
    by StoreFault.Clock of = absurd of

-- nobody was served
abbrev pub none_served : (tells : Bool) (count : ℕ) (held : Held) (door : AtDoor) (fault : StoreFault) (status : Status)
    → status ≡ status_of_fault fault → IsOfReading fault → GuestsServed tells count held door door status
none_served tells count held door fault status is of = record {
  visits = [];
  mid = door;
  visited = visited_none tells held door;
  few = omega arith;
  behind = behind_unopened tells held (0 ≡ count) fault status door is of;
}

-- An operator's command, ahead of the disk and once it is durable.
use Rattle.std.proofs.Common.{◌≡◌, inl, inr, ◌⊎◌, ⊎_elim, ℕ, ◌≤◌, List, [], ◌++◌, length, Bool, Ok, Err, IsTrue, refl, sym, ◌∙◌, ap, subst, arith}
use Rattle.std.proofs.lemmas.List.{append-nil}
use Rattle.event_window.specs.declared.place.Place.{Place}
use Rattle.relay_disk.specs.Disk.{View, IsDisk}
use Rattle.relay_disk.specs.Moments.{LeavesOnly}
use Rattle.relay_disk.proofs.Moments.{no_call}
use Rattle.gate_log.specs.Log.{LogState}
use Rattle.gate_log.specs.declared.picking.Side.{Side}
use Rattle.relay_row.specs.Journal.{IsJournal}
use Rattle.relay_row.specs.declared.row.Row.{Row}
use Rattle.relay_core.specs.Entries.{Holds}
use Rattle.relay_core.specs.declared.journal_state.Core.{Core}
use Rattle.relay_step.specs.Commands.{rows_commanded}
use Rattle.relay_step.specs.declared.command.CommandAnswer.{CommandAnswer}
use Rattle.relay_store.specs.PendingBodies.{Fits, HasRows, IsAhead, IsUnchanged, behind_pending}
use Rattle.relay_store.specs.Journals.{IsOneOf}
use Rattle.relay_store.specs.Places.{places_in}
use Rattle.relay_store.specs.Store.{IsOf, Keeps, seen}
use Rattle.store_take.specs.Taking.{AreAdded}
use Rattle.store_take.specs.Commands.{IsAnswer, IsLate, IsOfOperating, IsOfCommand, Commanded, done_of}
use Rattle.store_take.specs.declared.done.Done.{Done}
use Rattle.relay_store.specs.declared.pending.Pending.{Pending}
use Rattle.relay_store.specs.declared.fault.StoreFault.{StoreFault}
use Rattle.store_take.proofs.Batched.{kept_of}
use Rattle.store_take.proofs.Commits.{no_rows}
use Rattle.relay_store.proofs.Images.{kept_log}
use Rattle.store_take.proofs.Rooms.{behind_is}
use Rattle.relay_store.proofs.Encodings.{pending_is}

pub late_command : (log : LogState) (d : Pending) (rows : List Row) (row : Row) (f : StoreFault) → ((f ≡ StoreFault.Memory) ⊎ ((e : ℕ) × (f ≡ StoreFault.Full e)))
    → ((e : ℕ) → f ≡ StoreFault.Full e → IsLate log d rows (StoreFault.Full e)) → IsLate log d rows f
late_command log d rows row f (inl memory) full = subst (IsLate log d rows) (sym memory) tt
late_command log d rows row f (inr is) full = subst (IsLate log d rows) (sym is.1) (full is.0 is.1)

late_answer : (log : LogState) (d : Pending) (command : CommandAnswer) (f : StoreFault) → HasRows [] d → IsLate log d (rows_commanded command) f → IsAnswer log command (Err f)
late_answer log d command StoreFault.Disk has late = absurd late
late_answer log d command (StoreFault.BadLog p) has late = absurd late
late_answer log d command (StoreFault.Full e) has late = (late.0, late.1, late.2 [] has)
late_answer log d command StoreFault.SeqEnd has late = absurd late
late_answer log d command StoreFault.Authority has late = absurd late
late_answer log d command StoreFault.Repos has late = absurd late
late_answer log d command StoreFault.Memory has late = tt
late_answer log d command StoreFault.Clock has late = absurd late

pub late_open : (log : LogState) (d : Pending) (rows : List Row) (f : StoreFault) → IsLate log d rows f → f ≡ StoreFault.Disk → ⊥
late_open log d rows f late is = subst (IsLate log d rows) is late

pub late_running : (log : LogState) (d : Pending) (rows : List Row) (f : StoreFault) → IsLate log d rows f → IsOfCommand f
late_running log d rows StoreFault.Disk late = absurd late
late_running log d rows (StoreFault.BadLog p) late = absurd late
late_running log d rows (StoreFault.Full e) late = tt
late_running log d rows StoreFault.SeqEnd late = absurd late
late_running log d rows StoreFault.Authority late = absurd late
late_running log d rows StoreFault.Repos late = absurd late
late_running log d rows StoreFault.Memory late = tt
late_running log d rows StoreFault.Clock late = absurd late

pub disk_running : (f : StoreFault) → f ≡ StoreFault.Disk → IsOfCommand f
disk_running f is = subst IsOfCommand (sym is) tt

-- what may come behind a word may come of operating
pub running_operating : (f : StoreFault) → IsOfCommand f → IsOfOperating f
running_operating StoreFault.Disk of = tt
running_operating (StoreFault.BadLog p) of = absurd of
running_operating (StoreFault.Full e) of = tt
running_operating StoreFault.SeqEnd of = tt
running_operating StoreFault.Authority of = absurd of
running_operating StoreFault.Repos of = absurd of
running_operating StoreFault.Memory of = tt
running_operating StoreFault.Clock of = tt

pub commanded_few : (command : CommandAnswer) → length (rows_commanded command) ≤ 1
commanded_few (CommandAnswer.Refused r) = omega arith
commanded_few (CommandAnswer.Made row) = omega arith

module _ {D : Type 0} (view : D → View) (tells : Bool) (J : List Row) (command : CommandAnswer) (log : LogState) (side : Side) (state : Core) (places : List Place) (d : Pending) (has : HasRows [] d) (of : IsOf J state) (disk : D) where
  -- nothing was added
  pub worded_late : (state_now : Core) (places_now : List Place) (d_now : Pending) (f : StoreFault) → IsDisk (view disk) → IsUnchanged state state_now places places_now d d_now → IsLate log d (rows_commanded command) f
      → Commanded view tells J command (seen log side state places) (seen log side state_now places_now) disk disk (Err f)
  worded_late state_now places_now d_now f is_disk same late = record {
    answer = late_answer log d command f has late;
    room = inl refl;
    format = refl;
    most = refl;
    end = λ n. refl;
    known = λ n. subst (Holds state_now) (sym (append-nil J)) (same.core J of.holds);
    keeps = λ n told keeps. subst (λ (K : List Row). Keeps K (seen log side state_now places_now) (view disk)) (sym (append-nil J))
        (record { bodies = keeps.bodies; are = keeps.are; holds = keeps.holds; core = same.core J keeps.core; window = same.window ∙ keeps.window });
    untouched = λ n none. (refl, (same.window, refl));
    moments = λ told keeps. no_call _ (view disk) is_disk (λ c left. inl (kept_log J (seen log side state places) (view disk) keeps c left));
  }

  module _ (journal : IsJournal (J ++ rows_commanded command)) (state_now : Core) (places_now : List Place) (d_now : Pending) (add : AreAdded log.end (rows_commanded command) state state_now places places_now d d_now) where
    pub commanded_rows : HasRows (rows_commanded command) d_now
    commanded_rows = add.pending [] has

    window_now : places_now ≡ places ++ places_in log.end 0 (rows_commanded command)
    window_now = add.window ∙ ap (λ (n : ℕ). places ++ places_in log.end n (rows_commanded command)) has.count

    ahead : (v : View) → Keeps J (seen log side state places) v → IsAhead J (rows_commanded command) log state_now places_now v
    ahead v keeps = record {
      bodies = keeps.bodies;
      are = keeps.are;
      journal = journal;
      holds = keeps.holds;
      core = add.core J keeps.core;
      window = window_now ∙ ap (λ (l : List Place). l ++ places_in log.end 0 (rows_commanded command)) keeps.window;
    }

    module _ (disk_now : D) (log_now : LogState) (fits : Fits log d_now)
        (moments : IsTrue tells → (J rows : List Row) → HasRows rows d_now → IsAhead J rows log state_now places_now (view disk) → LeavesOnly (IsOneOf log.format J rows) (view disk) (view disk_now))
        (format : (log_now.format ≡ log.format) × (log_now.most ≡ log.most)) where
      pub worded_ok : (done : Done) → done ≡ done_of command → (d_now.count ≡ 0 → (log_now ≡ log) × (disk_now ≡ disk)) → log_now.end ≡ behind_pending log.end d_now
          → (IsTrue tells → (J rows : List Row) → HasRows rows d_now → IsAhead J rows log state_now places_now (view disk) → IsAhead (J ++ rows) [] log_now state_now places_now (view disk_now))
          → Commanded view tells J command (seen log side state places) (seen log_now side state_now places_now) disk disk_now (Ok done)
      worded_ok done is untouched ends more = record {
        answer = is;
        room = ⊎_elim
            (λ none. inl (no_rows (rows_commanded command) (sym commanded_rows.count ∙ none)))
            (λ room. inr (omega (arith, room.0, ap length (pending_is (rows_commanded command) d_now commanded_rows))))
            fits;
        format = format.0;
        most = format.1;
        end = λ n. ends ∙ behind_is log.end (rows_commanded command) d_now commanded_rows;
        known = λ n. add.core J of.holds;
        keeps = λ n told keeps. kept_of (J ++ rows_commanded command) log_now side state_now places_now (view disk_now) (more told J (rows_commanded command) commanded_rows (ahead (view disk) keeps));
        untouched = λ n none.
            let same = untouched (commanded_rows.count ∙ ap length none) in
            (same.0, (window_now ∙ ap (λ (l : List Row). places ++ places_in log.end 0 l) none ∙ append-nil places, same.1));
        moments = λ told keeps. moments told J (rows_commanded command) commanded_rows (ahead (view disk) keeps);
      }

      worded_fails : Commanded view tells J command (seen log side state places) (seen log_now side state_now places_now) disk disk_now (Err StoreFault.Disk)
      worded_fails = record {
        answer = tt;
        room = inl refl;
        format = format.0;
        most = format.1;
        end = λ n. absurd (n refl);
        known = λ n. absurd (n refl);
        keeps = λ n. absurd (n refl);
        untouched = λ n. absurd (n refl);
        moments = λ told keeps. moments told J (rows_commanded command) commanded_rows (ahead (view disk) keeps);
      }

      pub worded_fails_as : (f : StoreFault) → f ≡ StoreFault.Disk → Commanded view tells J command (seen log side state places) (seen log_now side state_now places_now) disk disk_now (Err f)
      worded_fails_as f is = subst (λ (x : StoreFault). Commanded view tells J command (seen log side state places) (seen log_now side state_now places_now) disk disk_now (Err x)) (sym is) worded_fails

-- How a whole run ends.
use Rattle.std.proofs.Common.{◌≡◌, ◌≢◌, inl, ℕ, List, [], ◌++◌, length, IsTrue, refl, ap, ◌∙◌, sym, subst, arith, length-append}
use Rattle.std.specs.Prelude.{⊤}
use Rattle.std.specs.List.{filter}
use Rattle.std.proofs.lemmas.List.{append-nil, take-append-le}
use Rattle.relay_disk.specs.Disk.{View}
use Rattle.relay_disk.proofs.Moments.{weaker}
use Rattle.relay_io.specs.Streams.{AddsFront}
use Rattle.gate_log.specs.declared.format.Format.{Format}
use Rattle.relay_row.specs.Folds.{events}
use Rattle.relay_row.specs.Journal.{IsJournal}
use Rattle.relay_row.specs.declared.row.Row.{Row}
use Rattle.relay_core.specs.Report.{end_line, is_row_refused}
use Rattle.relay_law.proofs.Choosing.{some_right}
use Rattle.relay_step.specs.Around.{Around, AllAsked}
use Rattle.relay_step.specs.Steps.{Step, messages, rows, AreSteps}
use Rattle.store_take.specs.Batches.{messages_sent}
use Rattle.relay_store.specs.Journals.{IsLogOf}
use Rattle.store_take.specs.Lines.{end_line_of}
use Rattle.relay_store.specs.Store.{StoreState}
use Rattle.store_take.specs.declared.message.Message.{Message}
use Rattle.store_take.proofs.Asks.{nothing_here, nothing_in_vain}
use Rattle.relay_store.proofs.Images.{kept_log}
use Rattle.store_take.proofs.Linework.{lines_report}
use Rattle.tape.specs.declared.fault.TapeFault.{TapeFault}
use Rattle.run_base.specs.Ends.{IsFinished, ToldBut, Writes}
use Rattle.run_base.specs.Place.{Faults, Tells, at_place}
use Rattle.run_base.specs.declared.status.Status.{Status}
use Rattle.run_base.proofs.Ended.{by_finished}
use Rattle.take_run.specs.Ends.{IsStop, IsUnread, status_of_tape}
use Rattle.take_run.specs.Going.{Going, NothingFailed, Point, Ran, Stopped, live}
use Rattle.take_run.specs.Lines.{lines_of}
use Rattle.take_run.specs.Taken.{StepsTaken, all_read}
use Rattle.take_run.specs.Tapes.{AreRecords}
use Rattle.take_run.specs.declared.tally.Tally.{Tally}
use Rattle.take_run.proofs.OneBatch.{whole_front}
use Rattle.take_run.proofs.Counts.{given_is, refused_is, said_length}
use Rattle.take_run.proofs.Joining.{writes_behind}
use Rattle.take_run.proofs.NextMessage.{none_ends}
use Rattle.take_run.proofs.Telling.{told_on}

-- ---- which statuses come where all messages that were read were taken

abbrev pub IsQuiet : Status → Type 0
IsQuiet Status.Done = ⊤
IsQuiet (Status.BadTape place) = ⊤
IsQuiet Status.ReadFault = ⊤
IsQuiet Status.TooLong = ⊤
IsQuiet Status.Feed = ⊤
IsQuiet Status.WriteFault = ⊤
IsQuiet Status.Memory = ⊤
IsQuiet status = ⊥

pub finish_quiet : (status : Status) → IsFinished status → IsQuiet status
finish_quiet status is = by_finished (λ s. IsQuiet s) tt tt tt status is

pub tape_quiet : (fault : TapeFault) → IsQuiet (status_of_tape fault)
tape_quiet (TapeFault.Torn p) = tt
tape_quiet (TapeFault.BadName p) = tt
tape_quiet (TapeFault.TooLong p) = tt
tape_quiet TapeFault.Failed = tt
tape_quiet TapeFault.Budget = tt
tape_quiet TapeFault.Memory = tt

pub unread_quiet : (status : Status) → IsUnread status → IsQuiet status
unread_quiet Status.Feed is = tt
unread_quiet Status.Memory is = tt
unread_quiet status is = absurd is

pub quiet_not : (status other : Status) → IsQuiet status → (IsQuiet other → ⊥) → status ≢ other
quiet_not status other quiet not is = not (subst IsQuiet is quiet)

-- ---- what is written

front_longer : (old now x y : List ℕ) → AddsFront old now x → AddsFront old now (x ++ y)
front_longer old now x y h = (h.0, omega (arith, h.1, length-append x y), h.2 ∙ ap (λ (l : List ℕ). old ++ l) (sym (take-append-le h.0 x y h.1)))

stop_written : (status : Status) (lines last old now : List ℕ) → IsStop status → Writes status lines [] old now → Writes status lines last old now
stop_written Status.WriteFault lines last old now stop h = front_longer old now lines last (subst (AddsFront old now) (append-nil lines) h)
stop_written Status.Memory lines last old now stop h = front_longer old now lines last (subst (AddsFront old now) (append-nil lines) h)
stop_written Status.Disk lines last old now stop h = h
stop_written (Status.BadLog p) lines last old now stop h = h
stop_written Status.Authority lines last old now stop h = h
stop_written Status.Repos lines last old now stop h = h
stop_written (Status.Full e) lines last old now stop h = h
stop_written Status.SeqEnd lines last old now stop h = h
stop_written Status.Clock lines last old now stop h = h
stop_written status lines last old now stop h = absurd stop

-- the last line behind the others
pub last_behind : (status : Status) (lines last old mid now : List ℕ) → mid ≡ old ++ lines → Writes status [] last mid now → Writes status lines last old now
last_behind status lines last old mid now is wrote = subst (λ (l : List ℕ). Writes status l last old now) (append-nil lines) (writes_behind status old mid now lines [] last is wrote)

-- the lines alone, where the messages ended it
pub tape_written : (fault : TapeFault) (lines last old now : List ℕ) → now ≡ old ++ lines → Writes (status_of_tape fault) lines last old now
tape_written (TapeFault.Torn p) lines last old now is = is
tape_written (TapeFault.BadName p) lines last old now is = is
tape_written (TapeFault.TooLong p) lines last old now is = is
tape_written TapeFault.Failed lines last old now is = is
tape_written TapeFault.Budget lines last old now is = is
tape_written TapeFault.Memory lines last old now is = front_longer old now lines last (whole_front old now lines is)

pub unread_written : (status : Status) (lines last old now : List ℕ) → IsUnread status → now ≡ old ++ lines → Writes status lines last old now
unread_written Status.Feed lines last old now one is = is
unread_written Status.Memory lines last old now one is = front_longer old now lines last (whole_front old now lines is)
unread_written status lines last old now one is = absurd one

-- ---- a fault stopped it

module _ (t : Tells) (J : List Row) (xs : List Message) (a c : Point) (status : Status) (stop : IsStop status) (h : Stopped t J xs a c status) (none : a.tally.ended.items ≡ []) (records : AreRecords xs) where
  abbrev pub stopped_taken : StepsTaken t J [] a.place c.place status
  stopped_taken = record {
    steps = h.taken.steps;
    under = h.taken.under;
    extra = h.taken.extra;
    behind = h.taken.behind;
    good = h.taken.good;
    which_under = h.taken.which_under;
    few_extra = h.taken.few_extra;
    which_extra = h.taken.which_extra;
    all = h.taken.all;
    are = λ checks opens links. subst (λ (e : List (List ℕ)). AreSteps checks J e (h.taken.steps ++ (h.taken.under ++ h.taken.extra))) none (h.taken.are checks opens links);
    journal = h.taken.journal;
    mid = h.taken.mid;
    asked = h.taken.asked;
    stops = h.taken.stops;
    still = h.taken.still;
    next = h.taken.next;
    told = h.taken.told;
  }

  pub stopped_ran : Ran t J a c status stopped_taken
  stopped_ran = record {
    records = subst AreRecords h.front records;
    store = h.store;
    written = λ told. stop_written status (lines_of h.taken.steps) _ a.place.written c.place.written stop (h.written told);
  }

-- ---- all that was read was taken

module _ (t : Tells) (J : List Row) (xs : List Message) (a : Point) (store : StoreState) (tally : Tally) (one two : View) (around : Around) (w now : List ℕ) (failed failed_now : Faults) where
  abbrev pub taken_at : Point
  taken_at = record { store = store; tally = tally; place = at_place one two around w failed }

  abbrev pub ended_at : Point
  ended_at = record { store = store; tally = tally; place = at_place one two around now failed_now }

  module _ (h : Going t J xs a taken_at) (none : a.tally.ended.items ≡ []) (records : AreRecords xs) (nothing : NothingFailed a.place taken_at.place) (status : Status) (quiet : IsQuiet status)
      (told : (X : Type 0) → ToldBut X ⊥ status taken_at.place ended_at.place) (written : IsTrue t.output → Writes status (lines_of h.steps) (end_line J (messages h.steps) (rows h.steps)) a.place.written now) where
    pub same : h.steps ≡ h.steps ++ []
    same = sym (append-nil h.steps)

    abbrev pub quiet_taken : StepsTaken t J [] a.place ended_at.place status
    quiet_taken = record {
      steps = h.steps;
      under = [];
      extra = [];
      behind = [];
      good = λ place. quiet_not status (Status.BadLog place) quiet (λ no. no);
      which_under = λ _. refl;
      few_extra = omega arith;
      which_extra = λ _. refl;
      all = λ _. refl;
      are = λ checks opens links. subst (λ (l : List Step). AreSteps checks J [] l) same (subst (λ (e : List (List ℕ)). AreSteps checks J e h.steps) none (h.are checks opens links));
      journal = subst (λ (l : List Step). IsJournal (J ++ rows l)) same h.journal;
      mid = around;
      asked = subst (λ (l : List Step). AllAsked t.clock t.repos J a.place.around l around) same h.asked;
      stops = nothing_in_vain t.clock t.repos around around [] (nothing_here t.clock t.repos around);
      still = λ _. nothing_here t.clock t.repos around;
      next = none_ends t (J ++ rows h.steps) [] around around status (quiet_not status Status.SeqEnd quiet (λ no. no)) (quiet_not status Status.Authority quiet (λ no. no));
      told = told_on _ ⊥ status a.place taken_at.place ended_at.place nothing (told _);
    }

    -- their messages are those that were read
    pub all_messages : xs ≡ all_read quiet_taken
    all_messages = sym h.of ∙ ap messages_sent same ∙ sym (append-nil (messages_sent (h.steps ++ [])))

    pub quiet_ran : Ran t J a ended_at status quiet_taken
    quiet_ran = record {
      records = subst AreRecords all_messages records;
      store = record {
        known = λ _. h.known;
        on_disk = λ on keeps.
            let kept = h.on_disk on keeps in
            record {
              keeps = λ _. kept.keeps;
              moments = weaker _ _ (live a) (live taken_at) kept.moments (λ z k. inl k);
              left = λ z left. inl (subst (λ (f : Format). IsLogOf f (J ++ rows h.steps) z) h.format (kept_log (J ++ rows h.steps) store (live taken_at) kept.keeps z left));
            };
        format = h.format;
        most = h.most;
        room = λ _. h.room;
        full = λ e is. absurd (quiet_not status (Status.Full e) quiet (λ no. no) is);
      };
      written = written;
    }

-- ---- the numbers in the last line

module _ (t : Tells) (J : List Row) (xs : List Message) (a b : Point) (h : Going t J xs a b) where
  pub line_of_run : a.tally.messages ≡ 0 → a.tally.events ≡ 0 → a.tally.refused ≡ 0 → end_line_of b.tally.messages b.tally.events b.tally.refused b.store.core.last ≡ end_line J (messages h.steps) (rows h.steps)
  line_of_run m e r =
      let steps = h.steps in
      let messages_are : b.tally.messages ≡ length (messages steps) = omega (arith, h.noted.messages, m, said_length steps) in
      let events_are : b.tally.events ≡ length (events (rows steps)) =
      omega (arith, h.noted.events, e, given_is some_right.0 J a.tally.ended.items steps (h.are some_right.0 some_right.1 some_right.2)) in
      let refused_are : b.tally.refused ≡ length (filter is_row_refused (rows steps)) = omega (arith, h.noted.refused, r, refused_is steps) in
      (λ i. end_line_of (messages_are i) (events_are i) (refused_are i) (h.known.last i)) ∙ lines_report.end J (messages steps) (rows steps)

  -- the last line behind the lines of the steps
  pub finish_written : a.tally.messages ≡ 0 → a.tally.events ≡ 0 → a.tally.refused ≡ 0 → (last : ℕ) → last ≡ b.store.core.last → (status : Status) (now : List ℕ)
      → (IsTrue t.output → Writes status [] (end_line_of b.tally.messages b.tally.events b.tally.refused last) b.place.written now)
      → IsTrue t.output → Writes status (lines_of h.steps) (end_line J (messages h.steps) (rows h.steps)) a.place.written now
  finish_written m e r last last_is status now wrote told =
      let line : end_line_of b.tally.messages b.tally.events b.tally.refused last ≡ end_line J (messages h.steps) (rows h.steps) =
      ap (λ (k : ℕ). end_line_of b.tally.messages b.tally.events b.tally.refused k) last_is ∙ line_of_run m e r in
      last_behind status (lines_of h.steps) _ a.place.written b.place.written now (h.written told) (subst (λ (l : List ℕ). Writes status [] l b.place.written now) line (wrote told))

-- Groups of a tape, one behind another, and the ways in which taking it ends.
use Rattle.std.proofs.Common.{◌≡◌, ◌≢◌, ℕ, ◌+◌, ◌<◌, Bool, List, [], ◌++◌, length, IsTrue, refl, ap, ◌∙◌, sym, subst, arith, append_assoc}
use Rattle.relay_disk.specs.Disk.{View, IsDisk}
use Rattle.relay_row.specs.declared.row.Row.{Row}
use Rattle.relay_core.specs.Report.{end_line}
use Rattle.relay_step.specs.Around.{Around}
use Rattle.relay_step.specs.Steps.{messages, rows}
use Rattle.store_take.specs.Lines.{end_line_of}
use Rattle.relay_store.specs.Store.{IsOf, StoreState}
use Rattle.store_take.specs.declared.message.Message.{Message}
use Rattle.tape.specs.Reading.{coming, held}
use Rattle.tape.specs.declared.fault.TapeFault.{TapeFault}
use Rattle.tape.specs.declared.tape.Tape.{Tape}
use Rattle.run_base.specs.Ends.{IsFinished, ToldBut, Writes}
use Rattle.run_base.specs.Place.{Faults, Tells}
use Rattle.run_base.specs.declared.status.Status.{Status}
use Rattle.run_base.proofs.Ended.{by_finished}
use Rattle.take_run.specs.Ends.{IsStop, status_of_tape}
use Rattle.take_run.specs.Going.{Going, IsNew, NothingFailed, Point, Stopped, TapeTaken, live}
use Rattle.take_run.specs.Groups.{AreRead, FollowsOn, IsGroup}
use Rattle.take_run.specs.Ingested.{input_at}
use Rattle.take_run.specs.Lines.{lines_of}
use Rattle.take_run.specs.Tapes.{AreRecords, EndsTape, IsOnTape, encoded_records}
use Rattle.take_run.specs.declared.group.Rest.{Rest}
use Rattle.take_run.specs.declared.tally.Tally.{Tally}
use Rattle.take_run.proofs.Ending.{IsQuiet, all_messages, ended_at, finish_quiet, finish_written, quiet_ran, quiet_taken, stopped_ran, stopped_taken, taken_at, tape_quiet, tape_written}
use Rattle.take_run.proofs.Groups.{goes_on, stops_on}
use Rattle.take_run.proofs.Joining.{nothing_taken}
use Rattle.take_run.proofs.Records.{length_joined, records_joined, encoded_joined, taken_within}
use Rattle.take_run.proofs.Telling.{nothing_told}

-- ---- what ends the tape

stop_ends : (limit size : ℕ) (part after : List ℕ) (status : Status) → IsStop status → EndsTape limit size part after status
stop_ends limit size part after Status.Done stop = absurd stop
stop_ends limit size part after (Status.BadTape p) stop = absurd stop
stop_ends limit size part after Status.ReadFault stop = absurd stop
stop_ends limit size part after Status.TooLong stop = absurd stop
stop_ends limit size part after status stop = tt

finished_ends : (limit size : ℕ) (part after : List ℕ) (status : Status) → IsFinished status → part ≡ [] → after ≡ [] → size < limit → EndsTape limit size part after status
finished_ends limit size part after status is none ended short =
    by_finished (λ s. EndsTape limit size part after s) (none, ended, short) tt tt status is

fault_ends : (limit size : ℕ) (tape : Tape) (after : List ℕ) (fault : TapeFault) → tape.place ≡ size → tape.most ≡ limit → FollowsOn tape after (Rest.Fault fault) → EndsTape limit size (held tape) after (status_of_tape fault)
fault_ends limit size tape after (TapeFault.Torn place) here most h = (h.0, h.1 ∙ here)
fault_ends limit size tape after (TapeFault.BadName place) here most h = (h.0, h.1 ∙ here)
fault_ends limit size tape after (TapeFault.TooLong place) here most h = (h.0, h.1 ∙ here)
fault_ends limit size tape after TapeFault.Failed here most h = h
fault_ends limit size tape after TapeFault.Budget here most h = (h.0, omega (arith, h.1, here, most))
fault_ends limit size tape after TapeFault.Memory here most h = tt

-- ---- so far

-- the messages that were read so far were taken
pub record IsReading (input_tells : Bool) (before : List ℕ) (tape : Tape) (left : List ℕ) (t : Tells) (a b : Point) : Type 0 where
  pub read : List Message
  pub split : IsTrue input_tells → before ≡ encoded_records read ++ coming tape left
  pub records : AreRecords read
  pub place : tape.place ≡ length (encoded_records read)
  pub going : (J : List Row) → IsOf J a.store.core → Going t J read a b

pub starts_reading : (input_tells : Bool) (before : List ℕ) (tape : Tape) (t : Tells) (a : Point) → IsDisk (live a) → held tape ≡ [] → tape.place ≡ 0 → IsReading input_tells before tape before t a a
starts_reading input_tells before tape t a is_disk none zero = record {
  read = [];
  split = λ told. ap (λ (l : List ℕ). l ++ before) (sym none);
  records = tt;
  place = zero;
  going = λ J of. nothing_taken t J a is_disk of;
}

module _ (input_tells : Bool) (before : List ℕ) (tape next : Tape) (left after : List ℕ) (t : Tells) (a b : Point) (so_far : IsReading input_tells before tape left t a b)
    (items group : List Message) (rest : Rest) (same : group ≡ items) (is_group : IsTrue input_tells → IsGroup tape left next after items rest) (are : AreRecords items) (place : next.place ≡ tape.place + length (encoded_records items)) where
  group_read : IsTrue input_tells → IsGroup tape left next after group rest
  group_read told = subst (λ (l : List Message). IsGroup tape left next after l rest) (sym same) (is_group told)

  abbrev read_now : List Message
  read_now = so_far.read ++ group

  all_records : AreRecords read_now
  all_records = records_joined so_far.read group so_far.records (subst AreRecords (sym same) are)

  all_place : next.place ≡ length (encoded_records read_now)
  all_place = omega (arith, place, so_far.place, length_joined so_far.read group, ap (λ (l : List Message). length (encoded_records l)) same)

  more_read : IsTrue input_tells → (behind : List ℕ) → AreRead tape left group behind → before ≡ encoded_records read_now ++ behind
  more_read told behind h = so_far.split told ∙ ap (λ (l : List ℕ). encoded_records so_far.read ++ l) h ∙ sym (append_assoc (encoded_records so_far.read) (encoded_records group) behind)
      ∙ ap (λ (l : List ℕ). l ++ behind) (sym (encoded_joined so_far.read group))

  more_going : (c : Point) → ((K : List Row) → IsOf K b.store.core → Going t K group b c) → (J : List Row) → IsOf J a.store.core → Going t J read_now a c
  more_going c recorded J of = goes_on t J so_far.read group read_now a b c refl (so_far.going J of) recorded

  -- and the next group
  pub reads_on : (c : Point) → ((K : List Row) → IsOf K b.store.core → Going t K group b c) → IsReading input_tells before next after t a c
  reads_on c recorded = record {
    read = read_now;
    split = λ told. more_read told (coming next after) (group_read told).read;
    records = all_records;
    place = all_place;
    going = more_going c recorded;
  }

  module _ (limit : ℕ) (most : next.most ≡ limit) (J : List Row) (of : IsOf J a.store.core) (new : IsNew a.tally) (i i_now : ℕ) where
    on_tape : (status : Status) → (IsTrue input_tells → EndsTape limit (length (encoded_records read_now)) (held next) after status) → IsTrue input_tells → IsOnTape limit before after read_now status
    on_tape status ends told = record {
      part = held next;
      front = more_read told (coming next after) (group_read told).read;
      within = omega (arith, all_place, most, taken_within next);
      ends = ends told;
    }

    follows : (what : Rest) → rest ≡ what → IsTrue input_tells → FollowsOn next after what
    follows what is told = subst (λ (r : Rest). FollowsOn next after r) is (group_read told).follows

    -- a fault stops it
    pub tape_stops : NothingFailed a.place b.place → (c : Point) (status : Status) → IsStop status → ((K : List Row) → IsOf K b.store.core → Stopped t K group b c status) → TapeTaken t input_tells limit J a c (input_at before i) (input_at after i_now) status
    tape_stops nothing c status stop stopped =
        let h : Stopped t J read_now a c status = stops_on t J so_far.read group read_now a b c refl (so_far.going J of) nothing status stopped in
        record {
          taken = stopped_taken t J read_now a c status stop h new.ended all_records;
          ran = stopped_ran t J read_now a c status stop h new.ended all_records;
          from = λ told. subst (λ (l : List Message). IsOnTape limit before after l status) h.front (on_tape status (λ _. stop_ends limit (length (encoded_records read_now)) (held next) after status stop) told);
          told = λ not no_read. absurd (not h.before);
        }

    -- all that was read was taken
    module _ (store : StoreState) (tally : Tally) (one two : View) (around : Around) (w now : List ℕ) (failed failed_now : Faults) where
      abbrev here : Point
      here = taken_at t J read_now a store tally one two around w now failed failed_now

      abbrev there : Point
      there = ended_at t J read_now a store tally one two around w now failed failed_now

      module _ (nothing : NothingFailed a.place here.place) (recorded : (K : List Row) → IsOf K b.store.core → Going t K group b here) where
        going : Going t J read_now a here
        going = more_going here recorded J of

        quietly : (status : Status) → IsQuiet status → ((X : Type 0) → ToldBut X ⊥ status here.place there.place) → (IsTrue t.output → Writes status (lines_of going.steps) (end_line J (messages going.steps) (rows going.steps)) a.place.written now)
            → (IsTrue input_tells → EndsTape limit (length (encoded_records read_now)) (held next) after status) → (status ≢ Status.ReadFault → i_now ≡ i) → TapeTaken t input_tells limit J a there (input_at before i) (input_at after i_now) status
        quietly status quiet told written ends still = record {
          taken = quiet_taken t J read_now a store tally one two around w now failed failed_now going new.ended all_records nothing status quiet told written;
          ran = quiet_ran t J read_now a store tally one two around w now failed failed_now going new.ended all_records nothing status quiet told written;
          from = λ tells. subst (λ (l : List Message). IsOnTape limit before after l status) (all_messages t J read_now a store tally one two around w now failed failed_now going new.ended all_records nothing status quiet told written) (on_tape status ends tells);
          told = λ not no_read. still no_read;
        }

        -- the tape has ended, and the last line is written, or isn't
        pub tape_finishes : rest ≡ Rest.Nothing → i_now ≡ i → (last : ℕ) → last ≡ store.core.last → (status : Status) → IsFinished status → ((X : Type 0) → ToldBut X ⊥ status here.place there.place)
            → (IsTrue t.output → Writes status [] (end_line_of tally.messages tally.events tally.refused last) w now) → TapeTaken t input_tells limit J a there (input_at before i) (input_at after i_now) status
        tape_finishes is still last last_is status finished told wrote = quietly status (finish_quiet status finished) told (finish_written t J read_now a here going new.messages new.events new.refused last last_is status now wrote)
            (λ tells.
            let ended = follows Rest.Nothing is tells in
            finished_ends limit (length (encoded_records read_now)) (held next) after status finished ended.0 ended.1 (omega (arith, ended.2, ap length ended.0, all_place, most)))
            (λ _. still)

        -- the reader of the tape ends it
        pub tape_ends : now ≡ w → failed_now ≡ failed → (fault : TapeFault) → rest ≡ Rest.Fault fault → (status : Status) → status ≡ status_of_tape fault → (status ≢ Status.ReadFault → i_now ≡ i) → TapeTaken t input_tells limit J a there (input_at before i) (input_at after i_now) status
        tape_ends same still_failed fault is status at still = quietly status (subst IsQuiet (sym at) (tape_quiet fault))
            (λ X. nothing_told X ⊥ status here.place there.place (record { counts = still_failed; unspent = λ _ spent. spent }))
            (λ tells. subst (λ (s : Status). Writes s (lines_of going.steps) (end_line J (messages going.steps) (rows going.steps)) a.place.written now) (sym at)
            (tape_written fault (lines_of going.steps) _ a.place.written now (same ∙ going.written tells)))
            (λ tells. subst (EndsTape limit (length (encoded_records read_now)) (held next) after) (sym at) (fault_ends limit (length (encoded_records read_now)) next after fault all_place most (follows (Rest.Fault fault) is tells)))
            still

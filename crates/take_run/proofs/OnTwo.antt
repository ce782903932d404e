-- What a run did on two disks, from what it did on the one that the store is open on.
use Rattle.std.proofs.Common.{◌≡◌, ◌≢◌, inl, inr, ⊎_elim, ℕ, List, [], ◌∷◌, ◌++◌, Ok, Err, IsTrue, refl, sym, ap, ◌∙◌, subst}
use Rattle.std.proofs.lemmas.List.{append-nil}
use Rattle.relay_disk.specs.Disk.{View, IsDisk}
use Rattle.relay_disk.specs.Moments.{PairLeavesOnly}
use Rattle.gate_log.specs.Image.{HasFront}
use Rattle.gate_log.specs.Pick.{IsPicked, LeavesSide, other_side, view_of_side}
use Rattle.gate_log.specs.declared.format.Format.{Format}
use Rattle.gate_log.specs.declared.picking.Side.{Side}
use Rattle.gate_log.specs.declared.picking.Side.TheVariants.{One, Two}
use Rattle.relay_row.specs.declared.row.Row.{Row}
use Rattle.relay_step.specs.Around.{Around}
use Rattle.relay_step.specs.Steps.{Step, rows}
use Rattle.relay_step.proofs.Blocks.{steps_give}
use Rattle.store_take.specs.Batches.{messages_sent}
use Rattle.relay_store.specs.Journals.{IsOneOf, IsPairImageOf}
use Rattle.relay_store.specs.Opening.{IsOfReading, Opened}
use Rattle.relay_store.specs.Pairs.{IsOneOfPair, StandsFor, of_pair}
use Rattle.relay_store.specs.Store.{IsOf, Keeps, StoreState, seen_in}
use Rattle.relay_store.specs.declared.fault.StoreFault.{StoreFault}
use Rattle.relay_store.specs.declared.store.Store.{Store}
use Rattle.relay_store.proofs.Beside.{ComesBeside, image_of_side, leaves_on, leaves_stand, log_front, opened_keeps, opened_leaves, run_on, stands_on, view_now, view_on}
use Rattle.relay_store.proofs.OnDisk.{pair_has_no_room, pair_has_room}
use Rattle.chain_law.specs.Made.{AreOfBytes}
use Rattle.chain_law.proofs.Making.{steps_given}
use Rattle.run_base.specs.Ends.{Shows}
use Rattle.run_base.specs.Place.{Faults, Tells, at_place}
use Rattle.run_base.specs.Statuses.{status_of_fault}
use Rattle.run_base.specs.declared.status.Status.{Status}
use Rattle.run_base.proofs.Ended.{fault_writes}
use Rattle.take_run.specs.Crashes.{IsOnTheWay, IsPairOnTheWay, Leaves}
use Rattle.take_run.specs.Going.{Point, Ran, live}
use Rattle.take_run.specs.Taken.{StepsTaken, Took, Unopened, all_steps}
use Rattle.take_run.specs.Tapes.{AreRecords}
use Rattle.take_run.specs.declared.tally.Tally.{Tally}
use Rattle.take_run.proofs.Records.{records_front}
use Rattle.take_run.proofs.Sounds.{covered_get_through, sounds, stays_faithful}
use Rattle.take_run.proofs.Telling.{told_on}

-- they weren't opened
pub unopened : (t : Tells) (most : ℕ) (one two one_now two_now : View) (fault : StoreFault) (J : List Row) (around : Around) (written : List ℕ) (failed failed_now : Faults) (status : Status) → IsDisk one_now → IsDisk two_now
    → Opened t.disk one two one_now two_now (Err fault) → IsTrue t.disk → IsPairImageOf J one.content two.content → IsOfReading fault → status ≡ status_of_fault fault
    → Unopened t most J (at_place one two around written failed) (at_place one_now two_now around written failed_now) status
unopened t most one two one_now two_now fault J around written failed failed_now status first second opened told image of is =
    let leaves : StandsFor J one two → PairLeavesOnly (IsPairImageOf J) one one_now two two_now = opened_leaves t.disk one two one_now two_now (Err fault) opened told J in
    record {
      fault = fault;
      is = is;
      of_reading = of;
      does = record {
        stands = λ n. ⊎_elim (λ none. absurd none) (λ stands. leaves_stand J one two one_now two_now first second (leaves stands));
        crashes = leaves;
        room = λ _. inl refl;
        journal = image.are.journal;
        sound = λ _ sound. sound;
        faithful = λ faithful. faithful;
        given = λ checks opens links repos given. given;
        written = λ _. fault_writes fault status [] written is;
      };
    }

-- each message that was read is bytes
sent_bytes : (steps : List Step) → AreRecords (messages_sent steps) → AreOfBytes steps
sent_bytes [] all = tt
sent_bytes (s ∷ steps) all = (all.1, sent_bytes steps all.2)

full_not : (e : ℕ) → Status.Full e ≡ Status.Disk → ⊥
full_not e is = cc

-- what the bytes of the disks were
pub still_shows : (status : Status) (one two : List ℕ) (J : List Row) → IsPairImageOf J one two → ((place : ℕ) → status ≢ Status.BadLog place) → Shows status one two
still_shows Status.Disk one two J image good = tt
still_shows Status.Memory one two J image good = tt
still_shows (Status.BadLog p) one two J image good = absurd (good p refl)
still_shows status one two J image good = (J, image)

-- ---- crashes

-- the journal with none of the rows
none_yet : (J R U : List Row) (c d : List ℕ) → IsPairImageOf J c d → IsPairOnTheWay J R U c d
none_yet J R U c d image = inl (record { front = []; others = R; split = refl; image = subst (λ (K : List Row). IsPairImageOf K c d) (sym (append-nil J)) image })

on_the_way : (side : Side) (J R U : List Row) (format : Format) → ComesBeside side J format (IsOnTheWay format J R U) (IsPairOnTheWay J R U)
on_the_way side J R U format c d (inl so_far) image =
    ⊎_elim (none_yet J R U c d) (λ some. inl (record { front = so_far.front; others = so_far.others; split = so_far.split; image = some })) (image (J ++ so_far.front) so_far.log)
on_the_way side J R U format c d (inr log) image = ⊎_elim (none_yet J R U c d) (λ all. inr all) (image ((J ++ R) ++ U) log)

module _ {D : Type 0} (view : D → View) (e f : D) where
  -- what is left of the side that is picked is left of the two
  left_on : (side : Side) (K rows : List Row) (format : Format) → LeavesSide side (view e) (view f) → ((z : List ℕ) → (view (of_pair side e f)).may_leave z → IsOneOf format K rows z)
      → (x y : List ℕ) → (view e).may_leave x → (view f).may_leave y → IsOneOfPair K rows x y
  left_on One K rows format leaves logs x y left beside =
      ⊎_elim (λ log. inl (image_of_side K One format x y (leaves x y left beside) log)) (λ log. inr (image_of_side (K ++ rows) One format x y (leaves x y left beside) log)) (logs x left)
  left_on Two K rows format leaves logs x y left beside =
      ⊎_elim (λ log. inl (image_of_side K Two format x y (leaves x y left beside) log)) (λ log. inr (image_of_side (K ++ rows) Two format x y (leaves x y left beside) log)) (logs y beside)

-- ---- the whole command

module _ {D : Type 0} (view : D → View) (is_disk : (x : D) → IsDisk (view x)) (a b c d : D) (t : Tells) (told : IsTrue t.disk) (s : Store) (opened : Opened t.disk (view a) (view b) (view c) (view d) (Ok s))
    (J : List Row) (image : IsPairImageOf J (view a).content (view b).content) where
  keeps : Keeps J (seen_in s) (view_of_side s.side (view c) (view d))
  keeps = opened_keeps t.disk (view a) (view b) (view c) (view d) s opened told J image

  pub opened_of : IsOf J (seen_in s).core
  opened_of = record { holds = keeps.core; journal = keeps.are.journal }

  module _ (e f : D) (u : StoreState) (side : u.side ≡ s.side) (beside : of_pair (other_side s.side) e f ≡ of_pair (other_side s.side) c d) (most : ℕ) (most_is : s.log.most ≡ most) (tally after : Tally) (old new : Around) (written written_now : List ℕ) (failed mid failed_now : Faults) (still : mid ≡ failed) (status : Status) where
    abbrev from_here : Point
    from_here = record { store = seen_in s; tally = tally; place = at_place (view c) (view d) old written mid }

    abbrev to_there : Point
    to_there = record { store = u; tally = after; place = at_place (view e) (view f) new written_now failed_now }

    module _ (taken : StepsTaken t J [] from_here.place to_there.place status) (ran : Ran t J from_here to_there status taken) where
      now_on : live to_there ≡ view (of_pair s.side e f)
      now_on = ap (λ (x : Side). view_of_side x (view e) (view f)) side ∙ view_now view is_disk a b c d e f s.side

      leaves : Leaves J (rows taken.steps) (rows taken.under) (seen_in s) (view (of_pair s.side c d)) u (view (of_pair s.side e f)) status
      leaves = subst (λ (v : View). Leaves J (rows taken.steps) (rows taken.under) (seen_in s) (view (of_pair s.side c d)) u v status) now_on
          (subst (λ (v : View). Leaves J (rows taken.steps) (rows taken.under) (seen_in s) v u (live to_there) status) (view_on view is_disk a b c d e f s.side) (ran.store.on_disk told keeps))

      fronts : (x : List ℕ) → (view (of_pair s.side e f)).may_leave x → HasFront (seen_in s).log.format x
      fronts x is = ⊎_elim (log_front (seen_in s).log.format (J ++ rows taken.steps) x) (log_front (seen_in s).log.format ((J ++ rows taken.steps) ++ rows taken.under) x) (leaves.left x is)

      side_left : LeavesSide s.side (view e) (view f)
      side_left = leaves_on view is_disk a b c d e f s.side J (seen_in s) beside keeps fronts (opened.side told)

      picked : IsPicked (view e).content (view f).content s.side
      picked = side_left (view e).content (view f).content (is_disk e).possible (is_disk f).possible

      keeps_now : status ≢ Status.Disk → Keeps (J ++ rows taken.steps) u (view_of_side s.side (view e) (view f))
      keeps_now not = subst (Keeps (J ++ rows taken.steps) u) (sym (view_now view is_disk a b c d e f s.side)) (leaves.keeps not)

      all_records : AreRecords (messages_sent (all_steps taken))
      all_records = records_front (messages_sent (all_steps taken)) taken.behind ran.records

      -- the same steps, from where they were opened
      abbrev pub whole : StepsTaken t J [] (at_place (view a) (view b) old written failed) to_there.place status
      whole = record {
        steps = taken.steps;
        under = taken.under;
        extra = taken.extra;
        behind = taken.behind;
        good = taken.good;
        which_under = taken.which_under;
        few_extra = taken.few_extra;
        which_extra = taken.which_extra;
        all = taken.all;
        are = taken.are;
        journal = taken.journal;
        mid = taken.mid;
        asked = taken.asked;
        stops = taken.stops;
        still = taken.still;
        next = taken.next;
        told = told_on _ ⊥ status (at_place (view a) (view b) old written failed) from_here.place to_there.place (record { counts = still; unspent = λ _ spent. spent }) taken.told;
      }

      pub took : Took t most J (at_place (view a) (view b) old written failed) to_there.place status whole
      took = record {
        records = ran.records;
        does = record {
          stands = λ n _. stands_on view is_disk a b c d e f s.side J (J ++ rows taken.steps) (seen_in s) u beside ran.store.format keeps (leaves.keeps n) (opened.side told);
          crashes = λ stands. run_on view is_disk a b c d e f s.side J (seen_in s) (IsOnTheWay (seen_in s).log.format J (rows taken.steps) (rows taken.under)) (IsPairOnTheWay J (rows taken.steps) (rows taken.under)) beside keeps
              (opened_leaves t.disk (view a) (view b) (view c) (view d) (Ok s) opened told J stands) leaves.moments (none_yet J (rows taken.steps) (rows taken.under)) (on_the_way s.side J (rows taken.steps) (rows taken.under) (seen_in s).log.format);
          room = λ not. ⊎_elim
              (λ none. inl (ap (λ (l : List Row). J ++ l) none.0 ∙ append-nil J))
              (λ within. inr (pair_has_room (J ++ rows taken.steps) u s.side (view e) (view f) (keeps_now not) picked most (ran.store.most ∙ most_is) within))
              (ran.store.room not);
          journal = taken.journal;
          sound = λ _. sounds J (all_steps taken) all_records taken.journal taken.are (all_steps taken) [] (sym (append-nil (all_steps taken)));
          faithful = stays_faithful J (all_steps taken) all_records taken.journal taken.are (steps_give t.clock t.repos J old taken.mid (all_steps taken) taken.journal taken.asked) (all_steps taken) [] (sym (append-nil (all_steps taken)));
          given = λ checks opens links repos given. steps_given checks t.clock t.repos J [] old taken.mid (all_steps taken) repos (sent_bytes (all_steps taken) all_records) given (taken.are checks opens links) taken.asked;
          written = ran.written;
        };
        left = left_on view e f s.side (J ++ rows taken.steps) (rows taken.under) (seen_in s).log.format side_left leaves.left;
        full = λ n is.
            let full = ran.store.full n is in
            (full.0, full.1, pair_has_no_room (J ++ rows taken.steps) u s.side (view e) (view f) (keeps_now (λ disk. full_not n (sym is ∙ disk))) picked most full.0 n (ran.store.most ∙ most_is) full.2);
        sound = sounds J (all_steps taken) all_records taken.journal taken.are;
        faithful = stays_faithful J (all_steps taken) all_records taken.journal taken.are (steps_give t.clock t.repos J old taken.mid (all_steps taken) taken.journal taken.asked);
        covered = covered_get_through J [] (all_steps taken) all_records taken.are;
      }

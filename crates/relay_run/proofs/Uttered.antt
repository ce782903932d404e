-- What an operator's command did, from what the store answered.
use Rattle.std.proofs.Common.{◌≡◌, ◌≢◌, inl, inr, ◌⊎◌, ⊎_elim, ℕ, List, [], ◌∷◌, ◌++◌, length, Result, Ok, Err, IsTrue, refl, sym, ◌∙◌, ap, subst, arith}
use Rattle.std.specs.Prelude.{⊤}
use Rattle.std.proofs.lemmas.List.{append-nil}
use Rattle.relay_disk.specs.Disk.{View, IsDisk}
use Rattle.relay_disk.specs.Moments.{LeavesOnly, PairLeavesOnly}
use Rattle.gate_log.specs.Pick.{LeavesSide, other_side, view_of_side}
use Rattle.relay_row.specs.declared.row.Row.{Row}
use Rattle.relay_core.specs.Entries.{Holds}
use Rattle.relay_core.specs.declared.journal_state.Core.{Core}
use Rattle.relay_step.specs.Around.{Around}
use Rattle.relay_step.specs.Commands.{rows_commanded}
use Rattle.relay_step.specs.declared.command.CommandAnswer.{CommandAnswer}
use Rattle.chain_law.specs.Made.{GiveBytes}
use Rattle.store_take.specs.Commands.{IsAnswer, CommandDone, Commanded, added, done_of, done_row}
use Rattle.relay_store.specs.Faults.{IsCause}
use Rattle.relay_store.specs.Journals.{IsOneOf, IsPairImageOf}
use Rattle.relay_store.specs.Opening.{IsOfReading, Opened}
use Rattle.relay_store.specs.Pairs.{IsOneOfPair, StandsFor, of_pair}
use Rattle.relay_store.specs.PendingBodies.{IsFull}
use Rattle.relay_store.specs.Room.{PairHasNoRoom, PairHasRoom}
use Rattle.relay_store.specs.Store.{IsOf, Keeps, StoreState, seen_in}
use Rattle.store_take.specs.Taking.{ComesOfAsking}
use Rattle.store_take.specs.declared.done.Done.{Done}
use Rattle.relay_store.specs.declared.fault.StoreFault.{StoreFault}
use Rattle.relay_store.specs.declared.store.Store.{Store}
use Rattle.relay_store.proofs.Beside.{both_same, kept_fronts, kept_stands, leaves_on, leaves_stand, one_beside, opened_keeps, opened_leaves, run_on, stands_on, view_now, view_on}
use Rattle.relay_store.proofs.OnDisk.{ends_within, pair_has_no_room, pair_has_room}
use Rattle.run_base.specs.Deeds.{answered, by_end, in_vain, unopened}
use Rattle.run_base.specs.Ends.{Writes}
use Rattle.run_base.specs.Place.{Faults, Tells, at_place}
use Rattle.run_base.specs.Statuses.{status_of_fault}
use Rattle.run_base.specs.declared.status.Status.{Status}
use Rattle.run_base.proofs.Ended.{by_fault, fault_writes, ok_not, other_status, same_fault}
use Rattle.relay_run.specs.CommandRan.{CommandRan, EndsCommand}
use Rattle.relay_run.specs.Lines.{IsDone, IsEndOf, done_text}
use Rattle.relay_run.proofs.Ending.{by_done}
use Rattle.relay_run.proofs.Given.{Gives}
use Rattle.relay_run.proofs.Sounds.{Leaves}

-- ---- how a command ends by its word

done_made : (no_room : Row → ℕ → Type 0) (row : Row) (status : Status) → IsDone status → EndsCommand no_room (CommandAnswer.Made row) status
done_made no_room row status (inl is) = subst (EndsCommand no_room (CommandAnswer.Made row)) (sym is) tt
done_made no_room row status (inr is) = subst (EndsCommand no_room (CommandAnswer.Made row)) (sym is) tt

-- a row is an event, or a repository that was taken over
row_done : (row : Row) (status : Status) → IsEndOf (done_row row) status → IsDone status
row_done (Row.Taken t) status is = is
row_done (Row.Synced did whole moment) status is = is
row_done (Row.Operated o) status is = is
row_done (Row.Carried c) status is = is

ends_command : (no_room : Row → ℕ → Type 0) (command : CommandAnswer) (status : Status) → IsEndOf (done_of command) status → EndsCommand no_room command status
ends_command no_room (CommandAnswer.Made row) status is = done_made no_room row status (row_done row status is)
ends_command no_room (CommandAnswer.Refused r) status (inl is) = subst (EndsCommand no_room (CommandAnswer.Refused r)) (sym is) refl
ends_command no_room (CommandAnswer.Refused r) status (inr (inl is)) = subst (EndsCommand no_room (CommandAnswer.Refused r)) (sym is) tt
ends_command no_room (CommandAnswer.Refused r) status (inr (inr is)) = subst (EndsCommand no_room (CommandAnswer.Refused r)) (sym is) tt

-- behind what was answered the row is durable
row_kept : (command : CommandAnswer) (status : Status) → IsEndOf (done_of command) status → by_end status (rows_commanded command) [] ≡ rows_commanded command
row_kept (CommandAnswer.Made row) status is = by_done (row ∷ []) [] status (row_done row status is)
row_kept (CommandAnswer.Refused r) status (inl is) = ap (λ (s : Status). by_end s (no_rows) (no_rows)) is
  where
    no_rows : List Row
    no_rows = []
row_kept (CommandAnswer.Refused r) status (inr (inl is)) = ap (λ (s : Status). by_end s (no_rows) (no_rows)) is
  where
    no_rows : List Row
    no_rows = []
row_kept (CommandAnswer.Refused r) status (inr (inr is)) = ap (λ (s : Status). by_end s (no_rows) (no_rows)) is
  where
    no_rows : List Row
    no_rows = []

-- neither done nor stopped by the output, it made no row
pub none_made : (done : Done) (status : Status) → IsEndOf done status → status ≢ Status.Done → status ≢ Status.WriteFault → (command : CommandAnswer) → done ≡ done_of command → rows_commanded command ≡ []
none_made done status ends not_done not_written command is = by command (subst (λ (x : Done). IsEndOf x status) is ends)
  where
    by : (w : CommandAnswer) → IsEndOf (done_of w) status → rows_commanded w ≡ []
    by (CommandAnswer.Made row) end = absurd (⊎_elim not_done not_written (row_done row status end))
    by (CommandAnswer.Refused r) end = refl

-- a fault behind a word
fault_word : (no_room : Row → ℕ → Type 0) (command : CommandAnswer) (fault : StoreFault) (s : StoreState) → IsAnswer s.log command (Err fault) → ((row : Row) (e : ℕ) → fault ≡ StoreFault.Full e → IsFull s.log [] row e → no_room row e)
    → EndsCommand no_room command (status_of_fault fault)
fault_word no_room (CommandAnswer.Made row) StoreFault.Disk s is full = tt
fault_word no_room (CommandAnswer.Made row) (StoreFault.BadLog p) s is full = absurd is
fault_word no_room (CommandAnswer.Made row) (StoreFault.Full e) s is full = full row e refl (subst (λ (l : List Row). IsFull s.log [] (head_or row l) e) (sym is.1) is.2)
  where
    head_or : Row → List Row → Row
    head_or d [] = d
    head_or d (r ∷ rs) = r
fault_word no_room (CommandAnswer.Made row) StoreFault.SeqEnd s is full = absurd is
fault_word no_room (CommandAnswer.Made row) StoreFault.Authority s is full = absurd is
fault_word no_room (CommandAnswer.Made row) StoreFault.Repos s is full = absurd is
fault_word no_room (CommandAnswer.Made row) StoreFault.Memory s is full = tt
fault_word no_room (CommandAnswer.Made row) StoreFault.Clock s is full = absurd is
fault_word no_room (CommandAnswer.Refused r) StoreFault.Disk s is full = tt
fault_word no_room (CommandAnswer.Refused r) (StoreFault.BadLog p) s is full = absurd is
fault_word no_room (CommandAnswer.Refused r) (StoreFault.Full e) s is full = absurd (omega (arith, ap length is.1))
fault_word no_room (CommandAnswer.Refused r) StoreFault.SeqEnd s is full = absurd is
fault_word no_room (CommandAnswer.Refused r) StoreFault.Authority s is full = absurd is
fault_word no_room (CommandAnswer.Refused r) StoreFault.Repos s is full = absurd is
fault_word no_room (CommandAnswer.Refused r) StoreFault.Memory s is full = tt
fault_word no_room (CommandAnswer.Refused r) StoreFault.Clock s is full = absurd is

-- a fault that comes of asking, by its cause
pub vain_by : (X Y : Type 0) (fault : StoreFault) → (fault ≡ StoreFault.SeqEnd → X) → (fault ≡ StoreFault.Authority → Y) → IsCause X Y ⊤ ⊤ fault
vain_by X Y StoreFault.Disk ends spent = tt
vain_by X Y (StoreFault.BadLog p) ends spent = tt
vain_by X Y (StoreFault.Full e) ends spent = tt
vain_by X Y StoreFault.SeqEnd ends spent = ends refl
vain_by X Y StoreFault.Authority ends spent = spent refl
vain_by X Y StoreFault.Repos ends spent = tt
vain_by X Y StoreFault.Memory ends spent = tt
vain_by X Y StoreFault.Clock ends spent = tt

full_not : (e : ℕ) → StoreFault.Full e ≡ StoreFault.Disk → ⊥
full_not e is = cc

-- ---- the whole command

-- the disks weren't opened
pub ran_unopened : (t : Tells) (one two one_now two_now : View) (around around_now : Around) (written : List ℕ) (failed failed_now : Faults) (fault : StoreFault) (status : Status) (J : List Row) (nothing : Type 0) (vain : StoreFault → Type 0) (is_command : CommandAnswer → Type 0) (most : ℕ)
    → IsDisk one_now → IsDisk two_now → Opened t.disk one two one_now two_now (Err fault) → IsTrue t.disk → IsPairImageOf J one.content two.content → status ≡ status_of_fault fault → IsOfReading fault → nothing
    → CommandRan t most J nothing vain is_command (at_place one two around written failed) (at_place one_now two_now around_now written failed_now) status
ran_unopened t one two one_now two_now around around_now written failed failed_now fault status J nothing vain is_command most first second opened told image is few none =
    let leaves : StandsFor J one two → PairLeavesOnly (IsPairImageOf J) one one_now two two_now = opened_leaves t.disk one two one_now two_now (Err fault) opened told J in
    record {
      came = unopened;
      is = (fault, is, few, none);
      does = record {
        stands = λ n. ⊎_elim (λ none. absurd none) (λ stands. leaves_stand J one two one_now two_now first second (leaves stands));
        crashes = leaves;
        room = λ _. inl refl;
        journal = image.are.journal;
        sound = λ _ sound. sound;
        faithful = λ faithful. faithful;
        given = λ checks opens links bytes given. given;
        written = λ _. fault_writes fault status [] written is;
      };
    }

module _ {D : Type 0} (view : D → View) (is_disk : (x : D) → IsDisk (view x)) (a b c d : D) (t : Tells) (told : IsTrue t.disk) (s : Store) (opened : Opened t.disk (view a) (view b) (view c) (view d) (Ok s))
    (J : List Row) (image : IsPairImageOf J (view a).content (view b).content) where
  keeps : Keeps J (seen_in s) (view_of_side s.side (view c) (view d))
  keeps = opened_keeps t.disk (view a) (view b) (view c) (view d) s opened told J image

  -- what is known is of the journal
  pub opened_of : IsOf J (seen_in s).core
  opened_of = record { holds = keeps.core; journal = keeps.are.journal }

  pub opened_holds : Holds (seen_in s).core J
  opened_holds = keeps.core

  opened_stands : StandsFor J (view c) (view d)
  opened_stands = kept_stands s.side J (seen_in s) (view c) (view d) (is_disk c) (is_disk d) (opened.side told) keeps

  still : StandsFor J (view a) (view b) → PairLeavesOnly (IsPairImageOf J) (view a) (view c) (view b) (view d)
  still = opened_leaves t.disk (view a) (view b) (view c) (view d) (Ok s) opened told J

  no_room : (most : ℕ) (row : Row) (e : ℕ) → s.log.most ≡ most → IsFull (seen_in s).log [] row e → PairHasNoRoom most J row e (view c).content (view d).content
  no_room = pair_has_no_room J (seen_in s) s.side (view c) (view d) keeps (opened.side told (view c).content (view d).content (is_disk c).possible (is_disk d).possible)

  module _ (e f : D) (u : Store) (beside : of_pair (other_side s.side) e f ≡ of_pair (other_side s.side) c d) where
    keeps_too : Keeps J (seen_in s) (view (of_pair s.side c d))
    keeps_too = subst (Keeps J (seen_in s)) (view_on view is_disk a b c d e f s.side) keeps

    -- the disks are as they were
    same_here : (Q : D → D → Type 0) → of_pair s.side e f ≡ of_pair s.side c d → Q c d → Q e f
    same_here Q same was =
        let both = both_same view is_disk a b c d e f s.side beside same in
        subst (λ (y : D). Q e y) (sym both.1) (subst (λ (x : D). Q x d) (sym both.0) was)

    -- where no row was added, the side's disk is as it was
    pub untouched : (P : CommandAnswer → Type 0) (failed : Type 0) (result : Result Done StoreFault) → CommandDone view t.disk J P failed (seen_in s) (seen_in u) (of_pair s.side c d) (of_pair s.side e f) result → result ≢ Err StoreFault.Disk
        → ((command : CommandAnswer) → IsAnswer s.log command result → added result (rows_commanded command) ≡ []) → of_pair s.side e f ≡ of_pair s.side c d
    untouched P failed result (inl (command, is, journal, commanded)) other none = (commanded.untouched other (none command commanded.answer)).1.1
    untouched P failed result (inr unsaid) other none = unsaid.disk_same

    module _ (P : Core → CommandAnswer → Type 0) (is_command : CommandAnswer → Type 0) (failed nothing : Type 0) (vain : StoreFault → Type 0) (around around_now : Around) (failures failures_now : Faults) (most : ℕ) (most_is : s.log.most ≡ most)
        (behind : (core : Core) → Holds core J → (command : CommandAnswer) → P core command → is_command command)
        (stays : (core : Core) → Holds core J → (command : CommandAnswer) → P core command → Leaves J command)
        (gives : (core : Core) → Holds core J → (command : CommandAnswer) → P core command → Gives (IsTrue t.repos → GiveBytes around.repository) J command) where
      crashes_of : (rows : List Row) → LeavesOnly (IsOneOf (seen_in s).log.format J rows) (view (of_pair s.side c d)) (view (of_pair s.side e f))
          → StandsFor J (view a) (view b) → PairLeavesOnly (IsOneOfPair J rows) (view a) (view e) (view b) (view f)
      crashes_of rows run stands =
          run_on view is_disk a b c d e f s.side J (seen_in s) (IsOneOf (seen_in s).log.format J rows) (IsOneOfPair J rows) beside keeps (still stands) run (λ x y was. inl was)
          (one_beside s.side J rows (seen_in s).log.format)

      -- the log had room for the row of a word
      had_room : (command : CommandAnswer) (done : Done) → Commanded view t.disk J command (seen_in s) (seen_in u) (of_pair s.side c d) (of_pair s.side e f) (Ok done)
          → (rows_commanded command ≡ []) ⊎ PairHasRoom most (J ++ rows_commanded command) (view e).content (view f).content
      had_room command done commanded =
          let not = ok_not done StoreFault.Disk in
          let K = J ++ rows_commanded command in
          let now : Keeps K (seen_in u) (view (of_pair s.side e f)) = commanded.keeps not told keeps_too in
          let leaves : LeavesSide s.side (view e) (view f) =
          leaves_on view is_disk a b c d e f s.side J (seen_in s) beside keeps (kept_fronts K (seen_in s).log.format (seen_in u) (view (of_pair s.side e f)) commanded.format now) (opened.side told) in
          ⊎_elim
          (λ none. inl none.0)
          (λ within. inr (pair_has_room K (seen_in u) s.side (view e) (view f) (subst (Keeps K (seen_in u)) (sym (view_now view is_disk a b c d e f s.side)) now)
          (leaves (view e).content (view f).content (is_disk e).possible (is_disk f).possible) most (commanded.most ∙ most_is) within))
          (ends_within (seen_in s).log (seen_in u).log (rows_commanded command) (commanded.end not) commanded.most commanded.room)

      -- the store answered what came of a word
      pub ran_ok : (done : Done) (status : Status) (written now : List ℕ) → CommandDone view t.disk J (P (seen_in s).core) failed (seen_in s) (seen_in u) (of_pair s.side c d) (of_pair s.side e f) (Ok done)
          → IsEndOf done status → (IsTrue t.output → Writes status [] (done_text done) written now)
          → CommandRan t most J nothing vain is_command (at_place (view a) (view b) around written failures) (at_place (view e) (view f) around_now now failures_now) status
      ran_ok done status written now (inl (command, is, journal, commanded)) ends text =
          let same : done ≡ done_of command = commanded.answer in
          let ends_too : IsEndOf (done_of command) status = subst (λ (x : Done). IsEndOf x status) same ends in
          record {
            came = answered command;
            is = (behind (seen_in s).core keeps.core command is, ends_command _ command status ends_too);
            does = record {
              stands = λ n _. subst (λ (rows : List Row). StandsFor (J ++ rows) (view e) (view f)) (sym (row_kept command status ends_too))
                  (stands_on view is_disk a b c d e f s.side J (J ++ rows_commanded command) (seen_in s) (seen_in u) beside commanded.format keeps (commanded.keeps (ok_not done StoreFault.Disk) told keeps_too) (opened.side told));
              crashes = crashes_of (rows_commanded command) (commanded.moments told keeps_too);
              room = λ _. subst (λ (rows : List Row). (J ++ rows ≡ J) ⊎ PairHasRoom most (J ++ rows) (view e).content (view f).content) (sym (row_kept command status ends_too))
                  (⊎_elim (λ none. inl (ap (λ (rows : List Row). J ++ rows) none ∙ append-nil J)) (λ room. inr room) (had_room command done commanded));
              journal = journal;
              sound = λ _. (stays (seen_in s).core keeps.core command is journal).sound;
              faithful = (stays (seen_in s).core keeps.core command is journal).faithful;
              given = λ checks opens links. gives (seen_in s).core keeps.core command is checks;
              written = λ out. subst (λ (x : Done). Writes status [] (done_text x) written now) same (text out);
            };
          }
      ran_ok done status written now (inr unsaid) ends text = absurd (ok_not done unsaid.fault unsaid.is)

      -- a fault
      pub ran_err : (fault : StoreFault) (status : Status) (written : List ℕ) → status ≡ status_of_fault fault → CommandDone view t.disk J (P (seen_in s).core) failed (seen_in s) (seen_in u) (of_pair s.side c d) (of_pair s.side e f) (Err fault) → (failed → vain fault)
          → CommandRan t most J nothing vain is_command (at_place (view a) (view b) around written failures) (at_place (view e) (view f) around_now written failures_now) status
      ran_err fault status written at (inl (command, is, journal, commanded)) vains =
          let none : by_end status (rows_commanded command) [] ≡ [] = ap (λ (x : Status). by_end x (rows_commanded command) []) at ∙ by_fault fault (rows_commanded command) [] in
          let after : J ≡ J ++ by_end status (rows_commanded command) [] = sym (append-nil J) ∙ ap (λ (rows : List Row). J ++ rows) (sym none) in
          record {
            came = answered command;
            is = (
              behind (seen_in s).core keeps.core command is,
              subst (EndsCommand _ command) (sym at)
                  (fault_word _ command fault (seen_in s) commanded.answer (λ row e full_is full.
                  same_here (λ x y. PairHasNoRoom most J row e (view x).content (view y).content) (commanded.untouched (λ disk. full_not e (sym full_is ∙ same_fault fault StoreFault.Disk disk)) refl).1.1 (no_room most row e most_is full))),
            );
            does = record {
              stands = λ n _. subst (λ (K : List Row). StandsFor K (view e) (view f)) after
                  (same_here (λ x y. StandsFor J (view x) (view y)) (commanded.untouched (λ disk. other_status fault StoreFault.Disk status at n (same_fault fault StoreFault.Disk disk)) refl).1.1 opened_stands);
              crashes = crashes_of (rows_commanded command) (commanded.moments told keeps_too);
              room = λ _. inl (sym after);
              journal = journal;
              sound = λ _. (stays (seen_in s).core keeps.core command is journal).sound;
              faithful = (stays (seen_in s).core keeps.core command is journal).faithful;
              given = λ checks opens links. gives (seen_in s).core keeps.core command is checks;
              written = λ _. fault_writes fault status (done_text (done_of command)) written at;
            };
          }
      ran_err fault status written at (inr unsaid) vains = record {
        came = in_vain;
        is = (fault, at, subst ComesOfAsking (sym (same_fault fault unsaid.fault unsaid.is)) unsaid.of_asking, vains unsaid.came);
        does = record {
          stands = λ n _. same_here (λ x y. StandsFor J (view x) (view y)) unsaid.disk_same opened_stands;
          crashes = λ stands. same_here (λ x y. PairLeavesOnly (IsPairImageOf J) (view a) (view x) (view b) (view y)) unsaid.disk_same (still stands);
          room = λ _. inl refl;
          journal = image.are.journal;
          sound = λ _ sound. sound;
          faithful = λ faithful. faithful;
          given = λ checks opens links bytes given. given;
          written = λ _. fault_writes fault status [] written at;
        };
      }

-- What a batch is to a run, and a message that is skipped.
use Rattle.std.proofs.Common.{◌≡◌, ◌≢◌, ◌⊎◌, inl, inr, ⊎_elim, ℕ, ◌≤◌, ◌<◌, Bool, true, false, List, [], ◌∷◌, ◌++◌, length, map, take, drop, get_or, Option, Some, None, IsTrue, refl, ap, ◌∙◌, sym, subst, arith, append_assoc}
use Rattle.std.proofs.lemmas.List.{append-nil, take_at, length-map}
use Rattle.std.proofs.Math.Seq.{take-length}
use Rattle.relay_disk.specs.Disk.{View, IsDisk}
use Rattle.relay_disk.proofs.Moments.{now_too, weaker}
use Rattle.relay_io.specs.Streams.{AddsFront}
use Rattle.gate_log.specs.Log.{LogState}
use Rattle.gate_log.specs.Pick.{view_of_side}
use Rattle.gate_log.specs.declared.format.Format.{Format}
use Rattle.gate_log.specs.declared.picking.Side.{Side}
use Rattle.gate_log.specs.declared.picking.Side.TheVariants.{One, Two}
use Rattle.relay_row.specs.Journal.{IsJournal}
use Rattle.relay_row.specs.declared.row.Row.{Row}
use Rattle.relay_core.specs.Entries.{Holds}
use Rattle.relay_core.specs.Report.{over_line}
use Rattle.relay_core.specs.Decide.{Checks}
use Rattle.relay_core.specs.Opening.{OpensRight}
use Rattle.relay_core.specs.Runs.{has_ended}
use Rattle.relay_law.specs.Right.{LinksRight}
use Rattle.relay_law.proofs.Choosing.{some_right}
use Rattle.relay_step.specs.Around.{Around, AllAsked, OneAsked}
use Rattle.relay_step.specs.Causes.{SpendsNone}
use Rattle.relay_step.specs.Steps.{Step, after_end, rows, step_of, AreSteps}
use Rattle.relay_step.proofs.Steps.{steps_join}
use Rattle.store_take.specs.Batches.{AreAnswers, AreExtra, AsksBehind, Batched, DiskFailed, EndsFull, EndsNext, messages_sent}
use Rattle.store_take.specs.Batches.{StopsAsking as StoreStops, scene}
use Rattle.relay_store.specs.Journals.{IsLogOf, IsOneOf}
use Rattle.store_take.specs.Outcomes.{outcome_of}
use Rattle.relay_store.specs.Pairs.{of_pair}
use Rattle.relay_store.specs.PendingBodies.{IsFull}
use Rattle.relay_store.specs.Store.{IsKept, IsOf, Keeps, StoreState}
use Rattle.relay_store.specs.declared.fault.StoreFault.{StoreFault}
use Rattle.store_take.specs.declared.message.Message.{Message}
use Rattle.store_take.specs.declared.outcome.Outcome.{Outcome}
use Rattle.store_take.proofs.Asks.{all_joined, nothing_here, nothing_in_vain}
use Rattle.relay_store.proofs.Images.{kept_log}
use Rattle.relay_store.proofs.OnDisk.{ends_within, full_behind}
use Rattle.store_take.proofs.Runs.{sent_joined}
use Rattle.run_base.specs.Ends.{IsUnwritten, ToldBut, Writes}
use Rattle.run_base.specs.Place.{Faults, Place, Tells, at_place}
use Rattle.run_base.specs.Statuses.{status_of_fault}
use Rattle.run_base.specs.declared.status.Status.{Status}
use Rattle.run_base.proofs.Ended.{by_unwritten}
use Rattle.take_run.specs.Crashes.{Keeping, Leaves}
use Rattle.take_run.specs.Ends.{IsStop, MayLeave, StopsBefore, StopsShort}
use Rattle.take_run.specs.Going.{Going, IsReady, Point, Stopped, live}
use Rattle.take_run.specs.Lines.{lines_of}
use Rattle.take_run.specs.NextMessage.{NextEnds}
use Rattle.take_run.specs.Said.{AreLive, IsNoted, Said, answered, said, text_of}
use Rattle.take_run.specs.declared.tally.Tally.{Tally}
use Rattle.take_run.proofs.Answers.{answered_said}
use Rattle.take_run.proofs.Counts.{lines_are}
use Rattle.take_run.proofs.Ended.{live_steps}
use Rattle.take_run.proofs.Joining.{nothing_kept, so_far_all, so_far_none}
use Rattle.take_run.proofs.NextMessage.{next_ends, none_ends}
use Rattle.take_run.proofs.Telling.{fault_stops, stop_not_source, told_weaker, unwritten_stops}

-- ---- by the fault

answers_of : (fault : Option StoreFault) (steps : List Step) (outcomes : List Outcome) → fault ≢ Some StoreFault.Disk → AreAnswers fault steps outcomes → map Some outcomes ≡ map outcome_of steps
answers_of None steps outcomes not are = are
answers_of (Some StoreFault.Disk) steps outcomes not are = absurd (not refl)
answers_of (Some (StoreFault.BadLog place)) steps outcomes not are = are
answers_of (Some (StoreFault.Full e)) steps outcomes not are = are
answers_of (Some StoreFault.SeqEnd) steps outcomes not are = are
answers_of (Some StoreFault.Authority) steps outcomes not are = are
answers_of (Some StoreFault.Repos) steps outcomes not are = are
answers_of (Some StoreFault.Memory) steps outcomes not are = are
answers_of (Some StoreFault.Clock) steps outcomes not are = are

few_extra : (fault : Option StoreFault) (extra : List Step) → AreExtra fault extra → length extra ≤ 1
few_extra None extra which = omega (arith, ap length which)
few_extra (Some StoreFault.Disk) extra which = which
few_extra (Some (StoreFault.BadLog place)) extra which = absurd which
few_extra (Some (StoreFault.Full e)) extra which = omega (arith, which)
few_extra (Some StoreFault.SeqEnd) extra which = omega (arith, ap length which)
few_extra (Some StoreFault.Authority) extra which = omega (arith, ap length which)
few_extra (Some StoreFault.Repos) extra which = omega (arith, ap length which)
few_extra (Some StoreFault.Memory) extra which = which
few_extra (Some StoreFault.Clock) extra which = omega (arith, ap length which)

no_extra : (fault : StoreFault) (extra : List Step) → AreExtra (Some fault) extra → (MayLeave (status_of_fault fault) → ⊥) → extra ≡ []
no_extra StoreFault.Disk extra which not = absurd (not tt)
no_extra (StoreFault.BadLog place) extra which not = absurd which
no_extra (StoreFault.Full e) extra which not = absurd (not tt)
no_extra StoreFault.SeqEnd extra which not = which
no_extra StoreFault.Authority extra which not = which
no_extra StoreFault.Repos extra which not = which
no_extra StoreFault.Memory extra which not = absurd (not tt)
no_extra StoreFault.Clock extra which not = which

good_log : (fault : StoreFault) (extra : List Step) → AreExtra (Some fault) extra → (place : ℕ) → status_of_fault fault ≢ Status.BadLog place
good_log StoreFault.Disk extra which place is = cc
good_log (StoreFault.BadLog p) extra which place is = which
good_log (StoreFault.Full e) extra which place is = cc
good_log StoreFault.SeqEnd extra which place is = cc
good_log StoreFault.Authority extra which place is = cc
good_log StoreFault.Repos extra which place is = cc
good_log StoreFault.Memory extra which place is = cc
good_log StoreFault.Clock extra which place is = cc

asks_behind : (C R : Bool) (fault : Option StoreFault) (extra : List Step) (behind : List Message) (mid new : Around) → StoreStops C R fault extra behind mid new → AsksBehind C R extra behind mid new
asks_behind C R None [] behind mid new stops = nothing_in_vain C R mid new behind stops
asks_behind C R None (s ∷ extra) behind mid new stops = stops
asks_behind C R (Some fault) extra behind mid new stops = stops

-- the log is full for the row of the step left over
full_log : (log now : LogState) (steps extra : List Step) (fault : StoreFault) → EndsFull log steps extra (Some fault) → (fault ≢ StoreFault.Disk → (row : Row) (e : ℕ) → IsFull log (rows steps) row e → IsFull now [] row e)
    → (e : ℕ) → status_of_fault fault ≡ Status.Full e → (row : Row) × (rows extra ≡ row ∷ []) × IsFull now [] row e
full_log log now steps extra (StoreFault.Full e) ends more n is =
    let same : e ≡ n = cc in
    (ends.0, ends.1, subst (λ (k : ℕ). IsFull now [] ends.0 k) same (more (λ disk. let no : ⊥ = cc in no) ends.0 e ends.2))
full_log log now steps extra StoreFault.Disk ends more n is = let no : ⊥ = cc in absurd no
full_log log now steps extra (StoreFault.BadLog p) ends more n is = let no : ⊥ = cc in absurd no
full_log log now steps extra StoreFault.SeqEnd ends more n is = let no : ⊥ = cc in absurd no
full_log log now steps extra StoreFault.Authority ends more n is = let no : ⊥ = cc in absurd no
full_log log now steps extra StoreFault.Repos ends more n is = let no : ⊥ = cc in absurd no
full_log log now steps extra StoreFault.Memory ends more n is = let no : ⊥ = cc in absurd no
full_log log now steps extra StoreFault.Clock ends more n is = let no : ⊥ = cc in absurd no

-- ---- lines

pub whole_front : (old now text : List ℕ) → now ≡ old ++ text → AddsFront old now text
whole_front old now text is = (length text, omega arith, is ∙ ap (λ (l : List ℕ). old ++ l) (sym (take-length text)))

pub said_lines : (J : List Row) (ended : List (List ℕ)) (steps : List Step) → ((checks : Checks) → OpensRight checks → LinksRight checks → AreSteps checks J ended steps) → text_of (said steps) ≡ lines_of steps
said_lines J ended steps are = lines_are some_right.0 J ended steps (are some_right.0 some_right.1 some_right.2)

-- all lines were written, and then a fault came
fault_writes_lines : (fault : StoreFault) (lines old now : List ℕ) → now ≡ old ++ lines → Writes (status_of_fault fault) lines [] old now
fault_writes_lines StoreFault.Disk lines old now is = is
fault_writes_lines (StoreFault.BadLog p) lines old now is = is
fault_writes_lines (StoreFault.Full e) lines old now is = is
fault_writes_lines StoreFault.SeqEnd lines old now is = is
fault_writes_lines StoreFault.Authority lines old now is = is
fault_writes_lines StoreFault.Repos lines old now is = is
fault_writes_lines StoreFault.Memory lines old now is = whole_front old now (lines ++ []) (is ∙ ap (λ (l : List ℕ). old ++ l) (sym (append-nil lines)))
fault_writes_lines StoreFault.Clock lines old now is = is

-- or they weren't
unwritten_lines : (status : Status) (lines old now : List ℕ) → IsUnwritten status → Writes status [] lines old now → Writes status lines [] old now
unwritten_lines status lines old now = by_unwritten (λ s. Writes s [] lines old now → Writes s lines [] old now) longer longer status
  where
    longer : AddsFront old now lines → AddsFront old now (lines ++ [])
    longer wrote = subst (AddsFront old now) (sym (append-nil lines)) wrote

unwritten_short : (tells : Bool) (status : Status) (steps under : List Step) (behind : List Message) (old now : List ℕ) → IsUnwritten status → steps ≢ [] → (IsTrue tells → Writes status [] (lines_of steps) old now) → (status ≡ Status.Memory → IsTrue tells → now ≡ old)
    → StopsShort tells status steps under behind old now
unwritten_short tells status steps under behind old now is some =
    by_unwritten (λ s. (IsTrue tells → Writes s [] (lines_of steps) old now) → (s ≡ Status.Memory → IsTrue tells → now ≡ old) → StopsShort tells s steps under behind old now)
    (λ wrote nothing. wrote) (λ wrote nothing told. ([], steps, refl, some, nothing refl told ∙ sym (append-nil old))) status is

unwritten_before : (status : Status) (short : Type 0) (under extra : List Step) (behind : List Message) → short → StopsBefore status short under extra behind
unwritten_before Status.WriteFault short under extra behind is = is
unwritten_before status short under extra behind is = inl is

unwritten_leaves : (status : Status) → IsUnwritten status → MayLeave status
unwritten_leaves status is = by_unwritten (λ s. MayLeave s) tt tt status is

unwritten_good : (status : Status) (place : ℕ) → IsUnwritten status → status ≢ Status.BadLog place
unwritten_good status place is = by_unwritten (λ s. s ≢ Status.BadLog place) (λ at. cc) (λ at. cc) status is

unwritten_next : (t : Tells) (K : List Row) (behind : List Message) (old new : Around) (status : Status) → IsUnwritten status → NextEnds t K behind old new status
unwritten_next t K behind old new status is =
    by_unwritten (λ s. NextEnds t K behind old new s) (none_ends t K behind old new Status.WriteFault (λ at. cc) (λ at. cc))
    (none_ends t K behind old new Status.Memory (λ at. cc) (λ at. cc)) status is

unwritten_full : (status : Status) (e : ℕ) → IsUnwritten status → status ≢ Status.Full e
unwritten_full status e is = by_unwritten (λ s. s ≢ Status.Full e) (λ at. cc) (λ at. cc) status is

-- a fault leaves something over
fault_before : (fault : StoreFault) (short : Type 0) (under extra : List Step) (behind : List Message) → (under ≢ []) ⊎ ((extra ≢ []) ⊎ (behind ≢ [])) → StopsBefore (status_of_fault fault) short under extra behind
fault_before StoreFault.Disk short under extra behind left = inr left
fault_before (StoreFault.BadLog p) short under extra behind left = inr left
fault_before (StoreFault.Full e) short under extra behind left = inr left
fault_before StoreFault.SeqEnd short under extra behind left = inr left
fault_before StoreFault.Authority short under extra behind left = inr left
fault_before StoreFault.Repos short under extra behind left = inr left
fault_before StoreFault.Memory short under extra behind left = inr left
fault_before StoreFault.Clock short under extra behind left = inr left

left_over : (extra : List Step) (behind : List Message) → (extra ≡ [] → behind ≢ []) → (extra ≢ []) ⊎ (behind ≢ [])
left_over [] behind left = inr (left refl)
left_over (s ∷ extra) behind left = inl (λ none. let no : ⊥ = cc in no)

sent_length : (steps : List Step) → length (messages_sent steps) ≡ length steps
sent_length steps = length-map steps _

steps_front : (checks : Checks) (J : List Row) (ended : List (List ℕ)) (front others : List Step) → AreSteps checks J ended (front ++ others) → AreSteps checks J ended front
steps_front checks J ended front others are = ((steps_join checks J ended front others).0 are).0

-- ---- a batch, on the disk that the store is open on

live_of : {D : Type 0} (view : D → View) (side : Side) (c d : D) → view (of_pair side c d) ≡ view_of_side side (view c) (view d)
live_of view One c d = refl
live_of view Two c d = refl

module _ {D : Type 0} (view : D → View) (t : Tells) (J : List Row) (group : List Message) (st su : StoreState) (a b c d : D) (side : su.side ≡ st.side) (around around_now : Around) (items outcomes : List Outcome) (same : outcomes ≡ items) (fault : Option StoreFault)
    (batched : Batched view t.disk t.clock t.repos J group (scene st (of_pair st.side a b) around) (scene su (of_pair st.side c d) around_now) items fault)
    (tally after : Tally) (live_group : AreLive tally.ended.items group) (w x : List ℕ) (failed failed_now : Faults) where
  -- the outcomes are read off a slice
  h : Batched view t.disk t.clock t.repos J group (scene st (of_pair st.side a b) around) (scene su (of_pair st.side c d) around_now) outcomes fault
  h = subst (λ (l : List Outcome). Batched view t.disk t.clock t.repos J group (scene st (of_pair st.side a b) around) (scene su (of_pair st.side c d) around_now) l fault) (sym same) batched

  abbrev here : Place
  here = at_place (view a) (view b) around w failed

  abbrev there : Place
  there = at_place (view c) (view d) around_now x failed_now

  abbrev from_here : Point
  from_here = record { store = st; tally = tally; place = here }

  abbrev to_there : Point
  to_there = record { store = su; tally = after; place = there }

  live_here : view (of_pair st.side a b) ≡ live from_here
  live_here = live_of view st.side a b

  live_there : view (of_pair st.side c d) ≡ live to_there
  live_there = live_of view st.side c d ∙ ap (λ (s : Side). view_of_side s (view c) (view d)) (sym side)

  -- what holds of the disk holds of the live one
  moved : (F : View → View → Type 0) → F (view (of_pair st.side a b)) (view (of_pair st.side c d)) → F (live from_here) (live to_there)
  moved F f = subst (λ (v : View). F v (live to_there)) live_here (subst (λ (v : View). F (view (of_pair st.side a b)) v) live_there f)

  keeps_here : Keeps J st (live from_here) → Keeps J st (view (of_pair st.side a b))
  keeps_here keeps = subst (Keeps J st) (sym live_here) keeps

  abbrev all : List Step
  all = h.steps ++ h.extra

  are_all : (checks : Checks) → OpensRight checks → LinksRight checks → AreSteps checks J tally.ended.items all
  are_all checks opens links = live_steps checks J tally.ended.items group all h.behind live_group h.front (h.are checks opens links)

  -- ---- where the disk didn't fail

  module _ (not : fault ≢ Some StoreFault.Disk) (are : (checks : Checks) → OpensRight checks → LinksRight checks → AreSteps checks J tally.ended.items h.steps) where
    said_is : text_of (answered group outcomes) ≡ lines_of h.steps
    said_is =
        let front : group ≡ messages_sent h.steps ++ (messages_sent h.extra ++ h.behind) = h.front ∙ ap (λ (l : List Message). l ++ h.behind) (sent_joined h.steps h.extra) ∙ append_assoc (messages_sent h.steps) (messages_sent h.extra) h.behind in
        ap text_of (ap (λ (l : List Message). answered l outcomes) front ∙ answered_said h.steps (messages_sent h.extra ++ h.behind) outcomes (answers_of fault h.steps outcomes not h.answers))
        ∙ said_lines J tally.ended.items h.steps are

  kept : fault ≢ Some StoreFault.Disk → (told : IsTrue t.disk) → Keeps J st (live from_here) → Keeping J (rows h.steps) st (live from_here) su (live to_there)
  kept not told keeps = moved (λ v z. Keeping J (rows h.steps) st v su z) (record {
    keeps = h.keeps not told (keeps_here keeps);
    moments = weaker _ _ _ _ (h.moments told (keeps_here keeps)) (λ z k. ⊎_elim (so_far_none st.log.format J (rows h.steps) z) (so_far_all st.log.format J (rows h.steps) z) k);
  })

  left_kept : fault ≢ Some StoreFault.Disk → (status : Status) (told : IsTrue t.disk) → Keeps J st (live from_here) → Leaves J (rows h.steps) [] st (live from_here) su (live to_there) status
  left_kept not status told keeps =
      let k = kept not told keeps in
      record {
        keeps = λ _. k.keeps;
        moments = weaker _ _ _ _ k.moments (λ z is. inl is);
        left = λ z now. inl (subst (λ (f : Format). IsLogOf f (J ++ rows h.steps) z) h.format (kept_log (J ++ rows h.steps) su (live to_there) k.keeps z now));
      }

  -- it stopped, not by the disk
  stops_kept : (status : Status) → fault ≢ Some StoreFault.Disk → IsStop status → ((place : ℕ) → status ≢ Status.BadLog place) → ((MayLeave status → ⊥) → h.extra ≡ []) → NextEnds t (J ++ rows h.steps) h.behind h.asked.mid around_now status
      → ToldBut (StopsShort t.output status h.steps [] h.behind w x) ⊥ status here there → ((e : ℕ) → status ≡ Status.Full e → (row : Row) × (rows h.extra ≡ row ∷ []) × IsFull su.log [] row e) → (IsTrue t.output → Writes status (lines_of h.steps) [] w x)
      → StopsBefore status (StopsShort t.output status h.steps [] h.behind w x) [] h.extra h.behind → Stopped t J group from_here to_there status
  stops_kept status not stop good which next told full written before = record {
    taken = record {
      steps = h.steps;
      under = [];
      extra = h.extra;
      behind = h.behind;
      good = good;
      which_under = λ _. refl;
      few_extra = few_extra fault h.extra h.which;
      which_extra = which;
      all = λ source. absurd (stop_not_source status stop source);
      are = are_all;
      journal = h.journal;
      mid = h.asked.mid;
      asked = h.asked.turns;
      stops = asks_behind t.clock t.repos fault h.extra h.behind h.asked.mid around_now h.asked.stops;
      still = λ source. absurd (stop_not_source status stop source);
      next = next;
      told = told;
    };
    front = h.front;
    store = record {
      known = λ _. h.known not;
      on_disk = left_kept not status;
      format = h.format;
      most = h.most;
      room = λ _. ends_within st.log su.log (rows h.steps) (h.end not) h.most h.room;
      full = full;
    };
    written = written;
    before = before;
  }

  -- the steps whose answers were to be written
  are_answered : (checks : Checks) → OpensRight checks → LinksRight checks → AreSteps checks J tally.ended.items h.steps
  are_answered checks opens links = steps_front checks J tally.ended.items h.steps h.extra (are_all checks opens links)

  -- lines couldn't be written, or memory ran out for them and none was
  pub batch_unwritten : 0 < length outcomes → (status : Status) → IsUnwritten status → (IsTrue t.output → Writes status [] (text_of (answered group outcomes)) w x) → (status ≡ Status.Memory → IsTrue t.output → x ≡ w)
      → ((X : Type 0) → X → ToldBut X ⊥ status here there) → Stopped t J group from_here to_there status
  batch_unwritten some status one wrote nothing told =
      let not : fault ≢ Some StoreFault.Disk = λ is. (
      let none : outcomes ≡ [] = subst (λ (f : Option StoreFault). AreAnswers f h.steps outcomes) is h.answers in
      absurd (omega (arith, some, ap length none))) in
      let many : length outcomes ≡ length h.steps = sym (length-map outcomes Some) ∙ ap length (answers_of fault h.steps outcomes not h.answers) ∙ length-map h.steps outcome_of in
      let some_steps : h.steps ≢ [] = λ none. absurd (omega (arith, some, many, ap length none)) in
      let lines : IsTrue t.output → Writes status [] (lines_of h.steps) w x = λ tells. subst (λ (l : List ℕ). Writes status [] l w x) (said_is not are_answered) (wrote tells) in
      let short : StopsShort t.output status h.steps [] h.behind w x = unwritten_short t.output status h.steps [] h.behind w x one some_steps lines nothing in
      stops_kept status not (unwritten_stops status one) (λ place. unwritten_good status place one) (λ no. absurd (no (unwritten_leaves status one))) (unwritten_next t (J ++ rows h.steps) h.behind h.asked.mid around_now status one)
      (told _ short) (λ e is. absurd (unwritten_full status e one is)) (λ tells. unwritten_lines status (lines_of h.steps) w x one (lines tells)) (unwritten_before status _ [] h.extra h.behind short)

  -- all was answered
  pub batch_goes : (n : ℕ) → n ≡ length outcomes → fault ≡ None → IsNoted (answered group outcomes) tally after → (IsTrue t.output → x ≡ w ++ text_of (answered group outcomes)) → Going t J (take n group) from_here to_there
  batch_goes n n_is is noted written =
      let not : fault ≢ Some StoreFault.Disk = λ disk. let no : ⊥ = cc in no in
      let none : h.extra ≡ [] = subst (λ (f : Option StoreFault). AreExtra f h.extra) is h.which in
      let whole : all ≡ h.steps = ap (λ (l : List Step). h.steps ++ l) none ∙ append-nil h.steps in
      let front : group ≡ messages_sent h.steps ++ h.behind = h.front ∙ ap (λ (l : List Step). messages_sent l ++ h.behind) whole in
      let answers = answers_of fault h.steps outcomes not h.answers in
      let many : n ≡ length (messages_sent h.steps) = n_is ∙ sym (length-map outcomes Some) ∙ ap length answers ∙ length-map h.steps outcome_of ∙ sym (sent_length h.steps) in
      let asked : AllAsked t.clock t.repos J around h.steps h.asked.mid = subst (λ (l : List Step). AllAsked t.clock t.repos J around l h.asked.mid) whole h.asked.turns in
      record {
        steps = h.steps;
        of = sym (ap (λ (l : List Message). take n l) front ∙ take_at (messages_sent h.steps) h.behind n (sym many));
        are = are_answered;
        journal = subst IsJournal (ap (λ (l : List Step). J ++ rows l) whole) h.journal;
        known = h.known not;
        on_disk = kept not;
        format = h.format;
        most = h.most;
        room = ends_within st.log su.log (rows h.steps) (h.end not) h.most h.room;
        noted = subst (λ (l : List Said). IsNoted l tally after) (said_front not front) noted;
        written = λ tells. written tells ∙ ap (λ (l : List ℕ). w ++ l) (said_is not are_answered);
        asked = subst (λ (l : List Step). AllAsked t.clock t.repos J around l around_now) (append-nil h.steps)
            (all_joined t.clock t.repos J around h.asked.mid around_now h.steps [] asked (subst (λ (f : Option StoreFault). StoreStops t.clock t.repos f h.extra h.behind h.asked.mid around_now) is h.asked.stops));
      }
    where
      said_front : fault ≢ Some StoreFault.Disk → group ≡ messages_sent h.steps ++ h.behind → answered group outcomes ≡ said h.steps
      said_front not front = ap (λ (l : List Message). answered l outcomes) front ∙ answered_said h.steps h.behind outcomes (answers_of fault h.steps outcomes not h.answers)

  -- a fault came once the lines were written
  pub batch_stops : (f : StoreFault) → fault ≡ Some f → f ≢ StoreFault.Disk → (IsTrue t.output → x ≡ w ++ text_of (answered group outcomes)) → ((X : Type 0) → ToldBut X ⊥ (status_of_fault f) here there) → Stopped t J group from_here to_there (status_of_fault f)
  batch_stops f is other written told =
      let not : fault ≢ Some StoreFault.Disk = λ disk. (let same : f ≡ StoreFault.Disk = cc in other same) in
      let some : fault ≢ None = λ none. let no : ⊥ = cc in no in
      let which : AreExtra (Some f) h.extra = subst (λ (o : Option StoreFault). AreExtra o h.extra) is h.which in
      stops_kept (status_of_fault f) not (fault_stops f (status_of_fault f) refl) (good_log f h.extra which) (no_extra f h.extra which)
      (next_ends t (J ++ rows h.steps) su.core h.behind h.asked.mid around_now f (h.known not) (subst (λ (o : Option StoreFault). EndsNext t.clock t.repos su.core h.behind h.asked.mid around_now o) is h.next))
      (told _) (full_log st.log su.log h.steps h.extra f (subst (λ (o : Option StoreFault). EndsFull st.log h.steps h.extra o) is h.full) (λ _ row e full. full_behind st.log su.log (rows h.steps) row e (h.end not) h.most full))
      (λ tells. fault_writes_lines f (lines_of h.steps) w x (written tells ∙ ap (λ (l : List ℕ). w ++ l) (said_is not are_answered)))
      (fault_before f _ [] h.extra h.behind (inr (left_over h.extra h.behind (h.left some not))))

-- ---- the disk failed

alone_or : (behind : List Message) (X : Type 0) → ((behind ≢ []) → ⊥) → (behind ≡ [] → X) → X
alone_or [] X not alone = alone refl
alone_or (m ∷ behind) X not alone = absurd (not (λ none. let no : ⊥ = cc in no))

some_left : (group : List Message) (under extra : List Step) (behind : List Message) → 1 ≤ length group → group ≡ messages_sent (under ++ extra) ++ behind → (under ≢ []) ⊎ ((extra ≢ []) ⊎ (behind ≢ []))
some_left group [] [] [] some front = absurd (omega (arith, some, ap length front))
some_left group [] [] (m ∷ behind) some front = inr (inr (λ none. let no : ⊥ = cc in no))
some_left group [] (s ∷ extra) behind some front = inr (inl (λ none. let no : ⊥ = cc in no))
some_left group (s ∷ under) extra behind some front = inl (λ none. let no : ⊥ = cc in no)

module _ {D : Type 0} (view : D → View) (t : Tells) (J : List Row) (group : List Message) (st su : StoreState) (a b c d : D) (side : su.side ≡ st.side) (around around_now : Around) (none_failed : Type 0)
    (failing : DiskFailed view t.disk t.clock t.repos J group (scene st (of_pair st.side a b) around) (scene su (of_pair st.side c d) around_now) none_failed)
    (tally after : Tally) (live_group : AreLive tally.ended.items group) (w x : List ℕ) (failed failed_now : Faults) (some : 1 ≤ length group) (is_disk : IsDisk (view (of_pair st.side c d))) (is_open : IsTrue st.log.is_open) (closed : su.log.is_open ≡ false) where
  abbrev k : Batched view t.disk t.clock t.repos J group (scene st (of_pair st.side a b) around) (scene su (of_pair st.side c d) around_now) [] (Some StoreFault.Disk)
  k = failing.batched

  abbrev at_first : Point
  at_first = record { store = st; tally = tally; place = at_place (view a) (view b) around w failed }

  abbrev at_last : Point
  at_last = record { store = su; tally = after; place = at_place (view c) (view d) around_now x failed_now }

  -- a body of rows was under way: else the log would still be open
  some_rows : rows k.steps ≢ []
  some_rows none =
      let same : su.log.is_open ≡ st.log.is_open = ap (λ (l : LogState). l.is_open) (k.untouched none).0 in
      let was : st.log.is_open ≡ true = is_open in
      let no : ⊥ = cc in no

  left_failed : (told : IsTrue t.disk) → Keeps J st (live at_first) → Leaves J [] (rows k.steps) st (live at_first) su (live at_last) Status.Disk
  left_failed told keeps =
      let was : Keeps J st (view (of_pair st.side a b)) = subst (Keeps J st) (sym (live_of view st.side a b)) keeps in
      let none : J ≡ J ++ [] = sym (append-nil J) in
      let leaves : Leaves J [] (rows k.steps) st (view (of_pair st.side a b)) su (view (of_pair st.side c d)) Status.Disk = record {
        keeps = λ n. absurd (n refl);
        moments = weaker _ _ _ _ (k.moments told was) (λ z i. ⊎_elim
            (λ j. inl (so_far_none st.log.format J [] z j))
            (λ j. inr (subst (λ (K : List Row). IsLogOf st.log.format (K ++ rows k.steps) z) none j)) i);
        left = λ z now. subst (λ (K : List Row). IsOneOf st.log.format K (rows k.steps) z) none (now_too _ _ _ is_disk (k.moments told was) z now);
      } in
      let now : view (of_pair st.side c d) ≡ live at_last = live_of view st.side c d ∙ ap (λ (s : Side). view_of_side s (view c) (view d)) (sym side) in
      subst (λ (v : View). Leaves J [] (rows k.steps) st v su (live at_last) Status.Disk) (live_of view st.side a b)
      (subst (λ (v : View). Leaves J [] (rows k.steps) st (view (of_pair st.side a b)) su v Status.Disk) now leaves)

  pub batch_fails : (IsTrue t.output → x ≡ w ++ []) → ((X : Type 0) → ((X → ⊥) → none_failed) → ToldBut X ⊥ Status.Disk (at_first.place) (at_last.place)) → Stopped t J group at_first at_last Status.Disk
  batch_fails written told = record {
    taken = record {
      steps = [];
      under = k.steps;
      extra = k.extra;
      behind = k.behind;
      good = λ place is. cc;
      which_under = λ n. absurd (n refl);
      few_extra = few_extra (Some StoreFault.Disk) k.extra k.which;
      which_extra = λ no. absurd (no tt);
      all = λ source. absurd source;
      are = λ checks opens links. live_steps checks J tally.ended.items group (k.steps ++ k.extra) k.behind live_group k.front (k.are checks opens links);
      journal = k.journal;
      mid = k.asked.mid;
      asked = k.asked.turns;
      stops = asks_behind t.clock t.repos (Some StoreFault.Disk) k.extra k.behind k.asked.mid around_now k.asked.stops;
      still = λ source. absurd source;
      next = none_ends t (J ++ []) k.behind k.asked.mid around_now Status.Disk (λ is. cc) (λ is. cc);
      told = told _ (λ shown. alone_or k.behind none_failed (λ more. shown (some_rows, more)) failing.alone);
    };
    front = k.front;
    store = record {
      known = λ n. absurd (n refl);
      on_disk = left_failed;
      format = k.format;
      most = k.most;
      room = λ n. absurd (n refl);
      full = λ e is. absurd cc;
    };
    written = written;
    before = inr (some_left group k.steps k.extra k.behind some k.front);
  }

-- a fault came, the disk's or another
module _ {D : Type 0} (view : D → View) (t : Tells) (J : List Row) (group : List Message) (st su : StoreState) (a b c d : D) (side : su.side ≡ st.side) (around around_now : Around) (items outcomes : List Outcome) (same : outcomes ≡ items) (fault : Option StoreFault)
    (batched : Batched view t.disk t.clock t.repos J group (scene st (of_pair st.side a b) around) (scene su (of_pair st.side c d) around_now) items fault)
    (tally after : Tally) (live_group : AreLive tally.ended.items group) (w x : List ℕ) (failed failed_now : Faults) where
  abbrev p : Point
  p = record { store = st; tally = tally; place = at_place (view a) (view b) around w failed }

  abbrev q : Point
  q = record { store = su; tally = after; place = at_place (view c) (view d) around_now x failed_now }

  pub batch_fault : (f : StoreFault) → fault ≡ Some f → (status : Status) → status ≡ status_of_fault f → 1 ≤ length group → IsDisk (view (of_pair st.side c d)) → IsTrue st.log.is_open → (fault ≡ Some StoreFault.Disk → su.log.is_open ≡ false) → (fault ≡ Some StoreFault.Disk → items ≡ [])
      → (none_failed : Type 0) → (fault ≡ Some StoreFault.Disk → DiskFailed view t.disk t.clock t.repos J group (scene st (of_pair st.side a b) around) (scene su (of_pair st.side c d) around_now) none_failed)
      → (IsTrue t.output → x ≡ w ++ text_of (answered group outcomes)) → ToldBut (f ≡ StoreFault.Disk) ⊥ status p.place q.place → (none_failed → (failed_now.clock ≡ failed.clock) × (failed_now.repos ≡ failed.repos) × SpendsNone around.panel around_now.panel)
      → Stopped t J group p q status
  batch_fault f is status at some is_disk is_open closed unanswered none_failed failing written told alone = subst (Stopped t J group p q) (sym at) (by f is (subst (λ (s : Status). ToldBut (f ≡ StoreFault.Disk) ⊥ s p.place q.place) at told))
    where
      other : (g : StoreFault) → fault ≡ Some g → g ≢ StoreFault.Disk → ToldBut (g ≡ StoreFault.Disk) ⊥ (status_of_fault g) p.place q.place → Stopped t J group p q (status_of_fault g)
      other g is not told = batch_stops view t J group st su a b c d side around around_now items outcomes same fault batched tally after live_group w x failed failed_now g is not written
          (λ X. told_weaker _ _ ⊥ ⊥ (status_of_fault g) p.place q.place (λ disk. absurd (not disk)) (λ no. no) told)

      disk : fault ≡ Some StoreFault.Disk → ToldBut (StoreFault.Disk ≡ StoreFault.Disk) ⊥ Status.Disk p.place q.place → Stopped t J group p q Status.Disk
      disk is told = batch_fails view t J group st su a b c d side around around_now none_failed (failing is) tally after live_group w x failed failed_now some is_disk is_open (closed is)
          (λ tells. written tells ∙ ap (λ (l : List Outcome). w ++ text_of (answered group l)) (same ∙ unanswered is))
          (λ X none. record {
            disks = told.disks;
            unspent = λ shown _. (alone (none shown)).2;
            repos = λ shown _. (alone (none shown)).1;
            clock = λ shown _. (alone (none shown)).0;
            output = told.output;
            input = told.input;
            feed = told.feed;
            door = told.door;
            wire = told.wire;
          })

      by : (g : StoreFault) → fault ≡ Some g → ToldBut (g ≡ StoreFault.Disk) ⊥ (status_of_fault g) p.place q.place → Stopped t J group p q (status_of_fault g)
      by StoreFault.Disk is told = disk is told
      by (StoreFault.BadLog place) is told = other (StoreFault.BadLog place) is (λ no. cc) told
      by (StoreFault.Full e) is told = other (StoreFault.Full e) is (λ no. cc) told
      by StoreFault.SeqEnd is told = other StoreFault.SeqEnd is (λ no. cc) told
      by StoreFault.Authority is told = other StoreFault.Authority is (λ no. cc) told
      by StoreFault.Repos is told = other StoreFault.Repos is (λ no. cc) told
      by StoreFault.Memory is told = other StoreFault.Memory is (λ no. cc) told
      by StoreFault.Clock is told = other StoreFault.Clock is (λ no. cc) told

-- where something was answered, the disk didn't fail
pub answered_not : (items outcomes : List Outcome) (fault : Option StoreFault) → 0 < length outcomes → outcomes ≡ items → (fault ≡ Some StoreFault.Disk → items ≡ []) → fault ≢ Some StoreFault.Disk
answered_not items outcomes fault some same unanswered is = absurd (omega (arith, some, ap length (same ∙ unanswered is)))

-- the store is open still, on the disk of its side
pub open_kept : (t : Tells) (side : Side) (q : Point) → q.store.side ≡ side → IsTrue q.store.log.is_open → (IsTrue t.disk → IsKept q.store (view_of_side side q.place.one q.place.two)) → IsReady t q
open_kept t side q same is_open on = record { is_open = is_open; on = λ told. subst (λ (s : Side). IsKept q.store (view_of_side s q.place.one q.place.two)) (sym same) (on told) }

-- ---- a message of a host that ended before

abbrev pub passed : Message → Step
passed m = step_of m.host m.bytes after_end

-- the first message, and the rest
pub first_in : (group : List Message) (m : Message) → 1 ≤ length group → get_or group 0 m ≡ m → group ≡ (m ∷ []) ++ drop 1 group
first_in [] m some is = absurd (omega (arith, some))
first_in (x ∷ group) m some is = ap (λ (y : Message). y ∷ group) is

skipped_asked : (C R : Bool) (J : List Row) (m : Message) (a : Around) → OneAsked C R J a (passed m) a
skipped_asked C R J m a = record {
  fetch = [];
  fetched = refl;
  made = refl;
  timed = λ tells. refl;
  same = λ tells did. refl;
}

module _ (t : Tells) (J : List Row) (group : List Message) (m : Message) (store : StoreState) (tally after : Tally) (one two : View) (around : Around) (failed failed_now : Faults) (w x : List ℕ)
    (some : 1 ≤ length group) (first : get_or group 0 m ≡ m) (is_disk : IsDisk (view_of_side store.side one two)) (of : IsOf J store.core) (ended : has_ended tally.ended.items m.host ≡ true) where
  abbrev ahead : Point
  ahead = record { store = store; tally = tally; place = at_place one two around w failed }

  abbrev past : Point
  past = record { store = store; tally = after; place = at_place one two around x failed_now }

  same : J ++ [] ≡ J
  same = append-nil J

  asked_here : AllAsked t.clock t.repos J around (passed m ∷ []) around
  asked_here = (around, skipped_asked t.clock t.repos J m around, nothing_here t.clock t.repos around)

  pub pass_goes : IsNoted ((m.host, None) ∷ []) tally after → (IsTrue t.output → x ≡ w ++ over_line m.host) → Going t J (take 1 group) ahead past
  pass_goes noted written = record {
    steps = passed m ∷ [];
    of = sym (ap (λ (l : List Message). take 1 l) (first_in group m some first) ∙ take_at (m ∷ []) (drop 1 group) 1 refl);
    are = λ checks opens links. (ended, tt);
    journal = subst IsJournal (sym same) of.journal;
    known = subst (Holds store.core) (sym same) of.holds;
    on_disk = λ told keeps. nothing_kept J store (live ahead) is_disk keeps;
    format = refl;
    most = refl;
    room = inl (refl, refl);
    noted = noted;
    written = λ told. written told ∙ ap (λ (l : List ℕ). w ++ l) (sym (append-nil (over_line m.host)));
    asked = asked_here;
  }

  -- its line couldn't be written
  pub pass_unwritten : (status : Status) → IsUnwritten status → (IsTrue t.output → Writes status [] (over_line m.host) w x) → (status ≡ Status.Memory → IsTrue t.output → x ≡ w)
      → ((X : Type 0) → ToldBut X ⊥ status ahead.place past.place) → Stopped t J group ahead past status
  pass_unwritten status one wrote nothing told =
      let lines : IsTrue t.output → Writes status [] (lines_of (passed m ∷ [])) w x = λ tells. subst (λ (l : List ℕ). Writes status [] l w x) (sym (append-nil (over_line m.host))) (wrote tells) in
      let short : StopsShort t.output status (passed m ∷ []) [] (drop 1 group) w x = unwritten_short t.output status (passed m ∷ []) [] (drop 1 group) w x one (λ none. let no : ⊥ = cc in no) lines nothing in
      let stop = unwritten_stops status one in
      record {
        taken = record {
          steps = passed m ∷ [];
          under = [];
          extra = [];
          behind = drop 1 group;
          good = λ place. unwritten_good status place one;
          which_under = λ _. refl;
          few_extra = omega arith;
          which_extra = λ _. refl;
          all = λ source. absurd (stop_not_source status stop source);
          are = λ checks opens links. (ended, tt);
          journal = subst IsJournal (sym same) of.journal;
          mid = around;
          asked = asked_here;
          stops = nothing_in_vain t.clock t.repos around around (drop 1 group) (nothing_here t.clock t.repos around);
          still = λ source. absurd (stop_not_source status stop source);
          next = unwritten_next t (J ++ []) (drop 1 group) around around status one;
          told = told _;
        };
        front = first_in group m some first;
        store = record {
          known = λ _. subst (Holds store.core) (sym same) of.holds;
          on_disk = λ told keeps.
              let kept = nothing_kept J store (live ahead) is_disk keeps in
              record {
                keeps = λ _. kept.keeps;
                moments = weaker _ _ _ _ kept.moments (λ z h. inl h);
                left = λ z now. inl (kept_log (J ++ []) store (live ahead) kept.keeps z now);
              };
          format = refl;
          most = refl;
          room = λ _. inl (refl, refl);
          full = λ e is. absurd (unwritten_full status e one is);
        };
        written = λ tells. unwritten_lines status (lines_of (passed m ∷ [])) w x one (lines tells);
        before = unwritten_before status _ [] [] (drop 1 group) short;
      }

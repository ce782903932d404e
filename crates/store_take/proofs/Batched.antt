-- What was taken ahead of the disk, once it is durable.
use Rattle.std.proofs.Common.{◌≡◌, ◌≢◌, inl, inr, ◌⊎◌, ⊎_elim, ◌≤◌, List, [], ◌∷◌, ◌++◌, length, map, Bool, Option, Some, None, IsTrue, refl, sym, ◌∙◌, ap, subst, arith, append_assoc, length-append, ◌+◌}
use Rattle.std.proofs.lemmas.List.{append-nil, length-map}
use Rattle.event_window.specs.declared.place.Place.{Place}
use Rattle.relay_disk.specs.Disk.{View, IsDisk}
use Rattle.relay_disk.specs.Moments.{LeavesOnly}
use Rattle.relay_disk.proofs.Moments.{no_call}
use Rattle.gate_log.specs.Log.{IsOn, LogState}
use Rattle.gate_log.specs.declared.picking.Side.{Side}
use Rattle.relay_row.specs.declared.row.Row.{Row}
use Rattle.relay_core.specs.Entries.{Holds}
use Rattle.relay_core.specs.declared.journal_state.Core.{Core}
use Rattle.relay_row.specs.Journal.{IsJournal}
use Rattle.relay_step.specs.Around.{Around}
use Rattle.relay_step.specs.Steps.{Step, rows}
use Rattle.store_take.specs.Batches.{AreAnswers, AreExtra, Batched, DiskFailed, EndsLast, HasEnd, StopsAsking, message_from, scene, messages_sent}
use Rattle.relay_store.specs.PendingBodies.{HasRows, IsAhead, behind_pending, end_of}
use Rattle.relay_store.specs.Journals.{IsOneOf, bytes_of}
use Rattle.store_take.specs.Outcomes.{outcome_of}
use Rattle.relay_store.specs.Places.{places_in, places_of}
use Rattle.relay_store.specs.Store.{IsKept, IsOf, Keeps, StoreState, seen}
use Rattle.store_take.specs.Taking.{Stopped}
use Rattle.relay_store.specs.declared.pending.Pending.{Pending}
use Rattle.relay_store.specs.declared.fault.StoreFault.{StoreFault}
use Rattle.store_take.specs.declared.message.Message.{Message}
use Rattle.store_take.specs.declared.outcome.Outcome.{Outcome}
use Rattle.store_take.proofs.Asks.{nothing_here, nothing_in_vain}
use Rattle.store_take.proofs.Commits.{no_rows}
use Rattle.relay_store.proofs.Images.{kept_log}
use Rattle.store_take.proofs.Nexts.{next_none}
use Rattle.store_take.proofs.Rooms.{behind_is}
use Rattle.store_take.proofs.Runs.{sent_joined}
use Rattle.relay_store.proofs.Encodings.{pending_is}

pub kept_of : (K : List Row) (log : LogState) (side : Side) (state : Core) (places : List Place) (v : View) → IsAhead K [] log state places v → Keeps K (seen log side state places) v
kept_of K log side state places v on = record {
  bodies = on.bodies;
  are = on.are;
  holds = on.holds;
  core = subst (Holds state) (append-nil K) on.core;
  window = on.window ∙ append-nil (places_of log.format on.bodies);
}

answers_for : (fault : Option StoreFault) (steps : List Step) (outcomes : List Outcome) → fault ≢ Some StoreFault.Disk → map Some outcomes ≡ map outcome_of steps → AreAnswers fault steps outcomes
answers_for None steps outcomes not is = is
answers_for (Some StoreFault.Disk) steps outcomes not is = absurd (not refl)
answers_for (Some (StoreFault.BadLog p)) steps outcomes not is = is
answers_for (Some (StoreFault.Full e)) steps outcomes not is = is
answers_for (Some StoreFault.SeqEnd) steps outcomes not is = is
answers_for (Some StoreFault.Authority) steps outcomes not is = is
answers_for (Some StoreFault.Repos) steps outcomes not is = is
answers_for (Some StoreFault.Memory) steps outcomes not is = is
answers_for (Some StoreFault.Clock) steps outcomes not is = is

extra_few : (fault : Option StoreFault) (extra : List Step) → AreExtra fault extra → length extra ≤ 1
extra_few None extra which = omega (arith, ap length which)
extra_few (Some StoreFault.Disk) extra which = which
extra_few (Some (StoreFault.BadLog p)) extra which = absurd which
extra_few (Some (StoreFault.Full e)) extra which = omega (arith, which)
extra_few (Some StoreFault.SeqEnd) extra which = omega (arith, ap length which)
extra_few (Some StoreFault.Authority) extra which = omega (arith, ap length which)
extra_few (Some StoreFault.Repos) extra which = omega (arith, ap length which)
extra_few (Some StoreFault.Memory) extra which = which
extra_few (Some StoreFault.Clock) extra which = omega (arith, ap length which)

-- the disk may fail behind each of them
disk_stops : (C R : Bool) (fault : Option StoreFault) (extra : List Step) (behind : List Message) (b c : Around)
    → StopsAsking C R fault extra behind b c → StopsAsking C R (Some StoreFault.Disk) extra behind b c
disk_stops C R None [] behind b c stops = nothing_in_vain C R b c behind stops
disk_stops C R None (s ∷ extra) behind b c stops = stops
disk_stops C R (Some fault) extra behind b c stops = stops

module _ (C R : Bool) (log : LogState) (group : List Message) (state state_now : Core) (places places_now : List Place) (d_now : Pending) (a b : Around) (outcomes : List Outcome) (fault : Option StoreFault)
    (st : Stopped C R log group state state_now places places_now d_now a b outcomes fault) (side : Side) where
  -- what is known is ahead of the disk
  pub ahead : (J : List Row) (v : View) → Keeps J (seen log side state places) v → IsAhead J (rows st.gathered.steps) log state_now places_now v
  ahead J v keeps = record {
    bodies = keeps.bodies;
    are = keeps.are;
    journal = st.gathered.journal J keeps.core keeps.are.journal;
    holds = keeps.holds;
    core = st.gathered.core J keeps.core;
    window = st.gathered.window ∙ ap (λ (l : List Place). l ++ places_in log.end 0 (rows st.gathered.steps)) keeps.window;
  }

  pub has_rows : (rows : List Row) × HasRows rows d_now
  has_rows = (rows st.gathered.steps, st.gathered.pending)

  as_many : length outcomes ≡ length st.gathered.steps
  as_many = sym (length-map outcomes Some) ∙ ap length st.gathered.answers ∙ length-map st.gathered.steps outcome_of

  in_front : length group ≡ length st.gathered.steps + length st.left
  in_front = omega (arith, ap length st.gathered.front, length-append (messages_sent st.gathered.steps) st.left, length-map st.gathered.steps (λ s. message_from s.host s.bytes))

  -- no message has two outcomes
  pub answers_few : length outcomes ≤ length group
  answers_few = omega (arith, as_many, in_front)

  -- and unless a fault came each has one, or each up to the end of a host
  pub answers_all : fault ≡ None → (length outcomes ≡ length group) ⊎ HasEnd outcomes
  answers_all none =
      let no_extra : st.extra ≡ [] = subst (λ (f : Option StoreFault). AreExtra f st.extra) none st.which in
      ⊎_elim
      (λ last. inl (omega (arith, as_many, in_front, ap length st.next, ap (λ (l : List Step). length (messages_sent l ++ st.behind)) no_extra, ap length last)))
      (λ ends. inr ends)
      (st.all none)

  pub few_rows : length group ≤ 64 → d_now.count ≤ 64
  few_rows few = omega (arith, few, st.gathered.few, st.gathered.pending.count)

  -- a fault at a message leaves it over
  left_over : (f : StoreFault) → fault ≡ Some f → st.extra ≡ [] → st.behind ≡ [] → ⊥
  left_over f is whole last = st.some_left (λ none. let no : ⊥ = cc in no) whole last

  roomy : (rows st.gathered.steps ≡ []) ⊎ (end_of log.end (rows st.gathered.steps) ≤ log.most)
  roomy = ⊎_elim
      (λ none. inl (no_rows (rows st.gathered.steps) (sym st.gathered.pending.count ∙ none)))
      (λ fits. inr (omega (arith, fits.0, ap length (pending_is (rows st.gathered.steps) d_now st.gathered.pending))))
      st.gathered.fits

  front_of : group ≡ messages_sent (st.gathered.steps ++ st.extra) ++ st.behind
  front_of = st.gathered.front ∙ ap (λ (l : List Message). messages_sent st.gathered.steps ++ l) st.next ∙ sym (append_assoc (messages_sent st.gathered.steps) (messages_sent st.extra) st.behind)
      ∙ ap (λ (l : List Message). l ++ st.behind) (sym (sent_joined st.gathered.steps st.extra))

  module _ {D : Type 0} (view : D → View) (tells : Bool) (disk disk_now : D) (log_now : LogState)
      (moments : IsTrue tells → (J rows : List Row) → HasRows rows d_now → IsAhead J rows log state_now places_now (view disk) → LeavesOnly (IsOneOf log.format J rows) (view disk) (view disk_now))
      (format : (log_now.format ≡ log.format) × (log_now.most ≡ log.most))
      (untouched : d_now.count ≡ 0 → (log_now ≡ log) × (disk_now ≡ disk)) where
    untouched_by : rows st.gathered.steps ≡ [] → (log_now ≡ log) × ((places_now ≡ places) × (disk_now ≡ disk))
    untouched_by none =
        let same = untouched (st.gathered.pending.count ∙ ap length none) in
        (same.0, (st.gathered.window ∙ ap (λ (l : List Row). places ++ places_in log.end 0 l) none ∙ append-nil places, same.1))

    pub batched : fault ≢ Some StoreFault.Disk → log_now.end ≡ behind_pending log.end d_now
        → (IsTrue tells → (J rows : List Row) → HasRows rows d_now → IsAhead J rows log state_now places_now (view disk) → IsAhead (J ++ rows) [] log_now state_now places_now (view disk_now))
        → (J : List Row) → IsOf J state → Batched view tells C R J group (scene (seen log side state places) disk a) (scene (seen log_now side state_now places_now) disk_now b) outcomes fault
    batched not ends added J of = record {
      steps = st.gathered.steps;
      extra = st.extra;
      which = st.which;
      are = λ checks opens links. st.are checks J opens links of.holds;
      journal = st.journal J of.holds of.journal;
      behind = st.behind;
      front = front_of;
      answers = answers_for fault st.gathered.steps outcomes not st.gathered.answers;
      ends = st.ends;
      all = st.all;
      left = λ failed other. st.some_left failed;
      asked = st.asked J of.holds;
      room = roomy;
      full = st.full;
      next = st.ends_next J of.holds;
      format = format.0;
      most = format.1;
      end = λ n. ends ∙ behind_is log.end (rows st.gathered.steps) d_now st.gathered.pending;
      known = λ n. st.gathered.core J of.holds;
      keeps = λ n told keeps. kept_of (J ++ rows st.gathered.steps) log_now side state_now places_now (view disk_now) (added told J (rows st.gathered.steps) st.gathered.pending (ahead J (view disk) keeps));
      untouched = untouched_by;
      moments = λ told keeps. moments told J (rows st.gathered.steps) st.gathered.pending (ahead J (view disk) keeps);
    }

    -- the disk failed
    pub batched_fails : (J : List Row) → IsOf J state → Batched view tells C R J group (scene (seen log side state places) disk a) (scene (seen log_now side state_now places_now) disk_now b) [] (Some StoreFault.Disk)
    batched_fails J of =
        let asked = st.asked J of.holds in
        record {
          steps = st.gathered.steps;
          extra = st.extra;
          which = extra_few fault st.extra st.which;
          are = λ checks opens links. st.are checks J opens links of.holds;
          journal = st.journal J of.holds of.journal;
          behind = st.behind;
          front = front_of;
          answers = refl;
          ends = tt;
          all = λ none. let no : ⊥ = cc in absurd no;
          left = λ failed other. absurd (other refl);
          asked = record { mid = asked.mid; turns = asked.turns; stops = disk_stops C R fault st.extra st.behind asked.mid b asked.stops };
          room = roomy;
          full = tt;
          next = next_none C R state_now st.behind asked.mid b StoreFault.Disk tt;
          format = format.0;
          most = format.1;
          end = λ n. absurd (n refl);
          known = λ n. absurd (n refl);
          keeps = λ n. absurd (n refl);
          untouched = untouched_by;
          moments = λ told keeps. moments told J (rows st.gathered.steps) st.gathered.pending (ahead J (view disk) keeps);
        }

    -- where no message is left over, that was no fault of what was asked
    pub disk_failed : (none_failed : Type 0) → (fault ≢ Some StoreFault.Clock → fault ≢ Some StoreFault.Repos → fault ≢ Some StoreFault.Authority → none_failed) → (J : List Row) → IsOf J state
        → DiskFailed view tells C R J group (scene (seen log side state places) disk a) (scene (seen log_now side state_now places_now) disk_now b) none_failed
    unfolding batched_fails
    disk_failed none_failed by J of = record {
      batched = batched_fails J of;
      alone = λ last. by (λ is. left_over StoreFault.Clock is (subst (λ (f : Option StoreFault). AreExtra f st.extra) is st.which) last)
          (λ is. left_over StoreFault.Repos is (subst (λ (f : Option StoreFault). AreExtra f st.extra) is st.which) last)
          (λ is. left_over StoreFault.Authority is (subst (λ (f : Option StoreFault). AreExtra f st.extra) is st.which) last);
    }

    pub batched_fails_as : (os : List Outcome) (f : Option StoreFault) → os ≡ [] → f ≡ Some StoreFault.Disk → (J : List Row) → IsOf J state
        → Batched view tells C R J group (scene (seen log side state places) disk a) (scene (seen log_now side state_now places_now) disk_now b) os f
    batched_fails_as os f none is J of =
        subst (λ (x : Option StoreFault). Batched view tells C R J group (scene (seen log side state places) disk a) (scene (seen log_now side state_now places_now) disk_now b) os x) (sym is)
        (subst (λ (l : List Outcome). Batched view tells C R J group (scene (seen log side state places) disk a) (scene (seen log_now side state_now places_now) disk_now b) l (Some StoreFault.Disk)) (sym none) (batched_fails J of))

-- there was no memory to begin
pub batched_none : {D : Type 0} (view : D → View) (tells C R : Bool) (J : List Row) (group : List Message) (log : LogState) (side : Side) (state : Core) (places : List Place) (disk : D) (a : Around) (outcomes : List Outcome) → outcomes ≡ [] → 1 ≤ length group → IsDisk (view disk) → IsOf J state
    → Batched view tells C R J group (scene (seen log side state places) disk a) (scene (seen log side state places) disk a) outcomes (Some StoreFault.Memory)
batched_none view tells C R J group log side state places disk a outcomes no_outcome some is_disk of = record {
  steps = [];
  extra = [];
  which = omega arith;
  are = λ checks opens links. tt;
  journal = subst IsJournal (sym (append-nil J)) of.journal;
  behind = group;
  front = refl;
  answers = ap (λ (os : List Outcome). map Some os) no_outcome;
  ends = subst EndsLast (sym no_outcome) tt;
  all = λ none. let no : ⊥ = cc in absurd no;
  left = λ failed other whole none. let no : ⊥ = omega (arith, some, ap length none) in no;
  asked = record { mid = a; turns = nothing_here C R a; stops = nothing_in_vain C R a a group (nothing_here C R a) };
  room = inl refl;
  full = tt;
  next = next_none C R state group a a StoreFault.Memory tt;
  format = refl;
  most = refl;
  end = λ n. refl;
  known = λ n. subst (Holds state) (sym (append-nil J)) of.holds;
  keeps = λ n told keeps. subst (λ (K : List Row). Keeps K (seen log side state places) (view disk)) (sym (append-nil J)) keeps;
  untouched = λ none. (refl, (refl, refl));
  moments = λ told keeps. no_call _ (view disk) is_disk (λ c left. inl (kept_log J (seen log side state places) (view disk) keeps c left));
}

pub on_kept : (s : StoreState) (v : View) → IsKept s v → IsOn v s.log
on_kept s v kept = (bytes_of kept.1.bodies, kept.1.holds)

pub of_kept : (s : StoreState) (v : View) (kept : IsKept s v) → IsOf kept.0 s.core
of_kept s v kept = record { holds = kept.1.core; journal = kept.1.are.journal }

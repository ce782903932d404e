-- Messages taken one after another, ahead of the disk.
use Rattle.std.proofs.Common.{◌≡◌, ◌≢◌, inl, inr, ◌⊎◌, ℕ, zero, suc, ◌+◌, ◌<◌, List, [], ◌∷◌, ◌++◌, length, map, drop, get_or, Bool, true, false, Option, Some, None, Result, refl, sym, ◌∙◌, ap, subst, arith, append_assoc, length-append}
use Rattle.std.proofs.lemmas.List.{append-nil, drop_more}
use Rattle.std.specs.List.{list_all}
use Rattle.std.proofs.lemmas.Bool.{and_parts}
use Rattle.at_syntax.specs.Host.{is_host}
use Rattle.std.specs.Prelude.{⊤}
use Rattle.at_event.specs.Frames.{frame_of}
use Rattle.at_event.specs.declared.frame.Frame.{Frame}
use Rattle.at_event.specs.declared.frame.FrameFault.{FrameFault}
use Rattle.event_window.specs.declared.place.Place.{Place}
use Rattle.gate_log.specs.Log.{LogState}
use Rattle.relay_row.specs.Journal.{IsJournal}
use Rattle.relay_row.specs.declared.row.Row.{Row}
use Rattle.relay_core.specs.Decide.{Checks}
use Rattle.relay_core.specs.Entries.{Holds}
use Rattle.relay_core.specs.Opening.{OpensRight}
use Rattle.relay_core.specs.declared.journal_state.Core.{Core}
use Rattle.relay_law.specs.Right.{LinksRight}
use Rattle.relay_step.specs.Around.{Around, AllAsked}
use Rattle.relay_step.specs.Causes.{IsSpentFor}
use Rattle.relay_step.specs.Messages.{EndsNumbers, KeepsJournal}
use Rattle.relay_step.specs.Steps.{Step, Decided, after_end, skipped, recorded, AreSteps, IsDecidedAs, ended_decided, rows, rows_decided, step_of}
use Rattle.store_take.specs.Batches.{AreExtra, EndsFull, EndsNext, HasEnd, NoneEnds, StopsAsking, is_end, messages_sent}
use Rattle.relay_store.specs.PendingBodies.{Fits, HasRows, IsUnchanged}
use Rattle.relay_store.specs.Faults.{IsCause}
use Rattle.store_take.specs.Outcomes.{outcome_decided, skipped_outcome}
use Rattle.relay_store.specs.Places.{places_in}
use Rattle.store_take.specs.Taking.{AreAdded, ComesOfAsking, Gathered, IsGathering, IsInVain, IsTaken, IsTooLate, Stopped}
use Rattle.relay_store.specs.declared.pending.Pending.{Pending}
use Rattle.relay_store.specs.declared.fault.StoreFault.{StoreFault}
use Rattle.store_take.specs.declared.message.Message.{Message}
use Rattle.store_take.specs.declared.outcome.Outcome.{Outcome}
use Rattle.store_take.proofs.Asks.{all_one, nothing_here}
use Rattle.relay_store.proofs.Folds.{places_append}
use Rattle.store_take.proofs.Nexts.{next_none, next_nothing}
use Rattle.store_take.proofs.Runs.{answers_one, ended_joined, ends_none, ends_one, none_one, rows_one, sent_joined, stays_on, steps_one, told_few}

ended_case : (host : List ℕ) (frame : Result Frame FrameFault) (told : Decided) (o : Outcome) → outcome_decided frame told ≡ Some o → is_end o ≡ false → (checks : Checks) (J : List Row) → IsDecidedAs checks J [] (host, frame) told → ended_decided told host [] ≡ []
ended_case host frame after_end o is not checks J right = refl
ended_case host frame (skipped pass) o is not checks J right =
    let same : skipped_outcome frame ≡ o = cc in
    stays_on J host frame pass right.1 (ap is_end same ∙ not)
ended_case host frame (recorded t) o is not checks J right = refl

-- a fault that comes of a message alone, by what it is
extra_of : (f : StoreFault) → ComesOfAsking f → AreExtra (Some f) []
extra_of StoreFault.Disk of = absurd of
extra_of (StoreFault.BadLog p) of = absurd of
extra_of (StoreFault.Full e) of = absurd of
extra_of StoreFault.SeqEnd of = refl
extra_of StoreFault.Authority of = refl
extra_of StoreFault.Repos of = refl
extra_of StoreFault.Memory of = omega arith
extra_of StoreFault.Clock of = refl

full_of : (f : StoreFault) (log : LogState) (steps : List Step) → ComesOfAsking f → EndsFull log steps [] (Some f)
full_of StoreFault.Disk log steps of = absurd of
full_of (StoreFault.BadLog p) log steps of = absurd of
full_of (StoreFault.Full e) log steps of = absurd of
full_of StoreFault.SeqEnd log steps of = tt
full_of StoreFault.Authority log steps of = tt
full_of StoreFault.Repos log steps of = tt
full_of StoreFault.Memory log steps of = tt
full_of StoreFault.Clock log steps of = tt

next_of : (C R : Bool) (f : StoreFault) (state : Core) (m : Message) (left : List Message) (b c : Around) → ComesOfAsking f → IsCause (EndsNumbers C R state b m.host (frame_of m.bytes) c) (IsSpentFor state m.host (frame_of m.bytes) c.panel) ⊤ ⊤ f
    → EndsNext C R state (m ∷ left) b c (Some f)
next_of C R StoreFault.Disk state m left b c of cause = absurd of
next_of C R (StoreFault.BadLog p) state m left b c of cause = absurd of
next_of C R (StoreFault.Full e) state m left b c of cause = absurd of
next_of C R StoreFault.SeqEnd state m left b c of cause = cause
next_of C R StoreFault.Authority state m left b c of cause = cause
next_of C R StoreFault.Repos state m left b c of cause = tt
next_of C R StoreFault.Memory state m left b c of cause = tt
next_of C R StoreFault.Clock state m left b c of cause = tt

pub vain_not_disk : (f : StoreFault) → ComesOfAsking f → Some f ≢ Some StoreFault.Disk
vain_not_disk StoreFault.Disk of is = of
vain_not_disk (StoreFault.BadLog p) of is = of
vain_not_disk (StoreFault.Full e) of is = of
vain_not_disk StoreFault.SeqEnd of is = let no : ⊥ = cc in no
vain_not_disk StoreFault.Authority of is = let no : ⊥ = cc in no
vain_not_disk StoreFault.Repos of is = let no : ⊥ = cc in no
vain_not_disk StoreFault.Memory of is = let no : ⊥ = cc in no
vain_not_disk StoreFault.Clock of is = let no : ⊥ = cc in no

pub late_not_disk : (log : LogState) (d : Pending) (told : Decided) (f : StoreFault) → IsTooLate log d told f → Some f ≢ Some StoreFault.Disk
late_not_disk log d told StoreFault.Disk late is = late
late_not_disk log d told (StoreFault.BadLog p) late is = late
late_not_disk log d told (StoreFault.Full e) late is = let no : ⊥ = cc in no
late_not_disk log d told StoreFault.SeqEnd late is = late
late_not_disk log d told StoreFault.Authority late is = late
late_not_disk log d told StoreFault.Repos late is = late
late_not_disk log d told StoreFault.Memory late is = let no : ⊥ = cc in no
late_not_disk log d told StoreFault.Clock late is = late

late_extra : (log : LogState) (d : Pending) (told : Decided) (f : StoreFault) (s : Step) → IsTooLate log d told f → AreExtra (Some f) (s ∷ [])
late_extra log d told StoreFault.Disk s late = absurd late
late_extra log d told (StoreFault.BadLog p) s late = absurd late
late_extra log d told (StoreFault.Full e) s late = refl
late_extra log d told StoreFault.SeqEnd s late = absurd late
late_extra log d told StoreFault.Authority s late = absurd late
late_extra log d told StoreFault.Repos s late = absurd late
late_extra log d told StoreFault.Memory s late = omega arith
late_extra log d told StoreFault.Clock s late = absurd late

late_full : (log : LogState) (d : Pending) (told : Decided) (f : StoreFault) (steps : List Step) (s : Step) → s.decided ≡ told → HasRows (rows steps) d → IsTooLate log d told f → EndsFull log steps (s ∷ []) (Some f)
late_full log d told StoreFault.Disk steps s same has late = absurd late
late_full log d told (StoreFault.BadLog p) steps s same has late = absurd late
late_full log d told (StoreFault.Full e) steps s same has late = (late.0, append-nil (rows_decided s.decided) ∙ ap rows_decided same ∙ late.1, late.2 (rows steps) has)
late_full log d told StoreFault.SeqEnd steps s same has late = absurd late
late_full log d told StoreFault.Authority steps s same has late = absurd late
late_full log d told StoreFault.Repos steps s same has late = absurd late
late_full log d told StoreFault.Memory steps s same has late = tt
late_full log d told StoreFault.Clock steps s same has late = absurd late

late_next : (C R : Bool) (log : LogState) (d : Pending) (told : Decided) (f : StoreFault) (state : Core) (behind : List Message) (c : Around) → IsTooLate log d told f → EndsNext C R state behind c c (Some f)
late_next C R log d told StoreFault.Disk state behind c late = absurd late
late_next C R log d told (StoreFault.BadLog p) state behind c late = absurd late
late_next C R log d told (StoreFault.Full e) state behind c late = next_none C R state behind c c (StoreFault.Full e) tt
late_next C R log d told StoreFault.SeqEnd state behind c late = absurd late
late_next C R log d told StoreFault.Authority state behind c late = absurd late
late_next C R log d told StoreFault.Repos state behind c late = absurd late
late_next C R log d told StoreFault.Memory state behind c late = next_none C R state behind c c StoreFault.Memory tt
late_next C R log d told StoreFault.Clock state behind c late = absurd late

-- nothing was applied since
unchanged_gathered : (C R : Bool) (log : LogState) (group left : List Message) (state state_mid state_now : Core) (places places_mid places_now : List Place) (d d_now : Pending) (a b : Around) (outcomes : List Outcome)
    → Gathered C R log group left state state_mid places places_mid d a b outcomes → IsUnchanged state_mid state_now places_mid places_now d d_now → Fits log d_now → Gathered C R log group left state state_now places places_now d_now a b outcomes
unchanged_gathered C R log group left state state_mid state_now places places_mid places_now d d_now a b outcomes g same fits = record {
  steps = g.steps;
  front = g.front;
  are = g.are;
  journal = g.journal;
  answers = g.answers;
  asked = g.asked;
  core = λ J holds. same.core (J ++ rows g.steps) (g.core J holds);
  window = same.window ∙ g.window;
  pending = record {
    begun = omega (arith, g.pending.begun, ap length same.body);
    encoded_are = ap (λ (l : List ℕ). drop 6 l) same.body ∙ g.pending.encoded_are;
    count = same.count ∙ g.pending.count;
  };
  few = g.few;
  fits = fits;
}

pub host_at : (group : List Message) (i : ℕ) (item : Message) → list_all (λ m. is_host m.host) group ≡ true → i < length group → item ≡ get_or group i item → is_host item.host ≡ true
host_at [] i item all less is = absurd (omega (arith, less))
host_at (m ∷ group) zero item all less is = ap (λ (x : Message). is_host x.host) is ∙ (and_parts (is_host m.host) (list_all (λ m. is_host m.host) group) all).0
host_at (m ∷ group) (suc i) item all less is = host_at group i item (and_parts (is_host m.host) (list_all (λ m. is_host m.host) group) all).1 (omega (arith, less)) is

module _ (C R : Bool) (log : LogState) (group : List Message) where
  pub at_start : (state : Core) (places : List Place) (d : Pending) (a : Around) (outcomes : List Outcome) → HasRows [] d → outcomes ≡ [] → IsGathering C R log group group state state places places d a a outcomes
  at_start state places d a outcomes has none = record {
    gathered = record {
      steps = [];
      front = refl;
      are = λ checks J opens links holds. tt;
      journal = λ J holds is. subst IsJournal (sym (append-nil J)) is;
      answers = ap (λ (os : List Outcome). map Some os) none;
      asked = λ J holds. nothing_here C R a;
      core = λ J holds. subst (Holds state) (sym (append-nil J)) holds;
      window = sym (append-nil places);
      pending = has;
      few = omega arith;
      fits = inl has.count;
    };
    none_ended = λ checks J opens links holds. refl;
    none_ends = subst NoneEnds (sym none) tt;
  }

  pub at_next : (i : ℕ) (item m : Message) (state state_now : Core) (places places_now : List Place) (d : Pending) (a b : Around) (outcomes : List Outcome) → i < length group → item ≡ get_or group i item → m ≡ item
      → IsGathering C R log group (drop i group) state state_now places places_now d a b outcomes → IsGathering C R log group (m ∷ drop (i + 1) group) state state_now places places_now d a b outcomes
  at_next i item m state state_now places places_now d a b outcomes less is same so_far =
      subst (λ (l : List Message). IsGathering C R log group l state state_now places places_now d a b outcomes)
      (drop_more group i item less ∙ ap (λ (x : Message). x ∷ drop (i + 1) group) (sym is ∙ sym same)) so_far

  module _ (left : List Message) (state state_now : Core) (places places_now : List Place) (d : Pending) (a b : Around) (outcomes : List Outcome) (so_far : IsGathering C R log group left state state_now places places_now d a b outcomes) where
    -- nothing more is taken
    pub stops_here : (fault : Option StoreFault) → AreExtra fault [] → (fault ≡ None → (left ≡ []) ⊎ HasEnd outcomes) → (fault ≢ None → left ≢ []) → ((c : Around) → StopsAsking C R fault [] left c c) → EndsFull log so_far.gathered.steps [] fault → EndsNext C R state_now left b b fault
        → Stopped C R log group state state_now places places_now d a b outcomes fault
    stops_here fault which all some asks full next =
        let g = so_far.gathered in
        record {
          left = left;
          now = b;
          gathered = g;
          extra = [];
          behind = left;
          which = which;
          next = refl;
          are = λ checks J opens links holds. subst (AreSteps checks J []) (sym (append-nil g.steps)) (g.are checks J opens links holds);
          journal = subst (λ (l : List Step). KeepsJournal state (rows l)) (sym (append-nil g.steps)) g.journal;
          ends = ends_none outcomes so_far.none_ends;
          all = all;
          some_left = λ failed whole. some failed;
          asked = λ J holds. record { mid = b; turns = subst (λ (l : List Step). AllAsked C R J a l b) (sym (append-nil g.steps)) (g.asked J holds); stops = asks b };
          full = full;
          ends_next = λ J holds. next;
        }

  module _ (m : Message) (left : List Message) (state state_mid : Core) (places places_mid : List Place) (d : Pending) (a b : Around) (outcomes : List Outcome)
      (so_far : IsGathering C R log group (m ∷ left) state state_mid places places_mid d a b outcomes) where
    module _ (told : Decided) (c : Around) (taken : IsTaken C R state_mid m.host m.bytes told b c) where
      are_now : (checks : Checks) (J : List Row) → OpensRight checks → LinksRight checks → Holds state J → AreSteps checks J [] (so_far.gathered.steps ++ step_of m.host m.bytes told ∷ [])
      are_now checks J opens links holds =
          let g = so_far.gathered in
          steps_one checks J [] g.steps (step_of m.host m.bytes told) (g.are checks J opens links holds)
          (subst (λ (ended : List (List ℕ)). IsDecidedAs checks (J ++ rows g.steps) ended (m.host, frame_of m.bytes) told) (sym (so_far.none_ended checks J opens links holds)) (taken.decided checks (J ++ rows g.steps) opens links (g.core J holds)))

      journal_now : KeepsJournal state (rows (so_far.gathered.steps ++ step_of m.host m.bytes told ∷ []))
      journal_now = λ J holds is.
          let g = so_far.gathered in
          subst IsJournal (append_assoc J (rows g.steps) (rows_decided told) ∙ ap (λ (l : List Row). J ++ l) (sym (rows_one g.steps (step_of m.host m.bytes told))))
          (taken.journal (J ++ rows g.steps) (g.core J holds) (g.journal J holds is))

      asked_now : (J : List Row) → Holds state J → AllAsked C R J a (so_far.gathered.steps ++ step_of m.host m.bytes told ∷ []) c
      asked_now J holds = let g = so_far.gathered in all_one C R J a b c g.steps (step_of m.host m.bytes told) (g.asked J holds) (taken.asked (J ++ rows g.steps) (g.core J holds))

      front_now : group ≡ messages_sent (so_far.gathered.steps ++ step_of m.host m.bytes told ∷ []) ++ left
      front_now =
          let g = so_far.gathered in
          g.front ∙ sym (append_assoc (messages_sent g.steps) (m ∷ []) left) ∙ ap (λ (l : List Message). l ++ left) (sym (sent_joined g.steps (step_of m.host m.bytes told ∷ [])))

      module _ (state_now : Core) (places_now : List Place) (d_now : Pending) where
        -- the message's row is applied, if it made one
        pub gathered_more : (o : Outcome) → outcome_decided (frame_of m.bytes) told ≡ Some o → AreAdded log.end (rows_decided told) state_mid state_now places_mid places_now d d_now → Fits log d_now
            → Gathered C R log group left state state_now places places_now d_now a c (outcomes ++ o ∷ [])
        gathered_more o is added fits =
            let g = so_far.gathered in
            let more = rows_one g.steps (step_of m.host m.bytes told) in
            record {
              steps = g.steps ++ step_of m.host m.bytes told ∷ [];
              front = front_now;
              are = are_now;
              journal = journal_now;
              answers = answers_one outcomes g.steps o (step_of m.host m.bytes told) g.answers is;
              asked = asked_now;
              core = λ J holds. subst (Holds state_now) (append_assoc J (rows g.steps) (rows_decided told) ∙ ap (λ (l : List Row). J ++ l) (sym more)) (added.core (J ++ rows g.steps) (g.core J holds));
              window = added.window ∙ ap (λ (l : List Place). l ++ places_in log.end d.count (rows_decided told)) g.window ∙ append_assoc places (places_in log.end 0 (rows g.steps)) (places_in log.end d.count (rows_decided told))
                  ∙ ap (λ (l : List Place). places ++ l) (sym (places_append log.end 0 d.count (rows g.steps) (rows_decided told) (omega (arith, g.pending.count)))) ∙ ap (λ (l : List Row). places ++ places_in log.end 0 l) (sym more);
              pending = subst (λ (l : List Row). HasRows l d_now) (sym more) (added.pending (rows g.steps) g.pending);
              few = omega (arith, g.few, ap length more, length-append (rows g.steps) (rows_decided told), told_few told);
              fits = fits;
            }

        ended_not : (o : Outcome) → outcome_decided (frame_of m.bytes) told ≡ Some o → is_end o ≡ false → (checks : Checks) (J : List Row) → IsDecidedAs checks J [] (m.host, frame_of m.bytes) told → ended_decided told m.host [] ≡ []
        ended_not o is not checks J right = ended_case m.host (frame_of m.bytes) told o is not checks J right

        pub gathering_more : (o : Outcome) → outcome_decided (frame_of m.bytes) told ≡ Some o → AreAdded log.end (rows_decided told) state_mid state_now places_mid places_now d d_now → Fits log d_now → is_end o ≡ false
            → IsGathering C R log group left state state_now places places_now d_now a c (outcomes ++ o ∷ [])
        unfolding gathered_more
        gathering_more o is added fits not = record {
          gathered = gathered_more o is added fits;
          none_ended = λ checks J opens links holds.
              let g = so_far.gathered in
              ended_joined g.steps (step_of m.host m.bytes told ∷ []) [] ∙ ap (λ (ended : List (List ℕ)). ended_decided told m.host ended) (so_far.none_ended checks J opens links holds)
              ∙ ended_not o is not checks (J ++ rows g.steps) (taken.decided checks (J ++ rows g.steps) opens links (g.core J holds));
          none_ends = none_one outcomes o so_far.none_ends not;
        }

        -- and its host ended with it
        pub gathering_ends : (o : Outcome) → outcome_decided (frame_of m.bytes) told ≡ Some o → AreAdded log.end (rows_decided told) state_mid state_now places_mid places_now d d_now → Fits log d_now → is_end o ≡ true
            → Stopped C R log group state state_now places places_now d_now a c (outcomes ++ o ∷ []) None
        gathering_ends o is added fits ends =
            let g = gathered_more o is added fits in
            record {
              left = left;
              now = c;
              gathered = g;
              extra = [];
              behind = left;
              which = refl;
              next = refl;
              are = λ checks J opens links holds. subst (AreSteps checks J []) (sym (append-nil g.steps)) (g.are checks J opens links holds);
              journal = subst (λ (l : List Step). KeepsJournal state (rows l)) (sym (append-nil g.steps)) g.journal;
              ends = ends_one outcomes o so_far.none_ends;
              all = λ none. inr (outcomes, o, refl, ends);
              some_left = λ failed. absurd (failed refl);
              asked = λ J holds. record { mid = c; turns = subst (λ (l : List Step). AllAsked C R J a l c) (sym (append-nil g.steps)) (g.asked J holds); stops = nothing_here C R c };
              full = tt;
              ends_next = λ J holds. next_nothing C R state_now left c c;
            }

        -- and none is left
        pub gathering_last : (o : Outcome) → outcome_decided (frame_of m.bytes) told ≡ Some o → AreAdded log.end (rows_decided told) state_mid state_now places_mid places_now d d_now → Fits log d_now → left ≡ []
            → Stopped C R log group state state_now places places_now d_now a c (outcomes ++ o ∷ []) None
        gathering_last o is added fits last =
            let g = gathered_more o is added fits in
            record {
              left = left;
              now = c;
              gathered = g;
              extra = [];
              behind = left;
              which = refl;
              next = refl;
              are = λ checks J opens links holds. subst (AreSteps checks J []) (sym (append-nil g.steps)) (g.are checks J opens links holds);
              journal = subst (λ (l : List Step). KeepsJournal state (rows l)) (sym (append-nil g.steps)) g.journal;
              ends = ends_one outcomes o so_far.none_ends;
              all = λ none. inl last;
              some_left = λ failed. absurd (failed refl);
              asked = λ J holds. record { mid = c; turns = subst (λ (l : List Step). AllAsked C R J a l c) (sym (append-nil g.steps)) (g.asked J holds); stops = nothing_here C R c };
              full = tt;
              ends_next = λ J holds. next_nothing C R state_now left c c;
            }

        -- its row found no room, or no memory
        pub stops_late : (f : StoreFault) → IsUnchanged state_mid state_now places_mid places_now d d_now → Fits log d_now → IsTooLate log d told f → Stopped C R log group state state_now places places_now d_now a c outcomes (Some f)
        unfolding unchanged_gathered
        stops_late f same fits late = record {
          left = m ∷ left;
          now = b;
          gathered = unchanged_gathered C R log group (m ∷ left) state state_mid state_now places places_mid places_now d d_now a b outcomes so_far.gathered same fits;
          extra = step_of m.host m.bytes told ∷ [];
          behind = left;
          which = late_extra log d told f (step_of m.host m.bytes told) late;
          next = refl;
          are = are_now;
          journal = journal_now;
          ends = ends_none outcomes so_far.none_ends;
          all = λ none. let no : ⊥ = cc in absurd no;
          some_left = λ failed whole. let no : ⊥ = cc in absurd no;
          asked = λ J holds. record { mid = c; turns = asked_now J holds; stops = nothing_here C R c };
          full = late_full log d told f so_far.gathered.steps (step_of m.host m.bytes told) refl so_far.gathered.pending late;
          ends_next = λ J holds. late_next C R log d told f state_now left c late;
        }

    -- a fault came of the message alone
    pub stops_in_vain : (state_now : Core) (places_now : List Place) (d_now : Pending) (c : Around) (f : StoreFault) → IsUnchanged state_mid state_now places_mid places_now d d_now → Fits log d_now → IsInVain C R state_mid state_now m.host m.bytes b c f
        → Stopped C R log group state state_now places places_now d_now a c outcomes (Some f)
    unfolding unchanged_gathered
    stops_in_vain state_now places_now d_now c f same fits vain =
        let g = unchanged_gathered C R log group (m ∷ left) state state_mid state_now places places_mid places_now d d_now a b outcomes so_far.gathered same fits in
        record {
          left = m ∷ left;
          now = b;
          gathered = g;
          extra = [];
          behind = m ∷ left;
          which = extra_of f vain.of_asking;
          next = refl;
          are = λ checks J opens links holds. subst (AreSteps checks J []) (sym (append-nil so_far.gathered.steps)) (so_far.gathered.are checks J opens links holds);
          journal = subst (λ (l : List Step). KeepsJournal state (rows l)) (sym (append-nil so_far.gathered.steps)) so_far.gathered.journal;
          ends = ends_none outcomes so_far.none_ends;
          all = λ none. let no : ⊥ = cc in absurd no;
          some_left = λ failed whole is. let no : ⊥ = cc in no;
          asked = λ J holds. record { mid = b; turns = subst (λ (l : List Step). AllAsked C R J a l b) (sym (append-nil so_far.gathered.steps)) (so_far.gathered.asked J holds); stops = vain.asked };
          full = full_of f log so_far.gathered.steps vain.of_asking;
          ends_next = λ J holds.
              next_of C R f state_now m left b c vain.of_asking
              (subst (λ (k : Core). IsCause (EndsNumbers C R k b m.host (frame_of m.bytes) c) (IsSpentFor k m.host (frame_of m.bytes) c.panel) ⊤ ⊤ f) (sym vain.same) vain.ends);
        }

-- One message more in a merge.
use Rattle.std.proofs.Common.{◌≡◌, ℕ, Bool, true, List, [], ◌∷◌, ◌++◌, map, Option, Some, None, Result, Ok, Err, refl, sym, ◌∙◌, ap, subst, append_assoc}
use Rattle.std.specs.List.{AllByRecursion}
use Rattle.std.proofs.lemmas.List.{append-nil}
use Rattle.at_cbor.specs.Encoding.{IsString}
use Rattle.at_event.specs.Frames.{frame_of}
use Rattle.at_event.specs.declared.frame.Frame.{Frame}
use Rattle.at_event.specs.declared.frame.FrameFault.{FrameFault}
use Rattle.at_event.specs.declared.refusal.Refusal.{Refusal}
use Rattle.relay_disk.specs.Disk.{View, IsAsBefore}
use Rattle.relay_disk.specs.MemoryView.{memory_view}
use Rattle.relay_disk.specs.declared.memory.MemoryDisk.{MemoryDisk}
use Rattle.gate_log.specs.Image.{IsMade as IsMadeLog}
use Rattle.relay_store.specs.Journals.{bytes_of}
use Rattle.relay_row.specs.declared.row.Row.{Row}
use Rattle.relay_row.specs.declared.taken.Taken.{Taken}
use Rattle.relay_core.specs.Decide.{Checks}
use Rattle.relay_core.specs.Opening.{OpensRight}
use Rattle.relay_io.specs.Moments.{first_moment, later_moments}
use Rattle.relay_law.specs.Right.{LinksRight}
use Rattle.relay_step.specs.Around.{Around, around, OneAsked, AllAsked, AskedNothing, IsTimed}
use Rattle.relay_step.specs.Steps.{Decided, after_end, skipped, recorded, Step, AreSteps, IsDecidedAs, ended_by_all, ended_decided, message_of, rows, rows_decided}
use Rattle.store_take.specs.Batches.{Batched, message_from, scene, messages_sent}
use Rattle.store_take.specs.Outcomes.{outcome_of, outcome_decided, skipped_outcome, outcome_as}
use Rattle.at_authority.specs.Panels.{Panel}
use Rattle.relay_store.specs.Store.{Keeps, StoreState, seen_in}
use Rattle.store_take.specs.declared.message.Message.{Message}
use Rattle.store_take.specs.declared.outcome.Outcome.{Outcome}
use Rattle.store_take.proofs.Runs.{ended_joined, rows_one, steps_one}
use Rattle.trial_run.specs.declared.merging.Merge.{Merge}
use Rattle.trial_run.specs.Merging.{AreTaken, IsUnrefused, Sent, sent_by}
use Rattle.trial_run.specs.Taking.{AreStrings, IsMerged}

-- ---- a message that goes out

-- a step that an event is answered to made a row that isn't refused
pub record Made (told : Decided) : Type 0 where
  pub t : Taken
  pub is : told ≡ recorded t
  pub accepted : t.refusal ≡ None

not_passed : (frame : Result Frame FrameFault) (n m : ℕ) → Some (skipped_outcome frame) ≡ Some (Outcome.Event n m) → ⊥
not_passed (Ok (Frame.Event e)) n m is = cc
not_passed (Ok (Frame.Faulty seq)) n m is = cc
not_passed (Ok Frame.Info) n m is = cc
not_passed (Ok Frame.Unknown) n m is = cc
not_passed (Ok Frame.Error) n m is = cc
not_passed (Err FrameFault.NoSeq) n m is = cc
not_passed (Err fault) n m is = cc

not_refused : (o : Option Refusal) (t : Taken) (n m : ℕ) → Some (outcome_as o t) ≡ Some (Outcome.Event n m) → o ≡ None
not_refused None t n m is = refl
not_refused (Some r) t n m is = absurd cc

pub goes_out : (frame : Result Frame FrameFault) (told : Decided) (n m : ℕ) → outcome_decided frame told ≡ Some (Outcome.Event n m) → Made told
goes_out frame after_end n m is = absurd cc
goes_out frame (skipped pass) n m is = absurd (not_passed frame n m is)
goes_out frame (recorded t) n m is = record { t = t; is = refl; accepted = not_refused t.refusal t n m is }

-- ---- the one step of a batch of one message

-- the step of one message that was answered
pub record OneStep (steps extra : List Step) (behind : List Message) (host bytes : List ℕ) : Type 0 where
  pub s : Step
  pub steps_are : steps ≡ s ∷ []
  pub host_is : s.host ≡ host
  pub bytes_are : s.bytes ≡ bytes
  pub made : Made s.decided

one_answered : (steps : List Step) (o : Outcome) → map Some (o ∷ []) ≡ map outcome_of steps → (s : Step) × (steps ≡ s ∷ []) × (Some o ≡ outcome_of s)
one_answered [] o is = let no : ⊥ = cc in absurd no
one_answered (s ∷ []) o is = (s, refl, cc)
one_answered (s ∷ x ∷ steps) o is = let no : ⊥ = cc in absurd no

pub one_step : (steps extra : List Step) (behind : List Message) (host bytes : List ℕ) (o : Outcome) (n m : ℕ) → o ≡ Outcome.Event n m → extra ≡ [] → message_from host bytes ∷ [] ≡ messages_sent (steps ++ extra) ++ behind → map Some (o ∷ []) ≡ map outcome_of steps
    → OneStep steps extra behind host bytes
one_step steps extra behind host bytes o n m is none front answers =
    let one = one_answered steps o answers in
    let all : message_from host bytes ∷ [] ≡ message_from one.0.host one.0.bytes ∷ behind =
    front ∙ ap (λ (l : List Step). messages_sent l ++ behind) (ap (λ (l : List Step). steps ++ l) none ∙ append-nil steps ∙ one.1) in
    let head : message_from host bytes ≡ message_from one.0.host one.0.bytes = cc in
    record {
      s = one.0;
      steps_are = one.1;
      host_is = sym (ap (λ (m : Message). m.host) head);
      bytes_are = sym (ap (λ (m : Message). m.bytes) head);
      made = goes_out (frame_of one.0.bytes) one.0.decided n m (sym one.2 ∙ ap Some is);
    }

-- ---- what it asked

asked_one : (C R : Bool) (J : List Row) (old new : Around) (steps : List Step) (s : Step) → steps ≡ s ∷ [] → AllAsked C R J old steps new → (mid : Around) × OneAsked C R J old s mid × AskedNothing C R mid new
asked_one C R J old new steps s is asked = subst (λ (l : List Step). AllAsked C R J old l new) is asked

pub timed : (moments left : List ℕ) (told : Decided) (made : Made told) → moments ≡ 0 ∷ [] → IsTimed moments told left → (made.t.moment ≡ Some 0) × (left ≡ 0 ∷ [])
timed moments left told made are time =
    let recorded_is : IsTimed moments (recorded made.t) left = subst (λ (x : Decided). IsTimed moments x left) made.is time in
    (recorded_is.0 ∙ ap (λ (l : List ℕ). Some (first_moment l)) are, recorded_is.1 ∙ ap later_moments are)

-- ---- a message more

unrefused_more : (steps : List Step) (s : Step) → AllByRecursion IsUnrefused steps → IsUnrefused s → AllByRecursion IsUnrefused (steps ++ s ∷ [])
unrefused_more [] s all one = (one, tt)
unrefused_more (x ∷ steps) s all one = (all.0, unrefused_more steps s all.1 one)

pairs_more : (steps : List Step) (s : Step) → map sent_by (steps ++ s ∷ []) ≡ map sent_by steps ++ sent_by s ∷ []
pairs_more [] s = refl
pairs_more (x ∷ steps) s = ap (λ (l : Sent). sent_by x ∷ l) (pairs_more steps s)

goes_on : (told : Decided) (host : List ℕ) (ended : List (List ℕ)) → Made told → ended_decided told host ended ≡ ended
goes_on told host ended made = ap (λ (x : Decided). ended_decided x host ended) made.is

-- what a batch of one message leaves of a merge
pub record Next (sent_before : Sent) (v_now : View) (host bytes : List ℕ) (s_now : StoreState) (moments : List ℕ) (repository : List ℕ → Option (List ℕ)) : Type 0 where
  pub steps : List Step
  pub taken : AreTaken (sent_before ++ (host, bytes) ∷ []) steps
  pub none_ended : ended_by_all steps [] ≡ []
  pub keeps : Keeps (rows steps) s_now v_now
  pub times : moments ≡ 0 ∷ []
  pub none : (did : List ℕ) → repository did ≡ None

module _ (merge : Merge) (before : Sent) (v : View) (m : IsMerged before merge v) where
  pub next : {D : Type 0} (view : D → View) (d d_now : D) (panel panel_now : Panel) (moments_now : List ℕ) (repository repository_now : List ℕ → Option (List ℕ)) (s_now : StoreState) (host bytes : List ℕ) (o : Outcome) (n k : ℕ) → o ≡ Outcome.Event n k
      → ((did : List ℕ) → repository did ≡ None) → (moments : List ℕ) → moments ≡ 0 ∷ []
      → Keeps (rows m.steps) (seen_in merge.store) (view d)
      → Batched view true true true (rows m.steps) (message_from host bytes ∷ []) (scene (seen_in merge.store) d (around panel moments repository)) (scene s_now d_now (around panel_now moments_now repository_now)) (o ∷ []) None
      → Next before (view d_now) host bytes s_now moments_now repository_now
  next view d d_now panel panel_now moments_now repository repository_now s_now host bytes o n k is empty moments times keeps b =
      let one = one_step b.steps b.extra b.behind host bytes o n k is b.which b.front b.answers in
      let all : b.steps ++ b.extra ≡ one.s ∷ [] = ap (λ (l : List Step). b.steps ++ l) b.which ∙ append-nil b.steps ∙ one.steps_are in
      let asked = asked_one true true (rows m.steps) (around panel moments repository) b.asked.mid (b.steps ++ b.extra) one.s all b.asked.turns in
      let time = timed moments asked.0.moments one.s.decided one.made times (asked.1.timed refl) in
      let told : (checks : Checks) → OpensRight checks → LinksRight checks → IsDecidedAs checks (rows m.steps) [] (message_of one.s) one.s.decided =
      λ checks opens links. (subst (λ (l : List Step). AreSteps checks (rows m.steps) [] l) all (b.are checks opens links)).0 in
      let rows_are : rows m.steps ++ rows b.steps ≡ rows (m.steps ++ one.s ∷ []) =
      ap (λ (l : List Step). rows m.steps ++ rows l) one.steps_are ∙ ap (λ (l : List Row). rows m.steps ++ l) (append-nil (rows_decided one.s.decided)) ∙ sym (rows_one m.steps one.s) in
      record {
        steps = m.steps ++ one.s ∷ [];
        taken = record {
          are_sent = pairs_more m.steps one.s ∙ ap (λ (l : Sent). l ++ sent_by one.s ∷ []) m.taken.are_sent ∙ ap (λ (p : List ℕ × List ℕ). before ++ p ∷ []) (λ i. (one.host_is i, one.bytes_are i));
          are = λ checks opens links. steps_one checks [] [] m.steps one.s (m.taken.are checks opens links)
              (subst (λ (e : List (List ℕ)). IsDecidedAs checks (rows m.steps) e (message_of one.s) one.s.decided) (sym m.none_ended) (told checks opens links));
          unrefused = unrefused_more m.steps one.s m.taken.unrefused (one.made.t, one.made.is, time.0, one.made.accepted);
        };
        none_ended = ended_joined m.steps (one.s ∷ []) [] ∙ goes_on one.s.decided one.s.host (ended_by_all m.steps []) one.made ∙ m.none_ended;
        keeps = subst (λ (J : List Row). Keeps J s_now (view d_now)) rows_are (b.keeps (λ is. cc) refl keeps);
        times = b.asked.stops.moments refl ∙ asked.2.moments refl ∙ time.1;
        none = λ did. b.asked.stops.same refl did ∙ asked.2.same refl did ∙ asked.1.same refl did ∙ empty did;
      }

-- ---- a disk on which nothing has changed

pub kept_again : (J : List Row) (s : StoreState) (v w : View) → IsAsBefore v w → Keeps J s v → Keeps J s w
kept_again J s v w same keeps = record {
  bodies = keeps.bodies;
  are = keeps.are;
  holds = record {
    ends = keeps.holds.ends;
    now = subst (IsMadeLog s.log.format (bytes_of keeps.bodies)) (sym same.content) keeps.holds.now;
    left = λ c left. keeps.holds.left c ((same.may_leave c).0 left);
  };
  core = keeps.core;
  window = keeps.window;
}

-- ---- the same, said of equals

pub moved : (xs ys : Sent) (a b : Merge) (d e : MemoryDisk) → xs ≡ ys → a ≡ b → d ≡ e → IsMerged xs a (memory_view d) → IsMerged ys b (memory_view e)
moved xs ys a b d e messages_sent merge disk h =
    subst (λ (z : Sent). IsMerged z b (memory_view e)) messages_sent (subst (λ (z : Merge). IsMerged xs z (memory_view e)) merge (subst (λ (z : MemoryDisk). IsMerged xs a (memory_view z)) disk h))

pub four : (s a b c d : Sent) → (((s ++ a) ++ b) ++ c) ++ d ≡ s ++ (a ++ (b ++ (c ++ d)))
four s a b c d = append_assoc ((s ++ a) ++ b) c d ∙ append_assoc (s ++ a) b (c ++ d) ∙ append_assoc s a (b ++ (c ++ d))

-- ---- strings of bytes

pub strings_more : (messages_sent : Sent) (m : List ℕ × List ℕ) → AreStrings messages_sent → IsString m.1 → AreStrings (messages_sent ++ m ∷ [])
strings_more [] m all one = (one, tt)
strings_more (x ∷ messages_sent) m all one = (all.0, strings_more messages_sent m all.1 one)

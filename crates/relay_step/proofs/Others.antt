-- What is owed of messages that make no row, or the row of an event with a bad field; and that rows keep journals.
use Rattle.std.proofs.Common.{◌≡◌, ℕ, ◌+◌, ◌<◌, Bool, true, false, cond, List, [], ◌∷◌, Option, Some, None, Result, Ok, Err, refl, sym, ap, ◌∙◌, subst, lit<, append-nil}
use Rattle.std.specs.Prelude.{nat_le, option_map, IsTrue}
use Rattle.at_authority.specs.Calls.{Call}
use Rattle.at_authority.specs.Panels.{Panel}
use Rattle.at_event.specs.Events.{IsEvent}
use Rattle.at_event.specs.Formed.{IsFormedFrame}
use Rattle.at_event.specs.Seen.{Seen}
use Rattle.at_event.specs.declared.frame.Frame.{Frame}
use Rattle.at_event.specs.declared.frame.FrameFault.{FrameFault}
use Rattle.at_event.specs.declared.refusal.Refusal.{Refusal}
use Rattle.relay_row.specs.Folds.{cursor, events_of, last_seq, seq_in, first_seq}
use Rattle.relay_row.specs.Journal.{IsJournal}
use Rattle.relay_row.specs.Rules.{names_host}
use Rattle.relay_row.specs.declared.fetched.Fetched.{Fetched}
use Rattle.at_cid.specs.declared.limits.TheConstants.{NUMBERS}
use Rattle.relay_row.specs.declared.row.Row.{Row}
use Rattle.relay_row.specs.declared.taken.Taken.{Taken}
use Rattle.account_state.specs.Folds.{account}
use Rattle.account_state.specs.State.{State}
use Rattle.relay_core.specs.Answering.{event_taken, fetched_of, goes_out, row_of}
use Rattle.relay_core.specs.Decide.{Found, absent, unfit, found, fetched_as, old_if, passed}
use Rattle.relay_core.specs.Entries.{account_in, cursor_in}
use Rattle.relay_core.specs.Rows.{faulty_taken}
use Rattle.relay_core.specs.Sending.{IsSendable}
use Rattle.relay_core.specs.Shown.{or_zero}
use Rattle.relay_core.specs.Table.{did_of, next_of, no_answers}
use Rattle.relay_core.specs.declared.answers.Answers.{Answers}
use Rattle.relay_core.specs.declared.answers.Question.{Question}
use Rattle.relay_core.specs.declared.decision.Decision.{Decision}
use Rattle.relay_core.specs.declared.decision.Next.{Next}
use Rattle.relay_core.specs.declared.decision.Pass.{Pass}
use Rattle.relay_core.specs.declared.journal_state.Core.{Core}
use Rattle.relay_law.specs.Formed.{AreAnswersTo}
use Rattle.relay_law.specs.Laws.{MadeRowsAreFormed}
use Rattle.relay_step.specs.Around.{Around, AskedNothing, AskedOf, SameRepositories, around}
use Rattle.relay_step.specs.Messages.{IsAskedOf, IsDecided, IsSkippedAs, KeepsJournal, pass_of, skipped_as, told_as}
use Rattle.relay_step.specs.Steps.{skipped, recorded, rows_decided}
use Rattle.relay_step.specs.Taking.{EventDecided, EventRecorded, FaultyRecorded, IsFetchedSo, OtherDecided, is_event}
use Rattle.relay_step.specs.Commands.{IsNow}
use Rattle.relay_step.specs.declared.decided.Skipped.{Skipped}
use Rattle.relay_step.specs.declared.decided.Decided.{Decided as Outcome}
use Rattle.relay_step.proofs.Taken.{cursor_tells, event_asked, event_decided, fetched_there, sent_gives}

-- ---- no row

passed_at : (frame : Frame) (n m : ℕ) (pass : Pass) → n ≡ m → passed n frame ≡ Some pass → passed m frame ≡ Some pass
passed_at frame n m pass same h = let P : ℕ → Type 0 = λ k. passed k frame ≡ Some pass in subst P same h

pub skipped_decided : (c : Core) (host : List ℕ) (frame : Frame) (pass : Pass) → passed (cursor_in c host) frame ≡ Some pass → IsDecided c host (Ok frame) (skipped pass)
skipped_decided c host frame pass h checks J opens links holds = (refl, passed_at frame (cursor_in c host) (cursor host J) pass (cursor_tells c J holds host) h)

pub unread_decided : (c : Core) (host : List ℕ) (fault : FrameFault) → IsDecided c host (Err fault) (skipped Pass.Ended)
unread_decided c host fault checks J opens links holds = (refl, refl)

pub nothing_asked : (clock_tells repos_tell : Bool) (c : Core) (old new : Around) (host : List ℕ) (frame : Result Frame FrameFault) (pass : Pass) → AskedNothing clock_tells repos_tell old new → IsAskedOf clock_tells repos_tell c old host frame (skipped pass) new
nothing_asked clock_tells repos_tell c old new host frame pass is J holds = record {
  fetch = [];
  fetched = refl;
  made = is.panel;
  timed = is.moments;
  same = is.same;
}

pub keeps_none : (c : Core) → KeepsJournal c []
keeps_none c J holds journal = let P : List Row → Type 0 = λ K. IsJournal K in subst P (sym (append-nil J)) journal

-- a frame that is skipped makes no row for what it is
old_only : (test : Bool) (pass : Pass) → old_if test ≡ Some pass → Pass.Old ≡ pass
old_only true pass is = cc
old_only false pass is = let no : ⊥ = cc in absurd no

pub skipped_same : (cursor : ℕ) (frame : Frame) (pass : Pass) (why : Skipped) → passed cursor frame ≡ Some pass → why ≡ skipped_as (Ok frame) → passed cursor frame ≡ Some (pass_of why)
skipped_same cursor frame pass why is why_is = is ∙ ap Some (sym (ap pass_of why_is ∙ same_pass frame is))
  where
    same_pass : (f : Frame) → passed cursor f ≡ Some pass → pass_of (skipped_as (Ok f)) ≡ pass
    same_pass (Frame.Event e) h = old_only (nat_le e.seq cursor) pass h
    same_pass (Frame.Faulty seq) h = old_only (nat_le seq cursor) pass h
    same_pass Frame.Info h = cc
    same_pass Frame.Error h = cc
    same_pass Frame.Unknown h = cc

-- ---- an event with a bad field

above_of : (b : Bool) (n : Next) (q : Question) → cond b (Next.Pass Pass.Old) n ≡ Next.Ask q → b ≡ false
above_of true n q h = absurd cc
above_of false n q h = refl

same_taken : (t u : Taken) → Some (Row.Taken t) ≡ Some (Row.Taken u) → t ≡ u
same_taken t u h = cc

-- what is taken where something is asked of a message that is no event
pub recorded_faulty : (clock_tells : Bool) (c : Core) (host : List ℕ) (frame : Frame) (t : Taken) (d : Decision) (q : Question) (moment : ℕ) (x y : Answers) (moments left : List ℕ) → is_event frame ≡ false
    → next_of (cursor_in c host) (account_in c (did_of frame)) frame x ≡ Next.Ask q → y.moment ≡ Some moment → option_map Row.Taken (Some t) ≡ row_of c.last host frame d y → moment < NUMBERS → (IsTrue clock_tells → IsNow moments moment left)
    → FaultyRecorded clock_tells c host frame t moments left
recorded_faulty clock_tells c host (Frame.Event e) t d q moment x y moments left other asks there row number timed = absurd cc
recorded_faulty clock_tells c host (Frame.Faulty seq) t d q moment x y moments left other asks there row number timed = record {
  seq = seq;
  moment = moment;
  is = refl;
  above = above_of (nat_le seq (cursor_in c host)) _ q asks;
  number = number;
  taken = same_taken t (faulty_taken host seq y.moment) row ∙ ap (faulty_taken host seq) there;
  timed = timed;
}
recorded_faulty clock_tells c host Frame.Info t d q moment x y moments left other asks there row number timed = absurd cc
recorded_faulty clock_tells c host Frame.Error t d q moment x y moments left other asks there row number timed = absurd cc
recorded_faulty clock_tells c host Frame.Unknown t d q moment x y moments left other asks there row number timed = absurd cc

made_faulty : (seq : ℕ) (host : List ℕ) (moment : ℕ) (t : Taken) → t ≡ faulty_taken host seq (Some moment) → Some (faulty_taken host seq (Some (or_zero t.moment))) ≡ Some t
made_faulty seq host moment t is = let P : Taken → Type 0 = λ u. Some (faulty_taken host seq (Some (or_zero u.moment))) ≡ Some u in subst P (sym is) refl

module _ (clock_tells : Bool) (c : Core) (host : List ℕ) (frame : Frame) (t : Taken) (moments left : List ℕ) (is : FaultyRecorded clock_tells c host frame t moments left) where
  pub faulty_decided : IsDecided c host (Ok frame) (recorded t)
  faulty_decided =
      let P : Frame → Type 0 = λ f. IsDecided c host (Ok f) (recorded t) in
      subst P (sym is.is) (λ checks J opens links holds. (
        refl,
        let Q : ℕ → Type 0 = λ n. old_if (nat_le is.seq n) ≡ None in subst Q (cursor_tells c J holds host) (ap old_if is.above),
        made_faulty is.seq host is.moment t is.taken,
      ))

  pub faulty_asked : (repos_tell : Bool) (panel : Panel) (old new : List ℕ → Option (List ℕ)) → (IsTrue repos_tell → SameRepositories old new)
      → IsAskedOf clock_tells repos_tell c (around panel moments old) host (Ok frame) (recorded t) (around panel left new)
  faulty_asked repos_tell panel old new same J holds =
      let P : Frame → Type 0 = λ f. AskedOf clock_tells repos_tell J (around panel moments old) host (Ok f) (recorded t) (around panel left new) in
      let Q : Taken → Type 0 = λ u. AskedOf clock_tells repos_tell J (around panel moments old) host (Ok (Frame.Faulty is.seq)) (recorded u) (around panel left new) in
      subst P (sym is.is) (subst Q (sym is.taken) (record {
        fetch = [];
        fetched = refl;
        made = refl;
        timed = λ tells. (ap Some (is.timed tells).next, (is.timed tells).gone);
        same = same;
      }))

  next_faulty : (n : ℕ) (a : State) → nat_le is.seq n ≡ false → next_of n a (Frame.Faulty is.seq) (record no_answers { moment = Some is.moment }) ≡ Next.Done (record { refusal = Some Refusal.BadEvent; held = false; gives = false })
  next_faulty n a above = ap (λ (b : Bool). cond b (Next.Pass Pass.Old) (Next.Done (record { refusal = Some Refusal.BadEvent; held = false; gives = false }))) above

  pub faulty_kept : MadeRowsAreFormed → IsFormedFrame frame → names_host host ≡ true → KeepsJournal c (Row.Taken t ∷ [])
  faulty_kept law formed named J holds journal =
      let F : Frame → Type 0 = λ f. IsFormedFrame f in
      let below = subst F is.is formed in
      let Q : ℕ → Type 0 = λ n. nat_le is.seq n ≡ false in
      let above = subst Q (cursor_tells c J holds host) is.above in
      let S : Taken → Type 0 = λ u. seq_in (Row.Taken u) < NUMBERS in
      law J host (Frame.Faulty is.seq) (record no_answers { moment = Some is.moment }) (record { refusal = Some Refusal.BadEvent; held = false; gives = false }) (Row.Taken t) journal named below
      (λ m same. let eq : is.moment ≡ m = cc in let N : ℕ → Type 0 = λ k. k < NUMBERS in subst N eq is.number)
      (next_faulty (cursor host J) (account [] J) above) (ap (λ (u : Taken). Some (Row.Taken u)) (sym is.taken)) (subst S (sym is.taken) (lit< tt))

-- ---- an event

zero_or : (tells : Bool) (last : ℕ) (a : State) (e : Seen) (repository : List ℕ → Option (List ℕ)) (moment : ℕ) (r : Option Refusal) (o : Option Fetched) (what : Found) (fetch : List Call) → IsSendable last e what → IsFetchedSo tells last a e repository moment r o what fetch
    → first_seq (events_of (fetched_of r o)) < NUMBERS
zero_or tells last a e repository moment None None what fetch can is = lit< tt
zero_or tells last a e repository moment (Some r) None what fetch can is = lit< tt
zero_or tells last a e repository moment r (Some f) what fetch can is =
    let P : Fetched → Type 0 = λ g. first_seq (events_of g) < NUMBERS in
    subst P (sym (fetched_there tells last a e repository moment r f what fetch is)) (go what can)
  where
    go : (w : Found) → IsSendable last e w → first_seq (events_of (fetched_as last e w)) < NUMBERS
    go absent can = lit< tt
    go (unfit n) can = lit< tt
    go (found head records block) can = (can head records block refl).number

seq_below : (tells : Bool) (c : Core) (a : State) (host : List ℕ) (e : Seen) (x : Answers) (d : Decision) (repository : List ℕ → Option (List ℕ)) (moment : ℕ) (what : Found) (fetch : List Call) → (goes_out d.refusal d.held ≡ true → c.last + 1 < NUMBERS)
    → IsSendable c.last e what → IsFetchedSo tells c.last a e repository moment d.refusal x.fetched what fetch → seq_in (Row.Taken (event_taken c.last host e d x)) < NUMBERS
seq_below tells c a host e x d repository moment what fetch number can so =
    elim (goes_out d.refusal d.held) as (λ b. goes_out d.refusal d.held ≡ b → seq_in (Row.Taken (event_taken c.last host e d x)) < NUMBERS) [
      | true ↦ λ out. let P : ℕ → Type 0 = λ n. n < NUMBERS in subst P (sym (sent_gives c.last host e x d out)) (number out)
      | false ↦ λ out. rw out (zero_or tells c.last a e repository moment d.refusal x.fetched what fetch can so)
    ] refl

pub event_kept : (clock_tells repos_tell : Bool) (c : Core) (host : List ℕ) (e : Seen) (t : Taken) (old new : Around) → EventRecorded clock_tells repos_tell c host e t old new → MadeRowsAreFormed → IsEvent e → names_host host ≡ true → KeepsJournal c (Row.Taken t ∷ [])
event_kept clock_tells repos_tell c host e t old new is law event named J holds journal =
    let A : ℕ → Type 0 = λ n. AreAnswersTo n (account_in c e.did) e is.x in
    let B : State → Type 0 = λ a. AreAnswersTo (last_seq J) a e is.x in
    let C : ℕ → Type 0 = λ n. next_of n (account_in c e.did) (Frame.Event e) is.x ≡ Next.Done is.d in
    let D : State → Type 0 = λ a. next_of (cursor host J) a (Frame.Event e) is.x ≡ Next.Done is.d in
    let S : Taken → Type 0 = λ u. seq_in (Row.Taken u) < NUMBERS in
    law J host (Frame.Event e) is.x is.d (Row.Taken t) journal named event
    (subst B (holds.accounts e.did) (subst A holds.last is.right))
    (subst D (holds.accounts e.did) (subst C (cursor_tells c J holds host) is.answered.done))
    (ap (λ (n : ℕ). Some (Row.Taken (event_taken n host e is.d is.x))) (sym holds.last) ∙ ap (λ (u : Taken). Some (Row.Taken u)) (sym is.taken))
    (subst S (sym is.taken) (seq_below repos_tell c (account_in c e.did) host e is.x is.d old.repository (or_zero is.x.moment) is.what is.answered.fetch is.number is.sendable is.answered.fetched))

-- ---- what came of an event, or of another message

pub decided_as_event : (clock_tells repos_tell : Bool) (c : Core) (host : List ℕ) (e : Seen) (told : Outcome) (old new : Around) → EventDecided clock_tells repos_tell c host e told old new → IsDecided c host (Ok (Frame.Event e)) (told_as told)
decided_as_event clock_tells repos_tell c host e (Outcome.Skipped why) old new is = skipped_decided c host (Frame.Event e) (pass_of why) is.1
decided_as_event clock_tells repos_tell c host e (Outcome.Recorded t) old new is = event_decided clock_tells repos_tell c host e t old new is

pub skipped_event : (clock_tells repos_tell : Bool) (c : Core) (host : List ℕ) (e : Seen) (told : Outcome) (old new : Around) → EventDecided clock_tells repos_tell c host e told old new → IsSkippedAs (Ok (Frame.Event e)) told
skipped_event clock_tells repos_tell c host e (Outcome.Skipped why) old new is = is.0
skipped_event clock_tells repos_tell c host e (Outcome.Recorded t) old new is = tt

pub asked_event : (clock_tells repos_tell : Bool) (c : Core) (host : List ℕ) (e : Seen) (told : Outcome) (old new : Around) → EventDecided clock_tells repos_tell c host e told old new → IsAskedOf clock_tells repos_tell c old host (Ok (Frame.Event e)) (told_as told) new
asked_event clock_tells repos_tell c host e (Outcome.Skipped why) old new is = nothing_asked clock_tells repos_tell c old new host (Ok (Frame.Event e)) (pass_of why) is.2
asked_event clock_tells repos_tell c host e (Outcome.Recorded t) old new is = event_asked clock_tells repos_tell c host e t old new is

pub kept_event : (clock_tells repos_tell : Bool) (c : Core) (host : List ℕ) (e : Seen) (told : Outcome) (old new : Around) → EventDecided clock_tells repos_tell c host e told old new → MadeRowsAreFormed → IsEvent e → names_host host ≡ true → KeepsJournal c (rows_decided (told_as told))
kept_event clock_tells repos_tell c host e (Outcome.Skipped why) old new is law event named = keeps_none c
kept_event clock_tells repos_tell c host e (Outcome.Recorded t) old new is law event named = event_kept clock_tells repos_tell c host e t old new is law event named

pub decided_as_other : (clock_tells : Bool) (c : Core) (host : List ℕ) (frame : Frame) (told : Outcome) (moments left : List ℕ) → OtherDecided clock_tells c host frame told moments left → IsDecided c host (Ok frame) (told_as told)
decided_as_other clock_tells c host frame (Outcome.Skipped why) moments left is = skipped_decided c host frame (pass_of why) is.1
decided_as_other clock_tells c host frame (Outcome.Recorded t) moments left is = faulty_decided clock_tells c host frame t moments left is

pub skipped_other : (clock_tells : Bool) (c : Core) (host : List ℕ) (frame : Frame) (told : Outcome) (moments left : List ℕ) → OtherDecided clock_tells c host frame told moments left → IsSkippedAs (Ok frame) told
skipped_other clock_tells c host frame (Outcome.Skipped why) moments left is = is.0
skipped_other clock_tells c host frame (Outcome.Recorded t) moments left is = tt

pub asked_other : (clock_tells repos_tell : Bool) (c : Core) (host : List ℕ) (frame : Frame) (told : Outcome) (panel : Panel) (moments left : List ℕ) (repository : List ℕ → Option (List ℕ)) → OtherDecided clock_tells c host frame told moments left
    → IsAskedOf clock_tells repos_tell c (around panel moments repository) host (Ok frame) (told_as told) (around panel left repository)
asked_other clock_tells repos_tell c host frame (Outcome.Skipped why) panel moments left repository is =
    nothing_asked clock_tells repos_tell c (around panel moments repository) (around panel left repository) host (Ok frame) (pass_of why) (record { panel = refl; moments = is.2; same = λ tells did. refl })
asked_other clock_tells repos_tell c host frame (Outcome.Recorded t) panel moments left repository is = faulty_asked clock_tells c host frame t moments left is repos_tell panel repository repository (λ tells did. refl)

pub kept_other : (clock_tells : Bool) (c : Core) (host : List ℕ) (frame : Frame) (told : Outcome) (moments left : List ℕ) → OtherDecided clock_tells c host frame told moments left → MadeRowsAreFormed → IsFormedFrame frame → names_host host ≡ true → KeepsJournal c (rows_decided (told_as told))
kept_other clock_tells c host frame (Outcome.Skipped why) moments left is law formed named = keeps_none c
kept_other clock_tells c host frame (Outcome.Recorded t) moments left is law formed named = faulty_kept clock_tells c host frame t moments left is law formed named

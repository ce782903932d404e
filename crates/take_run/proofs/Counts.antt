-- What the rows of steps count, and their lines.
use Rattle.std.proofs.Common.{◌≡◌, ◌≢◌, ℕ, ◌+◌, Bool, true, false, List, [], ◌∷◌, ◌++◌, length, suc, Option, Some, None, Result, Ok, Err, refl, ap, ◌∙◌, sym, subst, arith, length-append}
use Rattle.std.specs.Prelude.{◌==◌, if◌then◌else◌}
use Rattle.std.specs.List.{filter}
use Rattle.std.specs.Option.{is_some}
use Rattle.at_cbor.specs.Item.{Item}
use Rattle.at_event.specs.Frames.{announced, event_frame, frame_of, framed, headed, items_in, numbered_frame}
use Rattle.at_event.specs.Table.{seq_of}
use Rattle.at_event.specs.Seen.{Seen}
use Rattle.at_event.specs.declared.frame.Frame.{Frame}
use Rattle.at_event.specs.declared.frame.FrameFault.{FrameFault}
use Rattle.at_event.specs.declared.kind.EventKind.{EventKind}
use Rattle.at_event.specs.declared.kind.Heading.{Heading}
use Rattle.at_event.specs.declared.refusal.Refusal.{Refusal}
use Rattle.relay_row.specs.Folds.{events, events_in, events_of, last_seq}
use Rattle.relay_row.specs.declared.fetched.Fetched.{Fetched}
use Rattle.relay_row.specs.declared.row.Row.{Row}
use Rattle.relay_row.specs.declared.taken.Taken.{Taken}
use Rattle.account_state.specs.Folds.{account}
use Rattle.relay_core.specs.Answering.{answers, decision_for, event_taken}
use Rattle.relay_core.specs.Decide.{Checks, decided_event, refusal_of}
use Rattle.relay_core.specs.Report.{is_row_refused, taken_line}
use Rattle.relay_core.specs.Rows.{faulty_taken}
use Rattle.relay_core.specs.Runs.{IsMadeBy}
use Rattle.relay_core.specs.Shown.{shown}
use Rattle.relay_core.specs.Table.{did_of}
use Rattle.relay_core.specs.declared.answers.Answers.{Answers}
use Rattle.relay_core.specs.declared.decision.Decision.{Decision}
use Rattle.relay_core.proofs.Agreeing.{decided_as}
use Rattle.relay_step.specs.Steps.{Step, Decided, after_end, skipped, recorded, AreSteps, IsDecidedAs, ended_decided, message_of, messages, rows, rows_decided}
use Rattle.store_take.specs.Lines.{line_of}
use Rattle.store_take.specs.Outcomes.{fetch_in, outcome_as, outcome_decided, skipped_outcome, taken_outcome}
use Rattle.store_take.specs.declared.outcome.Outcome.{Outcome}
use Rattle.store_take.proofs.Linework.{lines_report}
use Rattle.take_run.specs.Lines.{line_decided, lines_of}
use Rattle.take_run.specs.Said.{given, gives, gives_fetched, line_said, refused, refuses, said, text_of}

-- ---- rows that were made

pub same_taken : (s t : Taken) → Some s ≡ Some t → s ≡ t
same_taken s t is = cc

-- a row made of an event, or of one with a bad field
pub data IsMadeOf (host : List ℕ) (t : Taken) : Type 0 where
  of_event : (last : ℕ) (e : Seen) (d : Decision) (x : Answers) → event_taken last host e d x ≡ t → IsMadeOf host t
  of_faulty : (seq : ℕ) (moment : Option ℕ) → faulty_taken host seq moment ≡ t → IsMadeOf host t

made_of : (checks : Checks) (J : List Row) (host : List ℕ) (frame : Result Frame FrameFault) (t : Taken) → IsMadeBy checks J (host, frame) (Row.Taken t) → IsMadeOf host t
made_of checks J host (Ok (Frame.Event e)) t made =
    let a = account (did_of (Frame.Event e)) J in
    let o = shown t in
    of_event (last_seq J) e (decision_for a e.body o.fetched (refusal_of checks a e o)) (answers checks (last_seq J) a e o)
    (sym (decided_as checks (last_seq J) a host e o) ∙ same_taken (decided_event checks (last_seq J) a host e o) t made)
made_of checks J host (Ok (Frame.Faulty seq)) t made = of_faulty seq (Some (shown t).moment) (same_taken (faulty_taken host seq (Some (shown t).moment)) t made)
made_of checks J host (Ok Frame.Info) t made = let no : ⊥ = cc in absurd no
made_of checks J host (Ok Frame.Error) t made = let no : ⊥ = cc in absurd no
made_of checks J host (Ok Frame.Unknown) t made = let no : ⊥ = cc in absurd no
made_of checks J host (Err fault) t made = absurd made

made_host : (host : List ℕ) (t : Taken) → IsMadeOf host t → t.host ≡ host
made_host host t (of_event last e d x is) = ap (λ (s : Taken). s.host) (sym is)
made_host host t (of_faulty seq moment is) = ap (λ (s : Taken). s.host) (sym is)

fetched_given : (f : Fetched) → gives_fetched (fetch_in f) ≡ length (events_of f)
fetched_given Fetched.NotAsked = refl
fetched_given Fetched.Absent = refl
fetched_given (Fetched.Refused n) = refl
fetched_given (Fetched.Whole w) = refl

given_if : (b : Bool) (n seq : ℕ) (one : ℕ × List ℕ) → gives (Some (if b then Outcome.Held n else Outcome.Event n seq)) ≡ length (if b then [] else one ∷ [])
given_if true n seq one = refl
given_if false n seq one = refl

-- the row of an event by its refusal
event_given : (last : ℕ) (host : List ℕ) (e : Seen) (x : Answers) (held gives_one : Bool) (r : Option Refusal) →
    gives (Some (taken_outcome (event_taken last host e (record { refusal = r; held = held; gives = gives_one }) x))) ≡ length (events_in (Row.Taken (event_taken last host e (record { refusal = r; held = held; gives = gives_one }) x)))
event_given last host e x held gives_one None =
    let t = event_taken last host e (record { refusal = None; held = held; gives = gives_one }) x in
    given_if (t.seq == 0) t.host_seq t.seq (t.seq, t.message)
event_given last host e x held gives_one (Some r) = fetched_given _

made_given : (host : List ℕ) (t : Taken) → IsMadeOf host t → gives (Some (taken_outcome t)) ≡ length (events_in (Row.Taken t))
made_given host t (of_event last e d x is) = subst (λ (s : Taken). gives (Some (taken_outcome s)) ≡ length (events_in (Row.Taken s))) is (event_given last host e x d.held d.gives d.refusal)
made_given host t (of_faulty seq moment is) = subst (λ (s : Taken). gives (Some (taken_outcome s)) ≡ length (events_in (Row.Taken s))) is refl

held_refuses : (b : Bool) (n seq : ℕ) → refuses (Some (if b then Outcome.Held n else Outcome.Event n seq)) ≡ 0
held_refuses true n seq = refl
held_refuses false n seq = refl

taken_refused : (r : Option Refusal) (t : Taken) (others : List Row) → length (if is_some r then Row.Taken t ∷ others else others) ≡ refuses (Some (outcome_as r t)) + length others
taken_refused None t others = omega (arith, held_refuses (t.seq == 0) t.host_seq t.seq)
taken_refused (Some r) t others = omega arith

-- ---- messages that made none

numbered_told : (kind : EventKind) (payload : Item) (seq : Option ℕ) → numbered_frame kind payload seq ≢ Err FrameFault.Memory
numbered_told kind payload None is = let no : ⊥ = cc in absurd no
numbered_told kind payload (Some seq) is = let no : ⊥ = cc in absurd no

announced_told : (h : Heading) (payload : Item) → announced h payload ≢ Err FrameFault.Memory
unfolding announced event_frame
announced_told Heading.Error payload is = let no : ⊥ = cc in absurd no
announced_told Heading.Unknown payload is = let no : ⊥ = cc in absurd no
announced_told Heading.Info payload is = let no : ⊥ = cc in absurd no
announced_told (Heading.Event kind) payload is = numbered_told kind payload (seq_of payload) is

headed_told : (h : Option Heading) (fields : Option (List (List ℕ × Item))) (payload : Item) → headed h fields payload ≢ Err FrameFault.Memory
headed_told None fields payload is = let no : ⊥ = cc in absurd no
headed_told (Some h) None payload is = let no : ⊥ = cc in absurd no
headed_told (Some h) (Some fields) payload is = announced_told h payload is

framed_told : (items : Option (Item × Item)) → framed items ≢ Err FrameFault.Memory
framed_told None is = let no : ⊥ = cc in absurd no
framed_told (Some items) is = headed_told _ _ items.1 is

pub frame_told : (message : List ℕ) → frame_of message ≢ Err FrameFault.Memory
unfolding frame_of
frame_told message is = framed_told (items_in message) is

-- ---- counts

gives_skipped : (frame : Result Frame FrameFault) → gives (Some (skipped_outcome frame)) ≡ 0
gives_skipped (Ok (Frame.Event e)) = refl
gives_skipped (Ok (Frame.Faulty seq)) = refl
gives_skipped (Ok Frame.Info) = refl
gives_skipped (Ok Frame.Error) = refl
gives_skipped (Ok Frame.Unknown) = refl
gives_skipped (Err FrameFault.BadFrame) = refl
gives_skipped (Err FrameFault.NoSeq) = refl
gives_skipped (Err FrameFault.Memory) = refl

refuses_skipped : (frame : Result Frame FrameFault) → refuses (Some (skipped_outcome frame)) ≡ 0
refuses_skipped (Ok (Frame.Event e)) = refl
refuses_skipped (Ok (Frame.Faulty seq)) = refl
refuses_skipped (Ok Frame.Info) = refl
refuses_skipped (Ok Frame.Error) = refl
refuses_skipped (Ok Frame.Unknown) = refl
refuses_skipped (Err FrameFault.BadFrame) = refl
refuses_skipped (Err FrameFault.NoSeq) = refl
refuses_skipped (Err FrameFault.Memory) = refl

one_given : (checks : Checks) (J : List Row) (ended : List (List ℕ)) (s : Step) (told : Decided) (others : List Row) → IsDecidedAs checks J ended (message_of s) told
    → length (events (rows_decided told ++ others)) ≡ gives (outcome_decided (frame_of s.bytes) told) + length (events others)
one_given checks J ended s after_end others h = omega arith
one_given checks J ended s (skipped pass) others h = omega (arith, gives_skipped (frame_of s.bytes))
one_given checks J ended s (recorded t) others h = omega (arith, made_given s.host t (made_of checks J s.host (frame_of s.bytes) t h.2), length-append (events_in (Row.Taken t)) (events others))

one_refused : (s : Step) (told : Decided) (others : List Row) → length (filter is_row_refused (rows_decided told ++ others)) ≡ refuses (outcome_decided (frame_of s.bytes) told) + length (filter is_row_refused others)
one_refused s after_end others = omega arith
one_refused s (skipped pass) others = omega (arith, refuses_skipped (frame_of s.bytes))
one_refused s (recorded t) others = taken_refused t.refusal t (filter is_row_refused others)

-- as many numbers are given as the rows have events, and as many messages are refused as rows
pub given_is : (checks : Checks) (J : List Row) (ended : List (List ℕ)) (steps : List Step) → AreSteps checks J ended steps → given (said steps) ≡ length (events (rows steps))
given_is checks J ended [] are = refl
given_is checks J ended (s ∷ steps) are =
    omega (arith, one_given checks J ended s s.decided (rows steps) are.0, given_is checks (J ++ rows_decided s.decided) (ended_decided s.decided s.host ended) steps are.1)

pub refused_is : (steps : List Step) → refused (said steps) ≡ length (filter is_row_refused (rows steps))
refused_is [] = refl
refused_is (s ∷ steps) = omega (arith, one_refused s s.decided (rows steps), refused_is steps)

pub said_length : (steps : List Step) → length (said steps) ≡ length (messages steps)
said_length [] = refl
said_length (s ∷ steps) = ap suc (said_length steps)

-- ---- lines

taken_said : (host : List ℕ) (t : Taken) → t.host ≡ host → line_of host (taken_outcome t) ≡ taken_line t
taken_said host t is = ap (λ (h : List ℕ). line_of h (taken_outcome t)) (sym is) ∙ lines_report.taken t

-- what was said of a step is its line
said_is : (checks : Checks) (J : List Row) (ended : List (List ℕ)) (s : Step) (t : Decided) → IsDecidedAs checks J ended (message_of s) t
    → line_said (s.host, outcome_decided (frame_of s.bytes) t) ≡ line_decided s t
said_is checks J ended s after_end told = refl
said_is checks J ended s (skipped pass) told = lines_report.passed (message_of s) (frame_told s.bytes)
said_is checks J ended s (recorded t) told = taken_said s.host t (made_host s.host t (made_of checks J s.host (frame_of s.bytes) t told.2))

-- what was said of steps are their lines
pub lines_are : (checks : Checks) (J : List Row) (ended : List (List ℕ)) (steps : List Step) → AreSteps checks J ended steps → text_of (said steps) ≡ lines_of steps
lines_are checks J ended [] are = refl
lines_are checks J ended (s ∷ steps) are =
    ap (λ (l : List ℕ). l ++ text_of (said steps)) (said_is checks J ended s s.decided are.0)
    ∙ ap (λ (l : List ℕ). line_decided s s.decided ++ l) (lines_are checks (J ++ rows_decided s.decided) (ended_decided s.decided s.host ended) steps are.1)

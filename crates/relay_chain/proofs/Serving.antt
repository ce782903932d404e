-- A host that sends all that a relay serves is a relay behind which another one stands.
use Rattle.std.proofs.Common.{◌≡◌, ◌⊎◌, inl, inr, ℕ, ◌+◌, ◌≤◌, Bool, true, false, List, [], ◌∷◌, ◌++◌, map, Some, Result, Ok, cond, nat_le, refl, sym, ap, ◌∙◌, subst, arith, append_assoc}
use Rattle.std.proofs.lemmas.Bool.{false≢true, le-ltb, lt-leb}
use Rattle.std.proofs.lemmas.List.{append-nil}
use Rattle.at_event.specs.Frames.{frame_of}
use Rattle.at_event.specs.Seen.{Seen}
use Rattle.at_event.specs.declared.frame.Frame.{Frame}
use Rattle.at_event.specs.declared.frame.FrameFault.{FrameFault}
use Rattle.backfill.specs.Laws.{AreRising}
use Rattle.backfill.specs.Served.{following, messages_of, notice_of, rising_above, served, standing_of}
use Rattle.backfill.specs.declared.standing.Standing.{Standing}
use Rattle.event_window.specs.Held.{Event, Held}
use Rattle.relay_row.specs.Folds.{cursor, did_of_row, events_in, last_seq}
use Rattle.relay_row.specs.Journal.{IsJournal, is_carried_row}
use Rattle.relay_row.specs.declared.row.Row.{Row}
use Rattle.relay_row.proofs.Journals.{fronts, grew, lasts_joined}
use Rattle.account_state.specs.Folds.{account, last_rev, moved}
use Rattle.account_state.specs.State.{State}
use Rattle.relay_core.specs.Decide.{Checks, old_if}
use Rattle.relay_core.specs.Opening.{OpensRight}
use Rattle.relay_core.specs.Report.{ended_by}
use Rattle.relay_core.specs.Runs.{Message as Read, has_ended, skipped_by, RunFrom}
use Rattle.relay_core.specs.declared.decision.Pass.{Pass}
use Rattle.relay_law.specs.Right.{LinksRight}
use Rattle.relay_step.specs.Steps.{Step, Decided, after_end, skipped, recorded, AreSteps, IsDecidedAs, ended_by_all, ended_decided, message_of, messages, rows, rows_decided}
use Rattle.relay_step.proofs.Steps.{steps_run}
use Rattle.store_take.specs.Batches.{messages_sent}
use Rattle.relay_store.specs.Shown.{held_by, is_shown, shown_of}
use Rattle.take_run.specs.Feeds.{AreOf, bytes_of_messages}
use Rattle.chain_law.specs.Chained.{events_shown, sent_by, raises, AreReadEvents}
use Rattle.chain_law.specs.Given.{AreGiven}
use Rattle.chain_law.proofs.Following.{follow, kept_above, sent_last}
use Rattle.chain_law.proofs.Sending.{Tells, row_tells}
use Rattle.relay_chain.specs.Laws.{ServedFollow}

-- ---- what is shown rises, and is read as events

-- what is shown of a row's events
abbrev some_of : Bool → List Event → List Event
some_of b es = cond b es []

weaker : (n m : ℕ) (es : List Event) → n ≤ m → AreRising m es → AreRising n es
weaker n m [] le rise = tt
weaker n m (e ∷ es) le rise = (omega (arith, rise.0), rise.1)

rises_on : (checks : Checks) (last n : ℕ) (did : List ℕ) (carried raised b : Bool) (a after : State) (es others : List Event) → Tells checks last did carried raised a after es → (es ≡ [] → last ≤ n) → ((message : List ℕ) → es ≡ (last + 1, message) ∷ [] → n ≡ last + 1)
    → AreRising n others → AreRising last (some_of b es ++ others)
rises_on checks last n did carried raised false a after es others (inl quiet) stays sends rise = weaker last n others (stays quiet.none) rise
rises_on checks last n did carried raised true a after es others (inl quiet) stays sends rise =
    let P : List Event → Type 0 = λ l. AreRising last (l ++ others) in
    subst P (sym quiet.none) (weaker last n others (stays quiet.none) rise)
rises_on checks last n did carried raised false a after es others (inr s) stays sends rise = weaker last n others (omega (arith, sends s.message s.is)) rise
rises_on checks last n did carried raised true a after es others (inr s) stays sends rise =
    let P : List Event → Type 0 = λ l. AreRising last (l ++ others) in
    subst P (sym s.is) (omega arith, subst (λ (k : ℕ). AreRising k others) (sends s.message s.is) rise)

read_on : (checks : Checks) (last : ℕ) (did : List ℕ) (carried raised b : Bool) (a after : State) (es others : List Event) → Tells checks last did carried raised a after es → AreReadEvents others → AreReadEvents (some_of b es ++ others)
read_on checks last did carried raised false a after es others told read = read
read_on checks last did carried raised true a after es others (inl quiet) read =
    let P : List Event → Type 0 = λ l. AreReadEvents (l ++ others) in
    subst P (sym quiet.none) read
read_on checks last did carried raised true a after es others (inr s) read =
    let P : List Event → Type 0 = λ l. AreReadEvents (l ++ others) in
    subst P (sym s.is) (record { seen = s.event; reads = s.reads; numbered = s.seq_is }, read)

pub record IsShownSo (front rows : List Row) (shows : Row → Bool) : Type 0 where
  pub rise : AreRising (last_seq front) (events_shown shows rows)
  pub read : AreReadEvents (events_shown shows rows)

pub shown_so : (checks : Checks) → OpensRight checks → LinksRight checks → (shows : Row → Bool) (rows front : List Row) → IsJournal (front ++ rows) → AreGiven checks front rows → IsShownSo front rows shows
shown_so checks opens links shows [] front journal given = record { rise = tt; read = tt }
shown_so checks opens links shows (row ∷ rows) front journal given =
    let P : List Row → Type 0 = λ X. IsJournal X in
    let on = subst P (sym (append_assoc front (row ∷ []) rows)) journal in
    let here = fronts (front ++ row ∷ []) rows on in
    let rest = shown_so checks opens links shows rows (front ++ row ∷ []) on given.1 in
    let told = row_tells checks opens links front row here given.0 in
    let last = lasts_joined front (row ∷ []) in
    let a = account (did_of_row row) front in
    record {
      rise = rises_on checks (last_seq front) (last_seq (front ++ row ∷ [])) (did_of_row row) (is_carried_row row) (raises (last_rev a.repo) row) (shows row) a (moved a row) (events_in row) (events_shown shows rows) told
          (λ none. omega (arith, last, kept_above front row (grew front row here).1)) (λ message is. last ∙ sent_last front row message is) rest.rise;
      read = read_on checks (last_seq front) (did_of_row row) (is_carried_row row) (raises (last_rev a.repo) row) (shows row) a (moved a row) (events_in row) (events_shown shows rows) told rest.read;
    }

-- ---- what is served from the start

pub same_shown : (J rows : List Row) → shown_of J rows ≡ events_shown (is_shown J) rows
same_shown J [] = refl
same_shown J (row ∷ rows) = ap (λ (l : List Event). cond (is_shown J row) (events_in row) [] ++ l) (same_shown J rows)

all_above : (n : ℕ) (events : List Event) → AreRising n events → rising_above n events ≡ events
all_above n [] rise = refl
all_above n (e ∷ events) rise = rw (lt-leb e.0 n rise.0) (ap (λ (l : List Event). e ∷ l) (all_above e.0 events rise.1))

at_start : (held : Held) → standing_of held 0 ≡ Standing.Current
at_start held = rw (le-ltb held.last 0 (omega arith)) refl

pub no_number : last_seq [] ≡ 0
unfolding last_seq
no_number = refl

served_whole : (J : List Row) → AreRising 0 (shown_of J J) → served (held_by J) (Some 0) ≡ map (λ e. e.1) (shown_of J J)
served_whole J rise =
    let held = held_by J in
    ap (λ (s : Standing). notice_of s ++ following s held.shown 0) (at_start held) ∙ ap (λ (l : List Event). messages_of l) (all_above 0 (shown_of J J) rise)

-- ---- steps

-- what came of an event ends no host
not_ended : (checks : Checks) (J : List Row) (ended : List (List ℕ)) (host : List ℕ) (frame : Result Frame FrameFault) (told : Decided) (e : Seen) → frame ≡ Ok (Frame.Event e) → IsDecidedAs checks J ended (host, frame) told → ended_decided told host ended ≡ ended
not_ended checks J ended host frame after_end e reads is = refl
not_ended checks J ended host frame (recorded t) e reads is = refl
not_ended checks J ended host frame (skipped pass) e reads is =
    let P : Result Frame FrameFault → Type 0 = λ f. skipped_by J (host, f) ≡ Some pass in
    by_old (nat_le e.seq (cursor host J)) pass (subst P reads is.1)
  where
    by_old : (b : Bool) (p : Pass) → old_if b ≡ Some p → ended_by p host ended ≡ ended
    by_old true Pass.Old h = refl
    by_old true Pass.Unknown h = refl
    by_old true Pass.Info h = refl
    by_old true Pass.Ended h = absurd cc
    by_old false p h = absurd cc

pub head_is : {A : Type 0} (x y : A) (xs ys : List A) → x ∷ xs ≡ y ∷ ys → x ≡ y
head_is x y xs ys h = cc

pub tail_is : {A : Type 0} (x y : A) (xs ys : List A) → x ∷ xs ≡ y ∷ ys → xs ≡ ys
tail_is x y xs ys h = cc

pub none_ended : (checks : Checks) (steps : List Step) (J : List Row) (ended : List (List ℕ)) (es : List Event) (rest : List (List ℕ)) → AreSteps checks J ended steps → map (λ e. e.1) es ≡ bytes_of_messages (messages_sent steps) ++ rest → AreReadEvents es → ended_by_all steps ended ≡ ended
none_ended checks [] J ended es rest are same read = refl
none_ended checks (s ∷ steps) J ended [] rest are same read = absurd cc
none_ended checks (s ∷ steps) J ended (e ∷ es) rest are same read =
    let first = head_is e.1 s.bytes (map (λ x. x.1) es) (bytes_of_messages (messages_sent steps) ++ rest) same in
    let here = not_ended checks J ended s.host (frame_of s.bytes) s.decided read.0.seen (sym (ap frame_of first) ∙ read.0.reads) are.0 in
    ap (λ (l : List (List ℕ)). ended_by_all steps l) here
    ∙ none_ended checks steps (J ++ rows_decided s.decided) ended es rest (subst (λ (l : List (List ℕ)). AreSteps checks (J ++ rows_decided s.decided) l steps) here are.1) (tail_is e.1 s.bytes (map (λ x. x.1) es) (bytes_of_messages (messages_sent steps) ++ rest) same) read.1

pub messages_are : (host : List ℕ) (steps : List Step) (es : List Event) → AreOf host (messages_sent steps) → map (λ e. e.1) es ≡ bytes_of_messages (messages_sent steps) → messages steps ≡ sent_by host es
messages_are host [] [] of same = refl
messages_are host [] (e ∷ es) of same = absurd cc
messages_are host (s ∷ steps) [] of same = absurd cc
messages_are host (s ∷ steps) (e ∷ es) of same =
    let first = head_is e.1 s.bytes (map (λ x. x.1) es) (bytes_of_messages (messages_sent steps)) same in
    let one : message_of s ≡ (host, frame_of e.1) = (λ i. (of.0 i, frame_of (sym first i))) in
    ap (λ (m : Read). m ∷ messages steps) one ∙ ap (λ (l : List Read). (host, frame_of e.1) ∷ l) (messages_are host steps es of.1 (tail_is e.1 s.bytes (map (λ x. x.1) es) (bytes_of_messages (messages_sent steps)) same))

pub all_sent : (host : List ℕ) (steps : List Step) (rest : List (List ℕ)) → ended_by_all steps [] ≡ [] → (rest ≡ []) ⊎ (has_ended (ended_by_all steps []) host ≡ true) → rest ≡ []
all_sent host steps rest none (inl all) = all
all_sent host steps rest none (inr over) = absurd (false≢true (sym (ap (λ (l : List (List ℕ)). has_ended l host) none) ∙ over))

pub served_follow : ServedFollow
served_follow checks opens links one two host did steps rest journal given new are of front done trusts followed =
    let so = shown_so checks opens links (is_shown one) one [] journal given in
    let es = events_shown (is_shown one) one in
    let P : List Event → Type 0 = λ l. AreRising 0 l in
    let rise : AreRising 0 es = subst (λ (n : ℕ). AreRising n es) no_number so.rise in
    let whole : served (held_by one) (Some (cursor host two)) ≡ map (λ e. e.1) es =
    ap (λ (n : ℕ). served (held_by one) (Some n)) new ∙ served_whole one (subst P (sym (same_shown one one)) rise) ∙ ap (λ (l : List Event). map (λ (e : Event). e.1) l) (same_shown one one) in
    let fronted : map (λ e. e.1) es ≡ bytes_of_messages (messages_sent steps) ++ rest = sym whole ∙ front in
    let none = none_ended checks steps two [] es rest are fronted so.read in
    let all = all_sent host steps rest none done in
    let bytes : map (λ e. e.1) es ≡ bytes_of_messages (messages_sent steps) = fronted ∙ ap (λ (l : List (List ℕ)). bytes_of_messages (messages_sent steps) ++ l) all ∙ append-nil (bytes_of_messages (messages_sent steps)) in
    let run = subst (λ (m : List Read). RunFrom checks two [] m (rows steps)) (messages_are host steps es of bytes) (steps_run checks two [] steps are) in
    follow checks opens links one two (rows steps) host did (is_shown one) journal given new run trusts followed

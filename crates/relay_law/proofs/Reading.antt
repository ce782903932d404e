-- The rows of a run are read back, whatever heads they keep.
use Rattle.std.proofs.Common.{◌≡◌, ◌≢◌, ℕ, ◌+◌, Bool, true, false, ◌&&◌, ◌||◌, List, [], ◌∷◌, ◌++◌, Option, Some, None, Ok, Err, refl, ap, ◌∙◌, sym, cond, subst, append_assoc}
use Rattle.std.proofs.lemmas.Bool.{and_parts, ltb-true, eqb-true}
use Rattle.std.specs.Prelude.{nat_lt, ◌<◌, ◌==◌}
use Rattle.at_event.specs.Events.{IsEvent}
use Rattle.at_event.specs.Seen.{Seen}
use Rattle.at_event.specs.Frames.{frame_of}
use Rattle.at_event.specs.Writing.{out_of, numbered}
use Rattle.at_event.specs.declared.frame.Frame.{Frame}
use Rattle.at_event.specs.Refusals.{code_of}
use Rattle.at_event.proofs.Formed.{events_formed}
use Rattle.at_event.proofs.Messages.{out_again}
use Rattle.relay_row.specs.Folds.{last_seq}
use Rattle.relay_row.specs.Journal.{IsJournal}
use Rattle.relay_row.specs.Rules.{is_row, is_taken, is_accepted, is_effect, is_fetched, is_timed, is_positive, is_number, is_message, is_empty, loses}
use Rattle.at_cid.specs.declared.limits.TheConstants.{NUMBERS}
use Rattle.relay_row.specs.declared.fetched.Fetched.{Fetched}
use Rattle.relay_row.specs.declared.row.Row.{Row}
use Rattle.relay_row.specs.declared.taken.Effect.{Effect}
use Rattle.relay_row.specs.declared.taken.Taken.{Taken}
use Rattle.relay_row.proofs.Journals.{grew, fronts}
use Rattle.relay_row.proofs.Fits.{FitsFetched, taken_fits}
use Rattle.account_state.specs.Folds.{account}
use Rattle.account_state.specs.State.{State}
use Rattle.account_state.specs.declared.repo.Repo.{Repo}
use Rattle.relay_core.specs.Decide.{Checks, Outside, Found, absent, unfit, found, decided_event, fetched_as, refusal_of, is_held, event_row}
use Rattle.relay_core.specs.Rows.{faulty_taken, kind_number}
use Rattle.relay_core.specs.Runs.{Message, Turn, IsMadeBy, RunFrom, skipped_by, has_ended}
use Rattle.relay_core.specs.Shown.{shown}
use Rattle.relay_core.specs.declared.decision.Pass.{Pass}
use Rattle.relay_law.specs.Faithful.{AreReadBack, HoldsOfWhole, IsReadBack, SendsEvent, SendsRev}
use Rattle.relay_law.specs.Laws.{AreEvents, RunsAreReadBack}
use Rattle.relay_law.proofs.Own.{whole_reads}
use Rattle.relay_law.proofs.Sounding.{decided_did, decided_formed, later_events, taken_is}

-- an event's message is read, whatever head its row keeps
abbrev pub EventRead : Taken → Type 0
EventRead t = SendsEvent Repo.Missing t Effect.Nothing

pub event_read : (before : Repo) (t : Taken) (x : Effect) → SendsEvent before t x → EventRead t
event_read before t Effect.Nothing h = h
event_read before t (Effect.Account active status) h = h
event_read before t (Effect.Repo head) h = λ some. record { event = h.event; reads = h.reads; did_is = h.did_is; seq_is = h.seq_is; says = h.says.0 }

-- an accepted event's number is one, where there is one

numbered_or : (p z q k : Bool) → p || (k && (z && q)) ≡ true → (z ≡ true → ⊥) → p ≡ true
numbered_or true z q k h nonzero = refl
numbered_or false z q k h nonzero = absurd (nonzero (and_parts z q (and_parts k (z && q) h).1).0)

accepted_number : (t : Taken) → is_accepted t ≡ true → t.seq ≢ 0 → nat_lt t.seq NUMBERS ≡ true
unfolding is_accepted
accepted_number t is some =
    let forms = (and_parts (is_effect t.kind t.effect) (is_fetched false (is_timed t.moment) t.fetched && ((is_positive t.seq && is_message t.message) || (t.kind == 4 && (t.seq == 0 && is_empty t.message)))) is).1 in
    let sent = (and_parts (is_fetched false (is_timed t.moment) t.fetched) ((is_positive t.seq && is_message t.message) || (t.kind == 4 && (t.seq == 0 && is_empty t.message))) forms).1 in
    let goes = numbered_or (is_positive t.seq && is_message t.message) (t.seq == 0) (is_empty t.message) (t.kind == 4) sent (λ zero. some (eqb-true t.seq 0 zero)) in
    (and_parts (nat_lt 0 t.seq) (is_number t.seq) (and_parts (is_positive t.seq) (is_message t.message) goes).0).1

accepted_reads : (e : Seen) → IsEvent e → (t : Taken) (n : ℕ) (held : Bool) → t.seq ≡ cond held 0 (n + 1) → t.message ≡ cond held [] (out_of e (n + 1)) → t.did ≡ e.did → t.kind ≡ kind_number e.body → is_accepted t ≡ true → EventRead t
accepted_reads e read t n true seq message did kind is = λ some. absurd (some seq)
accepted_reads e read t n false seq message did kind is = λ some.
    let below : n + 1 < NUMBERS = ltb-true (n + 1) NUMBERS (subst (λ (k : ℕ). nat_lt k NUMBERS ≡ true) seq (accepted_number t is some)) in
    record {
      event = numbered e (n + 1);
      reads = ap frame_of message ∙ out_again e (n + 1) below read;
      did_is = sym did;
      seq_is = sym seq;
      says = sym kind;
    }

pub event_reads : (checks : Checks) (n : ℕ) (a : State) (host : List ℕ) (e : Seen) (o : Outside) → IsEvent e → is_taken (decided_event checks n a host e o) ≡ true → EventRead (decided_event checks n a host e o)
event_reads checks n a host e o read =
    elim (refusal_of checks a e o) as (λ q. is_taken (event_row checks n a host e o (Some o.moment) q) ≡ true
    → EventRead (event_row checks n a host e o (Some o.moment) q)) [
      | Some r ↦ λ is some. absurd (some refl)
      | None ↦ λ is.
          let t = event_row checks n a host e o (Some o.moment) None in
          accepted_reads e read t n (is_held a e.body) refl refl refl refl (decided_formed t is)
    ]

made_reads : (n : ℕ) (e : Seen) (f : Found) (timed : Bool) → IsEvent e → FitsFetched timed (fetched_as n e f) → HoldsOfWhole (SendsRev e.did) (fetched_as n e f)
made_reads n e absent timed read fits = tt
made_reads n e (unfit k) timed read fits = tt
made_reads n e (found head records block) timed read fits =
    let formed = events_formed e read in
    whole_reads e.did e.time head records block (n + 1) formed.did_text formed.did formed.time fits

asked_reads : (b : Bool) (n : ℕ) (e : Seen) (f : Found) (timed : Bool) → IsEvent e → FitsFetched timed (cond b (fetched_as n e f) Fetched.NotAsked) → HoldsOfWhole (SendsRev e.did) (cond b (fetched_as n e f) Fetched.NotAsked)
asked_reads true n e f timed read fits = made_reads n e f timed read fits
asked_reads false n e f timed read fits = tt

fetch_reads : (checks : Checks) (n : ℕ) (a : State) (host : List ℕ) (e : Seen) (o : Outside) → IsEvent e → is_taken (decided_event checks n a host e o) ≡ true → HoldsOfWhole (SendsRev e.did) (decided_event checks n a host e o).fetched
fetch_reads checks n a host e o read =
    elim (refusal_of checks a e o) as (λ q. is_taken (event_row checks n a host e o (Some o.moment) q) ≡ true
    → HoldsOfWhole (SendsRev e.did) (event_row checks n a host e o (Some o.moment) q).fetched) [
      | Some r ↦ λ is. asked_reads (loses (code_of r)) n e o.fetched true read (taken_fits (event_row checks n a host e o (Some o.moment) (Some r)) is).fetched
      | None ↦ λ is. tt
    ]

taken_reads : (checks : Checks) (J : List Row) (host : List ℕ) (f : Frame) (t : Taken) (others : List Message) → AreEvents ((host, Ok f) ∷ others) → is_taken t ≡ true → IsMadeBy checks J (host, Ok f) (Row.Taken t) → IsReadBack (Row.Taken t)
taken_reads checks J host (Frame.Event e) t others read is made =
    let P : Taken → Type 0 = λ s. is_taken s ≡ true → IsReadBack (Row.Taken s) in
    let n = last_seq J in
    let a = account e.did J in
    subst P (taken_is (decided_event checks n a host e (shown t)) t made) (λ formed. (
      event_reads checks n a host e (shown t) read.0 formed,
      subst (λ (did : List ℕ). HoldsOfWhole (SendsRev did) (decided_event checks n a host e (shown t)).fetched) (sym (decided_did checks n a host e (shown t))) (fetch_reads checks n a host e (shown t) read.0 formed),
    )) is
taken_reads checks J host (Frame.Faulty seq) t others read is made =
    let P : Taken → Type 0 = λ s. IsReadBack (Row.Taken s) in
    subst P (taken_is (faulty_taken host seq (Some (shown t).moment)) t made) ((λ some. absurd (some refl)), tt)
taken_reads checks J host Frame.Info t others read is made = absurd cc
taken_reads checks J host Frame.Error t others read is made = absurd cc
taken_reads checks J host Frame.Unknown t others read is made = absurd cc

row_reads : (checks : Checks) (J : List Row) (m : Message) (others : List Message) (row : Row) → is_row row ≡ true → AreEvents (m ∷ others) → IsMadeBy checks J m row → IsReadBack row
unfolding is_row
row_reads checks J (host, Ok f) others (Row.Taken t) is read made = taken_reads checks J host f t others read is made
row_reads checks J (host, Ok f) others (Row.Synced name whole moment) is read made = absurd made
row_reads checks J (host, Ok f) others (Row.Operated o) is read made = absurd made
row_reads checks J (host, Ok f) others (Row.Carried c) is read made = absurd made
row_reads checks J (host, Err fault) others row is read made = absurd made

abbrev Reads : Checks → List Message → Type 0
Reads checks messages = (J : List Row) (ended : List (List ℕ)) (rows : List Row) → IsJournal (J ++ rows) → RunFrom checks J ended messages rows → AreReadBack rows

turned : (checks : Checks) (m : Message) (messages : List Message) → AreEvents (m ∷ messages) → Reads checks messages → (J : List Row) (ended : List (List ℕ)) (rows : List Row) (b : Bool) (p : Option Pass) → IsJournal (J ++ rows)
    → Turn b p (RunFrom checks J (m.0 ∷ ended) messages rows) (RunFrom checks J ended messages rows)
    ((row : Row) × (others : List Row) × (rows ≡ row ∷ others) × IsMadeBy checks J m row × RunFrom checks (J ++ row ∷ []) ended messages others)
    → AreReadBack rows
turned checks m messages read reads J ended rows true p journal h = reads J ended rows journal h
turned checks m messages read reads J ended rows false (Some Pass.Ended) journal h = reads J (m.0 ∷ ended) rows journal h
turned checks m messages read reads J ended rows false (Some Pass.Old) journal h = reads J ended rows journal h
turned checks m messages read reads J ended rows false (Some Pass.Unknown) journal h = reads J ended rows journal h
turned checks m messages read reads J ended rows false (Some Pass.Info) journal h = reads J ended rows journal h
turned checks m messages read reads J ended rows false None journal (row, others, is, made, run) =
    let IsJournalOf : List Row → Type 0 = λ R. IsJournal R in
    let P : List Row → Type 0 = λ R. AreReadBack R in
    let longer = subst IsJournalOf (ap (λ (R : List Row). J ++ R) is ∙ sym (append_assoc J (row ∷ []) others)) journal in
    let formed = (grew J row (fronts (J ++ row ∷ []) others longer)).0 in
    subst P (sym is) (row_reads checks J m messages row formed read made, reads (J ++ row ∷ []) ended others longer run)

run_reads : (checks : Checks) (messages : List Message) → AreEvents messages → Reads checks messages
run_reads checks [] read J ended rows journal h = subst (λ (R : List Row). AreReadBack R) (sym h) tt
run_reads checks (m ∷ messages) read J ended rows journal h =
    turned checks m messages read (run_reads checks messages (later_events m messages read)) J ended rows (has_ended ended m.0) (skipped_by J m) journal h

pub runs_read_back : RunsAreReadBack
runs_read_back checks J messages rows read journal run = run_reads checks messages read J [] rows journal run

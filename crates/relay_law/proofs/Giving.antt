-- The rows of a run send what they keep.
use Rattle.std.proofs.Common.{◌≡◌, ℕ, ◌+◌, Bool, true, false, ◌&&◌, ◌||◌, List, [], ◌∷◌, ◌++◌, Option, Some, None, Ok, Err, refl, ap, ◌∙◌, sym, cond, subst, append_assoc}
use Rattle.std.proofs.lemmas.Bool.{and_parts, ltb-true}
use Rattle.std.specs.Prelude.{nat_lt, ◌==◌}
use Rattle.at_event.specs.Events.{IsEvent}
use Rattle.at_event.specs.Refusals.{code_of}
use Rattle.at_event.specs.Seen.{Seen}
use Rattle.at_event.specs.Writing.{out_length, numbered}
use Rattle.at_event.specs.declared.event.Body.{Body}
use Rattle.at_event.specs.declared.event.CommitEvent.{CommitEvent}
use Rattle.at_event.specs.declared.frame.Frame.{Frame}
use Rattle.at_event.specs.declared.head.Head.{Head}
use Rattle.at_event.specs.declared.refusal.Refusal.{Refusal}
use Rattle.at_event.proofs.Formed.{events_formed}
use Rattle.at_event.proofs.Messages.{out_again}
use Rattle.relay_row.specs.Folds.{last_seq}
use Rattle.relay_row.specs.Journal.{IsJournal}
use Rattle.relay_row.specs.Rules.{is_row, is_taken, is_accepted, is_effect, is_fetched, is_timed, is_positive, is_number, is_message, is_empty, loses}
use Rattle.at_cid.specs.declared.limits.TheConstants.{NUMBERS}
use Rattle.relay_row.specs.declared.fetched.Fetched.{Fetched}
use Rattle.relay_row.specs.declared.row.Row.{Row}
use Rattle.relay_row.specs.declared.taken.Effect.{Effect}
use Rattle.relay_row.specs.declared.taken.Taken.{Taken}
use Rattle.relay_row.proofs.Journals.{grew, fronts}
use Rattle.relay_row.proofs.Fits.{FitsFetched, taken_fits}
use Rattle.account_state.specs.Folds.{account, last_rev}
use Rattle.account_state.specs.State.{State}
use Rattle.account_state.specs.declared.repo.Repo.{Repo}
use Rattle.relay_core.specs.Decide.{Checks, Found, Outside, absent, unfit, found, decided_event, fetched_as, first_refusal, refusal_of, refusal_in, when, body_refusals, event_row}
use Rattle.relay_core.specs.Opening.{IsHeadOf, OpensRight, shown_alone}
use Rattle.relay_core.specs.Rows.{faulty_taken, head_effect, kind_number}
use Rattle.relay_core.specs.Runs.{Message, Turn, IsMadeBy, RunFrom, skipped_by, has_ended}
use Rattle.relay_core.specs.Shown.{found_in, shown}
use Rattle.relay_core.specs.declared.decision.Pass.{Pass}
use Rattle.relay_core.specs.declared.limits.TheConstants.{LONGEST_MESSAGE}
use Rattle.relay_law.specs.Laws.{AreEvents}
use Rattle.relay_law.specs.Right.{LinksRight}
use Rattle.relay_law.proofs.Own.{whole_gives}
use Rattle.relay_law.proofs.Reading.{EventRead, event_reads}
use Rattle.relay_law.proofs.Sounding.{accepted_taken, decided_did, decided_formed, later_events, later_none, links_none, taken_is}
use Rattle.relay_law.specs.Faithful.{HoldsOfWhole, SendsEvent, SendsSync, SendsWhatItKeeps, SendWhatTheyKeep}
use Rattle.relay_law.specs.Heads.{FetchesGive, FoundGives, GivesHead}
use Rattle.relay_law.specs.Laws.{RunsAreFaithful}

-- an event of a row that keeps a head gives it
abbrev EffectGives : Repo → Taken → Effect → Type 0
EffectGives before t (Effect.Repo head) = SendsEvent before t (Effect.Repo head)
EffectGives before t effect = Unit {0}

both_sent : (before : Repo) (t : Taken) (x : Effect) → EventRead t → EffectGives before t x → SendsEvent before t x
both_sent before t Effect.Nothing read gives = read
both_sent before t (Effect.Account active status) read gives = read
both_sent before t (Effect.Repo head) read gives = gives

-- an accepted commit's or `#sync`'s number is one

or_no : (b : Bool) → b || false ≡ true → b ≡ true
or_no true h = refl
or_no false h = h

event_number : (t : Taken) → is_accepted t ≡ true → t.kind == 4 ≡ false → nat_lt t.seq NUMBERS ≡ true
unfolding is_accepted
event_number t is kind =
    let sent : Bool = (is_positive t.seq && is_message t.message) || (t.kind == 4 && (t.seq == 0 && is_empty t.message)) in
    let forms = (and_parts (is_effect t.kind t.effect) (is_fetched false (is_timed t.moment) t.fetched && sent) is).1 in
    let goes = (and_parts (is_fetched false (is_timed t.moment) t.fetched) sent forms).1 in
    let P : Bool → Type 0 = λ b. (is_positive t.seq && is_message t.message) || (b && (t.seq == 0 && is_empty t.message)) ≡ true in
    let positive = (and_parts (is_positive t.seq) (is_message t.message) (or_no (is_positive t.seq && is_message t.message) (subst P kind goes))).0 in
    (and_parts (nat_lt 0 t.seq) (is_number t.seq) positive).1

-- what opening and linking say of an accepted event gives the head
gives_commit : (checks : Checks) → OpensRight checks → LinksRight checks → (a : State) (e : Seen) (c : CommitEvent) (head : Head) → e.body ≡ Body.Commit c → checks.opens e (last_rev a.repo) ≡ Ok head → checks.links e a.repo ≡ None
    → GivesHead a.repo head (Body.Commit c)
gives_commit checks opens links a e c head body opened linked =
    let P : Body → Type 0 = λ b. refusal_in (checks.opens e (last_rev a.repo)) ≡ shown_alone b (last_rev a.repo) in
    let Q : Body → Type 0 = λ b. IsHeadOf b head in
    record {
      shown = sym (subst P body (opens.refusal e (last_rev a.repo))) ∙ ap refusal_in opened;
      no_gap = links.no_gap e c a.repo body linked;
      gives = subst Q body (opens.head e (last_rev a.repo) head opened);
    }

accepted_gives : (checks : Checks) → OpensRight checks → LinksRight checks → (n : ℕ) (a : State) (host : List ℕ) (e : Seen) (o : Outside) → IsEvent e
    → (body : Body) → e.body ≡ body → first_refusal (body_refusals checks a e body o (Some o.moment)) ≡ None → is_taken (accepted_taken checks n a host e o body) ≡ true
    → EffectGives a.repo (accepted_taken checks n a host e o body) (accepted_taken checks n a host e o body).effect
unfolding accepted_taken
accepted_gives checks opens links n a host e o read (Body.Commit c) body q is =
    let fits = ltb-true (n + 1) NUMBERS (event_number (accepted_taken checks n a host e o (Body.Commit c)) (decided_formed (accepted_taken checks n a host e o (Body.Commit c)) is) refl) in
    elim (checks.opens e (last_rev a.repo)) as (λ x. checks.opens e (last_rev a.repo) ≡ x → EffectGives a.repo (accepted_taken checks n a host e o (Body.Commit c)) (head_effect (Some x))) [
      | Err r ↦ λ opened. tt
      | Ok head ↦ λ opened. record {
        event = numbered e (n + 1);
        reads = out_again e (n + 1) fits read;
        did_is = refl;
        seq_is = refl;
        says = subst (λ (b : Body). (kind_number b ≡ 1) × GivesHead a.repo head b) (sym body) (refl, gives_commit checks opens links a e c head body opened (links_none checks a e c o q));
      }
    ] refl
accepted_gives checks opens links n a host e o read (Body.Sync y) body q is =
    let fits = ltb-true (n + 1) NUMBERS (event_number (accepted_taken checks n a host e o (Body.Sync y)) (decided_formed (accepted_taken checks n a host e o (Body.Sync y)) is) refl) in
    elim (checks.opens e (last_rev a.repo)) as (λ x. checks.opens e (last_rev a.repo) ≡ x → EffectGives a.repo (accepted_taken checks n a host e o (Body.Sync y)) (head_effect (Some x))) [
      | Err r ↦ λ opened. tt
      | Ok head ↦ λ opened. record {
        event = numbered e (n + 1);
        reads = out_again e (n + 1) fits read;
        did_is = refl;
        seq_is = refl;
        says = subst (λ (b : Body). (kind_number b ≡ 2) × GivesHead a.repo head b) (sym body) (refl, subst (λ (b : Body). IsHeadOf b head) body (opens.head e (last_rev a.repo) head opened));
      }
    ] refl
accepted_gives checks opens links n a host e o read Body.Identity body q is = tt
accepted_gives checks opens links n a host e o read (Body.Account b) body q is = tt

event_gives : (checks : Checks) → OpensRight checks → LinksRight checks → (n : ℕ) (a : State) (host : List ℕ) (e : Seen) (o : Outside) → IsEvent e → is_taken (decided_event checks n a host e o) ≡ true
    → EffectGives a.repo (decided_event checks n a host e o) (decided_event checks n a host e o).effect
unfolding accepted_taken
event_gives checks opens links n a host e o read =
    elim (refusal_of checks a e o) as (λ q. refusal_of checks a e o ≡ q → is_taken (event_row checks n a host e o (Some o.moment) q) ≡ true
    → EffectGives a.repo (event_row checks n a host e o (Some o.moment) q) (event_row checks n a host e o (Some o.moment) q).effect) [
      | Some r ↦ λ q is. tt
      | None ↦ λ q is. accepted_gives checks opens links n a host e o read e.body refl (later_none (when (nat_lt LONGEST_MESSAGE (out_length e)) Refusal.TooLong) (body_refusals checks a e e.body o (Some o.moment)) q) is
    ] refl

-- ---- the relay's own `#sync`

made_gives : (n : ℕ) (e : Seen) (f : Found) (timed : Bool) → IsEvent e → FoundGives f → FitsFetched timed (fetched_as n e f) → HoldsOfWhole (SendsSync e.did) (fetched_as n e f)
made_gives n e absent timed read gives fits = tt
made_gives n e (unfit k) timed read gives fits = tt
made_gives n e (found head records block) timed read gives fits =
    let formed = events_formed e read in
    whole_gives e.did e.time head records block (n + 1) formed.did_text formed.did formed.time gives fits

asked_gives : (b : Bool) (n : ℕ) (e : Seen) (f : Found) (timed : Bool) → IsEvent e → FoundGives f → FitsFetched timed (cond b (fetched_as n e f) Fetched.NotAsked)
    → HoldsOfWhole (SendsSync e.did) (cond b (fetched_as n e f) Fetched.NotAsked)
asked_gives true n e f timed read gives fits = made_gives n e f timed read gives fits
asked_gives false n e f timed read gives fits = tt

fetch_gives : (checks : Checks) (n : ℕ) (a : State) (host : List ℕ) (e : Seen) (o : Outside) → IsEvent e → FoundGives o.fetched → is_taken (decided_event checks n a host e o) ≡ true
    → HoldsOfWhole (SendsSync e.did) (decided_event checks n a host e o).fetched
fetch_gives checks n a host e o read gives =
    elim (refusal_of checks a e o) as (λ q. is_taken (event_row checks n a host e o (Some o.moment) q) ≡ true
    → HoldsOfWhole (SendsSync e.did) (event_row checks n a host e o (Some o.moment) q).fetched) [
      | Some r ↦ λ is. asked_gives (loses (code_of r)) n e o.fetched true read gives (taken_fits (event_row checks n a host e o (Some o.moment) (Some r)) is).fetched
      | None ↦ λ is. tt
    ]

-- ---- all rows

taken_gives : (checks : Checks) → OpensRight checks → LinksRight checks → (J : List Row) (host : List ℕ) (f : Frame) (t : Taken) (others : List Message) → AreEvents ((host, Ok f) ∷ others) → FoundGives (found_in t.fetched) → is_taken t ≡ true → IsMadeBy checks J (host, Ok f) (Row.Taken t) → SendsWhatItKeeps J (Row.Taken t)
taken_gives checks opens links J host (Frame.Event e) t others read gives is made =
    let P : Taken → Type 0 = λ s. is_taken s ≡ true → SendsWhatItKeeps J (Row.Taken s) in
    let n = last_seq J in
    let a = account e.did J in
    subst P (taken_is (decided_event checks n a host e (shown t)) t made) (λ formed.
    let made_taken = decided_event checks n a host e (shown t) in
    let G : List ℕ → Type 0 = λ did. SendsEvent (account did J).repo made_taken made_taken.effect × HoldsOfWhole (SendsSync did) made_taken.fetched in
    subst G (sym (decided_did checks n a host e (shown t)))
    (both_sent a.repo made_taken made_taken.effect (event_reads checks n a host e (shown t) read.0 formed) (event_gives checks opens links n a host e (shown t) read.0 formed), fetch_gives checks n a host e (shown t) read.0 gives formed)) is
taken_gives checks opens links J host (Frame.Faulty seq) t others read gives is made =
    let P : Taken → Type 0 = λ s. SendsWhatItKeeps J (Row.Taken s) in
    subst P (taken_is (faulty_taken host seq (Some (shown t).moment)) t made) ((λ some. absurd (some refl)), tt)
taken_gives checks opens links J host Frame.Info t others read gives is made = absurd cc
taken_gives checks opens links J host Frame.Error t others read gives is made = absurd cc
taken_gives checks opens links J host Frame.Unknown t others read gives is made = absurd cc

row_gives : (checks : Checks) → OpensRight checks → LinksRight checks → (J : List Row) (m : Message) (others : List Message) (row : Row) → is_row row ≡ true → AreEvents (m ∷ others) → FetchesGive (row ∷ []) → IsMadeBy checks J m row → SendsWhatItKeeps J row
unfolding is_row
row_gives checks opens links J (host, Ok f) others (Row.Taken t) is read gives made = taken_gives checks opens links J host f t others read gives.0 is made
row_gives checks opens links J (host, Ok f) others (Row.Synced name whole moment) is read gives made = absurd made
row_gives checks opens links J (host, Ok f) others (Row.Operated o) is read gives made = absurd made
row_gives checks opens links J (host, Ok f) others (Row.Carried c) is read gives made = absurd made
row_gives checks opens links J (host, Err fault) others row is read gives made = absurd made

-- what is fetched for the first row, and for those behind it
given_first : (row : Row) (rows : List Row) → FetchesGive (row ∷ rows) → FetchesGive (row ∷ []) × FetchesGive rows
given_first (Row.Taken t) rows h = ((h.0, tt), h.1)
given_first (Row.Synced did whole moment) rows h = (tt, h)
given_first (Row.Operated o) rows h = (tt, h)
given_first (Row.Carried c) rows h = (tt, h)

abbrev Gives : Checks → List Message → Type 0
Gives checks messages = (J : List Row) (ended : List (List ℕ)) (rows : List Row) → IsJournal (J ++ rows) → FetchesGive rows → RunFrom checks J ended messages rows → SendWhatTheyKeep J rows

turned : (checks : Checks) → OpensRight checks → LinksRight checks → (m : Message) (messages : List Message) → AreEvents (m ∷ messages) → Gives checks messages → (J : List Row) (ended : List (List ℕ)) (rows : List Row) (b : Bool) (p : Option Pass) → IsJournal (J ++ rows) → FetchesGive rows
    → Turn b p (RunFrom checks J (m.0 ∷ ended) messages rows) (RunFrom checks J ended messages rows)
    ((row : Row) × (others : List Row) × (rows ≡ row ∷ others) × IsMadeBy checks J m row × RunFrom checks (J ++ row ∷ []) ended messages others)
    → SendWhatTheyKeep J rows
turned checks opens links m messages read gives J ended rows true p journal given h = gives J ended rows journal given h
turned checks opens links m messages read gives J ended rows false (Some Pass.Ended) journal given h = gives J (m.0 ∷ ended) rows journal given h
turned checks opens links m messages read gives J ended rows false (Some Pass.Old) journal given h = gives J ended rows journal given h
turned checks opens links m messages read gives J ended rows false (Some Pass.Unknown) journal given h = gives J ended rows journal given h
turned checks opens links m messages read gives J ended rows false (Some Pass.Info) journal given h = gives J ended rows journal given h
turned checks opens links m messages read gives J ended rows false None journal given (row, others, is, made, run) =
    let IsJournalOf : List Row → Type 0 = λ R. IsJournal R in
    let P : List Row → Type 0 = λ R. SendWhatTheyKeep J R in
    let G : List Row → Type 0 = λ R. FetchesGive R in
    let parts = given_first row others (subst G is given) in
    let longer = subst IsJournalOf (ap (λ (R : List Row). J ++ R) is ∙ sym (append_assoc J (row ∷ []) others)) journal in
    let formed = (grew J row (fronts (J ++ row ∷ []) others longer)).0 in
    subst P (sym is) (row_gives checks opens links J m messages row formed read parts.0 made, gives (J ++ row ∷ []) ended others longer parts.1 run)

run_gives : (checks : Checks) → OpensRight checks → LinksRight checks → (messages : List Message) → AreEvents messages → Gives checks messages
run_gives checks opens links [] read J ended rows journal given h = subst (λ (R : List Row). SendWhatTheyKeep J R) (sym h) tt
run_gives checks opens links (m ∷ messages) read J ended rows journal given h =
    turned checks opens links m messages read (run_gives checks opens links messages (later_events m messages read)) J ended rows (has_ended ended m.0) (skipped_by J m) journal given h

pub runs_faithful : RunsAreFaithful
runs_faithful checks opens links J messages rows read journal given run = run_gives checks opens links messages read J [] rows journal given run

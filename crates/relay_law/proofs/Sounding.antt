-- Why a run leaves a sound journal sound.
use Rattle.std.proofs.Common.{◌≡◌, ℕ, ◌+◌, Bool, true, false, ◌&&◌, ◌||◌, List, [], ◌∷◌, ◌++◌, Option, Some, None, Ok, Err, refl, ap, ◌∙◌, sym, cond, subst, append_assoc}
use Rattle.std.proofs.lemmas.Bool.{and_parts, ltb-true}
use Rattle.std.proofs.lemmas.List.{append-nil}
use Rattle.std.specs.Prelude.{if◌then◌else◌, nat_lt, ◌<◌, ◌==◌}
use Rattle.at_event.specs.Events.{IsEvent}
use Rattle.at_event.specs.Seen.{Seen}
use Rattle.at_event.specs.Writing.{out_of, out_length, numbered}
use Rattle.at_event.specs.declared.event.Body.{Body}
use Rattle.at_event.specs.declared.event.CommitEvent.{CommitEvent}
use Rattle.at_event.specs.declared.frame.Frame.{Frame}
use Rattle.at_event.specs.declared.head.Head.{Head}
use Rattle.at_event.specs.declared.refusal.Refusal.{Refusal}
use Rattle.at_event.proofs.Messages.{out_again}
use Rattle.relay_row.specs.Folds.{names, last_seq}
use Rattle.relay_row.specs.Journal.{IsJournal}
use Rattle.relay_row.specs.Rules.{is_row, is_taken, is_accepted, is_decided, is_effect, is_fetched, is_timed, is_positive, is_number, is_message, is_empty, is_about, is_moment, names_host}
use Rattle.relay_row.specs.declared.fetched.Fetched.{Fetched}
use Rattle.at_cid.specs.declared.limits.TheConstants.{NUMBERS}
use Rattle.relay_row.specs.declared.row.Row.{Row}
use Rattle.relay_row.specs.declared.taken.Effect.{Effect}
use Rattle.relay_row.specs.declared.taken.Taken.{Taken}
use Rattle.relay_row.proofs.Journals.{grew, fronts}
use Rattle.account_state.specs.Folds.{account, last_rev}
use Rattle.account_state.specs.State.{State}
use Rattle.account_state.specs.declared.repo.Repo.{Repo}
use Rattle.commit_check.specs.Step.{empty_root}
use Rattle.relay_core.specs.Decide.{Checks, Outside, first_refusal, body_refusals, event_row, refusal_of, decided_event, when, is_held}
use Rattle.relay_core.specs.Rows.{faulty_taken, effect_of, head_effect, kind_number}
use Rattle.relay_core.specs.Runs.{Message, Turn, IsMadeBy, RunFrom, skipped_by, has_ended}
use Rattle.relay_core.specs.Shown.{shown}
use Rattle.relay_core.specs.declared.decision.Pass.{Pass}
use Rattle.relay_core.specs.declared.limits.TheConstants.{LONGEST_MESSAGE}
use Rattle.relay_core.proofs.Agreeing.{event_told}
use Rattle.relay_law.specs.Chains.{Part, rests, nothing, effect_part, taken_part, part_in, part_of}
use Rattle.relay_law.specs.Laws.{AreEvents, RunsStaySound, OperatorsStaySound}
use Rattle.relay_law.specs.Right.{AreRight, root_expected}
use Rattle.relay_law.specs.Sound.{GoesFrom, Follows, IsSound}
use Rattle.relay_law.proofs.Growing.{end_root, root_now, FollowsAt, sound_more}
use Rattle.account_state.proofs.Dids.{names_same}
use Rattle.relay_law.proofs.Tracking.{IsTracked, tracked}

-- a part that is no commit follows anywhere

quiet_part : (p : List ℕ) (t : Taken) (f : Fetched) → t.effect ≡ Effect.Nothing → FollowsAt p (taken_part t f)
unfolding FollowsAt
quiet_part p t (Fetched.Whole w) h = tt
quiet_part p t Fetched.NotAsked h = rw h tt
quiet_part p t Fetched.Absent h = rw h tt
quiet_part p t (Fetched.Refused n) h = rw h tt

at_name : (b : Bool) (p : List ℕ) (q : Part) → (b ≡ true → FollowsAt p q) → FollowsAt p (cond b q nothing)
unfolding FollowsAt
at_name true p q h = h refl
at_name false p q h = tt

-- an accepted commit's number is one

or_no : (b : Bool) → b || false ≡ true → b ≡ true
or_no true h = refl
or_no false h = h

positive_or : (p : Bool) (k : ℕ) (q : Bool) → k ≡ 1 → p || (k == 4 && q) ≡ true → p ≡ true
positive_or p k q one h = or_no p (subst (λ (n : ℕ). p || (n == 4 && q) ≡ true) one h)

commit_number : (t : Taken) → is_accepted t ≡ true → t.kind ≡ 1 → nat_lt t.seq NUMBERS ≡ true
unfolding is_accepted
commit_number t is kind =
    let forms = (and_parts (is_effect t.kind t.effect) (is_fetched false (is_timed t.moment) t.fetched && ((is_positive t.seq && is_message t.message) || (t.kind == 4 && (t.seq == 0 && is_empty t.message)))) is).1 in
    let sent = (and_parts (is_fetched false (is_timed t.moment) t.fetched) ((is_positive t.seq && is_message t.message) || (t.kind == 4 && (t.seq == 0 && is_empty t.message))) forms).1 in
    let goes = positive_or (is_positive t.seq && is_message t.message) t.kind (t.seq == 0 && is_empty t.message) kind sent in
    let positive = (and_parts (is_positive t.seq) (is_message t.message) goes).0 in
    (and_parts (nat_lt 0 t.seq) (is_number t.seq) positive).1

pub decided_formed : (t : Taken) → is_taken t ≡ true → is_decided t.refusal t ≡ true
unfolding is_taken
decided_formed t is =
    let a = (and_parts (names_host t.host) (is_number t.host_seq && (is_about t.kind t.did && (is_moment t.moment && is_decided t.refusal t))) is).1 in
    let b = (and_parts (is_number t.host_seq) (is_about t.kind t.did && (is_moment t.moment && is_decided t.refusal t)) a).1 in
    let c = (and_parts (is_about t.kind t.did) (is_moment t.moment && is_decided t.refusal t) b).1 in
    (and_parts (is_moment t.moment) (is_decided t.refusal t) c).1

-- where nothing of the table applies, linking passed

pub later_none : (o : Option Refusal) (others : List (Option Refusal)) → first_refusal (o ∷ others) ≡ None → first_refusal others ≡ None
later_none None others h = h
later_none (Some r) others h = absurd cc

abbrev NoneApplies : List (Option Refusal) → Type 0
NoneApplies [] = Unit {0}
NoneApplies (o ∷ others) = (o ≡ None) × NoneApplies others

none_applies : (refusals : List (Option Refusal)) → first_refusal refusals ≡ None → NoneApplies refusals
none_applies [] h = tt
none_applies (None ∷ others) h = (refl, none_applies others h)
none_applies (Some r ∷ others) h = absurd cc

pub links_none : (checks : Checks) (a : State) (e : Seen) (c : CommitEvent) (o : Outside) → first_refusal (body_refusals checks a e (Body.Commit c) o (Some o.moment)) ≡ None → checks.links e a.repo ≡ None
links_none checks a e c o h = (none_applies (body_refusals checks a e (Body.Commit c) o (Some o.moment)) h).1.1.1.1.1.1.0

expected_is : (checks : Checks) (e : Seen) (c : CommitEvent) (repo : Repo) (p : List ℕ) → AreRight checks → e.body ≡ Body.Commit c → IsTracked repo p → checks.links e repo ≡ None → root_expected repo ≡ p
expected_is checks e c (Repo.Good head) p right body h l = h
expected_is checks e c Repo.Missing p right body h l = h
expected_is checks e c (Repo.Lost rev) p right body h l = absurd (right.not_lost e c rev body l)

-- the row of an accepted event, with its body apart
unfoldable pub accepted_taken : Checks → ℕ → State → List ℕ → Seen → Outside → Body → Taken
accepted_taken checks n a host e o body = record {
  host = host;
  host_seq = e.seq;
  did = e.did;
  kind = kind_number body;
  refusal = None;
  seq = if is_held a body then 0 else n + 1;
  message = if is_held a body then [] else out_of e (n + 1);
  effect = effect_of body (Some (checks.opens e (last_rev a.repo)));
  fetched = Fetched.NotAsked;
  moment = Some o.moment;
}

commit_follows : (checks : Checks) → AreRight checks → (n : ℕ) (a : State) (e : Seen) (c : CommitEvent) (p : List ℕ) (head : Head) → IsEvent e → e.body ≡ Body.Commit c → IsTracked a.repo p → n + 1 < NUMBERS
    → checks.opens e (last_rev a.repo) ≡ Ok head → checks.links e a.repo ≡ None → Follows p (out_of e (n + 1)) head.data_root
commit_follows checks right n a e c p head read body h fits opened linked =
    let P : List ℕ → Type 0 = λ r. GoesFrom c r head.data_root in
    record {
      commit = c;
      is = record { event = numbered e (n + 1); reads = out_again e (n + 1) fits read; says = body };
      goes = subst P (expected_is checks e c a.repo p right body h linked) (right.goes e c a.repo (last_rev a.repo) head read body opened linked);
    }

accepted_follows : (checks : Checks) → AreRight checks → (n : ℕ) (a : State) (host : List ℕ) (e : Seen) (o : Outside) (p : List ℕ) → IsEvent e → IsTracked a.repo p
    → (body : Body) → e.body ≡ body → first_refusal (body_refusals checks a e body o (Some o.moment)) ≡ None → is_taken (accepted_taken checks n a host e o body) ≡ true → FollowsAt p (part_in (Row.Taken (accepted_taken checks n a host e o body)))
unfolding accepted_taken FollowsAt
accepted_follows checks right n a host e o p read h (Body.Commit c) body q is =
    elim (checks.opens e (last_rev a.repo)) as (λ x. checks.opens e (last_rev a.repo) ≡ x → FollowsAt p (effect_part 1 (out_of e (n + 1)) (head_effect (Some x)))) [
      | Ok head ↦ λ opened.
          let t = accepted_taken checks n a host e o (Body.Commit c) in
          let below : n + 1 < NUMBERS = ltb-true (n + 1) NUMBERS (commit_number t (decided_formed t is) refl) in
          commit_follows checks right n a e c p head read body h below opened (links_none checks a e c o q)
      | Err r ↦ λ opened. tt
    ] refl
accepted_follows checks right n a host e o p read h (Body.Sync s) body q is =
    elim (checks.opens e (last_rev a.repo)) as (λ x. FollowsAt p (effect_part 2 (out_of e (n + 1)) (head_effect (Some x)))) [ Ok head ↦ tt | Err r ↦ tt ]
accepted_follows checks right n a host e o p read h Body.Identity body q is = tt
accepted_follows checks right n a host e o p read h (Body.Account b) body q is = tt

event_part_follows : (checks : Checks) → AreRight checks → (n : ℕ) (a : State) (host : List ℕ) (e : Seen) (o : Outside) (p : List ℕ) → IsEvent e → IsTracked a.repo p
    → is_taken (decided_event checks n a host e o) ≡ true → FollowsAt p (part_in (Row.Taken (decided_event checks n a host e o)))
unfolding accepted_taken
event_part_follows checks right n a host e o p read h =
    elim (refusal_of checks a e o) as (λ q. refusal_of checks a e o ≡ q → is_taken (event_row checks n a host e o (Some o.moment) q) ≡ true
    → FollowsAt p (part_in (Row.Taken (event_row checks n a host e o (Some o.moment) q)))) [
      | Some r ↦ λ q is. let t = event_row checks n a host e o (Some o.moment) (Some r) in quiet_part p t t.fetched refl
      | None ↦ λ q is. accepted_follows checks right n a host e o p read h e.body refl (later_none (when (nat_lt LONGEST_MESSAGE (out_length e)) Refusal.TooLong) (body_refusals checks a e e.body o (Some o.moment)) q) is
    ] refl

-- the row of an event is of its account
pub decided_did : (checks : Checks) (n : ℕ) (a : State) (host : List ℕ) (e : Seen) (o : Outside) → (decided_event checks n a host e o).did ≡ e.did
decided_did checks n a host e o = (event_told checks n a host e o (Some o.moment) (refusal_of checks a e o)).did

-- the row of a message follows at the newest root of every account

pub taken_is : (s t : Taken) → Some s ≡ Some t → s ≡ t
taken_is s t e = cc

event_follows : (checks : Checks) → AreRight checks → (J : List Row) → IsJournal J → (host : List ℕ) (e : Seen) (o : Outside) → IsEvent e
    → is_taken (decided_event checks (last_seq J) (account e.did J) host e o) ≡ true
    → (did : List ℕ) → FollowsAt (root_now did empty_root J) (part_of did (Row.Taken (decided_event checks (last_seq J) (account e.did J) host e o)))
event_follows checks right J journal host e o read is did =
    let t = decided_event checks (last_seq J) (account e.did J) host e o in
    let P : List ℕ → Type 0 = λ x. IsTracked (account x J).repo (root_now did empty_root J) in
    let Q : List ℕ → Type 0 = λ x. FollowsAt (root_now did empty_root J) (cond (names did x) (part_in (Row.Taken t)) nothing) in
    subst Q (sym (decided_did checks (last_seq J) (account e.did J) host e o)) (at_name (names did e.did) (root_now did empty_root J) (part_in (Row.Taken t)) (λ named.
    event_part_follows checks right (last_seq J) (account e.did J) host e o (root_now did empty_root J) read (subst P (names_same did e.did named) (tracked did J journal)) is))

faulty_follows : (p did host : List ℕ) (seq : ℕ) (moment : Option ℕ) → FollowsAt p (part_of did (Row.Taken (faulty_taken host seq moment)))
faulty_follows p did host seq moment = let t = faulty_taken host seq moment in at_name (names did []) p (part_in (Row.Taken t)) (λ named. quiet_part p t t.fetched refl)

taken_follows : (checks : Checks) → AreRight checks → (J : List Row) → IsJournal J → (host : List ℕ) (f : Frame) (t : Taken) (others : List Message) → AreEvents ((host, Ok f) ∷ others) → is_taken t ≡ true
    → IsMadeBy checks J (host, Ok f) (Row.Taken t) → (did : List ℕ) → FollowsAt (root_now did empty_root J) (part_of did (Row.Taken t))
taken_follows checks right J journal host (Frame.Event e) t others read is made did =
    let P : Taken → Type 0 = λ s. is_taken s ≡ true → FollowsAt (root_now did empty_root J) (part_of did (Row.Taken s)) in
    subst P (taken_is (decided_event checks (last_seq J) (account e.did J) host e (shown t)) t made) (λ formed. event_follows checks right J journal host e (shown t) read.0 formed did) is
taken_follows checks right J journal host (Frame.Faulty seq) t others read is made did =
    let P : Taken → Type 0 = λ s. FollowsAt (root_now did empty_root J) (part_of did (Row.Taken s)) in
    subst P (taken_is (faulty_taken host seq (Some (shown t).moment)) t made) (faulty_follows (root_now did empty_root J) did host seq (Some (shown t).moment))
taken_follows checks right J journal host Frame.Info t others read is made did = absurd cc
taken_follows checks right J journal host Frame.Error t others read is made did = absurd cc
taken_follows checks right J journal host Frame.Unknown t others read is made did = absurd cc

row_follows : (checks : Checks) → AreRight checks → (J : List Row) (m : Message) (others : List Message) (row : Row) → IsJournal (J ++ row ∷ []) → AreEvents (m ∷ others) → IsMadeBy checks J m row
    → (did : List ℕ) → FollowsAt (root_now did empty_root J) (part_of did row)
unfolding is_row
row_follows checks right J (host, Ok f) others (Row.Taken t) journal read made did =
    taken_follows checks right J (fronts J (Row.Taken t ∷ []) journal) host f t others read (grew J (Row.Taken t) journal).0 made did
row_follows checks right J (host, Ok f) others (Row.Synced name whole moment) journal read made did = absurd made
row_follows checks right J (host, Ok f) others (Row.Operated o) journal read made did = absurd made
row_follows checks right J (host, Ok f) others (Row.Carried c) journal read made did = absurd made
row_follows checks right J (host, Err fault) others row journal read made did = absurd made

pub later_events : (m : Message) (others : List Message) → AreEvents (m ∷ others) → AreEvents others
later_events (host, Ok (Frame.Event e)) others h = h.1
later_events (host, Ok (Frame.Faulty seq)) others h = h
later_events (host, Ok Frame.Info) others h = h
later_events (host, Ok Frame.Error) others h = h
later_events (host, Ok Frame.Unknown) others h = h
later_events (host, Err fault) others h = h

-- what is known of a journal and of the rows that messages make behind it
abbrev Stays : Checks → List Message → Type 0
Stays checks messages = (J : List Row) (ended : List (List ℕ)) (rows : List Row) → IsJournal (J ++ rows) → IsSound J → RunFrom checks J ended messages rows → IsSound (J ++ rows)

turned : (checks : Checks) → AreRight checks → (m : Message) (messages : List Message) → AreEvents (m ∷ messages) → Stays checks messages
    → (J : List Row) (ended : List (List ℕ)) (rows : List Row) (b : Bool) (p : Option Pass) → IsJournal (J ++ rows) → IsSound J
    → Turn b p (RunFrom checks J (m.0 ∷ ended) messages rows) (RunFrom checks J ended messages rows)
    ((row : Row) × (others : List Row) × (rows ≡ row ∷ others) × IsMadeBy checks J m row × RunFrom checks (J ++ row ∷ []) ended messages others)
    → IsSound (J ++ rows)
unfolding end_root
turned checks right m messages read stays J ended rows true p journal sound h = stays J ended rows journal sound h
turned checks right m messages read stays J ended rows false (Some Pass.Ended) journal sound h = stays J (m.0 ∷ ended) rows journal sound h
turned checks right m messages read stays J ended rows false (Some Pass.Old) journal sound h = stays J ended rows journal sound h
turned checks right m messages read stays J ended rows false (Some Pass.Unknown) journal sound h = stays J ended rows journal sound h
turned checks right m messages read stays J ended rows false (Some Pass.Info) journal sound h = stays J ended rows journal sound h
turned checks right m messages read stays J ended rows false None journal sound (row, others, is, made, run) =
    let IsJournalOf : List Row → Type 0 = λ R. IsJournal R in
    let IsSoundOf : List Row → Type 0 = λ R. IsSound R in
    let whole : J ++ rows ≡ (J ++ row ∷ []) ++ others = ap (λ (R : List Row). J ++ R) is ∙ sym (append_assoc J (row ∷ []) others) in
    let longer = subst IsJournalOf whole journal in
    let more : IsSound (J ++ row ∷ []) = λ did. sound_more did J row empty_root [] (sound did) (row_follows checks right J m messages row (fronts (J ++ row ∷ []) others longer) read made did) in
    subst IsSoundOf (sym whole) (stays (J ++ row ∷ []) ended others longer more run)

run_sound : (checks : Checks) → AreRight checks → (messages : List Message) → AreEvents messages → Stays checks messages
run_sound checks right [] read J ended rows journal sound h =
    let IsSoundOf : List Row → Type 0 = λ R. IsSound R in
    subst IsSoundOf (sym (ap (λ (R : List Row). J ++ R) h ∙ append-nil J)) sound
run_sound checks right (m ∷ messages) read J ended rows journal sound h =
    turned checks right m messages read (run_sound checks right messages (later_events m messages read)) J ended rows (has_ended ended m.0) (skipped_by J m) journal sound h

pub runs_sound : RunsStaySound
runs_sound checks right J messages rows read journal sound run = run_sound checks right messages read J [] rows journal sound run

pub operators_sound : OperatorsStaySound
unfolding FollowsAt end_root
operators_sound = record {
  operated = λ rows o sound did. sound_more did rows (Row.Operated o) empty_root [] (sound did) (at_name (names did o.did) (root_now did empty_root rows) nothing (λ named. tt));
  synced = λ rows name whole moment sound did. sound_more did rows (Row.Synced name whole moment) empty_root [] (sound did) (at_name (names did name) (root_now did empty_root rows) (rests whole.head.data_root) (λ named. tt));
}

-- The row of a message that is decided is well formed and keeps the order of its journal.
use Rattle.std.proofs.Common.{◌≡◌, ℕ, ◌+◌, ◌-◌, ◌<◌, ◌≤◌, ◌^◌, Bool, true, false, not, ◌&&◌, ◌||◌, List, [], ◌∷◌, length, min, Option, Some, None, refl, sym, ◌∙◌, cond, subst, eqb, ltb, arith, lit≤}
use Rattle.std.specs.Prelude.{◌==◌, Result, Ok, nat_le, nat_lt}
use Rattle.std.specs.Bool.{beq}
use Rattle.std.proofs.lemmas.Bool.{and_parts, and_from, lt-ltb, leb-false, ltb-true, ltb-false, ne_eqb}
use Rattle.std.proofs.Math.Nat.{min-eq_right}
use Rattle.at_event.specs.Events.{IsEvent}
use Rattle.at_event.specs.Refusals.{code_of}
use Rattle.at_event.specs.Seen.{Seen}
use Rattle.at_event.specs.Table.{event_kind_of as event_kind}
use Rattle.at_event.specs.Writing.{with_seq, out_of, out_length}
use Rattle.at_event.specs.declared.event.Body.{Body}
use Rattle.at_event.specs.declared.frame.Frame.{Frame}
use Rattle.at_event.specs.declared.head.Head.{Head}
use Rattle.at_event.specs.declared.refusal.Refusal.{Refusal}
use Rattle.at_event.proofs.Formed.{events_formed}
use Rattle.at_event.proofs.OutLengths.{less_of, most_bytes}
use Rattle.at_event.proofs.Renumbered.{with_seq_fits}
use Rattle.relay_row.specs.Folds.{cursor, events_of, last_seq, first_seq, seq_in}
use Rattle.relay_row.specs.Journal.{IsJournal, rises_above, keeps_order}
use Rattle.relay_row.specs.Rules.{is_about, is_accepted, is_decided, is_detail, is_effect, is_fetched, is_head, is_message, is_moment, is_number, is_positive, is_refused, is_row, is_status, is_taken, is_whole, loses, names_did, names_host}
use Rattle.relay_row.specs.declared.fetched.Fetched.{Fetched}
use Rattle.relay_row.specs.declared.fetched.Whole.{Whole}
use Rattle.at_cid.specs.declared.limits.TheConstants.{NUMBERS}
use Rattle.relay_row.specs.declared.row.Row.{Row}
use Rattle.relay_row.specs.declared.taken.Effect.{Effect}
use Rattle.relay_row.specs.declared.taken.Taken.{Taken}
use Rattle.relay_row.proofs.Journals.{grows}
use Rattle.account_state.specs.Folds.{account, last_rev}
use Rattle.relay_core.specs.Answering.{fetched_of, event_taken, row_of}
use Rattle.relay_core.specs.Decide.{when, is_held}
use Rattle.relay_core.specs.Opening.{IsHeadOf}
use Rattle.relay_core.specs.Rows.{kind_number, head_effect, effect_of, faulty_taken}
use Rattle.relay_core.specs.Table.{told, Walk, waits, refuses, passes, walk, body_lines, event_lines, after_fetch, refused, next_at, next_of, did_of}
use Rattle.relay_core.specs.declared.answers.Answers.{Answers}
use Rattle.relay_core.specs.declared.decision.Decision.{Decision}
use Rattle.relay_core.specs.declared.decision.Next.{Next}
use Rattle.relay_core.specs.declared.decision.Pass.{Pass}
use Rattle.relay_core.specs.declared.limits.TheConstants.{LONGEST_MESSAGE}
use Rattle.relay_law.specs.Formed.{IsReadFrame, IsWholeBehind, IsFetchedBehind, IsOpenedAs, AreAnswersTo, AreAnswersFor}
use Rattle.relay_law.specs.Laws.{MadeRowsAreFormed}
use Rattle.relay_law.proofs.EventForms.{IsBodyKept, event_kept}
use Rattle.relay_law.proofs.Heads.{found_head, accounts_are_formed}
use Rattle.relay_law.proofs.Refusals.{is_kept}
use Rattle.relay_law.proofs.Encoded.{message_formed}
use Rattle.relay_law.proofs.Walking.{AllPass, all_pass, event_refused, moment_there, not_met, opened_head}

-- ---- numbers

pub next_above : (last n : ℕ) → n ≡ last + 1 → rises_above last n ≡ true
next_above last n is = rw (lt-ltb last n (omega (arith, is)), ne_eqb n 0 (λ zero. omega (arith, is, zero))) refl

pub positive_next : (last n : ℕ) → n ≡ last + 1 → n < NUMBERS → is_positive n ≡ true
positive_next last n is below = and_from (nat_lt 0 n) (is_number n) (lt-ltb 0 n (omega (arith, is))) (lt-ltb n NUMBERS below)

above_cursor : (seq cursor : ℕ) → nat_le seq cursor ≡ false → nat_lt cursor seq ≡ true
above_cursor seq cursor h = lt-ltb cursor seq (leb-false seq cursor h)

-- the number of a row that sends its own message
sent_seq : (last n : ℕ) (message : List ℕ) (others : List (ℕ × List ℕ)) → n ≡ last + 1 → first_seq (cond (eqb n 0) others ((n, message) ∷ [])) ≡ n
sent_seq last n message others is = rw (ne_eqb n 0 (λ zero. omega (arith, is, zero))) refl

-- ---- the message that goes out

most_out : (e : Seen) → IsEvent e → (n : ℕ) → min (length (out_of e n)) (2 ^ 64 - 1) ≤ out_length e
unfolding out_length
most_out e is n = less_of (length (out_of e n)) (length (out_of e (NUMBERS - 1))) (most_bytes e is n (NUMBERS - 1) (lit≤ tt))

short_out : (n : ℕ) → min n (2 ^ 64 - 1) ≤ 4194304 → n < 2 ^ 64
short_out n h =
    elim (ltb n (2 ^ 64)) as (λ b. ltb n (2 ^ 64) ≡ b → n < 2 ^ 64) [
      | true ↦ λ t. ltb-true n (2 ^ 64) t
      | false ↦ λ t.
          let long : 2 ^ 64 - 1 ≤ n = omega (arith, ltb-false n (2 ^ 64) t) in
          let full : min n (2 ^ 64 - 1) ≡ 2 ^ 64 - 1 = min-eq_right long in
          absurd (omega arith)
    ] refl

out_formed : (e : Seen) (n : ℕ) → IsEvent e → n < NUMBERS → nat_lt LONGEST_MESSAGE (out_length e) ≡ false → is_message (out_of e n) ≡ true
unfolding out_of
out_formed e n is below short =
    let within : out_length e ≤ 4194304 = ltb-false LONGEST_MESSAGE (out_length e) short in
    message_formed (event_kind e.body) (with_seq n e.payload) (with_seq_fits n e.payload 64 below is.fits) (short_out _ (omega (arith, most_out e is n, within)))

-- ---- fetches

whole_kept : (last : ℕ) (w : Whole) → IsWholeBehind last w → w.seq < NUMBERS → is_whole w ≡ true
unfolding is_whole
whole_kept last w h below =
    and_from (is_positive w.seq) (is_head w.head && (is_number w.records && is_message w.message)) (positive_next last w.seq h.seq below)
    (and_from (is_head w.head) (is_number w.records && is_message w.message) h.head (and_from (is_number w.records) (is_message w.message) (lt-ltb w.records NUMBERS h.records) h.message))

-- a fetch that was made after a refusal may stand in its row
fetch_kept : (last : ℕ) (f : Fetched) → IsFetchedBehind last f → first_seq (events_of f) < NUMBERS → is_fetched true true f ≡ true
fetch_kept last Fetched.NotAsked h below = absurd h
fetch_kept last Fetched.Absent h below = refl
fetch_kept last (Fetched.Refused n) h below = h
fetch_kept last (Fetched.Whole w) h below = whole_kept last w h below

fetch_above : (last : ℕ) (f : Fetched) → IsFetchedBehind last f → rises_above last (first_seq (events_of f)) ≡ true
fetch_above last Fetched.NotAsked h = absurd h
fetch_above last Fetched.Absent h = refl
fetch_above last (Fetched.Refused n) h = refl
fetch_above last (Fetched.Whole w) h = next_above last w.seq h.seq

-- ---- rows

-- the row of a refused event
abbrev refused_taken : List ℕ → ℕ → List ℕ → Body → Refusal → Fetched → Option ℕ → Taken
refused_taken host seq did body r f m = record { host = host; host_seq = seq; did = did; kind = kind_number body; refusal = Some r; seq = 0; message = []; effect = Effect.Nothing; fetched = f; moment = m }

-- the row of an accepted event
abbrev accepted_taken : List ℕ → ℕ → List ℕ → Body → ℕ → List ℕ → Effect → Option ℕ → Taken
accepted_taken host seq did body n message effect m = record { host = host; host_seq = seq; did = did; kind = kind_number body; refusal = None; seq = n; message = message; effect = effect; fetched = Fetched.NotAsked; moment = m }

named : (body : Body) (did : List ℕ) → names_did did ≡ true → is_about (kind_number body) did ≡ true
named (Body.Commit c) did h = h
named (Body.Sync s) did h = h
named Body.Identity did h = h
named (Body.Account b) did h = h

kind_few : (body : Body) → nat_le (kind_number body) 4 ≡ true
kind_few (Body.Commit c) = refl
kind_few (Body.Sync s) = refl
kind_few Body.Identity = refl
kind_few (Body.Account b) = refl

kind_read : (body : Body) (b : Bool) → b ≡ false → beq (kind_number body == 0) b ≡ true
kind_read (Body.Commit c) b h = rw h refl
kind_read (Body.Sync s) b h = rw h refl
kind_read Body.Identity b h = rw h refl
kind_read (Body.Account b) c h = rw h refl

-- by its parts a row is well formed
taken_from : (t : Taken) → names_host t.host ≡ true → t.host_seq < NUMBERS → is_about t.kind t.did ≡ true → is_moment t.moment ≡ true → is_decided t.refusal t ≡ true → is_taken t ≡ true
unfolding is_taken
taken_from t host seq about moment decided =
    and_from (names_host t.host) (is_number t.host_seq && (is_about t.kind t.did && (is_moment t.moment && is_decided t.refusal t))) host
    (and_from (is_number t.host_seq) (is_about t.kind t.did && (is_moment t.moment && is_decided t.refusal t)) (lt-ltb t.host_seq NUMBERS seq)
    (and_from (is_about t.kind t.did) (is_moment t.moment && is_decided t.refusal t) about (and_from (is_moment t.moment) (is_decided t.refusal t) moment decided)))

or_timed : (a b : Bool) → a || b ≡ true → a || (b && true) ≡ true
or_timed true b h = refl
or_timed false true h = refl
or_timed false false h = h

not_true : (b : Bool) → not b ≡ true → b ≡ false
not_true true h = absurd cc
not_true false h = refl

refused_formed : (host : List ℕ) (seq : ℕ) (did : List ℕ) (body : Body) (r : Refusal) (f : Fetched) (m : ℕ) → names_host host ≡ true → seq < NUMBERS → names_did did ≡ true → m < NUMBERS → is_kept r ≡ true → is_fetched (loses (code_of r)) true f ≡ true
    → is_taken (refused_taken host seq did body r f (Some m)) ≡ true
unfolding is_refused
refused_formed host seq did body r f m of_host below of_did moment kept fetched =
    let parts = and_parts (is_detail r) ((nat_le (code_of r) 24 || code_of r == 25) && not (code_of r == 1)) kept in
    let codes = and_parts (nat_le (code_of r) 24 || code_of r == 25) (not (code_of r == 1)) parts.1 in
    taken_from (refused_taken host seq did body r f (Some m)) of_host below (named body did of_did) (lt-ltb m NUMBERS moment)
    (and_from (is_detail r && (nat_le (code_of r) 24 || (code_of r == 25 && true))) _
    (and_from (is_detail r) (nat_le (code_of r) 24 || (code_of r == 25 && true)) parts.0 (or_timed (nat_le (code_of r) 24) (code_of r == 25) codes.0))
    (and_from (nat_le (kind_number body) 4) _ (kind_few body)
    (and_from (beq (kind_number body == 0) (code_of r == 1)) _ (kind_read body (code_of r == 1) (not_true (code_of r == 1) codes.1))
    (and_from (is_fetched (loses (code_of r)) true f) true fetched refl))))

either_true : (a b : Bool) → a ≡ true → a || b ≡ true
either_true a b h = rw h refl

sent_formed : (host : List ℕ) (seq : ℕ) (did : List ℕ) (body : Body) (n : ℕ) (message : List ℕ) (effect : Effect) (m : ℕ) → names_host host ≡ true → seq < NUMBERS → names_did did ≡ true → m < NUMBERS
    → is_effect (kind_number body) effect ≡ true → is_positive n ≡ true → is_message message ≡ true → is_taken (accepted_taken host seq did body n message effect (Some m)) ≡ true
unfolding is_accepted
sent_formed host seq did body n message effect m of_host below of_did moment is number sent =
    taken_from (accepted_taken host seq did body n message effect (Some m)) of_host below (named body did of_did) (lt-ltb m NUMBERS moment)
    (and_from (is_effect (kind_number body) effect) _ is (either_true (is_positive n && is_message message) _ (and_from (is_positive n) (is_message message) number sent)))

held_formed : (host : List ℕ) (seq : ℕ) (did : List ℕ) (active : Bool) (status : Option (List ℕ)) (m : ℕ) → names_host host ≡ true → seq < NUMBERS → names_did did ≡ true → m < NUMBERS → is_status status ≡ true
    → is_taken (accepted_taken host seq did (Body.Account (record { active = active; status = status })) 0 [] (Effect.Account active status) (Some m)) ≡ true
unfolding is_accepted
held_formed host seq did active status m of_host below of_did moment is =
    taken_from (accepted_taken host seq did (Body.Account (record { active = active; status = status })) 0 [] (Effect.Account active status) (Some m)) of_host below of_did (lt-ltb m NUMBERS moment)
    (and_from (is_status status) true is refl)

-- ---- decisions

-- a row may stand behind a journal
abbrev pub StandsBehind : List Row → Row → Type 0
StandsBehind J row = (is_row row ≡ true) × (keeps_order J row ≡ true)

-- what a refusal is decided to, by what was fetched
record IsRefused (r : Refusal) (o : Option Fetched) (d : Decision) : Type 0 where
  gives : Bool
  is : d ≡ record { refusal = Some r; held = false; gives = gives }
  fetch : loses (code_of r) ≡ true → (f : Fetched) × (o ≡ Some f)

done_is : (c d : Decision) → Next.Done c ≡ Next.Done d → d ≡ c
done_is c d h = cc

after_done : (r : Refusal) (o : Option Fetched) (d : Decision) → after_fetch r o ≡ Next.Done d → IsRefused r o d
after_done r None d h = absurd cc
after_done r (Some Fetched.NotAsked) d h = record { gives = false; is = done_is _ d h; fetch = λ t. (Fetched.NotAsked, refl) }
after_done r (Some Fetched.Absent) d h = record { gives = false; is = done_is _ d h; fetch = λ t. (Fetched.Absent, refl) }
after_done r (Some (Fetched.Refused n)) d h = record { gives = false; is = done_is _ d h; fetch = λ t. (Fetched.Refused n, refl) }
after_done r (Some (Fetched.Whole w)) d h = record { gives = true; is = done_is _ d h; fetch = λ t. (Fetched.Whole w, refl) }

refused_done : (r : Refusal) (o : Option Fetched) (d : Decision) → refused r o ≡ Next.Done d → IsRefused r o d
refused_done r o d h =
    elim (loses (code_of r)) as (λ b. loses (code_of r) ≡ b → cond b (after_fetch r o) (Next.Done (record { refusal = Some r; held = false; gives = false })) ≡ Next.Done d → IsRefused r o d) [
      | true ↦ λ known e. after_done r o d e
      | false ↦ λ known e. record { gives = false; is = done_is _ d e; fetch = λ t. absurd cc }
    ] refl h

fetched_kept : (last : ℕ) (r : Refusal) (o : Option Fetched) → (loses (code_of r) ≡ true → (f : Fetched) × (o ≡ Some f)) → ((f : Fetched) → o ≡ Some f → IsFetchedBehind last f) → first_seq (events_of (fetched_of (Some r) o)) < NUMBERS
    → (is_fetched (loses (code_of r)) true (fetched_of (Some r) o) ≡ true) × (rises_above last (first_seq (events_of (fetched_of (Some r) o))) ≡ true)
fetched_kept last r None there behind below =
    elim (loses (code_of r)) as (λ b. loses (code_of r) ≡ b → (is_fetched b true Fetched.NotAsked ≡ true) × (rises_above last 0 ≡ true)) [
      | true ↦ λ known. let found : None ≡ Some (there known).0 = (there known).1 in absurd cc
      | false ↦ λ known. (refl, refl)
    ] refl
fetched_kept last r (Some f) there behind below =
    elim (loses (code_of r)) as (λ b. first_seq (events_of (cond b f Fetched.NotAsked)) < NUMBERS → (is_fetched b true (cond b f Fetched.NotAsked) ≡ true) × (rises_above last (first_seq (events_of (cond b f Fetched.NotAsked))) ≡ true)) [
      | true ↦ λ lt. (fetch_kept last f (behind f refl) lt, fetch_above last f (behind f refl))
      | false ↦ λ lt. (refl, refl)
    ] below

module _ (J : List Row) (host : List ℕ) (e : Seen) (x : Answers) (of_host : names_host host ≡ true) (is : IsEvent e) (right : AreAnswersTo (last_seq J) (account e.did J) e x) (journal : IsJournal J) (above : nat_le e.seq (cursor host J) ≡ false) (m : ℕ) (moment : x.moment ≡ Some m) where
  seq_fits : e.seq < NUMBERS
  seq_fits = (events_formed e is).seq

  above_it : nat_lt (cursor host J) e.seq ≡ true
  above_it = above_cursor e.seq (cursor host J) above

  refused_row : (r : Refusal) → is_kept r ≡ true → (loses (code_of r) ≡ true → (f : Fetched) × (x.fetched ≡ Some f)) → first_seq (events_of (fetched_of (Some r) x.fetched)) < NUMBERS
      → StandsBehind J (Row.Taken (refused_taken host e.seq e.did e.body r (fetched_of (Some r) x.fetched) x.moment))
  unfolding is_row
  refused_row r kept there below =
      let fetch = fetched_kept (last_seq J) r x.fetched there right.fetched below in
      let P : Option ℕ → Type 0 = λ o. is_taken (refused_taken host e.seq e.did e.body r (fetched_of (Some r) x.fetched) o) ≡ true in (
        subst P (sym moment) (refused_formed host e.seq e.did e.body r (fetched_of (Some r) x.fetched) m of_host seq_fits (event_kept e is).0 (right.moment m moment) kept fetch.0),
        and_from (nat_lt (cursor host J) e.seq) _ above_it fetch.1,
      )

  -- what an accepted event that goes out is to its row
  sent_row : (body : Body) (effect : Effect) → is_effect (kind_number body) effect ≡ true → nat_lt LONGEST_MESSAGE (out_length e) ≡ false
      → first_seq (cond (eqb (last_seq J + 1) 0) [] ((last_seq J + 1, out_of e (last_seq J + 1)) ∷ [])) < NUMBERS
      → StandsBehind J (Row.Taken (accepted_taken host e.seq e.did body (last_seq J + 1) (out_of e (last_seq J + 1)) effect x.moment))
  unfolding is_row
  sent_row body effect fits short below =
      let n = last_seq J + 1 in
      let same = sent_seq (last_seq J) n (out_of e n) [] refl in
      let lt : n < NUMBERS = subst (λ (k : ℕ). k < NUMBERS) same below in
      let P : Option ℕ → Type 0 = λ o. is_taken (accepted_taken host e.seq e.did body n (out_of e n) effect o) ≡ true in (
        subst P (sym moment) (sent_formed host e.seq e.did body n (out_of e n) effect m of_host seq_fits (event_kept e is).0 (right.moment m moment) fits (positive_next (last_seq J) n refl lt) (out_formed e n is lt short)),
        and_from (nat_lt (cursor host J) e.seq) _ above_it (subst (λ (k : ℕ). rises_above (last_seq J) k ≡ true) (sym same) (next_above (last_seq J) n refl)),
      )

  held_row : (active : Bool) (status : Option (List ℕ)) → is_status status ≡ true
      → StandsBehind J (Row.Taken (accepted_taken host e.seq e.did (Body.Account (record { active = active; status = status })) 0 [] (Effect.Account active status) x.moment))
  unfolding is_row
  held_row active status fits =
      let P : Option ℕ → Type 0 = λ o. is_taken (accepted_taken host e.seq e.did (Body.Account (record { active = active; status = status })) 0 [] (Effect.Account active status) o) ≡ true in (
        subst P (sym moment) (held_formed host e.seq e.did active status m of_host seq_fits (event_kept e is).0 (right.moment m moment) fits),
        and_from (nat_lt (cursor host J) e.seq) _ above_it refl,
      )

  -- the head that an accepted commit or sync gives
  head_row : (body : Body) → e.body ≡ body → (head : Head) → x.opened ≡ Some (Ok head) → ((h : Head) → IsHeadOf body h → is_head h ≡ true) → (is_effect 1 (head_effect x.opened) ≡ true) × (is_effect 2 (head_effect x.opened) ≡ true)
  head_row body same head opened formed =
      let P : Body → Type 0 = λ b. IsOpenedAs b (last_rev (account e.did J).repo) (Ok head) in
      let top : IsOpenedAs body (last_rev (account e.did J).repo) (Ok head) = subst P same (right.opened (Ok head) opened) in
      let fine = formed head top.1 in
      let Q : Option (Result Head Refusal) → Type 0 = λ o. (is_effect 1 (head_effect o) ≡ true) × (is_effect 2 (head_effect o) ≡ true) in
      subst Q (sym opened) (fine, fine)

  accepted_row : (body : Body) → e.body ≡ body → IsBodyKept body → AllPass (body_lines (account e.did J) body x) → nat_lt LONGEST_MESSAGE (out_length e) ≡ false → (held : Bool) → is_held (account e.did J) body ≡ held
      → first_seq (cond (eqb (cond (not held) (last_seq J + 1) 0) 0) [] ((cond (not held) (last_seq J + 1) 0, cond (not held) (out_of e (last_seq J + 1)) []) ∷ [])) < NUMBERS
      → StandsBehind J (Row.Taken (accepted_taken host e.seq e.did body (cond (not held) (last_seq J + 1) 0) (cond (not held) (out_of e (last_seq J + 1)) []) (effect_of body x.opened) x.moment))
  accepted_row (Body.Commit c) same forms pass short false held below =
      let head = opened_head x.opened pass.1.1.1.0 in
      sent_row (Body.Commit c) (head_effect x.opened) (head_row (Body.Commit c) same head.0 head.1 (λ h of. found_head c.blocks c.rev h forms.0 forms.1 of)).0 short below
  accepted_row (Body.Commit c) same forms pass short true held below = absurd cc
  accepted_row (Body.Sync s) same forms pass short false held below =
      let head = opened_head x.opened pass.1.1.1.0 in
      sent_row (Body.Sync s) (head_effect x.opened) (head_row (Body.Sync s) same head.0 head.1 (λ h of. found_head s.blocks s.rev h forms.0 forms.1 of)).1 short below
  accepted_row (Body.Sync s) same forms pass short true held below = absurd cc
  accepted_row Body.Identity same forms pass short false held below = sent_row Body.Identity Effect.Nothing refl short below
  accepted_row Body.Identity same forms pass short true held below = absurd cc
  accepted_row (Body.Account b) same forms pass short false held below = sent_row (Body.Account b) (Effect.Account b.active b.status) forms short below
  accepted_row (Body.Account b) same forms pass short true held below = held_row b.active b.status forms

module _ (J : List Row) (host : List ℕ) (e : Seen) (x : Answers) (d : Decision) (of_host : names_host host ≡ true) (is : IsEvent e) (right : AreAnswersTo (last_seq J) (account e.did J) e x) (journal : IsJournal J) (above : nat_le e.seq (cursor host J) ≡ false) where
  by_walk : (w : Walk) → walk (event_lines (account e.did J) e x) ≡ w → next_at w (account e.did J) e.body x.fetched ≡ Next.Done d → seq_in (Row.Taken (event_taken (last_seq J) host e d x)) < NUMBERS
      → StandsBehind J (Row.Taken (event_taken (last_seq J) host e d x))
  by_walk (waits q) known h = absurd cc
  by_walk (refuses r) known h =
      let there = moment_there x.moment (told (when (nat_lt LONGEST_MESSAGE (out_length e)) Refusal.TooLong) ∷ body_lines (account e.did J) e.body x) (λ q waiting. let no : refuses r ≡ waits q = sym known ∙ waiting in absurd cc) in
      let done = refused_done r x.fetched d h in
      let kept = event_refused (last_seq J) (account e.did J) e x right (accounts_are_formed e.did J journal) (event_kept e is).1 r known in
      let P : Decision → Type 0 = λ c. seq_in (Row.Taken (event_taken (last_seq J) host e c x)) < NUMBERS → StandsBehind J (Row.Taken (event_taken (last_seq J) host e c x)) in
      subst P (sym done.is) (refused_row J host e x of_host is right journal above there.0 there.1 r kept done.fetch)
  by_walk passes known h =
      let there = moment_there x.moment (told (when (nat_lt LONGEST_MESSAGE (out_length e)) Refusal.TooLong) ∷ body_lines (account e.did J) e.body x) (λ q waiting. let no : passes ≡ waits q = sym known ∙ waiting in absurd cc) in
      let pass = all_pass (event_lines (account e.did J) e x) known in
      let short = not_met (nat_lt LONGEST_MESSAGE (out_length e)) Refusal.TooLong pass.1.0 in
      let P : Decision → Type 0 = λ c. seq_in (Row.Taken (event_taken (last_seq J) host e c x)) < NUMBERS → StandsBehind J (Row.Taken (event_taken (last_seq J) host e c x)) in
      subst P (sym (done_is _ d h)) (accepted_row J host e x of_host is right journal above there.0 there.1 e.body refl (event_kept e is).1 pass.1.1 short (is_held (account e.did J) e.body) refl)

-- a message that is decided stands above its host's cursor
not_old : (b : Bool) (n : Next) (d : Decision) → cond b (Next.Pass Pass.Old) n ≡ Next.Done d → (b ≡ false) × (n ≡ Next.Done d)
not_old true n d h = absurd cc
not_old false n d h = (refl, h)

faulty_row : (J : List Row) (host : List ℕ) (seq : ℕ) (moment : Option ℕ) → names_host host ≡ true → seq < NUMBERS → ((m : ℕ) → moment ≡ Some m → m < NUMBERS) → nat_le seq (cursor host J) ≡ false → StandsBehind J (Row.Taken (faulty_taken host seq moment))
unfolding is_row is_refused
faulty_row J host seq None of_host below fits above =
    (taken_from (faulty_taken host seq None) of_host below refl refl refl, and_from (nat_lt (cursor host J) seq) true (above_cursor seq (cursor host J) above) refl)
faulty_row J host seq (Some m) of_host below fits above =
    (taken_from (faulty_taken host seq (Some m)) of_host below refl (lt-ltb m NUMBERS (fits m refl)) refl, and_from (nat_lt (cursor host J) seq) true (above_cursor seq (cursor host J) above) refl)

row_is : (t : Taken) (row : Row) → Some (Row.Taken t) ≡ Some row → Row.Taken t ≡ row
row_is t row h = cc

made_stands : (J : List Row) (host : List ℕ) (frame : Frame) (x : Answers) (d : Decision) (row : Row) → IsJournal J → names_host host ≡ true → IsReadFrame frame → AreAnswersFor (last_seq J) (account (did_of frame) J) frame x
    → next_of (cursor host J) (account (did_of frame) J) frame x ≡ Next.Done d → row_of (last_seq J) host frame d x ≡ Some row → seq_in row < NUMBERS → StandsBehind J row
made_stands J host (Frame.Event e) x d row journal of_host is right next made =
    let new = not_old (nat_le e.seq (cursor host J)) _ d next in
    let P : Row → Type 0 = λ r. seq_in r < NUMBERS → StandsBehind J r in
    subst P (row_is (event_taken (last_seq J) host e d x) row made) (by_walk J host e x d of_host is right journal new.0 (walk (event_lines (account e.did J) e x)) refl new.1)
made_stands J host (Frame.Faulty seq) x d row journal of_host is right next made =
    let new = not_old (nat_le seq (cursor host J)) _ d next in
    let P : Row → Type 0 = λ r. seq_in r < NUMBERS → StandsBehind J r in
    subst P (row_is (faulty_taken host seq x.moment) row made) (λ below. faulty_row J host seq x.moment of_host is right new.0)
made_stands J host Frame.Info x d row journal of_host is right next made = absurd cc
made_stands J host Frame.Error x d row journal of_host is right next made = absurd cc
made_stands J host Frame.Unknown x d row journal of_host is right next made = absurd cc

pub made_formed : MadeRowsAreFormed
made_formed J host frame x d row journal of_host read right next made below =
    let stands = made_stands J host frame x d row journal of_host read right next made below in
    grows J row journal stands.0 stands.1

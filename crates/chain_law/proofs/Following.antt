-- A relay behind a relay accepts all events of an account that whose whole history the first one shows.
use Rattle.std.proofs.Common.{◌≡◌, ◌≢◌, inl, inr, ℕ, ◌+◌, ◌≤◌, Bool, true, false, not, ◌&&◌, ◌||◌, List, [], ◌∷◌, ◌++◌, Option, Some, None, Result, Ok, eqb, cond, refl, sym, ap, ◌∙◌, subst, arith, append_assoc}
use Rattle.std.specs.Prelude.{nat_lt, nat_le}
use Rattle.std.specs.List.{filter, list_all, list_any}
use Rattle.std.proofs.lemmas.Bool.{and_parts, and_from, false≢true, ltb-true, ne_eqb, or_parts, true≢false, lt-leb}
use Rattle.std.proofs.lemmas.List.{append-nil}
use Rattle.at_event.specs.Frames.{frame_of}
use Rattle.at_event.specs.Seen.{Seen}
use Rattle.at_event.specs.Writing.{out_of}
use Rattle.at_event.specs.declared.event.Body.{Body}
use Rattle.at_event.specs.declared.frame.Frame.{Frame}
use Rattle.at_event.specs.declared.frame.FrameFault.{FrameFault}
use Rattle.at_event.specs.declared.refusal.Refusal.{Refusal}
use Rattle.relay_row.specs.Folds.{cursor, cursor_after, did_of_row, events, events_in, folded, host_in, host_seq_in, is_named, last_after, last_seq, names, seq_in, first_seq}
use Rattle.relay_row.specs.Journal.{IsJournal, are_none, rises_above, is_carried_row, keeps_order}
use Rattle.relay_row.specs.declared.carried.Carried.{Carried}
use Rattle.relay_row.specs.declared.row.Row.{Row}
use Rattle.relay_row.specs.declared.taken.Taken.{Taken}
use Rattle.relay_row.proofs.Journals.{cursors_joined, fronts, grew, lasts_joined}
use Rattle.account_state.specs.Folds.{account, account_after, fresh, last_rev, moved}
use Rattle.account_state.specs.State.{State}
use Rattle.account_state.proofs.Joined.{joined}
use Rattle.relay_core.specs.Decide.{Checks, decided_event, event_row, old_if, refusal_of, is_held}
use Rattle.relay_core.specs.Opening.{OpensRight}
use Rattle.relay_core.specs.Runs.{Message, Turn, IsMadeBy, RunFrom}
use Rattle.relay_core.specs.Shown.{says_yes, shown, shows_home, shows_verdict}
use Rattle.relay_core.specs.declared.decision.Pass.{Pass}
use Rattle.relay_core.proofs.Agreeing.{event_told}
use Rattle.relay_law.specs.Right.{LinksRight}
use Rattle.relay_law.proofs.Sounding.{taken_is}
use Rattle.account_state.proofs.Dids.{names_same}
use Rattle.chain_law.specs.Chained.{events_shown, sent_by, rows_about, all_about, has_no_event, withholds_nothing, is_not_ahead, is_timely, raises, AllRaise, AcceptsEvent, AcceptAll}
use Rattle.chain_law.specs.Given.{AreGiven}
use Rattle.chain_law.specs.Laws.{RelaysFollow}
use Rattle.chain_law.proofs.Sending.{Tells, row_tells}
use Rattle.chain_law.specs.Again.{Trails}
use Rattle.chain_law.proofs.Trailing.{Carries, passes_again}

-- ---- numbers and cursors

above_le : (n s : ℕ) → rises_above n s ≡ true → n ≤ cond (eqb s 0) n s
above_le n s h =
    elim (eqb s 0) as (λ b. (b || nat_lt n s) ≡ true → n ≤ cond b n s) [
      | true ↦ λ k. omega arith
      | false ↦ λ k. omega (arith, ltb-true n s k)
    ] h

none_last : (J : List Row) → are_none J ≡ true → last_seq J ≡ 0
unfolding last_seq
none_last [] h = refl
none_last (row ∷ J) h = absurd cc

pub kept_above : (J : List Row) (row : Row) → keeps_order J row ≡ true → last_seq J ≤ last_after (last_seq J) row
kept_above J (Row.Taken t) h = above_le (last_seq J) (seq_in (Row.Taken t)) (and_parts (nat_lt (cursor t.host J) t.host_seq) (rises_above (last_seq J) (seq_in (Row.Taken t))) h).1
kept_above J (Row.Synced did w moment) h = above_le (last_seq J) w.seq h
kept_above J (Row.Operated o) h = above_le (last_seq J) o.seq h
kept_above J (Row.Carried (Carried.Last seq)) h = omega (arith, none_last J h)
kept_above J (Row.Carried (Carried.Host host n)) h = omega arith
kept_above J (Row.Carried (Carried.Account a)) h = omega arith

-- the number of a row that sends an event is the event's
pub sent_last : (J : List Row) (row : Row) (message : List ℕ) → events_in row ≡ (last_seq J + 1, message) ∷ [] → last_after (last_seq J) row ≡ last_seq J + 1
sent_last J row message is = by_kind row is
  where
    by_number : (s : ℕ) → s ≡ last_seq J + 1 → cond (eqb s 0) (last_seq J) s ≡ last_seq J + 1
    by_number s same = rw (ne_eqb s 0 (λ zero. omega (arith, same, zero))) same

    by_kind : (r : Row) → events_in r ≡ (last_seq J + 1, message) ∷ [] → last_after (last_seq J) r ≡ last_seq J + 1
    by_kind (Row.Taken t) e = by_number (seq_in (Row.Taken t)) (ap first_seq e)
    by_kind (Row.Synced did w moment) e = by_number w.seq (ap first_seq e)
    by_kind (Row.Operated o) e = by_number o.seq (ap first_seq e)
    by_kind (Row.Carried c) e = absurd cc

pub cursor_stays : (host : List ℕ) (n m : ℕ) (row : Row) → n ≤ m → host_seq_in row ≤ m → cursor_after host n row ≤ m
cursor_stays host n m row old new = elim (names host (host_in row)) as (λ b. cond b (host_seq_in row) n ≤ m) [ true ↦ new | false ↦ old ]

-- ---- one message, taken by the second relay

-- its row
pub record IsRowOf (checks : Checks) (K : List Row) (host : List ℕ) (e : Seen) (row : Row) : Type 0 where
  pub taken : Taken
  pub row_is : row ≡ Row.Taken taken
  pub is : decided_event checks (last_seq K) (account e.did K) host e (shown taken) ≡ taken
  pub host_is : taken.host ≡ host
  pub seq_is : taken.host_seq ≡ e.seq
  pub did_is : taken.did ≡ e.did

row_made : (checks : Checks) (K : List Row) (host : List ℕ) (e : Seen) (row : Row) → IsMadeBy checks K (host, Ok (Frame.Event e)) row → IsRowOf checks K host e row
row_made checks K host e (Row.Taken t) made =
    let a = account e.did K in
    let o = shown t in
    let is = taken_is (decided_event checks (last_seq K) a host e o) t made in
    let told = event_told checks (last_seq K) a host e o (Some o.moment) (refusal_of checks a e o) in
    record {
      taken = t;
      row_is = refl;
      is = is;
      host_is = sym (ap (λ (s : Taken). s.host) is) ∙ told.host;
      seq_is = sym (ap (λ (s : Taken). s.host_seq) is) ∙ told.seq;
      did_is = sym (ap (λ (s : Taken). s.did) is) ∙ told.did;
    }
row_made checks K host e (Row.Synced did w moment) made = absurd made
row_made checks K host e (Row.Operated o) made = absurd made
row_made checks K host e (Row.Carried c) made = absurd made

-- what the run goes on with
pub record TakesOn (checks : Checks) (K : List Row) (host : List ℕ) (e : Seen) (messages : List Message) (rows : List Row) : Type 0 where
  pub row : Row
  pub others : List Row
  pub is : rows ≡ row ∷ others
  pub row_of : IsRowOf checks K host e row
  pub run : RunFrom checks (K ++ row ∷ []) [] messages others

pub goes_on : (checks : Checks) (K : List Row) (host message : List ℕ) (e : Seen) (messages : List Message) (rows : List Row) → frame_of message ≡ Ok (Frame.Event e) → nat_le e.seq (cursor host K) ≡ false
    → RunFrom checks K [] ((host, frame_of message) ∷ messages) rows → TakesOn checks K host e messages rows
goes_on checks K host message e messages rows reads above run =
    let P : Result Frame FrameFault → Type 0 = λ f. RunFrom checks K [] ((host, f) ∷ messages) rows in
    let T : Option Pass → Type 0 = λ p.
    Turn false p (RunFrom checks K (host ∷ []) messages rows) (RunFrom checks K [] messages rows)
    ((row : Row) × (others : List Row) × (rows ≡ row ∷ others) × IsMadeBy checks K (host, Ok (Frame.Event e)) row × RunFrom checks (K ++ row ∷ []) [] messages others) in
    let there = subst T (ap old_if above) (subst P reads run) in
    record { row = there.0; others = there.1; is = there.2; row_of = row_made checks K host e there.0 there.3; run = there.4 }

-- ---- trust

-- a row of a message that was neither refused for its home or its signature nor by the clock
abbrev pub is_trusting : Row → Bool
is_trusting row = says_yes row && is_timely row

not_ahead : (q : Option Refusal) → is_not_ahead q ≡ true → q ≢ Some Refusal.FutureRev
not_ahead q h same = false≢true (sym (ap is_not_ahead same) ∙ h)

pub filtered : (test keeps : Row → Bool) (rows : List Row) → list_all test rows ≡ true → list_all test (filter keeps rows) ≡ true
filtered test keeps [] h = refl
filtered test keeps (row ∷ rows) h =
    let both = and_parts (test row) (list_all test rows) h in
    elim (keeps row) as (λ b. list_all test (cond b (row ∷ filter keeps rows) (filter keeps rows)) ≡ true) [
      | true ↦ and_from (test row) (list_all test (filter keeps rows)) both.0 (filtered test keeps rows both.1)
      | false ↦ filtered test keeps rows both.1
    ]

pub both_tests : (one other : Row → Bool) (rows : List Row) → list_all one rows ≡ true → list_all other rows ≡ true → list_all (λ row. one row && other row) rows ≡ true
both_tests one other [] h k = refl
both_tests one other (row ∷ rows) h k =
    let a = and_parts (one row) (list_all one rows) h in
    let b = and_parts (other row) (list_all other rows) k in
    and_from (one row && other row) _ (and_from (one row) (other row) a.0 b.0) (both_tests one other rows a.1 b.1)

not_held : (b : State) (body : Body) → b.down ≡ false → is_held b body ≡ false
not_held b (Body.Commit c) up = refl
not_held b (Body.Sync s) up = refl
not_held b Body.Identity up = refl
not_held b (Body.Account c) up = up

-- an event that carries on is accepted, under the next number, and does to the account what it did to that of the first relay
record IsAccepted (after b : State) (last : ℕ) (e : Seen) (t : Taken) : Type 0 where
  accepted : t.refusal ≡ None
  numbered : t.host_seq ≡ e.seq
  did_is : t.did ≡ e.did
  seq_is : t.seq ≡ last + 1
  message : t.message ≡ out_of e (last + 1)
  trails : Trails after (moved b (Row.Taken t))

accepts : (checks : Checks) (a after b : State) (last : ℕ) (host : List ℕ) (e : Seen) (t : Taken) → Carries checks a after e → Trails a b → is_trusting (Row.Taken t) ≡ true → decided_event checks last b host e (shown t) ≡ t
    → IsAccepted after b last e t
accepts checks a after b last host e t c trails trusted is =
    let o = shown t in
    let q = refusal_of checks b e o in
    let same : q ≡ t.refusal = sym (event_told checks last b host e o (Some o.moment) q).refusal ∙ ap (λ (s : Taken). s.refusal) is in
    let trust = and_parts (says_yes (Row.Taken t)) (is_timely (Row.Taken t)) trusted in
    let yes = and_parts (shows_home t.refusal) (shows_verdict t.refusal) trust.0 in
    let none : q ≡ None = passes_again checks b e o yes.0 yes.1 (c.shows b trails) (λ no. not_ahead t.refusal trust.1 (sym same ∙ no)) in
    let held : is_held b e.body ≡ false = not_held b e.body trails.up in
    let taken : event_row checks last b host e o (Some o.moment) None ≡ t = ap (λ (p : Option Refusal). event_row checks last b host e o (Some o.moment) p) (sym none) ∙ is in
    let P : Taken → Type 0 = λ s. IsAccepted after b last e s in
    subst P taken (record {
      accepted = refl;
      numbered = refl;
      did_is = refl;
      seq_is = ap (λ (h : Bool). cond h 0 (last + 1)) held;
      message = ap (λ (h : Bool). cond h [] (out_of e (last + 1))) held;
      trails = c.moves b trails;
    })

-- ---- the induction

pub about_parts : (b : Bool) (test : Row → Bool) (row : Row) (rows : List Row) → list_all test (cond b (row ∷ rows) rows) ≡ true → (b ≡ true → test row ≡ true) × (list_all test rows ≡ true)
about_parts true test row rows h = let both = and_parts (test row) (list_all test rows) h in (λ named. both.0, both.1)
about_parts false test row rows h = (λ named. absurd cc, h)

not_true : (b : Bool) → not b ≡ true → b ≡ false
not_true true h = absurd cc
not_true false h = refl

trusting : (row : Row) (t : Taken) → row ≡ Row.Taken t → is_trusting row ≡ true → is_trusting (Row.Taken t) ≡ true
trusting row t is h = sym (ap is_trusting is) ∙ h

above_cursor : (last c n : ℕ) → c ≤ last → n ≡ last + 1 → nat_le n c ≡ false
above_cursor last c n low is = lt-leb n c (omega (arith, low, is))

pub record EndsOf (did : List ℕ) (front rest K R : List Row) : Type 0 where
  pub accepted : AcceptAll (events (rows_about did rest)) (rows_about did R)
  pub trails : Trails (account did (front ++ rest)) (account did (K ++ R))

-- what is asked of rows of the first journal, behind those in front of them, and of the rows that the second one gets of them
pub record AsksOf (checks : Checks) (host did : List ℕ) (shows : Row → Bool) (front rest K R : List Row) : Type 0 where
  pub journal : IsJournal (front ++ rest)
  pub given : AreGiven checks front rest
  pub low : cursor host K ≤ last_seq front
  pub trails : Trails (account did front) (account did K)
  pub uncut : all_about did (λ row. not (is_carried_row row)) rest ≡ true
  pub shown_all : all_about did (withholds_nothing shows) rest ≡ true
  pub raised : AllRaise did front rest
  pub trusted : all_about did is_trusting R ≡ true
  pub run : RunFrom checks K [] (sent_by host (events_shown shows rest)) R

module _ (checks : Checks) (opens : OpensRight checks) (links : LinksRight checks) (host did : List ℕ) (shows : Row → Bool) where
  abbrev pub Asks : List Row → List Row → List Row → List Row → Type 0
  Asks = AsksOf checks host did shows

  abbrev pub Ends : List Row → List Row → List Row → List Row → Type 0
  Ends = EndsOf did

  abbrev pub FollowsOn : List Row → Type 0
  FollowsOn rest = (front K R : List Row) → Asks front rest K R → Ends front rest K R

  ended : FollowsOn []
  ended front K R asks =
      let P : List Row → Type 0 = λ X. Ends front [] K X in
      let J : List Row → Type 0 = λ X. Trails (account did X) (account did (K ++ [])) in
      let L : List Row → Type 0 = λ X. Trails (account did front) (account did X) in
      subst P (sym asks.run) (record { accepted = tt; trails = subst J (sym (append-nil front)) (subst L (sym (append-nil K)) asks.trails) })

  module _ (row : Row) (rest : List Row) (more : FollowsOn rest) (front K R : List Row) (asks : Asks front (row ∷ rest) K R) where
    abbrev behind : List Row
    behind = front ++ row ∷ []

    abbrev named : Bool
    named = names did (did_of_row row)

    abbrev a : State
    a = account did front

    abbrev b : State
    b = account did K

    uncut_parts : (named ≡ true → not (is_carried_row row) ≡ true) × (all_about did (λ r. not (is_carried_row r)) rest ≡ true)
    uncut_parts = about_parts named (λ r. not (is_carried_row r)) row (rows_about did rest) asks.uncut

    shown_parts : (named ≡ true → withholds_nothing shows row ≡ true) × (all_about did (withholds_nothing shows) rest ≡ true)
    shown_parts = about_parts named (withholds_nothing shows) row (rows_about did rest) asks.shown_all

    journal_on : IsJournal (behind ++ rest)
    journal_on = let P : List Row → Type 0 = λ X. IsJournal X in subst P (sym (append_assoc front (row ∷ []) rest)) asks.journal

    journal_here : IsJournal behind
    journal_here = fronts behind rest journal_on

    last_here : last_seq front ≤ last_seq behind
    last_here = omega (arith, kept_above front row (grew front row journal_here).1, lasts_joined front (row ∷ []))

    account_here : account did behind ≡ cond named (moved a row) a
    account_here = joined did front (row ∷ [])

    trails_here : (c : Bool) (d : State) → named ≡ c → Trails (cond c (moved a row) a) d → Trails (account did behind) d
    trails_here c d is t =
        let P : State → Type 0 = λ x. Trails x d in
        subst P (sym (account_here ∙ ap (λ (x : Bool). cond x (moved a row) a) is)) t

    -- the row makes no message
    skipped : Trails (account did behind) b → (named ≡ true → events_in row ≡ []) → RunFrom checks K [] (sent_by host (events_shown shows rest)) R → Ends front (row ∷ rest) K R
    skipped trails none run =
        let e = more behind K R (record {
          journal = journal_on;
          given = asks.given.1;
          low = omega (arith, asks.low, last_here);
          trails = trails;
          uncut = uncut_parts.1;
          shown_all = shown_parts.1;
          raised = asks.raised.1;
          trusted = asks.trusted;
          run = run;
        }) in
        let P : List Row → Type 0 = λ X. Trails (account did X) (account did (K ++ R)) in
        record {
          accepted = elim named as (λ c. named ≡ c → AcceptAll (events (cond c (row ∷ rows_about did rest) (rows_about did rest))) (rows_about did R)) [
            | true ↦ λ is. let Q : List (ℕ × List ℕ) → Type 0 = λ es. AcceptAll (es ++ events (rows_about did rest)) (rows_about did R) in subst Q (sym (none is)) e.accepted
            | false ↦ λ is. e.accepted
          ] refl;
          trails = subst P (append_assoc front (row ∷ []) rest) e.trails;
        }

    abbrev RunOf : Bool → List (ℕ × List ℕ) → Type 0
    RunOf shown_it es = RunFrom checks K [] (sent_by host (cond shown_it es [] ++ events_shown shows rest)) R

    run_as : (c : Bool) (es : List (ℕ × List ℕ)) → shows row ≡ c → events_in row ≡ es → RunOf c es
    run_as c es is sent = let P : Bool → Type 0 = λ x. RunOf x es in let Q : List (ℕ × List ℕ) → Type 0 = λ x. RunOf (shows row) x in subst P is (subst Q sent asks.run)

    -- the row makes none where it sends nothing
    run_none : events_in row ≡ [] → RunFrom checks K [] (sent_by host (events_shown shows rest)) R
    run_none none = elim (shows row) as (λ c. shows row ≡ c → RunFrom checks K [] (sent_by host (events_shown shows rest)) R) [
      | true ↦ λ is. run_as true [] is none
      | false ↦ λ is. run_as false [] is none
    ] refl

    -- the row's event is taken
    module _ (message : List ℕ) (e : Seen) (sent : events_in row ≡ (last_seq front + 1, message) ∷ []) (reads : frame_of message ≡ Ok (Frame.Event e)) (of_did : e.did ≡ did_of_row row) (seq_is : e.seq ≡ last_seq front + 1) (is_shown : shows row ≡ true) where
      goes : TakesOn checks K host e (sent_by host (events_shown shows rest)) R
      goes = goes_on checks K host message e (sent_by host (events_shown shows rest)) R reads (above_cursor (last_seq front) (cursor host K) e.seq asks.low seq_is) (run_as true ((last_seq front + 1, message) ∷ []) is_shown sent)

      abbrev new : Row
      new = goes.row

      abbrev t : Taken
      t = goes.row_of.taken

      taken_did : t.did ≡ e.did
      taken_did = goes.row_of.did_is

      taken_seq : t.host_seq ≡ e.seq
      taken_seq = goes.row_of.seq_is

      new_did : did_of_row new ≡ did_of_row row
      new_did = ap did_of_row goes.row_of.row_is ∙ taken_did ∙ of_did

      new_seq : host_seq_in new ≡ last_seq front + 1
      new_seq = ap host_seq_in goes.row_of.row_is ∙ taken_seq ∙ seq_is

      last_is : last_seq behind ≡ last_seq front + 1
      last_is = lasts_joined front (row ∷ []) ∙ sent_last front row message sent

      trusted_parts : (names did (did_of_row new) ≡ true → is_trusting new ≡ true) × (all_about did is_trusting goes.others ≡ true)
      trusted_parts =
          let P : List Row → Type 0 = λ X. all_about did is_trusting X ≡ true in
          about_parts (names did (did_of_row new)) is_trusting new (rows_about did goes.others) (subst P goes.is asks.trusted)

      low_on : cursor host (K ++ new ∷ []) ≤ last_seq behind
      low_on = omega (arith, cursors_joined host K (new ∷ []), last_is, cursor_stays host (cursor host K) (last_seq front + 1) new (omega (arith, asks.low)) (omega (arith, new_seq)))

      on : Trails (account did behind) (account did (K ++ new ∷ [])) → Ends behind rest (K ++ new ∷ []) goes.others
      on trails = more behind (K ++ new ∷ []) goes.others (record {
        journal = journal_on;
        given = asks.given.1;
        low = low_on;
        trails = trails;
        uncut = uncut_parts.1;
        shown_all = shown_parts.1;
        raised = asks.raised.1;
        trusted = trusted_parts.1;
        run = goes.run;
      })

      new_account : account did (K ++ new ∷ []) ≡ cond (names did (did_of_row new)) (moved b new) b
      new_account = joined did K (new ∷ [])

      same_named : (c : Bool) → named ≡ c → names did (did_of_row new) ≡ c
      same_named c is = ap (λ (x : List ℕ). names did x) new_did ∙ is

      ends_as : (c : Bool) → named ≡ c → Ends behind rest (K ++ new ∷ []) goes.others → AcceptAll (events (cond c (row ∷ rows_about did rest) (rows_about did rest))) (cond c (new ∷ rows_about did goes.others) (rows_about did goes.others))
          → Ends front (row ∷ rest) K R
      ends_as c is e all =
          let A : Bool → Type 0 = λ x. AcceptAll (events (cond x (row ∷ rows_about did rest) (rows_about did rest))) (cond c (new ∷ rows_about did goes.others) (rows_about did goes.others)) in
          let B : Bool → Type 0 = λ x. AcceptAll (events (rows_about did (row ∷ rest))) (cond x (new ∷ rows_about did goes.others) (rows_about did goes.others)) in
          let C : List Row → Type 0 = λ X. AcceptAll (events (rows_about did (row ∷ rest))) (rows_about did X) in
          let L : List Row → Type 0 = λ X. Trails (account did (front ++ row ∷ rest)) (account did X) in
          let M : List Row → Type 0 = λ X. Trails (account did X) (account did ((K ++ new ∷ []) ++ goes.others)) in
          record {
            accepted = subst C (sym goes.is) (subst B (sym (same_named c is)) (subst A (sym is) all));
            trails = subst L (append_assoc K (new ∷ []) goes.others ∙ ap (λ (X : List Row). K ++ X) (sym goes.is)) (subst M (append_assoc front (row ∷ []) rest) e.trails);
          }

      -- of another account
      other : named ≡ false → Ends front (row ∷ rest) K R
      other is =
          let P : State → Type 0 = λ x. Trails (account did behind) x in
          let same : account did (K ++ new ∷ []) ≡ b = new_account ∙ ap (λ (x : Bool). cond x (moved b new) b) (same_named false is) in
          let ends = on (subst P (sym same) (trails_here false b is asks.trails)) in
          ends_as false is ends ends.accepted

      -- of this one
      own : named ≡ true → Carries checks a (moved a row) e → Ends front (row ∷ rest) K R
      own is carries =
          let of : e.did ≡ did = of_did ∙ sym (names_same did (did_of_row row) is) in
          let D : List ℕ → Type 0 = λ d. decided_event checks (last_seq K) (account d K) host e (shown t) ≡ t in
          let trust = trusting new t goes.row_of.row_is (trusted_parts.0 (same_named true is)) in
          let got = accepts checks a (moved a row) b (last_seq K) host e t carries asks.trails trust (subst D of goes.row_of.is) in
          let P : State → Type 0 = λ x. Trails (account did behind) x in
          let Q : Row → Type 0 = λ x. Trails (moved a row) (moved b x) in
          let same : account did (K ++ new ∷ []) ≡ moved b new = new_account ∙ ap (λ (x : Bool). cond x (moved b new) b) (same_named true is) in
          let ends = on (subst P (sym same) (trails_here true (moved b new) is (subst Q (sym goes.row_of.row_is) got.trails))) in
          let accepted : AcceptsEvent (last_seq front + 1, message) new = record {
            taken = t;
            is = goes.row_of.row_is;
            seen = e;
            reads = reads;
            accepted = got.accepted;
            numbered = taken_seq ∙ seq_is;
            gives = λ zero. omega (arith, got.seq_is, zero);
            message = got.message ∙ ap (λ (n : ℕ). out_of e n) (sym got.seq_is);
          } in
          let E : List (ℕ × List ℕ) → Type 0 = λ es. AcceptAll (es ++ events (rows_about did rest)) (new ∷ rows_about did goes.others) in
          ends_as true is ends (subst E (sym sent) (accepted, ends.accepted))

    -- a row that sends an event is shown where it withholds nothing
    sees : (message : List ℕ) → events_in row ≡ (last_seq front + 1, message) ∷ [] → withholds_nothing shows row ≡ true → shows row ≡ true
    sees message sent told = let P : List (ℕ × List ℕ) → Type 0 = λ es. has_no_event es || shows row ≡ true in subst P sent told

    -- what the row tells of the account of a DID
    abbrev TellsOn : List ℕ → Type 0
    TellsOn d = Tells checks (last_seq front) d (is_carried_row row) (raises (last_rev (account d front).repo) row) (account d front) (moved (account d front) row) (events_in row)

    by_named : (c : Bool) → named ≡ c → TellsOn (did_of_row row) → Ends front (row ∷ rest) K R
    by_named true is told = own_told (subst TellsOn (sym (names_same did (did_of_row row) is)) told)
      where
        own_told : TellsOn did → Ends front (row ∷ rest) K R
        own_told (inl quiet) = skipped (trails_here true b is (quiet.stays (not_true (is_carried_row row) (uncut_parts.0 is)) b asks.trails)) (λ h. quiet.none) (run_none quiet.none)
        own_told (inr s) = own s.message s.event s.is s.reads (s.did_is ∙ names_same did (did_of_row row) is) s.seq_is (sees s.message s.is (shown_parts.0 is)) is (s.carries (asks.raised.0 is))
    by_named false is (inl quiet) = skipped (trails_here false b is asks.trails) (λ h. absurd (true≢false (sym h ∙ is))) (run_none quiet.none)
    by_named false is (inr s) =
        elim (shows row) as (λ c. shows row ≡ c → Ends front (row ∷ rest) K R) [
          | true ↦ λ sees. other s.message s.event s.is s.reads s.did_is s.seq_is sees is
          | false ↦ λ hides. skipped (trails_here false b is asks.trails) (λ h. absurd (true≢false (sym h ∙ is))) (run_as false (events_in row) hides refl)
        ] refl

    row_follows : Ends front (row ∷ rest) K R
    row_follows = by_named named refl (row_tells checks opens links front row journal_here asks.given.0)

  pub all_follow : (rest : List Row) → FollowsOn rest
  all_follow [] = ended
  all_follow (row ∷ rest) = λ front K R asks. row_follows row rest (all_follow rest) front K R asks

-- ---- the law

pub unnamed_account : (did : List ℕ) (rows : List Row) → is_named did rows ≡ false → account did rows ≡ fresh
unfolding is_named account
unnamed_account did rows h = go rows fresh h
  where
    go : (xs : List Row) (s : State) → list_any (λ row. names did (did_of_row row)) xs ≡ false → folded (account_after did) s xs ≡ s
    go [] s none = refl
    go (x ∷ xs) s none =
        let both = or_parts (names did (did_of_row x)) (list_any (λ row. names did (did_of_row row)) xs) none in
        ap (λ (c : Bool). folded (account_after did) (cond c (moved s x) s) xs) both.0 ∙ go xs s both.1

pub fresh_trails : Trails fresh fresh
fresh_trails = record { active = refl; up = refl; rev = refl; repo = λ known. refl }

no_account : (did : List ℕ) → account did [] ≡ fresh
unfolding account
no_account did = refl

no_number : last_seq [] ≡ 0
unfolding last_seq
no_number = refl

pub follow : RelaysFollow
follow checks opens links one two rows host did shows journal given new run trusts followed =
    let P : State → Type 0 = λ x. Trails x (account did two) in
    let Q : State → Type 0 = λ x. Trails fresh x in
    let start = subst P (sym (no_account did)) (subst Q (sym (unnamed_account did two followed.new)) fresh_trails) in
    let e = all_follow checks opens links host did shows one [] two rows (record {
      journal = journal;
      given = given;
      low = omega (arith, new, no_number);
      trails = start;
      uncut = followed.uncut;
      shown_all = followed.shown;
      raised = followed.raised;
      trusted = both_tests says_yes is_timely (rows_about did rows) (filtered says_yes (λ row. names did (did_of_row row)) rows trusts) followed.timely;
      run = run;
    }) in
    record { accepted = e.accepted; repo = λ known. e.trails.repo known }

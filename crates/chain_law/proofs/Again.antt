-- A relay behind a relay accepts what has come since it ran, run after run.
use Rattle.std.proofs.Common.{◌≡◌, ◌≢◌, inl, inr, ℕ, ◌+◌, ◌≤◌, ◌<◌, ◌&&◌, ◌||◌, Bool, true, false, List, [], ◌∷◌, ◌++◌, Option, Result, Ok, cond, refl, sym, ap, ◌∙◌, subst, arith, append_assoc}
use Rattle.std.specs.Prelude.{nat_lt, nat_le}
use Rattle.std.specs.List.{filter, list_all, list_any}
use Rattle.std.proofs.lemmas.Bool.{and_parts, and_from, leb-false, leb-true, le-leb, lt-ltb, ltb-false, ltb-true, or_parts}
use Rattle.std.proofs.lemmas.List.{append-nil, map-append}
use Rattle.std.proofs.lemmas.List.Elements.{filter-append}
use Rattle.std.proofs.lemmas.List.Folds.{list_all-append}
use Rattle.at_event.specs.Frames.{frame_of}
use Rattle.at_event.specs.Seen.{Seen}
use Rattle.at_event.specs.declared.frame.Frame.{Frame}
use Rattle.at_event.specs.declared.frame.FrameFault.{FrameFault}
use Rattle.relay_row.specs.Folds.{cursor, did_of_row, events, events_in, folded, host_in, host_seq_in, is_named, last_after, last_seq, names}
use Rattle.relay_row.specs.Journal.{IsJournal, is_carried_row}
use Rattle.relay_row.specs.declared.row.Row.{Row}
use Rattle.relay_row.specs.declared.taken.Taken.{Taken}
use Rattle.relay_row.proofs.Journals.{cursors_joined, events_joined, fronts, grew, lasts_joined}
use Rattle.account_state.specs.Folds.{account, account_after, fresh, last_rev, moved}
use Rattle.account_state.specs.State.{State}
use Rattle.account_state.proofs.Joined.{joined}
use Rattle.account_state.proofs.Dids.{names_itself}
use Rattle.relay_core.specs.Decide.{Checks, old_if}
use Rattle.relay_core.specs.Opening.{OpensRight}
use Rattle.relay_core.specs.Runs.{Message, Turn as Turned, IsMadeBy, RunFrom}
use Rattle.relay_core.specs.Shown.{says_yes}
use Rattle.relay_core.specs.declared.decision.Pass.{Pass}
use Rattle.relay_law.specs.Histories.{IsCut}
use Rattle.relay_law.specs.Right.{LinksRight}
use Rattle.chain_law.specs.Again.{AreStages, CanGoOn, GoesOn, HasTaken, RunsOn, Stage, Trails, becomes, cut_at, events_above, first_behind, rows_come, rows_made, run_on, second_behind}
use Rattle.chain_law.specs.Chained.{AcceptAll, all_about, events_shown, has_no_event, is_timely, raises, rows_about, sent_by, withholds_nothing}
use Rattle.chain_law.specs.Given.{AreGiven}
use Rattle.chain_law.specs.Laws.{RelaysGoOn, RunsFollow}
use Rattle.chain_law.proofs.Following.{TakesOn, all_follow, both_tests, cursor_stays, filtered, fresh_trails, goes_on, is_trusting, kept_above, sent_last, unnamed_account}
use Rattle.chain_law.proofs.Sending.{Tells, row_tells}

abbrev Event : Type 0
Event = ℕ × List ℕ

-- ---- lists

-- each has P
abbrev AreAll : (Event → Type 0) → List Event → Type 0
AreAll P [] = Unit {0}
AreAll P (e ∷ es) = P e × AreAll P es

all_joined : (P : Event → Type 0) (xs ys : List Event) → AreAll P xs → AreAll P ys → AreAll P (xs ++ ys)
all_joined P [] ys one two = two
all_joined P (x ∷ xs) ys one two = (one.0, all_joined P xs ys one.1 two)

all_weaker : (P Q : Event → Type 0) (es : List Event) → ((e : Event) → P e → Q e) → AreAll P es → AreAll Q es
all_weaker P Q [] so are = tt
all_weaker P Q (e ∷ es) so are = (so e are.0, all_weaker P Q es so are.1)

all_filtered : (P : Event → Type 0) (test : Event → Bool) (es : List Event) → AreAll P es → AreAll P (filter test es)
all_filtered P test [] are = tt
all_filtered P test (e ∷ es) are =
    let rest = all_filtered P test es are.1 in
    elim (test e) as (λ b. AreAll P (cond b (e ∷ filter test es) (filter test es))) [ true ↦ (are.0, rest) | false ↦ rest ]

filter_whole : (test : Event → Bool) (es : List Event) → AreAll (λ e. test e ≡ true) es → filter test es ≡ es
filter_whole test [] are = refl
filter_whole test (e ∷ es) are =
    ap (λ (b : Bool). cond b (e ∷ filter test es) (filter test es)) are.0 ∙ ap (λ (l : List Event). e ∷ l) (filter_whole test es are.1)

shown_joined : (shows : Row → Bool) (xs ys : List Row) → events_shown shows (xs ++ ys) ≡ events_shown shows xs ++ events_shown shows ys
shown_joined shows [] ys = refl
shown_joined shows (row ∷ xs) ys =
    let first = cond (shows row) (events_in row) [] in
    ap (λ (l : List Event). first ++ l) (shown_joined shows xs ys) ∙ sym (append_assoc first (events_shown shows xs) (events_shown shows ys))

about_joined : (did : List ℕ) (xs ys : List Row) → rows_about did (xs ++ ys) ≡ rows_about did xs ++ rows_about did ys
about_joined did [] ys = refl
about_joined did (row ∷ xs) ys =
    let rest = about_joined did xs ys in
    elim (names did (did_of_row row)) as (λ b. cond b (row ∷ rows_about did (xs ++ ys)) (rows_about did (xs ++ ys)) ≡ cond b (row ∷ rows_about did xs) (rows_about did xs) ++ rows_about did ys) [
      | true ↦ ap (λ (l : List Row). row ∷ l) rest
      | false ↦ rest
    ]

none_about : (did : List ℕ) (rows : List Row) → is_named did rows ≡ false → rows_about did rows ≡ []
unfolding is_named
none_about did rows h = go rows h
  where
    go : (xs : List Row) → list_any (λ row. names did (did_of_row row)) xs ≡ false → rows_about did xs ≡ []
    go [] none = refl
    go (x ∷ xs) none =
        let both = or_parts (names did (did_of_row x)) (list_any (λ row. names did (did_of_row row)) xs) none in
        ap (λ (c : Bool). cond c (x ∷ rows_about did xs) (rows_about did xs)) both.0 ∙ go xs both.1

given_parts : (checks : Checks) (xs ys front : List Row) → AreGiven checks front (xs ++ ys) → AreGiven checks front xs × AreGiven checks (front ++ xs) ys
given_parts checks [] ys front is = (tt, subst (λ (l : List Row). AreGiven checks l ys) (sym (append-nil front)) is)
given_parts checks (x ∷ xs) ys front is =
    let rest = given_parts checks xs ys (front ++ x ∷ []) is.1 in
    ((is.0, rest.0), subst (λ (l : List Row). AreGiven checks l ys) (append_assoc front (x ∷ []) xs) rest.1)

accept_joined : (one two : List Event) (rows others : List Row) → AcceptAll one rows → AcceptAll two others → AcceptAll (one ++ two) (rows ++ others)
accept_joined [] two [] others a b = b
accept_joined [] two (row ∷ rows) others a b = absurd a
accept_joined (e ∷ one) two [] others a b = absurd a
accept_joined (e ∷ one) two (row ∷ rows) others a b = (a.0, accept_joined one two rows others a.1 b)

-- ---- numbers

pub lasts_rise : (rows front : List Row) → IsJournal (front ++ rows) → last_seq front ≤ last_seq (front ++ rows)
lasts_rise [] front is = let P : List Row → Type 0 = λ X. last_seq front ≤ last_seq X in subst P (sym (append-nil front)) (omega arith)
lasts_rise (row ∷ rows) front is =
    let P : List Row → Type 0 = λ X. IsJournal X in
    let Q : List Row → Type 0 = λ X. last_seq front ≤ last_seq X in
    let on = subst P (sym (append_assoc front (row ∷ []) rows)) is in
    let here = fronts (front ++ row ∷ []) rows on in
    subst Q (append_assoc front (row ∷ []) rows) (omega (arith, kept_above front row (grew front row here).1, lasts_joined front (row ∷ []), lasts_rise rows (front ++ row ∷ []) on))

-- an event that is read under its number, which lies between two
record IsSent (low high : ℕ) (e : Event) : Type 0 where
  seen : Seen
  reads : frame_of e.1 ≡ Ok (Frame.Event seen)
  numbered : seen.seq ≡ e.0
  above : low < e.0
  within : e.0 ≤ high

-- and is of another account
record IsOther (did : List ℕ) (high : ℕ) (e : Event) : Type 0 where
  seen : Seen
  reads : frame_of e.1 ≡ Ok (Frame.Event seen)
  numbered : seen.seq ≡ e.0
  other : names did seen.did ≡ false
  within : e.0 ≤ high

module _ (checks : Checks) (opens : OpensRight checks) (links : LinksRight checks) (shows : Row → Bool) where
  -- what a row tells of its account, and what number stands behind it
  record RowTells (front : List Row) (row : Row) (rows : List Row) : Type 0 where
    journal : IsJournal ((front ++ row ∷ []) ++ rows)
    tells : Tells checks (last_seq front) (did_of_row row) (is_carried_row row) (raises (last_rev (account (did_of_row row) front).repo) row) (account (did_of_row row) front) (moved (account (did_of_row row) front) row) (events_in row)
    rises : last_seq front ≤ last_seq (front ++ row ∷ [])
    ends : last_seq (front ++ row ∷ []) ≤ last_seq (front ++ row ∷ rows)
    sends : (message : List ℕ) → events_in row ≡ (last_seq front + 1, message) ∷ [] → last_seq front + 1 ≤ last_seq (front ++ row ∷ rows)

  tells_of : (row : Row) (rows front : List Row) → IsJournal (front ++ row ∷ rows) → AreGiven checks front (row ∷ rows) → RowTells front row rows
  tells_of row rows front journal given =
      let P : List Row → Type 0 = λ X. IsJournal X in
      let Q : List Row → Type 0 = λ X. last_seq (front ++ row ∷ []) ≤ last_seq X in
      let on = subst P (sym (append_assoc front (row ∷ []) rows)) journal in
      let here = fronts (front ++ row ∷ []) rows on in
      let ends = subst Q (append_assoc front (row ∷ []) rows) (lasts_rise rows (front ++ row ∷ []) on) in
      record {
        journal = on;
        tells = row_tells checks opens links front row here given.0;
        rises = omega (arith, kept_above front row (grew front row here).1, lasts_joined front (row ∷ []));
        ends = ends;
        sends = λ message is. omega (arith, sent_last front row message is, lasts_joined front (row ∷ []), ends);
      }

  row_sent : (row : Row) (rows front : List Row) → RowTells front row rows → (b : Bool) → AreAll (IsSent (last_seq front) (last_seq (front ++ row ∷ rows))) (cond b (events_in row) [])
  row_sent row rows front t false = tt
  row_sent row rows front t true = by_kind t.tells
    where
      by_kind : Tells checks (last_seq front) (did_of_row row) (is_carried_row row) (raises (last_rev (account (did_of_row row) front).repo) row) (account (did_of_row row) front) (moved (account (did_of_row row) front) row) (events_in row)
          → AreAll (IsSent (last_seq front) (last_seq (front ++ row ∷ rows))) (events_in row)
      by_kind (inl quiet) = let P : List Event → Type 0 = λ es. AreAll (IsSent (last_seq front) (last_seq (front ++ row ∷ rows))) es in subst P (sym quiet.none) tt
      by_kind (inr s) = let P : List Event → Type 0 = λ es. AreAll (IsSent (last_seq front) (last_seq (front ++ row ∷ rows))) es in subst P (sym s.is) (record { seen = s.event; reads = s.reads; numbered = s.seq_is; above = omega arith; within = t.sends s.message s.is }, tt)

  -- all that is shown of rows is sent
  sent_so : (rows front : List Row) → IsJournal (front ++ rows) → AreGiven checks front rows → AreAll (IsSent (last_seq front) (last_seq (front ++ rows))) (events_shown shows rows)
  sent_so [] front journal given = tt
  sent_so (row ∷ rows) front journal given =
      let t = tells_of row rows front journal given in
      let R : List Row → Type 0 = λ X. AreAll (IsSent (last_seq (front ++ row ∷ [])) (last_seq X)) (events_shown shows rows) in
      let rest = subst R (append_assoc front (row ∷ []) rows) (sent_so rows (front ++ row ∷ []) t.journal given.1) in
      all_joined _ (cond (shows row) (events_in row) []) (events_shown shows rows) (row_sent row rows front t (shows row))
      (all_weaker _ _ (events_shown shows rows) (λ e s. record { seen = s.seen; reads = s.reads; numbered = s.numbered; above = omega (arith, t.rises, s.above); within = s.within }) rest)

  -- ---- what is shown above a cursor up to which all of an account was taken is of others

  module _ (did : List ℕ) (c : ℕ) where
    abbrev is_taken : Event → Bool
    is_taken e = nat_le e.0 c

    taken_parts : (named : Bool) (row : Row) (about : List Row) → list_all is_taken (events (cond named (row ∷ about) about)) ≡ true → (named ≡ true → list_all is_taken (events_in row) ≡ true) × (list_all is_taken (events about) ≡ true)
    taken_parts true row about h = let both = and_parts (list_all is_taken (events_in row)) (list_all is_taken (events about)) (sym (list_all-append is_taken (events_in row) (events about)) ∙ h) in (λ n. both.0, both.1)
    taken_parts false row about h = (λ n. absurd cc, h)

    row_other : (row : Row) (rows front : List Row) → RowTells front row rows → (names did (did_of_row row) ≡ true → list_all is_taken (events_in row) ≡ true) → (b : Bool)
        → AreAll (IsOther did (last_seq (front ++ row ∷ rows))) (events_above c (cond b (events_in row) []))
    row_other row rows front t taken false = tt
    row_other row rows front t taken true = by_kind t.tells
      where
        by_kind : Tells checks (last_seq front) (did_of_row row) (is_carried_row row) (raises (last_rev (account (did_of_row row) front).repo) row) (account (did_of_row row) front) (moved (account (did_of_row row) front) row) (events_in row)
            → AreAll (IsOther did (last_seq (front ++ row ∷ rows))) (events_above c (events_in row))
        by_kind (inl quiet) = let P : List Event → Type 0 = λ es. AreAll (IsOther did (last_seq (front ++ row ∷ rows))) (events_above c es) in subst P (sym quiet.none) tt
        by_kind (inr s) =
            let Others : List Event → Type 0 = λ es. AreAll (IsOther did (last_seq (front ++ row ∷ rows))) es in
            let P : List Event → Type 0 = λ es. Others (events_above c es) in
            let T : List Event → Type 0 = λ es. list_all is_taken es ≡ true in
            let n = last_seq front + 1 in
            let event : Event = (n, s.message) in
            let low : names did (did_of_row row) ≡ true → n ≤ c = λ named. leb-true n c (and_parts (nat_le n c) true (subst T s.is (taken named))).0 in
            let other : nat_lt c n ≡ true → names did s.event.did ≡ false = λ above.
            ap (λ (d : List ℕ). names did d) s.did_is ∙ elim (names did (did_of_row row)) as (λ x. names did (did_of_row row) ≡ x → x ≡ false) [
              | true ↦ λ named. let no : ⊥ = omega (arith, low named, ltb-true c n above) in absurd no
              | false ↦ λ named. refl
            ] refl in
            subst P (sym s.is) (elim (nat_lt c n) as (λ b. nat_lt c n ≡ b → Others (cond b (event ∷ []) [])) [
              | true ↦ λ above. (record { seen = s.event; reads = s.reads; numbered = s.seq_is; other = other above; within = t.sends s.message s.is }, tt)
              | false ↦ λ above. tt
            ] refl)

    others_so : (rows front : List Row) → IsJournal (front ++ rows) → AreGiven checks front rows → list_all is_taken (events (rows_about did rows)) ≡ true → AreAll (IsOther did (last_seq (front ++ rows))) (events_above c (events_shown shows rows))
    others_so [] front journal given taken = tt
    others_so (row ∷ rows) front journal given taken =
        let t = tells_of row rows front journal given in
        let parts = taken_parts (names did (did_of_row row)) row (rows_about did rows) taken in
        let up = λ (event : Event). nat_lt c event.0 in
        let first = cond (shows row) (events_in row) [] in
        let A : List Event → Type 0 = λ es. AreAll (IsOther did (last_seq (front ++ row ∷ rows))) es in
        let R : List Row → Type 0 = λ X. AreAll (IsOther did (last_seq X)) (events_above c (events_shown shows rows)) in
        let rest = subst R (append_assoc front (row ∷ []) rows) (others_so rows (front ++ row ∷ []) t.journal given.1 parts.1) in
        subst A (sym (filter-append up first (events_shown shows rows))) (all_joined _ (events_above c first) (events_above c (events_shown shows rows)) (row_other row rows front t parts.0 (shows row)) rest)

-- ---- a run over events

-- an event that stands at or below the cursor is passed over
passes_on : (checks : Checks) (K : List Row) (host message : List ℕ) (e : Seen) (messages : List Message) (rows : List Row) → frame_of message ≡ Ok (Frame.Event e) → nat_le e.seq (cursor host K) ≡ true
    → RunFrom checks K [] ((host, frame_of message) ∷ messages) rows → RunFrom checks K [] messages rows
passes_on checks K host message e messages rows reads old run =
    let P : Result Frame FrameFault → Type 0 = λ f. RunFrom checks K [] ((host, f) ∷ messages) rows in
    let T : Option Pass → Type 0 = λ p.
    Turned false p (RunFrom checks K (host ∷ []) messages rows) (RunFrom checks K [] messages rows)
    ((row : Row) × (others : List Row) × (rows ≡ row ∷ others) × IsMadeBy checks K (host, Ok (Frame.Event e)) row × RunFrom checks (K ++ row ∷ []) [] messages others) in
    subst T (ap old_if old) (subst P reads run)

module _ (checks : Checks) (K : List Row) (host : List ℕ) (e : Seen) (messages : List Message) (rows : List Row) (g : TakesOn checks K host e messages rows) where
  row_did : did_of_row g.row ≡ e.did
  row_did = ap did_of_row g.row_of.row_is ∙ g.row_of.did_is

  row_seq : host_seq_in g.row ≡ e.seq
  row_seq = ap host_seq_in g.row_of.row_is ∙ g.row_of.seq_is

  row_host : host_in g.row ≡ host
  row_host = ap host_in g.row_of.row_is ∙ g.row_of.host_is

  cursor_low : (n : ℕ) → cursor host K ≤ n → e.seq ≤ n → cursor host (K ++ g.row ∷ []) ≤ n
  cursor_low n low within = omega (arith, cursors_joined host K (g.row ∷ []), cursor_stays host (cursor host K) n g.row low (omega (arith, row_seq, within)))

  cursor_here : names host host ≡ true → cursor host (K ++ g.row ∷ []) ≡ e.seq
  cursor_here is =
      cursors_joined host K (g.row ∷ []) ∙ ap (λ (b : Bool). cond b (host_seq_in g.row) (cursor host K)) (ap (λ (h : List ℕ). names host h) row_host ∙ is) ∙ row_seq

  account_here : (did : List ℕ) → names did e.did ≡ false → account did (K ++ g.row ∷ []) ≡ account did K
  account_here did other =
      joined did K (g.row ∷ []) ∙ ap (λ (b : Bool). cond b (moved (account did K) g.row) (account did K)) (ap (λ (d : List ℕ). names did d) row_did ∙ other)

-- what events of other accounts come to, in front of further messages
record OthersRun (checks : Checks) (host did : List ℕ) (n : ℕ) (messages : List Message) (K R : List Row) : Type 0 where
  front : List Row
  rest : List Row
  is : R ≡ front ++ rest
  none : rows_about did front ≡ []
  same : account did (K ++ front) ≡ account did K
  low : cursor host (K ++ front) ≤ n
  run : RunFrom checks (K ++ front) [] messages rest

others_goes : (checks : Checks) (host did : List ℕ) (n : ℕ) (messages : List Message) (e : Event) (es : List Event) (K R : List Row) (o : IsOther did n e) (g : TakesOn checks K host o.seen (sent_by host es ++ messages) R)
    → OthersRun checks host did n messages (K ++ g.row ∷ []) g.others → OthersRun checks host did n messages K R
others_goes checks host did n messages e es K R o g rec =
    let tail = sent_by host es ++ messages in
    let join = append_assoc K (g.row ∷ []) rec.front in
    let A : List Row → Type 0 = λ X. account did X ≡ account did K in
    let C : List Row → Type 0 = λ X. cursor host X ≤ n in
    let M : List Row → Type 0 = λ X. RunFrom checks X [] messages rec.rest in
    let named : names did (did_of_row g.row) ≡ false = ap (λ (d : List ℕ). names did d) (row_did checks K host o.seen tail R g) ∙ o.other in
    record {
      front = g.row ∷ rec.front;
      rest = rec.rest;
      is = g.is ∙ ap (λ (l : List Row). g.row ∷ l) rec.is;
      none = ap (λ (b : Bool). cond b (g.row ∷ rows_about did rec.front) (rows_about did rec.front)) named ∙ rec.none;
      same = subst A join (rec.same ∙ account_here checks K host o.seen tail R g did o.other);
      low = subst C join rec.low;
      run = subst M join rec.run;
    }

others_run : (checks : Checks) (host did : List ℕ) (n : ℕ) (messages : List Message) (es : List Event) (K R : List Row) → AreAll (IsOther did n) es → cursor host K ≤ n → RunFrom checks K [] (sent_by host es ++ messages) R → OthersRun checks host did n messages K R
others_run checks host did n messages [] K R are low run =
    let A : List Row → Type 0 = λ X. account did X ≡ account did K in
    let C : List Row → Type 0 = λ X. cursor host X ≤ n in
    let M : List Row → Type 0 = λ X. RunFrom checks X [] messages R in
    record { front = []; rest = R; is = refl; none = refl; same = subst A (sym (append-nil K)) refl; low = subst C (sym (append-nil K)) low; run = subst M (sym (append-nil K)) run }
others_run checks host did n messages (e ∷ es) K R are low run =
    let seen = are.0.seen in
    let tail = sent_by host es ++ messages in
    elim (nat_le seen.seq (cursor host K)) as (λ b. nat_le seen.seq (cursor host K) ≡ b → OthersRun checks host did n messages K R) [
      | true ↦ λ old. others_run checks host did n messages es K R are.1 low (passes_on checks K host e.1 seen tail R are.0.reads old run)
      | false ↦ λ new.
          let g = goes_on checks K host e.1 seen tail R are.0.reads new run in
          others_goes checks host did n messages e es K R are.0 g
          (others_run checks host did n messages es (K ++ g.row ∷ []) g.others are.1 (cursor_low checks K host seen tail R g n low (omega (arith, are.0.numbered, are.0.within))) g.run)
    ] refl

-- ---- where the cursor stands behind a run over events

above_of : (k c : ℕ) → nat_le k c ≡ false → c ≤ k
above_of k c is = omega (arith, leb-false k c is)

record Cursors (host : List ℕ) (n : ℕ) (es : List Event) (K W : List Row) : Type 0 where
  rises : cursor host K ≤ cursor host W
  within : cursor host W ≤ n
  all : list_all (λ event. nat_le event.0 (cursor host W)) es ≡ true

more_reached : (c : ℕ) (e : Event) (es : List Event) → e.0 ≤ c → list_all (λ event. nat_le event.0 c) es ≡ true → list_all (λ event. nat_le event.0 c) (e ∷ es) ≡ true
more_reached c e es here rest = and_from (nat_le e.0 c) _ (le-leb e.0 c here) rest

module _ (host : List ℕ) (m n : ℕ) (e : Event) (es : List Event) (K W : List Row) (s : IsSent m n e) where
  cursors_passed : nat_le s.seen.seq (cursor host K) ≡ true → Cursors host n es K W → Cursors host n (e ∷ es) K W
  cursors_passed old rec = record {
    rises = rec.rises;
    within = rec.within;
    all = more_reached (cursor host W) e es (omega (arith, s.numbered, leb-true s.seen.seq (cursor host K) old, rec.rises)) rec.all;
  }

  cursors_went : (checks : Checks) (R : List Row) → names host host ≡ true → nat_le s.seen.seq (cursor host K) ≡ false → (g : TakesOn checks K host s.seen (sent_by host es) R) → Cursors host n es (K ++ g.row ∷ []) W → Cursors host n (e ∷ es) K W
  cursors_went checks R named new g rec =
      let here = cursor_here checks K host s.seen (sent_by host es) R g named in
      record {
        rises = omega (arith, rec.rises, here, above_of s.seen.seq (cursor host K) new);
        within = rec.within;
        all = more_reached (cursor host W) e es (omega (arith, s.numbered, here, rec.rises)) rec.all;
      }

run_cursors : (checks : Checks) (host : List ℕ) (m n : ℕ) (es : List Event) (K R W : List Row) → W ≡ K ++ R → names host host ≡ true → AreAll (IsSent m n) es → cursor host K ≤ n → RunFrom checks K [] (sent_by host es) R → Cursors host n es K W
run_cursors checks host m n [] K R W is named are low run =
    let same : W ≡ K = is ∙ ap (λ (l : List Row). K ++ l) run ∙ append-nil K in
    let P : List Row → Type 0 = λ X. cursor host K ≤ cursor host X in
    let Q : List Row → Type 0 = λ X. cursor host X ≤ n in
    record { rises = subst P (sym same) (omega arith); within = subst Q (sym same) low; all = refl }
run_cursors checks host m n (e ∷ es) K R W is named are low run =
    let seen = are.0.seen in
    let messages = sent_by host es in
    elim (nat_le seen.seq (cursor host K)) as (λ b. nat_le seen.seq (cursor host K) ≡ b → Cursors host n (e ∷ es) K W) [
      | true ↦ λ old. cursors_passed host m n e es K W are.0 old (run_cursors checks host m n es K R W is named are.1 low (passes_on checks K host e.1 seen messages R are.0.reads old run))
      | false ↦ λ new.
          let g = goes_on checks K host e.1 seen messages R are.0.reads new run in
          cursors_went host m n e es K W are.0 checks R named new g
          (run_cursors checks host m n es (K ++ g.row ∷ []) g.others W (is ∙ ap (λ (l : List Row). K ++ l) g.is ∙ sym (append_assoc K (g.row ∷ []) g.others)) named are.1
          (cursor_low checks K host seen messages R g n low (omega (arith, are.0.numbered, are.0.within))) g.run)
    ] refl

-- ---- one run more

text_named : (host : List ℕ) → host ≢ [] → names host host ≡ true
text_named [] some = absurd (some refl)
text_named (x ∷ xs) some = names_itself (x ∷ xs) refl

-- what the cursor has reached of all that is shown, it has reached of an account of which nothing is withheld
shown_taken : (did : List ℕ) (shows : Row → Bool) (c : ℕ) (rows : List Row) → all_about did (withholds_nothing shows) rows ≡ true → list_all (λ event. nat_le event.0 c) (events_shown shows rows) ≡ true
    → list_all (λ event. nat_le event.0 c) (events (rows_about did rows)) ≡ true
shown_taken did shows c [] told all = refl
shown_taken did shows c (row ∷ rows) told all = by_named (names did (did_of_row row)) told (λ more. shown_taken did shows c rows more both.1)
  where
    test : Event → Bool
    test event = nat_le event.0 c

    both : (list_all test (cond (shows row) (events_in row) []) ≡ true) × (list_all test (events_shown shows rows) ≡ true)
    both = and_parts _ _ (sym (list_all-append test (cond (shows row) (events_in row) []) (events_shown shows rows)) ∙ all)

    here : (b : Bool) (es : List Event) → has_no_event es || b ≡ true → list_all test (cond b es []) ≡ true → list_all test es ≡ true
    here true es tells h = h
    here false [] tells h = refl
    here false (e ∷ es) tells h = absurd cc

    by_named : (n : Bool) → list_all (withholds_nothing shows) (cond n (row ∷ rows_about did rows) (rows_about did rows)) ≡ true → (all_about did (withholds_nothing shows) rows ≡ true → list_all test (events (rows_about did rows)) ≡ true)
        → list_all test (events (cond n (row ∷ rows_about did rows) (rows_about did rows))) ≡ true
    by_named true h rest =
        let parts = and_parts (withholds_nothing shows row) (list_all (withholds_nothing shows) (rows_about did rows)) h in
        list_all-append test (events_in row) (events (rows_about did rows)) ∙ and_from _ _ (here (shows row) (events_in row) parts.0 both.0) (rest parts.1)
    by_named false h rest = rest h

-- what stands at or below a number, and what stands above it and up to another, is up to the other
up_to : (low high : ℕ) (es : List Event) → low ≤ high → list_all (λ event. nat_le event.0 high) (events_above low es) ≡ true → list_all (λ event. nat_le event.0 high) es ≡ true
up_to low high [] le all = refl
up_to low high (e ∷ es) le all =
    elim (nat_lt low e.0) as (λ b. nat_lt low e.0 ≡ b → list_all (λ event. nat_le event.0 high) (cond b (e ∷ events_above low es) (events_above low es)) ≡ true → nat_le e.0 high && list_all (λ event. nat_le event.0 high) es ≡ true) [
      | true ↦ λ above h. let both = and_parts (nat_le e.0 high) (list_all (λ event. nat_le event.0 high) (events_above low es)) h in and_from (nat_le e.0 high) _ both.0 (up_to low high es le both.1)
      | false ↦ λ below h. and_from (nat_le e.0 high) _ (le-leb e.0 high (omega (arith, le, ltb-false low e.0 below))) (up_to low high es le h)
    ] refl all

all_up_to : (n m : ℕ) (es : List Event) → n ≤ m → list_all (λ event. nat_le event.0 n) es ≡ true → list_all (λ event. nat_le event.0 m) es ≡ true
all_up_to n m [] le all = refl
all_up_to n m (e ∷ es) le all =
    let both = and_parts (nat_le e.0 n) (list_all (λ event. nat_le event.0 n) es) all in
    and_from (nat_le e.0 m) _ (le-leb e.0 m (omega (arith, leb-true e.0 n both.0, le))) (all_up_to n m es le both.1)

module _ (checks : Checks) (opens : OpensRight checks) (links : LinksRight checks) (one more two rows : List Row) (host did : List ℕ) (shows : Row → Bool) (some : host ≢ [])
    (runs : RunsOn checks shows host one more two rows) (had : HasTaken host did one two) (could : CanGoOn did shows one more rows) where
  abbrev c : ℕ
  c = cursor host two

  abbrev shown : List Event
  shown = events_shown shows (one ++ more)

  given_both : AreGiven checks [] one × AreGiven checks one more
  given_both = given_parts checks one more [] runs.given

  journal_one : IsJournal one
  journal_one = fronts one more runs.journal

  sent_all : AreAll (IsSent (last_seq []) (last_seq (one ++ more))) shown
  sent_all = sent_so checks opens links shows (one ++ more) [] runs.journal runs.given

  sent_more : AreAll (IsSent (last_seq one) (last_seq (one ++ more))) (events_shown shows more)
  sent_more = sent_so checks opens links shows more one runs.journal given_both.1

  others : AreAll (IsOther did (last_seq one)) (events_above c (events_shown shows one))
  others = others_so checks opens links shows did c one [] journal_one given_both.0 had.all

  -- above the cursor stand those of other accounts, and then all that have come
  above_is : events_above c shown ≡ events_above c (events_shown shows one) ++ events_shown shows more
  above_is =
      let up = λ (event : Event). nat_lt c event.0 in
      ap (filter up) (shown_joined shows one more) ∙ filter-append up (events_shown shows one) (events_shown shows more)
      ∙ ap (λ (l : List Event). events_above c (events_shown shows one) ++ l) (filter_whole up (events_shown shows more) (all_weaker _ _ (events_shown shows more) (λ e s. lt-ltb c e.0 (omega (arith, had.within, s.above))) sent_more))

  run_split : RunFrom checks two [] (sent_by host (events_above c (events_shown shows one)) ++ sent_by host (events_shown shows more)) rows
  run_split =
      let P : List Event → Type 0 = λ es. RunFrom checks two [] (sent_by host es) rows in
      let Q : List Message → Type 0 = λ ms. RunFrom checks two [] ms rows in
      subst Q (map-append (λ (event : Event). (host, frame_of event.1)) (events_above c (events_shown shows one)) (events_shown shows more)) (subst P above_is runs.run)

  first : OthersRun checks host did (last_seq one) (sent_by host (events_shown shows more)) two rows
  first = others_run checks host did (last_seq one) (sent_by host (events_shown shows more)) (events_above c (events_shown shows one)) two rows others had.within run_split

  about_same : rows_about did rows ≡ rows_about did first.rest
  about_same = ap (rows_about did) first.is ∙ about_joined did first.front first.rest ∙ ap (λ (l : List Row). l ++ rows_about did first.rest) first.none

  trusted : all_about did is_trusting first.rest ≡ true
  trusted =
      let T : List Row → Type 0 = λ l. list_all is_trusting l ≡ true in
      subst T about_same (both_tests says_yes is_timely (rows_about did rows) (filtered says_yes (λ row. names did (did_of_row row)) rows runs.yes) could.timely)

  ends : (accepted : AcceptAll (events (rows_about did more)) (rows_about did rows)) × Trails (account did (one ++ more)) (account did (two ++ rows))
  ends =
      let K = two ++ first.front in
      let P : State → Type 0 = λ s. Trails (account did one) s in
      let e = all_follow checks opens links host did shows more one K first.rest (record {
        journal = runs.journal;
        given = given_both.1;
        low = first.low;
        trails = subst P (sym first.same) had.knows;
        uncut = could.uncut;
        shown_all = could.shown;
        raised = could.raised;
        trusted = trusted;
        run = first.run;
      }) in
      let A : List Row → Type 0 = λ l. AcceptAll (events (rows_about did more)) l in
      let W : List Row → Type 0 = λ l. Trails (account did (one ++ more)) (account did l) in
      (subst A (sym about_same) e.accepted, subst W (append_assoc two first.front first.rest ∙ ap (λ (l : List Row). two ++ l) (sym first.is)) e.trails)

  cursors : Cursors host (last_seq (one ++ more)) (events_above c shown) two (two ++ rows)
  cursors =
      run_cursors checks host (last_seq []) (last_seq (one ++ more)) (events_above c shown) two rows (two ++ rows) refl (text_named host some) (all_filtered _ (λ event. nat_lt c event.0) shown sent_all)
      (omega (arith, had.within, lasts_rise more one runs.journal)) runs.run

  all_now : list_all (λ event. nat_le event.0 (cursor host (two ++ rows))) (events (rows_about did (one ++ more))) ≡ true
  all_now =
      let now = cursor host (two ++ rows) in
      let test = λ (event : Event). nat_le event.0 now in
      let T : List Event → Type 0 = λ es. list_all test es ≡ true in
      let split : events (rows_about did (one ++ more)) ≡ events (rows_about did one) ++ events (rows_about did more) = ap events (about_joined did one more) ∙ events_joined (rows_about did one) (rows_about did more) in
      let whole : list_all test shown ≡ true = up_to c now shown cursors.rises cursors.all in
      let parts = and_parts _ _ (sym (list_all-append test (events_shown shows one) (events_shown shows more)) ∙ subst T (shown_joined shows one more) whole) in
      subst T (sym split) (list_all-append test (events (rows_about did one)) (events (rows_about did more))
      ∙ and_from _ _ (all_up_to c now (events (rows_about did one)) cursors.rises had.all) (shown_taken did shows now more could.shown parts.1))

  went_on : GoesOn host did one more two rows
  went_on = record { accepted = ends.0; taken = record { within = cursors.within; all = all_now; knows = ends.1 } }

pub go_on : RelaysGoOn
go_on checks opens links one more two rows host did shows some runs had could = went_on checks opens links one more two rows host did shows some runs had could

-- ---- a cut

carried_silent : (did : List ℕ) (rows : List Row) → list_all is_carried_row rows ≡ true → events (rows_about did rows) ≡ []
carried_silent did [] all = refl
carried_silent did (row ∷ rows) all =
    let both = and_parts (is_carried_row row) (list_all is_carried_row rows) all in
    let rest = carried_silent did rows both.1 in
    elim (names did (did_of_row row)) as (λ b. events (cond b (row ∷ rows_about did rows) (rows_about did rows)) ≡ []) [
      | true ↦ ap (λ (es : List Event). es ++ events (rows_about did rows)) (silent row both.0) ∙ rest
      | false ↦ rest
    ]
  where
    silent : (r : Row) → is_carried_row r ≡ true → events_in r ≡ []
    silent (Row.Carried x) h = refl
    silent (Row.Taken t) h = absurd cc
    silent (Row.Synced d w moment) h = absurd cc
    silent (Row.Operated o) h = absurd cc

module _ (host did : List ℕ) (one two : List Row) (number : ℕ) (now : List Row) (cut : IsCut one number now) (had : HasTaken host did one two) where
  last_same : last_seq now ≡ last_seq one
  last_same =
      ap last_seq cut.now ∙ lasts_joined cut.carried cut.others ∙ ap (λ (n : ℕ). folded last_after n cut.others) cut.last
      ∙ sym (lasts_joined cut.front cut.others) ∙ ap last_seq (sym cut.whole)

  account_same : account did now ≡ account did one
  account_same =
      ap (account did) cut.now ∙ joined did cut.carried cut.others ∙ ap (λ (a : State). folded (account_after did) a cut.others) (cut.over.accounts did)
      ∙ sym (joined did cut.front cut.others) ∙ ap (account did) (sym cut.whole)

  taken_still : HasTaken host did now two
  taken_still =
      let test = λ (event : Event). nat_le event.0 (cursor host two) in
      let T : List Event → Type 0 = λ es. list_all test es ≡ true in
      let P : State → Type 0 = λ a. Trails a (account did two) in
      let of_one : events (rows_about did one) ≡ events (rows_about did cut.front) ++ events (rows_about did cut.others) =
      ap (λ (l : List Row). events (rows_about did l)) cut.whole ∙ ap events (about_joined did cut.front cut.others) ∙ events_joined (rows_about did cut.front) (rows_about did cut.others) in
      let of_now : events (rows_about did now) ≡ events (rows_about did cut.others) =
      ap (λ (l : List Row). events (rows_about did l)) cut.now ∙ ap events (about_joined did cut.carried cut.others) ∙ events_joined (rows_about did cut.carried) (rows_about did cut.others)
      ∙ ap (λ (es : List Event). es ++ events (rows_about did cut.others)) (carried_silent did cut.carried cut.over.are_carried) in
      let parts : (list_all test (events (rows_about did cut.front)) ≡ true) × (list_all test (events (rows_about did cut.others)) ≡ true) =
      and_parts (list_all test (events (rows_about did cut.front))) (list_all test (events (rows_about did cut.others))) (sym (list_all-append test (events (rows_about did cut.front)) (events (rows_about did cut.others))) ∙ subst T of_one had.all) in
      record { within = omega (arith, had.within, last_same); all = subst T (sym of_now) parts.1; knows = subst P (sym account_same) had.knows }

-- what is taken is so beside another second journal that says the same of the host and of the account
taken_beside : (host did : List ℕ) (one two now : List Row) → cursor host now ≡ cursor host two → account did now ≡ account did two → HasTaken host did one two → HasTaken host did one now
taken_beside host did one two now cursors accounts had =
    let T : ℕ → Type 0 = λ n. list_all (λ (event : Event). nat_le event.0 n) (events (rows_about did one)) ≡ true in
    let P : State → Type 0 = λ a. Trails (account did one) a in
    record { within = omega (arith, had.within, cursors); all = subst T (sym cursors) had.all; knows = subst P (sym accounts) had.knows }

-- ---- run after run

module _ (checks : Checks) (opens : OpensRight checks) (links : LinksRight checks) (shows : List Row → Row → Bool) (host did : List ℕ) (some : host ≢ []) where
  stages_follow : (stages : List Stage) (one two : List Row) → HasTaken host did one two → AreStages checks shows host did one two stages
      → AcceptAll (events (rows_about did (rows_come stages))) (rows_about did (rows_made stages)) × Trails (account did (first_behind one stages)) (account did (second_behind two stages))
  stages_follow [] one two had are = (tt, had.knows)
  stages_follow (cut_at number now ∷ stages) one two had are = stages_follow stages now two (taken_still host did one two number now are.0 had) are.1
  stages_follow (becomes now ∷ stages) one two had are = stages_follow stages one now (taken_beside host did one two now are.0 are.1 had) are.2
  stages_follow (run_on more rows ∷ stages) one two had are =
      let went = go_on checks opens links one more two rows host did (shows (one ++ more)) some are.0 had are.1 in
      let rest = stages_follow stages (one ++ more) (two ++ rows) went.taken are.2 in
      let A : List Event → Type 0 = λ es. AcceptAll es (rows_about did (rows ++ rows_made stages)) in
      let B : List Row → Type 0 = λ l. AcceptAll (events (rows_about did more) ++ events (rows_about did (rows_come stages))) l in (
        subst A (sym (ap events (about_joined did more (rows_come stages)) ∙ events_joined (rows_about did more) (rows_about did (rows_come stages))))
            (subst B (sym (about_joined did rows (rows_made stages))) (accept_joined (events (rows_about did more)) (events (rows_about did (rows_come stages))) (rows_about did rows) (rows_about did (rows_made stages)) went.accepted rest.0)),
        rest.1,
      )

pub runs_follow : RunsFollow
runs_follow checks opens links shows host did some one two stages within new_one new_two are =
    let P : State → Type 0 = λ x. Trails x (account did two) in
    let Q : State → Type 0 = λ x. Trails fresh x in
    let T : List Row → Type 0 = λ l. list_all (λ event. nat_le event.0 (cursor host two)) (events l) ≡ true in
    let knows = subst P (sym (unnamed_account did one new_one)) (subst Q (sym (unnamed_account did two new_two)) fresh_trails) in
    let e = stages_follow checks opens links shows host did some stages one two (record { within = within; all = subst T (sym (none_about did one new_one)) refl; knows = knows }) are in
    record { accepted = e.0; repo = λ known. e.1.repo known }

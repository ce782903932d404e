-- A host that sends all that a relay serves behind its cursor is a relay behind which another one runs again.
use Rattle.std.proofs.Common.{◌≡◌, ◌≢◌, ◌⊎◌, inl, inr, ◌∙◌, ℕ, ◌+◌, ◌≤◌, ◌&&◌, Bool, true, false, List, [], ◌∷◌, ◌++◌, map, Some, None, Result, Ok, cond, refl, sym, ap, subst, arith}
use Rattle.std.specs.Prelude.{nat_lt}
use Rattle.std.specs.List.{filter, list_all}
use Rattle.std.proofs.lemmas.Bool.{le-ltb}
use Rattle.std.proofs.lemmas.List.{append-nil}
use Rattle.at_event.specs.Frames.{frame_of}
use Rattle.at_event.specs.declared.frame.Frame.{Frame}
use Rattle.at_event.specs.declared.frame.FrameFault.{FrameFault}
use Rattle.backfill.specs.Laws.{AreRising}
use Rattle.backfill.specs.Notices.{outdated_cursor}
use Rattle.backfill.specs.Served.{following, messages_of, notice_of, served, standing_of}
use Rattle.backfill.specs.declared.standing.Standing.{Standing}
use Rattle.backfill.proofs.Rising.{greater}
use Rattle.event_window.specs.Held.{Event, Held, oldest_of}
use Rattle.relay_row.specs.Folds.{cursor, last_seq}
use Rattle.relay_row.specs.Journal.{IsJournal}
use Rattle.relay_row.specs.declared.row.Row.{Row}
use Rattle.relay_core.specs.Decide.{Checks}
use Rattle.relay_core.specs.Opening.{OpensRight}
use Rattle.relay_core.specs.Report.{ended_by}
use Rattle.relay_core.specs.Runs.{Message as Read, RunFrom, has_ended, skipped_by}
use Rattle.relay_core.specs.Shown.{says_yes}
use Rattle.relay_core.specs.declared.decision.Pass.{Pass}
use Rattle.relay_law.specs.Right.{LinksRight}
use Rattle.relay_step.specs.Steps.{AreSteps, Decided, IsDecidedAs, Step, after_end, ended_by_all, ended_decided, recorded, rows, rows_decided, skipped}
use Rattle.relay_step.proofs.Steps.{steps_run}
use Rattle.store_take.specs.Batches.{messages_sent}
use Rattle.relay_store.specs.Shown.{held_by, is_shown, shown_of}
use Rattle.take_run.specs.Feeds.{AreOf, bytes_of_messages}
use Rattle.chain_law.specs.Again.{CanGoOn, GoesOn, HasTaken, events_above}
use Rattle.chain_law.specs.Chained.{AreReadEvents, events_shown, sent_by}
use Rattle.chain_law.specs.Given.{AreGiven}
use Rattle.chain_law.proofs.Again.{go_on, lasts_rise}
use Rattle.chain_law.proofs.Notices.{info_read}
use Rattle.relay_chain.proofs.Serving.{all_sent, head_is, messages_are, no_number, none_ended, same_shown, shown_so, tail_is}

-- ---- what is served behind a cursor

outdated_read : frame_of outdated_cursor ≡ Ok Frame.Info
unfolding outdated_cursor
outdated_read = info_read _ refl

read_filtered : (test : Event → Bool) (es : List Event) → AreReadEvents es → AreReadEvents (filter test es)
read_filtered test [] read = tt
read_filtered test (e ∷ es) read =
    let rest = read_filtered test es read.1 in
    elim (test e) as (λ b. AreReadEvents (cond b (e ∷ filter test es) (filter test es))) [ true ↦ (read.0, rest) | false ↦ rest ]

-- unless the cursor is above the last number, what is said of it, and then the events above it
not_future : (b : Bool) → cond b Standing.Outdated Standing.Current ≡ Standing.Future → ⊥
not_future true h = cc
not_future false h = cc

is_present : (held : Held) (c : ℕ) → c ≤ held.last → standing_of held c ≢ Standing.Future
is_present held c low is =
    let old = nat_lt 0 c && nat_lt (c + 1) (oldest_of held) in
    not_future old (sym (ap (λ (b : Bool). cond b Standing.Future (cond old Standing.Outdated Standing.Current)) (le-ltb held.last c low)) ∙ is)

behind_at : (s : Standing) (events : List Event) (c : ℕ) → s ≢ Standing.Future → AreRising 0 events → notice_of s ++ following s events c ≡ notice_of s ++ map (λ e. e.1) (events_above c events)
behind_at Standing.Future events c not rise = absurd (not refl)
behind_at Standing.Outdated events c not rise = ap (λ (l : List Event). outdated_cursor ∷ messages_of l) (greater 0 c events rise)
behind_at Standing.Current events c not rise = ap (λ (l : List Event). messages_of l) (greater 0 c events rise)

served_behind : (held : Held) (c : ℕ) → c ≤ held.last → AreRising 0 held.shown → served held (Some c) ≡ notice_of (standing_of held c) ++ map (λ e. e.1) (events_above c held.shown)
served_behind held c low rise = behind_at (standing_of held c) held.shown c (is_present held c low) rise

-- ---- the run

-- steps that took all that is served of these events are a run over them
run_current : (checks : Checks) (host : List ℕ) (two : List Row) (steps : List Step) (es : List Event) (rest : List (List ℕ)) → AreSteps checks two [] steps → AreOf host (messages_sent steps) → map (λ e. e.1) es ≡ bytes_of_messages (messages_sent steps) ++ rest → AreReadEvents es
    → (rest ≡ []) ⊎ (has_ended (ended_by_all steps []) host ≡ true) → RunFrom checks two [] (sent_by host es) (rows steps)
run_current checks host two steps es rest are of front read done =
    let none = none_ended checks steps two [] es rest are front read in
    let all = all_sent host steps rest none done in
    let bytes : map (λ e. e.1) es ≡ bytes_of_messages (messages_sent steps) = front ∙ ap (λ (l : List (List ℕ)). bytes_of_messages (messages_sent steps) ++ l) all ∙ append-nil (bytes_of_messages (messages_sent steps)) in
    subst (λ (m : List Read). RunFrom checks two [] m (rows steps)) (messages_are host steps es of bytes) (steps_run checks two [] steps are)

-- what is said of the cursor makes no row, and ends no host
record IsPassed (told : Decided) (host : List ℕ) : Type 0 where
  none : rows_decided told ≡ []
  goes : ended_decided told host [] ≡ []

info_passed : (checks : Checks) (two : List Row) (host : List ℕ) (frame : Result Frame FrameFault) (told : Decided) → frame ≡ Ok Frame.Info → IsDecidedAs checks two [] (host, frame) told → IsPassed told host
info_passed checks two host frame after_end reads is = absurd cc
info_passed checks two host frame (recorded t) reads is =
    let P : Result Frame FrameFault → Type 0 = λ f. skipped_by two (host, f) ≡ None in
    let no : Some Pass.Info ≡ None = subst P reads is.1 in
    absurd cc
info_passed checks two host frame (skipped pass) reads is =
    let P : Result Frame FrameFault → Type 0 = λ f. skipped_by two (host, f) ≡ Some pass in
    let E : Pass → Type 0 = λ p. ended_by p host [] ≡ [] in
    record { none = refl; goes = subst E (same_pass pass (subst P reads is.1)) refl }
  where
    same_pass : (p : Pass) → Some Pass.Info ≡ Some p → Pass.Info ≡ p
    same_pass p h = cc

run_outdated : (checks : Checks) (host : List ℕ) (two : List Row) (steps : List Step) (es : List Event) (rest : List (List ℕ)) → AreSteps checks two [] steps → AreOf host (messages_sent steps) → outdated_cursor ∷ map (λ e. e.1) es ≡ bytes_of_messages (messages_sent steps) ++ rest
    → AreReadEvents es → (rest ≡ []) ⊎ (has_ended (ended_by_all steps []) host ≡ true) → RunFrom checks two [] (sent_by host es) (rows steps)
run_outdated checks host two [] es rest are of front read (inl none) = absurd cc
run_outdated checks host two [] es rest are of front read (inr over) = absurd cc
run_outdated checks host two (s ∷ steps) es rest are of front read done =
    let more = bytes_of_messages (messages_sent steps) ++ rest in
    let first = head_is outdated_cursor s.bytes (map (λ e. e.1) es) more front in
    let passed = info_passed checks two s.host (frame_of s.bytes) s.decided (sym (ap frame_of first) ∙ outdated_read) are.0 in
    let E : List (List ℕ) → Type 0 = λ l. (rest ≡ []) ⊎ (has_ended (ended_by_all steps l) host ≡ true) in
    let A : List (List ℕ) → Type 0 = λ l. AreSteps checks (two ++ rows_decided s.decided) l steps in
    let B : List Row → Type 0 = λ l. AreSteps checks (two ++ l) [] steps in
    let C : List Row → Type 0 = λ l. AreSteps checks l [] steps in
    let R : List Row → Type 0 = λ l. RunFrom checks two [] (sent_by host es) (l ++ rows steps) in
    let now : AreSteps checks two [] steps = subst C (append-nil two) (subst B passed.none (subst A passed.goes are.1)) in
    subst R (sym passed.none) (run_current checks host two steps es rest now of.1 (tail_is outdated_cursor s.bytes (map (λ e. e.1) es) more front) read (subst E passed.goes done))

run_at : (standing : Standing) → standing ≢ Standing.Future → (checks : Checks) (host : List ℕ) (two : List Row) (steps : List Step) (es : List Event) (rest : List (List ℕ)) → AreSteps checks two [] steps → AreOf host (messages_sent steps)
    → notice_of standing ++ map (λ e. e.1) es ≡ bytes_of_messages (messages_sent steps) ++ rest → AreReadEvents es → (rest ≡ []) ⊎ (has_ended (ended_by_all steps []) host ≡ true) → RunFrom checks two [] (sent_by host es) (rows steps)
run_at Standing.Future not = absurd (not refl)
run_at Standing.Outdated not = run_outdated
run_at Standing.Current not = run_current

-- ---- the accounts go on

module _ (checks : Checks) (opens : OpensRight checks) (links : LinksRight checks) (J one more two : List Row) (whole : J ≡ one ++ more) (host did : List ℕ) (some : host ≢ []) (steps : List Step) (rest : List (List ℕ))
    (journal : IsJournal J) (given : AreGiven checks [] J) (are : AreSteps checks two [] steps) (of : AreOf host (messages_sent steps)) (front : served (held_by J) (Some (cursor host two)) ≡ bytes_of_messages (messages_sent steps) ++ rest)
    (done : (rest ≡ []) ⊎ (has_ended (ended_by_all steps []) host ≡ true)) (yes : list_all says_yes (rows steps) ≡ true) (had : HasTaken host did one two) (could : CanGoOn did (is_shown J) one more (rows steps)) where
  abbrev c : ℕ
  c = cursor host two

  abbrev held : Held
  held = held_by J

  abbrev es : List Event
  es = events_above c (events_shown (is_shown J) J)

  journal_so : IsJournal (one ++ more)
  journal_so = let P : List Row → Type 0 = λ X. IsJournal X in subst P whole journal

  given_so : AreGiven checks [] (one ++ more)
  given_so = let P : List Row → Type 0 = λ X. AreGiven checks [] X in subst P whole given

  low : c ≤ last_seq J
  low = omega (arith, had.within, lasts_rise more one journal_so, ap last_seq whole)

  rise : AreRising 0 (shown_of J J)
  rise =
      let P : List Event → Type 0 = λ l. AreRising 0 l in
      subst P (sym (same_shown J J)) (subst (λ (n : ℕ). AreRising n (events_shown (is_shown J) J)) no_number (shown_so checks opens links (is_shown J) J [] journal given).rise)

  read : AreReadEvents es
  read = read_filtered (λ (event : Event). nat_lt c event.0) (events_shown (is_shown J) J) (shown_so checks opens links (is_shown J) J [] journal given).read

  fronted : notice_of (standing_of held c) ++ map (λ e. e.1) es ≡ bytes_of_messages (messages_sent steps) ++ rest
  fronted = ap (λ (l : List Event). notice_of (standing_of held c) ++ map (λ (e : Event). e.1) (events_above c l)) (sym (same_shown J J)) ∙ sym (served_behind held c low rise) ∙ front

  run : RunFrom checks two [] (sent_by host es) (rows steps)
  run = run_at (standing_of held c) (is_present held c low) checks host two steps es rest are of fronted read done

  pub served_go_on : GoesOn host did one more two (rows steps)
  served_go_on =
      let R : List Row → Type 0 = λ X. RunFrom checks two [] (sent_by host (events_above c (events_shown (is_shown J) X))) (rows steps) in
      go_on checks opens links one more two (rows steps) host did (is_shown J) some (record { journal = journal_so; given = given_so; run = subst R whole run; yes = yes }) had could

-- Steps without refusals are a run in a world where everyone is trusted.
use Rattle.std.proofs.Common.{◌≡◌, ℕ, Bool, true, false, List, [], ◌∷◌, ◌++◌, map, Option, Some, None, Result, Ok, Err, refl, sym, ◌∙◌, ap}
use Rattle.std.specs.List.{AllByRecursion}
use Rattle.at_event.specs.Frames.{frame_of}
use Rattle.at_event.specs.declared.frame.Frame.{Frame}
use Rattle.at_event.specs.declared.frame.FrameFault.{FrameFault}
use Rattle.at_event.specs.declared.refusal.Refusal.{Refusal}
use Rattle.account_state.specs.Folds.{account}
use Rattle.account_state.specs.State.{State}
use Rattle.relay_row.specs.Folds.{last_seq}
use Rattle.relay_row.specs.declared.fetched.Fetched.{Fetched}
use Rattle.relay_row.specs.declared.row.Row.{Row}
use Rattle.relay_row.specs.declared.taken.Taken.{Taken}
use Rattle.relay_core.specs.Decide.{Checks, Outside, absent, decided, decided_event, event_row, refusal_of}
use Rattle.relay_core.specs.Opening.{OpensRight}
use Rattle.relay_core.specs.Rows.{faulty_taken}
use Rattle.relay_core.specs.Runs.{Message, Turn, has_ended, skipped_by, IsMadeBy}
use Rattle.relay_core.specs.Shown.{shown, shows_home, shows_verdict, found_in, or_zero}
use Rattle.relay_core.specs.Table.{did_of}
use Rattle.relay_core.specs.Worlds.{World, RunIn, RunsIn, IsMadeIn, CanSendFor, outside_of}
use Rattle.relay_core.specs.declared.decision.Pass.{Pass}
use Rattle.relay_core.proofs.Agreeing.{event_told}
use Rattle.relay_law.specs.Calls.{as_read}
use Rattle.relay_law.specs.Right.{LinksRight}
use Rattle.relay_step.specs.Steps.{Decided, after_end, skipped, recorded, Step, AreSteps, IsDecidedAs, ended_decided, message_of, messages, rows, rows_decided}
use Rattle.trial_run.specs.Merging.{IsUnrefused, Sent, sent_by}

-- A world in which every host is the home of whom it tells of, and every signature is good. There
-- is no repository to fetch, and the clock stands at 0.
abbrev pub trusting : World
trusting = record {
  moment = λ host frame. 0;
  home = λ did host. true;
  verdict = λ e. true;
  fetch = λ did least moment. absent;
}

-- what it answers to every message
abbrev yes : Outside
yes = record { moment = 0; home = true; verdict = true; fetched = absent }

-- From the empty journal, in that world, the messages make the rows.
abbrev pub IsRunOf : Sent → List Row → Type 0
IsRunOf sent rows = (checks : Checks) → OpensRight checks → LinksRight checks → RunIn checks trusting [] (as_read sent) rows

module _ (checks : Checks) (J : List Row) (host : List ℕ) (t : Taken) (none : t.refusal ≡ None) where
  nothing_fetched : (frame : Result Frame FrameFault) → IsMadeBy checks J (host, frame) (Row.Taken t) → t.fetched ≡ Fetched.NotAsked
  nothing_fetched (Ok (Frame.Event e)) made =
      let a = account e.did J in
      let o = shown t in
      let is : decided_event checks (last_seq J) a host e o ≡ t = cc in
      let told = event_told checks (last_seq J) a host e o (Some o.moment) (refusal_of checks a e o) in
      sym (ap (λ (x : Taken). x.fetched) is)
      ∙ ap (λ (q : Option Refusal). (event_row checks (last_seq J) a host e o (Some o.moment) q).fetched) (sym told.refusal ∙ ap (λ (x : Taken). x.refusal) is ∙ none)
  nothing_fetched (Ok (Frame.Faulty seq)) made =
      let is : faulty_taken host seq (Some (shown t).moment) ≡ t = cc in
      let no : Some Refusal.BadEvent ≡ None = ap (λ (x : Taken). x.refusal) is ∙ none in
      absurd cc
  nothing_fetched (Ok Frame.Info) made = absurd cc
  nothing_fetched (Ok Frame.Error) made = absurd cc
  nothing_fetched (Ok Frame.Unknown) made = absurd cc
  nothing_fetched (Err fault) made = absurd made

  -- at the moment 0 its row shows the answers of the trusting world
  shows_yes : (frame : Result Frame FrameFault) → IsMadeBy checks J (host, frame) (Row.Taken t) → t.moment ≡ Some 0 → shown t ≡ yes
  shows_yes frame made now =
      let moment : or_zero t.moment ≡ 0 = ap or_zero now in
      let home : shows_home t.refusal ≡ true = ap shows_home none in
      let verdict : shows_verdict t.refusal ≡ true = ap shows_verdict none in
      let fetched : found_in t.fetched ≡ absent = ap found_in (nothing_fetched frame made) in
      (λ i. record { moment = moment i; home = home i; verdict = verdict i; fetched = fetched i })

takes : (b : Bool) (o : Option Pass) (ends passes made : Type 0) → b ≡ false → o ≡ None → made → Turn b o ends passes made
takes true o ends passes made is none h = absurd cc
takes false None ends passes made is none h = h
takes false (Some pass) ends passes made is none h = absurd cc

answers_yes : (host : List ℕ) (a : State) (frame : Frame) → outside_of trusting host a frame ≡ yes
answers_yes host a (Frame.Event e) = refl
answers_yes host a (Frame.Faulty seq) = refl
answers_yes host a Frame.Info = refl
answers_yes host a Frame.Error = refl
answers_yes host a Frame.Unknown = refl

nothing_to_send : (J : List Row) (host : List ℕ) (frame : Frame) → CanSendFor trusting J host frame
nothing_to_send J host (Frame.Event e) = λ head records block is. absurd cc
nothing_to_send J host (Frame.Faulty seq) = tt
nothing_to_send J host Frame.Info = tt
nothing_to_send J host Frame.Error = tt
nothing_to_send J host Frame.Unknown = tt

made_in : (checks : Checks) (J : List Row) (host : List ℕ) (frame : Result Frame FrameFault) (t : Taken) → IsMadeBy checks J (host, frame) (Row.Taken t) → shown t ≡ yes → IsMadeIn checks trusting J (host, frame) (Row.Taken t)
made_in checks J host (Ok frame) t made is =
    let a = account (did_of frame) J in
    (nothing_to_send J host frame, ap (λ (o : Outside). decided checks (last_seq J) a host frame o) (answers_yes host a frame ∙ sym is) ∙ made)
made_in checks J host (Err fault) t made is = absurd made

pub in_world : (checks : Checks) (J : List Row) (ended : List (List ℕ)) (steps : List Step) → AreSteps checks J ended steps → AllByRecursion IsUnrefused steps → RunsIn checks trusting J ended (messages steps) (rows steps)
in_world checks J ended [] are unrefused = refl
in_world checks J ended (s ∷ steps) are unrefused = by_told s.decided are.0 unrefused.0 (in_world checks (J ++ rows_decided s.decided) (ended_decided s.decided s.host ended) steps are.1 unrefused.1)
  where
    by_told : (told : Decided) → IsDecidedAs checks J ended (message_of s) told → (t : Taken) × (told ≡ recorded t) × (t.moment ≡ Some 0) × (t.refusal ≡ None) → RunsIn checks trusting (J ++ rows_decided told) (ended_decided told s.host ended) (messages steps) (rows steps) → RunsIn checks trusting J ended (message_of s ∷ messages steps) (rows_decided told ++ rows steps)
    by_told after_end are made run = absurd cc
    by_told (skipped pass) are made run = absurd cc
    by_told (recorded x) are made run =
        let same : x ≡ made.0 = cc in
        let now : x.moment ≡ Some 0 = ap (λ (y : Taken). y.moment) same ∙ made.2 in
        let none : x.refusal ≡ None = ap (λ (y : Taken). y.refusal) same ∙ made.3 in
        let is : shown x ≡ yes = shows_yes checks J s.host x none (frame_of s.bytes) are.2 now in
        takes (has_ended ended s.host) (skipped_by J (message_of s)) _ _ _ are.0 are.1 (Row.Taken x, rows steps, refl, made_in checks J s.host (frame_of s.bytes) x are.2 is, run)

pub read_steps : (steps : List Step) → messages steps ≡ as_read (map sent_by steps)
read_steps [] = refl
read_steps (s ∷ steps) = ap (λ (l : List Message). message_of s ∷ l) (read_steps steps)

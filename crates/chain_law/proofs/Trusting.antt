-- Judges who say yes to everything, and are there in the end, said yes all along.
use Rattle.std.proofs.Common.{◌≡◌, ◌≢◌, ◌⊎◌, inl, inr, ℕ, ◌≤◌, Bool, true, false, not, List, [], ◌∷◌, ◌++◌, drop, cond, Option, Some, None, Result, Ok, Err, is_some, option_map, refl, sym, ap, ◌∙◌, subst, arith}
use Rattle.std.specs.List.{list_all}
use Rattle.std.specs.Str.{bytes_eq}
use Rattle.std.proofs.lemmas.Bool.{and_from, false≢true}
use Rattle.std.proofs.lemmas.Slice.Eq.{bytes_eq-Decides}
use Rattle.at_syntax.specs.Did.{method_of}
use Rattle.at_authority.specs.Calls.{Call, answers, refreshes, fails, did_called, Turns, Does, Asks, IsCall, AreCalls}
use Rattle.at_authority.specs.Panels.{Authorities, Panel, values}
use Rattle.at_authority.specs.Queries.{Query, Telling, did_asked}
use Rattle.at_authority.specs.Trusting.{always, trusting}
use Rattle.at_car.specs.Car.{car_of}
use Rattle.at_commit.specs.declared.commit.Commit.{Commit}
use Rattle.at_event.specs.Frames.{frame_of}
use Rattle.at_event.specs.Seen.{Seen}
use Rattle.at_event.specs.Writing.{out_length}
use Rattle.at_event.specs.declared.event.Body.{Body}
use Rattle.at_event.specs.declared.frame.Frame.{Frame}
use Rattle.at_event.specs.declared.frame.FrameFault.{FrameFault}
use Rattle.at_event.specs.declared.refusal.Refusal.{Refusal}
use Rattle.event_checks.specs.Lines.{RefusalLine, first_of}
use Rattle.event_checks.specs.Opening.{object_in}
use Rattle.event_checks.specs.Table.{car_in, open_lines, sync_lines}
use Rattle.event_checks.proofs.Firsts.{AreUnjudged, all_unmet, first_unjudged}
use Rattle.relay_row.specs.Folds.{last_seq}
use Rattle.relay_row.specs.declared.row.Row.{Row}
use Rattle.relay_row.specs.declared.taken.Taken.{Taken}
use Rattle.account_state.specs.Folds.{account, last_rev}
use Rattle.account_state.specs.State.{State}
use Rattle.relay_core.specs.Decide.{Checks, Outside, decided_event, first_refusal, body_refusals, refusal_of, is_ahead, refusal_in, when}
use Rattle.relay_core.specs.Opening.{OpensRight, shown_alone}
use Rattle.relay_core.specs.Rows.{faulty_taken}
use Rattle.relay_core.specs.Runs.{IsMadeBy}
use Rattle.relay_core.specs.Shown.{says_yes, shown, shows_home, shows_verdict}
use Rattle.relay_core.specs.declared.limits.TheConstants.{LONGEST_MESSAGE}
use Rattle.relay_core.proofs.Agreeing.{event_told}
use Rattle.relay_core.proofs.Showing.{table}
use Rattle.relay_law.proofs.Sounding.{taken_is}
use Rattle.relay_step.specs.Around.{Around, AllAsked}
use Rattle.relay_step.specs.Asked.{step_calls, home_calls, refresh_calls, signed_by, verdict_call, verdict_calls}
use Rattle.relay_step.specs.Steps.{Step, Decided, after_end, skipped, recorded, AreSteps, IsDecidedAs, message_of, rows, rows_decided, ended_decided}
use Rattle.chain_law.specs.Trust.{TrustingStepsShow}
use Rattle.std.specs.Prelude.{nat_lt}

-- ---- authorities of whom the only one says yes

abbrev Yes : Option Telling → Type 0
Yes None = ⊥
Yes (Some v) = ((q : Query) → v.now q ≡ true) × ((q : Query) → v.later q ≡ true)

record IsYes (authorities : Authorities) : Type 0 where
  stands : authorities.fallen ≡ 0
  value : Option Telling
  values_are : values authorities ≡ value ∷ []
  yes : Yes value

always_yes : IsYes trusting
always_yes = record { stands = refl; value = Some always; values_are = refl; yes = (λ q. refl, λ q. refl) }

-- the answers of calls are yes
abbrev AnswersYes : Call → Type 0
AnswersYes (answers q good) = good ≡ true
AnswersYes (refreshes did) = Unit {0}
AnswersYes (fails did) = Unit {0}

abbrev AllYes : List Call → Type 0
AllYes [] = Unit {0}
AllYes (call ∷ calls) = AnswersYes call × AllYes calls

either_yes : (b : Bool) (x y : Bool) → x ≡ true → y ≡ true → cond b x y ≡ true
either_yes true x y h k = h
either_yes false x y h k = k

turned_yes : (call : Call) (value after : Option Telling) → Yes value → Turns call value after → Yes after × AnswersYes call
turned_yes call None after fine turns = absurd fine
turned_yes (answers q good) (Some v) after fine turns = (subst Yes (sym turns.0) fine, turns.1 ∙ fine.0 q)
turned_yes (refreshes did) (Some v) after fine turns = (subst Yes (sym turns) (λ q. either_yes (bytes_eq did (did_asked q)) (v.later q) (v.now q) (fine.1 q) (fine.0 q), fine.1), tt)
turned_yes (fails did) (Some v) after fine turns = (subst Yes (sym turns) fine, tt)

asked_yes : (call : Call) (old new : Authorities) → Asks call old new → IsYes old → new.fallen ≡ 0 → IsYes new × AnswersYes call
asked_yes call old new asks is stands =
    let P : ℕ → Type 0 = λ n. Does call new.entries (drop n (values old)) (drop n (values new)) in
    let Q : List (Option Telling) → Type 0 = λ l. Does call new.entries l (values new) in
    let does = subst Q is.values_are (subst P stands asks.does) in
    let both = turned_yes call is.value does.0 is.yes does.2 in
    (record { stands = stands; value = does.0; values_are = does.1; yes = both.0 }, both.1)

-- ---- panels

abbrev AllSayYes : Panel → Type 0
AllSayYes panel = (name : List ℕ) → IsYes (panel name)

abbrev NoneFell : Panel → Type 0
NoneFell panel = (name : List ℕ) → (panel name).fallen ≡ 0

call_later : (call : Call) (old new : Panel) → IsCall call old new → (name : List ℕ) → (old name).fallen ≤ (new name).fallen
call_later call old new is name =
    elim (bytes_eq name (method_of (did_called call))) as (λ b. bytes_eq name (method_of (did_called call)) ≡ b → (old name).fallen ≤ (new name).fallen) [
      | true ↦ λ same.
          let P : List ℕ → Type 0 = λ n. (old n).fallen ≤ (new n).fallen in
          subst P (sym ((bytes_eq-Decides name (method_of (did_called call))).0 same)) is.asks.falls.later
      | false ↦ λ apart. omega (arith, ap (λ (b : Authorities). b.fallen) (is.others name (λ same. false≢true (sym apart ∙ (bytes_eq-Decides name (method_of (did_called call))).1 same))))
    ] refl

calls_later : (calls : List Call) (old new : Panel) → AreCalls old calls new → (name : List ℕ) → (old name).fallen ≤ (new name).fallen
calls_later [] old new is name = omega (arith, ap (λ (p : Panel). (p name).fallen) is)
calls_later (call ∷ calls) old new (mid, is, others) name = omega (arith, call_later call old mid is name, calls_later calls mid new others name)

call_yes : (call : Call) (old new : Panel) → IsCall call old new → AllSayYes old → NoneFell new → AllSayYes new × AnswersYes call
call_yes call old new is say none =
    let method = method_of (did_called call) in
    let both = asked_yes call (old method) (new method) is.asks (say method) (none method) in (
      λ name. elim (bytes_eq name method) as (λ b. bytes_eq name method ≡ b → IsYes (new name)) [
        | true ↦ λ same. let P : List ℕ → Type 0 = λ n. IsYes (new n) in subst P (sym ((bytes_eq-Decides name method).0 same)) both.0
        | false ↦ λ apart. subst IsYes (sym (is.others name (λ same. false≢true (sym apart ∙ (bytes_eq-Decides name method).1 same)))) (say name)
      ] refl,
      both.1,
    )

calls_yes : (calls : List Call) (old new : Panel) → AreCalls old calls new → AllSayYes old → NoneFell new → AllSayYes new × AllYes calls
calls_yes [] old new is say none = (λ name. subst (λ (p : Panel). IsYes (p name)) (sym is) (say name), tt)
calls_yes (call ∷ calls) old new (mid, is, others) say none =
    let one = call_yes call old mid is say (λ name. omega (arith, calls_later calls mid new others name, none name)) in
    let rest = calls_yes calls mid new others one.0 none in
    (rest.0, (one.1, rest.1))

-- ---- steps

steps_later : (C R : Bool) (steps : List Step) (J : List Row) (old new : Around) → AllAsked C R J old steps new → (name : List ℕ) → (old.panel name).fallen ≤ (new.panel name).fallen
steps_later C R [] J old new asked name = omega (arith, ap (λ (p : Panel). (p name).fallen) asked.panel)
steps_later C R (s ∷ steps) J old new (mid, asked, others) name =
    omega (arith, calls_later (step_calls s.host (frame_of s.bytes) s.decided asked.fetch) old.panel mid.panel asked.made name, steps_later C R steps (J ++ rows_decided s.decided) mid new others name)

yes_right : (xs ys : List Call) → AllYes (xs ++ ys) → AllYes ys
yes_right [] ys all = all
yes_right (x ∷ xs) ys all = yes_right xs ys all.1

yes_left : (xs ys : List Call) → AllYes (xs ++ ys) → AllYes xs
yes_left [] ys all = tt
yes_left (x ∷ xs) ys all = (all.0, yes_left xs ys all.1)

home_shown : (host : List ℕ) (e : Seen) (r : Option Refusal) → AllYes (home_calls host e r) → shows_home r ≡ true
home_shown host e (Some Refusal.NotHome) all = absurd (false≢true (yes_right (refresh_calls e e.body) _ all).0)
home_shown host e other all = refl

-- ---- a bad signature is that of a commit object

unjudged_not : (lines : List RefusalLine) → AreUnjudged lines → first_of lines ≡ Some Refusal.BadSignature → ⊥
unjudged_not lines are h =
    let no : true ≡ false = first_unjudged lines Refusal.BadSignature are h in
    absurd cc

signed_from : (o : Option Refusal) (b : Bool) (l i d u : Option Refusal) (v : Bool) (k : List (Option Refusal)) → l ≢ Some Refusal.BadSignature → i ≢ Some Refusal.BadSignature → d ≢ Some Refusal.BadSignature
    → table l b i d o u v k ≡ Some Refusal.BadSignature → (o ≡ None) ⊎ (o ≡ Some Refusal.BadSignature)
signed_from o b (Some r) i d u v k nl ni nd h = absurd (nl h)
signed_from o false None i d u v k nl ni nd h = absurd cc
signed_from o true None (Some r) d u v k nl ni nd h = absurd (ni h)
signed_from o true None None (Some r) u v k nl ni nd h = absurd (nd h)
signed_from None true None None None u v k nl ni nd h = inl refl
signed_from (Some r) true None None None u v k nl ni nd h = inr h

when_not : (b : Bool) (r : Refusal) → Some r ≢ Some Refusal.BadSignature → when b r ≢ Some Refusal.BadSignature
when_not true r apart h = apart h
when_not false r apart h = absurd cc

object_there : {A : Type 0} (f : Commit → A) (o : Option Commit) → not (is_some o) ≡ false → option_map f o ≡ None → ⊥
object_there f None there none = absurd cc
object_there f (Some c) there none = absurd cc

no_short : (l b d : Bool) → first_refusal (when l Refusal.TooLong ∷ when (not b) Refusal.NotHome ∷ when d Refusal.TakenDown ∷ []) ≡ Some Refusal.BadSignature → ⊥
no_short true b d h = absurd cc
no_short false false d h = absurd cc
no_short false true true h = absurd cc
no_short false true false h = absurd cc

no_home : (l b : Bool) → first_refusal (when l Refusal.TooLong ∷ when (not b) Refusal.NotHome ∷ []) ≡ Some Refusal.BadSignature → ⊥
no_home true b h = absurd cc
no_home false false h = absurd cc
no_home false true h = absurd cc

module _ (checks : Checks) (opens : OpensRight checks) (a : State) (e : Seen) (o : Outside) where
  abbrev last : Option ℕ
  last = last_rev a.repo

  abbrev opened : Option Refusal
  opened = refusal_in (checks.opens e last)

  abbrev far : Option Refusal
  far = when (nat_lt LONGEST_MESSAGE (out_length e)) Refusal.TooLong

  from_table : (u : Option Refusal) (k : List (Option Refusal)) → table far o.home (when (not a.active) Refusal.Inactive) (when a.down Refusal.TakenDown) opened u o.verdict k ≡ Some Refusal.BadSignature → (opened ≡ None) ⊎ (opened ≡ Some Refusal.BadSignature)
  from_table u k h =
      signed_from opened o.home far (when (not a.active) Refusal.Inactive) (when a.down Refusal.TakenDown) u o.verdict k
      (when_not (nat_lt LONGEST_MESSAGE (out_length e)) Refusal.TooLong (λ no. absurd cc)) (when_not (not a.active) Refusal.Inactive (λ no. absurd cc)) (when_not a.down Refusal.TakenDown (λ no. absurd cc)) h

  shown_as : (body : Body) (x : Option Refusal) → e.body ≡ body → opened ≡ x → shown_alone body last ≡ x
  shown_as body x same is = sym (ap (λ (b : Body). shown_alone b last) same) ∙ sym (opens.refusal e last) ∙ is

  body_signed : (body : Body) → e.body ≡ body → first_refusal (far ∷ body_refusals checks a e body o (Some o.moment)) ≡ Some Refusal.BadSignature → signed_by body ≡ None → ⊥
  body_signed (Body.Commit c) same h none =
      elim (from_table (when (is_ahead c.rev (Some o.moment)) Refusal.FutureRev) (checks.links e a.repo ∷ []) h) [
        | inl fine ↦ object_there _ (object_in (car_in c)) (all_unmet (open_lines c last) (shown_as (Body.Commit c) None same fine)).1.1.1.1.1.1.1.1.1.1.1.0 none
        | inr bad ↦ unjudged_not (open_lines c last) (refl, (refl, (refl, (refl, (refl, (refl, (refl, (refl, (refl, (refl, (refl, (refl, (refl, tt))))))))))))) (shown_as (Body.Commit c) (Some Refusal.BadSignature) same bad)
      ]
  body_signed (Body.Sync s) same h none =
      elim (from_table (when (is_ahead s.rev (Some o.moment)) Refusal.FutureRev) [] h) [
        | inl fine ↦ object_there _ (object_in (car_of s.blocks)) (all_unmet (sync_lines s last) (shown_as (Body.Sync s) None same fine)).1.1.1.1.1.1.0 none
        | inr bad ↦ unjudged_not (sync_lines s last) (refl, (refl, (refl, (refl, (refl, (refl, (refl, (refl, tt)))))))) (shown_as (Body.Sync s) (Some Refusal.BadSignature) same bad)
      ]
  body_signed Body.Identity same h none = no_short (nat_lt LONGEST_MESSAGE (out_length e)) o.home a.down h
  body_signed (Body.Account b) same h none = no_home (nat_lt LONGEST_MESSAGE (out_length e)) o.home h

  is_signed : refusal_of checks a e o ≡ Some Refusal.BadSignature → signed_by e.body ≡ None → ⊥
  is_signed h none = body_signed e.body refl h none

verdict_shown : (e : Seen) (r : Option Refusal) → (r ≡ Some Refusal.BadSignature → signed_by e.body ≡ None → ⊥) → AllYes (verdict_calls e r) → shows_verdict r ≡ true
verdict_shown e (Some Refusal.BadSignature) signed all = by_signed (signed_by e.body) refl all
  where
    by_signed : (s : Option (List ℕ × List ℕ)) → signed_by e.body ≡ s → AllYes (verdict_call e.did s false) → shows_verdict (Some Refusal.BadSignature) ≡ true
    by_signed None none calls = absurd (signed refl none)
    by_signed (Some s) there calls = absurd (false≢true calls.0)
verdict_shown e other signed all = refl

taken_yes : (checks : Checks) → OpensRight checks → (J : List Row) (host : List ℕ) (frame : Result Frame FrameFault) (t : Taken) (fetch : List Call) → IsMadeBy checks J (host, frame) (Row.Taken t) → AllYes (step_calls host frame (recorded t) fetch)
    → says_yes (Row.Taken t) ≡ true
taken_yes checks opens J host (Ok (Frame.Event e)) t fetch made all =
    let a = account e.did J in
    let is = taken_is (decided_event checks (last_seq J) a host e (shown t)) t made in
    let same : refusal_of checks a e (shown t) ≡ t.refusal = sym (event_told checks (last_seq J) a host e (shown t) (Some (shown t).moment) (refusal_of checks a e (shown t))).refusal ∙ ap (λ (s : Taken). s.refusal) is in
    let behind = yes_right (home_calls host e t.refusal) _ all in
    and_from (shows_home t.refusal) (shows_verdict t.refusal) (home_shown host e t.refusal (yes_left (home_calls host e t.refusal) _ all))
    (verdict_shown e t.refusal (λ bad. is_signed checks opens a e (shown t) (same ∙ bad)) (yes_left (verdict_calls e t.refusal) fetch behind))
taken_yes checks opens J host (Ok (Frame.Faulty seq)) t fetch made all =
    let P : Taken → Type 0 = λ s. says_yes (Row.Taken s) ≡ true in
    subst P (taken_is (faulty_taken host seq (Some (shown t).moment)) t made) refl
taken_yes checks opens J host (Ok Frame.Info) t fetch made all = absurd cc
taken_yes checks opens J host (Ok Frame.Error) t fetch made all = absurd cc
taken_yes checks opens J host (Ok Frame.Unknown) t fetch made all = absurd cc
taken_yes checks opens J host (Err fault) t fetch made all = absurd made

told_yes : (checks : Checks) → OpensRight checks → (J : List Row) (ended : List (List ℕ)) (s : Step) (told : Decided) (fetch : List Call) → IsDecidedAs checks J ended (message_of s) told → AllYes (step_calls s.host (frame_of s.bytes) told fetch)
    → (others : List Row) → list_all says_yes others ≡ true → list_all says_yes (rows_decided told ++ others) ≡ true
told_yes checks opens J ended s after_end fetch is all others rest = rest
told_yes checks opens J ended s (skipped pass) fetch is all others rest = rest
told_yes checks opens J ended s (recorded t) fetch is all others rest =
    and_from (says_yes (Row.Taken t)) (list_all says_yes others) (taken_yes checks opens J s.host (frame_of s.bytes) t fetch is.2 all) rest

all_show : (checks : Checks) → OpensRight checks → (C R : Bool) (steps : List Step) (J : List Row) (ended : List (List ℕ)) (old new : Around) → AreSteps checks J ended steps → AllAsked C R J old steps new → AllSayYes old.panel → NoneFell new.panel
    → list_all says_yes (rows steps) ≡ true
all_show checks opens C R [] J ended old new are asked say none = refl
all_show checks opens C R (s ∷ steps) J ended old new are (mid, asked, others) say none =
    let stands : NoneFell mid.panel = λ name. omega (arith, steps_later C R steps (J ++ rows_decided s.decided) mid new others name, none name) in
    let one = calls_yes (step_calls s.host (frame_of s.bytes) s.decided asked.fetch) old.panel mid.panel asked.made say stands in
    told_yes checks opens J ended s s.decided asked.fetch are.0 one.1 (rows steps)
    (all_show checks opens C R steps (J ++ rows_decided s.decided) (ended_decided s.decided s.host ended) mid new are.1 others one.0 none)

pub steps_show : TrustingStepsShow
steps_show checks opens C R J ended old new steps are asked before behind =
    all_show checks opens C R steps J ended old new are asked (λ name. subst IsYes (sym (before name)) always_yes) (λ name. ap (λ (b : Authorities). b.fallen) (behind name))

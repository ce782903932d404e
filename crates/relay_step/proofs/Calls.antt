-- The calls that were made about an event are those that its row shows.
use Rattle.std.proofs.Common.{◌≡◌, ℕ, ◌⊎◌, inl, inr, ⊎_elim, Bool, true, false, not, ◌&&◌, ◌||◌, cond, List, [], ◌∷◌, ◌++◌, Option, Some, None, Result, Ok, Err, refl, sym, subst}
use Rattle.std.specs.Prelude.{◌==◌, nat_lt, option_map}
use Rattle.std.specs.List.{list_all}
use Rattle.std.proofs.lemmas.Bool.{and_parts}
use Rattle.at_authority.specs.Calls.{answers, refreshes}
use Rattle.at_authority.specs.Queries.{asks_home}
use Rattle.at_event.specs.Refusals.{code_of}
use Rattle.at_event.specs.Seen.{Seen}
use Rattle.at_event.specs.Writing.{out_length}
use Rattle.at_event.specs.declared.event.Body.{Body}
use Rattle.at_event.specs.declared.head.Head.{Head}
use Rattle.at_event.specs.declared.refusal.Refusal.{Refusal}
use Rattle.event_checks.specs.Lines.{first_of}
use Rattle.event_checks.specs.Lines as checked
use Rattle.event_checks.specs.Table.{open_lines, sync_lines}
use Rattle.account_state.specs.Folds.{last_rev}
use Rattle.account_state.specs.State.{State}
use Rattle.relay_core.specs.Decide.{when, is_ahead, refusal_in}
use Rattle.relay_core.specs.Opening.{shown_alone}
use Rattle.relay_core.specs.Shown.{shows_home, shows_verdict}
use Rattle.relay_core.specs.Table.{TableLine, told, asked, Walk, waits, refuses, passes, walk, link_line, repo_lines, body_lines, event_lines}
use Rattle.relay_core.specs.declared.answers.Answers.{Answers}
use Rattle.relay_core.specs.declared.answers.Question.{Question}
use Rattle.relay_core.specs.declared.limits.TheConstants.{LONGEST_MESSAGE}
use Rattle.relay_step.specs.Asked.{asks_for_home, asks_for_verdict, home_calls, refresh_calls, signed_by, verdict_call, verdict_calls}
use Rattle.relay_step.specs.Questions.{IsJudgedLate, IsRenewedFirst, IsTidy, SkippedBefore, calls_told, home_told, is_unlinked, length_line, refresh_told, verdict_told}

-- where going down the table ends: at a refusal, or at its end
abbrev pub ended : Option Refusal → Walk
ended None = passes
ended (Some r) = refuses r

waits_on : (q : Question) (r : Option Refusal) → waits q ≡ ended r → ⊥
waits_on q None h = cc
waits_on q (Some r) h = cc

refuses_as : (q : Refusal) (r : Option Refusal) → refuses q ≡ ended r → r ≡ Some q
refuses_as q None h = absurd cc
refuses_as q (Some r) h = cc

passes_as : (r : Option Refusal) → passes ≡ ended r → r ≡ None
passes_as None h = refl
passes_as (Some r) h = absurd cc

none_some : {A : Type 0} (x : A) → None ≡ Some x → ⊥
none_some x h = absurd cc

some_none : {A : Type 0} (x : A) → Some x ≡ None → ⊥
some_none x h = absurd cc

-- ---- refusals

-- a refusal that an event shows by itself: the home was asked for, and the signature wasn't
record IsAlone (r : Refusal) : Type 0 where
  home : asks_for_home (Some r) ≡ true
  shows : shows_home (Some r) ≡ true
  verdict : asks_for_verdict (Some r) ≡ false

is_alone : Refusal → Bool
is_alone r = asks_for_home (Some r) && (shows_home (Some r) && not (asks_for_verdict (Some r)))

first_passing : (p : Refusal → Bool) (lines : List checked.RefusalLine) → list_all (λ line. p line.0) lines ≡ true → (r : Refusal) → first_of lines ≡ Some r → p r ≡ true
first_passing p [] all r h = absurd cc
first_passing p (line ∷ lines) all r h =
    let both = and_parts (p line.0) (list_all (λ line. p line.0) lines) all in
    elim line.1 as (λ b. cond b (Some line.0) (first_of lines) ≡ Some r → p r ≡ true) [
      | true ↦ λ g. let same : line.0 ≡ r = cc in let P : Refusal → Type 0 = λ q. p q ≡ true in subst P same both.0
      | false ↦ first_passing p lines both.1 r
    ] h

not_true : (b : Bool) → not b ≡ true → b ≡ false
not_true true h = absurd cc
not_true false h = refl

shown_passes : (body : Body) (last : Option ℕ) (r : Refusal) → shown_alone body last ≡ Some r → is_alone r ≡ true
unfolding is_alone
shown_passes (Body.Commit c) last r h = first_passing is_alone (open_lines c last) refl r h
shown_passes (Body.Sync s) last r h = first_passing is_alone (sync_lines s last) refl r h
shown_passes Body.Identity last r h = absurd cc
shown_passes (Body.Account b) last r h = absurd cc

alone : (body : Body) (last : Option ℕ) (r : Refusal) → shown_alone body last ≡ Some r → IsAlone r
unfolding is_alone
alone body last r h =
    let both = and_parts (asks_for_home (Some r)) (shows_home (Some r) && not (asks_for_verdict (Some r))) (shown_passes body last r h) in
    let others = and_parts (shows_home (Some r)) (not (asks_for_verdict (Some r))) both.1 in
    record { home = both.0; shows = others.0; verdict = not_true (asks_for_verdict (Some r)) others.1 }

-- behind the signature: it was asked for, and was good
record IsBehind (r : Option Refusal) : Type 0 where
  home : asks_for_home r ≡ true
  shows : shows_home r ≡ true
  verdict : asks_for_verdict r ≡ true
  good : shows_verdict r ≡ true

accepted_behind : IsBehind None
accepted_behind = record { home = refl; shows = refl; verdict = refl; good = refl }

or_true : (a b : Bool) → b ≡ true → (a || b) ≡ true
or_true true b h = refl
or_true false b h = h

unlinked_behind : (r : Refusal) → is_unlinked r ≡ true → IsBehind (Some r)
unlinked_behind Refusal.NotHome h = absurd cc
unlinked_behind Refusal.BadSignature h = absurd cc
unlinked_behind Refusal.TooLong h = absurd cc
unlinked_behind r h = record { home = refl; shows = refl; verdict = or_true (code_of r == 18) (is_unlinked r) h; good = refl }

-- ---- the calls of a commit or a sync

module _ (e : Seen) (host : List ℕ) where
  abbrev Shows : Option Bool → Option Bool → Option Refusal → Type 0
  Shows home verdict r = home_told e.did host home ++ verdict_told e verdict ≡ cond (asks_for_home r) (answers (asks_home e.did host) (shows_home r) ∷ []) [] ++ verdict_calls e r

  alone_shows : (r : Refusal) → IsAlone r → Shows (Some true) None (Some r)
  alone_shows r is = rw (is.home, is.shows, is.verdict) refl

  behind_shows : (r : Option Refusal) → IsBehind r → Shows (Some true) (Some true) r
  behind_shows r is = rw (is.home, is.shows, is.verdict, is.good) refl

  shows_as : (home verdict : Option Bool) (v : Option Bool) (q r : Option Refusal) → verdict ≡ v → r ≡ q → Shows home v q → Shows home verdict r
  shows_as home verdict v q r one two h =
      let P : Option Bool → Type 0 = λ w. Shows home w r in
      let Q : Option Refusal → Type 0 = λ s. Shows home v s in
      subst P (sym one) (subst Q (sym two) h)

  module _ (others : List TableLine) (behind : (r : Option Refusal) → walk others ≡ ended r → IsBehind r) where
    abbrev Lines : Bool → Option Bool → Bool → Bool → Option (Result Head Refusal) → Bool → Option Bool → List TableLine
    Lines l home i d opened u verdict =
        told (when l Refusal.TooLong) ∷ asked Question.Home (option_map (λ yes. when (not yes) Refusal.NotHome) home) ∷ told (when i Refusal.Inactive) ∷ told (when d Refusal.TakenDown)
        ∷ asked Question.Open (option_map refusal_in opened) ∷ told (when u Refusal.FutureRev) ∷ asked Question.Verdict (option_map (λ good. when (not good) Refusal.BadSignature) verdict) ∷ others

    -- the signature wasn't asked for, or all before it passed
    record Late (home : Option Bool) (i d : Bool) (opened : Option (Result Head Refusal)) (u : Bool) : Type 0 where
      home_is : home ≡ Some true
      active : when i Refusal.Inactive ≡ None
      up : when d Refusal.TakenDown ≡ None
      head : Head
      opened_is : opened ≡ Some (Ok head)
      near : when u Refusal.FutureRev ≡ None

    repo_calls : (l : Bool) (home : Option Bool) (i d : Bool) (opened : Option (Result Head Refusal)) (u : Bool) (verdict : Option Bool) (r : Option Refusal)
        → (when l Refusal.TooLong ≡ None) ⊎ ((home ≡ None) × (verdict ≡ None)) → (verdict ≡ None) ⊎ Late home i d opened u → ((q : Refusal) → opened ≡ Some (Err q) → IsAlone q)
        → walk (Lines l home i d opened u verdict) ≡ ended r → Shows home verdict r
    repo_calls true home i d opened u verdict r (inl s) late fine h = absurd (some_none Refusal.TooLong s)
    repo_calls true home i d opened u verdict r (inr n) late fine h =
        let P : Option Bool → Type 0 = λ o. Shows o verdict r in
        subst P (sym n.0) (shows_as None verdict None (Some Refusal.TooLong) r n.1 (refuses_as Refusal.TooLong r h) refl)
    repo_calls false None i d opened u verdict r short late fine h = absurd (waits_on Question.Home r h)
    repo_calls false (Some false) i d opened u verdict r short (inl v) fine h = shows_as (Some false) verdict None (Some Refusal.NotHome) r v (refuses_as Refusal.NotHome r h) refl
    repo_calls false (Some false) i d opened u verdict r short (inr late) fine h = let no = late.home_is in absurd cc
    repo_calls false (Some true) true d opened u verdict r short (inl v) fine h = shows_as (Some true) verdict None (Some Refusal.Inactive) r v (refuses_as Refusal.Inactive r h) refl
    repo_calls false (Some true) true d opened u verdict r short (inr late) fine h = absurd (some_none Refusal.Inactive late.active)
    repo_calls false (Some true) false true opened u verdict r short (inl v) fine h = shows_as (Some true) verdict None (Some Refusal.TakenDown) r v (refuses_as Refusal.TakenDown r h) refl
    repo_calls false (Some true) false true opened u verdict r short (inr late) fine h = absurd (some_none Refusal.TakenDown late.up)
    repo_calls false (Some true) false false None u verdict r short late fine h = absurd (waits_on Question.Open r h)
    repo_calls false (Some true) false false (Some (Err q)) u verdict r short (inl v) fine h = shows_as (Some true) verdict None (Some q) r v (refuses_as q r h) (alone_shows q (fine q refl))
    repo_calls false (Some true) false false (Some (Err q)) u verdict r short (inr late) fine h = let no = late.opened_is in absurd cc
    repo_calls false (Some true) false false (Some (Ok head)) true verdict r short (inl v) fine h = shows_as (Some true) verdict None (Some Refusal.FutureRev) r v (refuses_as Refusal.FutureRev r h) refl
    repo_calls false (Some true) false false (Some (Ok head)) true verdict r short (inr late) fine h = absurd (some_none Refusal.FutureRev late.near)
    repo_calls false (Some true) false false (Some (Ok head)) false None r short late fine h = absurd (waits_on Question.Verdict r h)
    repo_calls false (Some true) false false (Some (Ok head)) false (Some false) r short late fine h =
        shows_as (Some true) (Some false) (Some false) (Some Refusal.BadSignature) r refl (refuses_as Refusal.BadSignature r h) refl
    repo_calls false (Some true) false false (Some (Ok head)) false (Some true) r short late fine h = behind_shows r (behind r h)

  -- ---- the calls of an identity and of an account

  abbrev IdentityMade : Bool → Option Bool → Option Refusal → Type 0
  IdentityMade refreshed home r = refresh_told e.did refreshed ++ (home_told e.did host home ++ []) ≡ cond (asks_for_home r) (refreshes e.did ∷ answers (asks_home e.did host) (shows_home r) ∷ []) [] ++ cond (asks_for_verdict r) [] []

  as_made : (refreshed : Bool) (home : Option Bool) (q r : Option Refusal) → r ≡ q → IdentityMade refreshed home q → IdentityMade refreshed home r
  as_made refreshed home q r same h = let P : Option Refusal → Type 0 = λ s. IdentityMade refreshed home s in subst P (sym same) h

  identity_made : (l refreshed : Bool) (home : Option Bool) (d : Bool) (r : Option Refusal) → (when l Refusal.TooLong ≡ None) ⊎ ((refreshed ≡ false) × (home ≡ None))
      → walk (told (when l Refusal.TooLong) ∷ asked Question.Refresh (cond refreshed (Some None) None) ∷ asked Question.Home (option_map (λ yes. when (not yes) Refusal.NotHome) home) ∷ told (when d Refusal.TakenDown) ∷ []) ≡ ended r
      → IdentityMade refreshed home r
  identity_made true refreshed home d r (inl s) h = absurd (some_none Refusal.TooLong s)
  identity_made true refreshed home d r (inr n) h =
      let P : Bool → Type 0 = λ b. IdentityMade b home r in
      let Q : Option Bool → Type 0 = λ o. IdentityMade false o r in
      subst P (sym n.0) (subst Q (sym n.1) (as_made false None (Some Refusal.TooLong) r (refuses_as Refusal.TooLong r h) refl))
  identity_made false false home d r short h = absurd (waits_on Question.Refresh r h)
  identity_made false true None d r short h = absurd (waits_on Question.Home r h)
  identity_made false true (Some false) d r short h = as_made true (Some false) (Some Refusal.NotHome) r (refuses_as Refusal.NotHome r h) refl
  identity_made false true (Some true) true r short h = as_made true (Some true) (Some Refusal.TakenDown) r (refuses_as Refusal.TakenDown r h) refl
  identity_made false true (Some true) false r short h = as_made true (Some true) None r (passes_as r h) refl

  identity_calls : (l refreshed : Bool) (home : Option Bool) (d : Bool) (verdict : Option Bool) (r : Option Refusal) → (when l Refusal.TooLong ≡ None) ⊎ ((refreshed ≡ false) × (home ≡ None)) → verdict ≡ None → e.body ≡ Body.Identity
      → walk (told (when l Refusal.TooLong) ∷ asked Question.Refresh (cond refreshed (Some None) None) ∷ asked Question.Home (option_map (λ yes. when (not yes) Refusal.NotHome) home) ∷ told (when d Refusal.TakenDown) ∷ []) ≡ ended r
      → refresh_told e.did refreshed ++ (home_told e.did host home ++ verdict_told e verdict) ≡ home_calls host e r ++ verdict_calls e r
  identity_calls l refreshed home d verdict r short none body h =
      let P : Body → Type 0 = λ b. refresh_told e.did refreshed ++ (home_told e.did host home ++ verdict_told e verdict)
      ≡ cond (asks_for_home r) (refresh_calls e b ++ answers (asks_home e.did host) (shows_home r) ∷ []) [] ++ cond (asks_for_verdict r) (verdict_call e.did (signed_by b) (shows_verdict r)) [] in
      let Q : Option Bool → Type 0 = λ v. refresh_told e.did refreshed ++ (home_told e.did host home ++ verdict_told e v)
      ≡ cond (asks_for_home r) (refreshes e.did ∷ answers (asks_home e.did host) (shows_home r) ∷ []) [] ++ cond (asks_for_verdict r) [] [] in
      subst P (sym body) (subst Q (sym none) (identity_made l refreshed home d r short h))

  account_calls : (l : Bool) (home : Option Bool) (r : Option Refusal) → (when l Refusal.TooLong ≡ None) ⊎ (home ≡ None)
      → walk (told (when l Refusal.TooLong) ∷ asked Question.Home (option_map (λ yes. when (not yes) Refusal.NotHome) home) ∷ []) ≡ ended r
      → home_told e.did host home ++ [] ≡ cond (asks_for_home r) (answers (asks_home e.did host) (shows_home r) ∷ []) [] ++ cond (asks_for_verdict r) [] []
  account_calls true home r (inl s) h = absurd (some_none Refusal.TooLong s)
  account_calls true home r (inr n) h = rw (n, refuses_as Refusal.TooLong r h) refl
  account_calls false None r short h = absurd (waits_on Question.Home r h)
  account_calls false (Some false) r short h = rw (refuses_as Refusal.NotHome r h) refl
  account_calls false (Some true) r short h = rw (passes_as r h) refl

-- ---- of an event

link_behind : (linked : Option (Result (Unit {0}) Refusal)) → ((q : Refusal) → linked ≡ Some (Err q) → is_unlinked q ≡ true) → (r : Option Refusal) → walk (asked Question.Link (option_map refusal_in linked) ∷ []) ≡ ended r → IsBehind r
link_behind None fine r h = absurd (waits_on Question.Link r h)
link_behind (Some (Ok u)) fine r h = let P : Option Refusal → Type 0 = λ s. IsBehind s in subst P (sym (passes_as r h)) accepted_behind
link_behind (Some (Err q)) fine r h = let P : Option Refusal → Type 0 = λ s. IsBehind s in subst P (sym (refuses_as q r h)) (unlinked_behind q (fine q refl))

end_behind : (r : Option Refusal) → walk [] ≡ ended r → IsBehind r
end_behind r h = let P : Option Refusal → Type 0 = λ s. IsBehind s in subst P (sym (passes_as r h)) accepted_behind

past_moment : (m : Option ℕ) (lines : List TableLine) (r : Option Refusal) → walk (asked Question.Moment (option_map (λ moment. None) m) ∷ lines) ≡ ended r → ((moment : ℕ) × (m ≡ Some moment)) × (walk lines ≡ ended r)
past_moment None lines r h = absurd (waits_on Question.Moment r h)
past_moment (Some moment) lines r h = ((moment, refl), h)

pub moment_there : (a : State) (e : Seen) (x : Answers) (r : Option Refusal) → walk (event_lines a e x) ≡ ended r → (moment : ℕ) × (x.moment ≡ Some moment)
moment_there a e x r h = (past_moment x.moment _ r h).0

module _ (a : State) (host : List ℕ) (e : Seen) (x : Answers) (tidy : IsTidy a e x) (opened : (q : Refusal) → x.opened ≡ Some (Err q) → shown_alone e.body (last_rev a.repo) ≡ Some q)
    (linked : (q : Refusal) → x.linked ≡ Some (Err q) → is_unlinked q ≡ true) where
  short_two : (length_line e ≡ None) ⊎ ((x.home ≡ None) × (x.verdict ≡ None))
  short_two = ⊎_elim (λ s. inl s) (λ n. inr (n.home, n.verdict)) tidy.short

  unrenewed : (r : Option Refusal) → x.refreshed ≡ false → Shows e host x.home x.verdict r → calls_told host e x ≡ cond (asks_for_home r) (answers (asks_home e.did host) (shows_home r) ∷ []) [] ++ verdict_calls e r
  unrenewed r none h =
      let P : Bool → Type 0 = λ b. refresh_told e.did b ++ (home_told e.did host x.home ++ verdict_told e x.verdict) ≡ cond (asks_for_home r) (answers (asks_home e.did host) (shows_home r) ∷ []) [] ++ verdict_calls e r in
      subst P (sym none) h

  repo_shown : (rev : ℕ) (others : List TableLine) (r : Option Refusal) → ((r : Option Refusal) → walk others ≡ ended r → IsBehind r) → (x.verdict ≡ None) ⊎ SkippedBefore a e rev x
      → walk (told (length_line e) ∷ repo_lines a rev x others) ≡ ended r → Shows e host x.home x.verdict r
  repo_shown rev others r behind late h =
      repo_calls e host others behind (nat_lt LONGEST_MESSAGE (out_length e)) x.home (not a.active) a.down x.opened (is_ahead rev x.moment) x.verdict r short_two
      (⊎_elim (λ v. inl v) (λ p. inr (record { home_is = p.home; active = p.active; up = p.up; head = p.head; opened_is = p.opened; near = p.near })) late)
      (λ q is. alone e.body (last_rev a.repo) q (opened q is)) h

  late_at : (body : Body) → e.body ≡ body → IsJudgedLate a e body x
  late_at body is = let P : Body → Type 0 = λ b. IsJudgedLate a e b x in subst P is tidy.late

  renewed_at : (body : Body) → e.body ≡ body → IsRenewedFirst body x
  renewed_at body is = let P : Body → Type 0 = λ b. IsRenewedFirst b x in subst P is tidy.renewed

  abbrev Made : Option Refusal → Body → Type 0
  Made r b = calls_told host e x ≡ cond (asks_for_home r) (refresh_calls e b ++ answers (asks_home e.did host) (shows_home r) ∷ []) [] ++ verdict_calls e r

  by_body : (body : Body) (r : Option Refusal) → e.body ≡ body → walk (told (length_line e) ∷ body_lines a body x) ≡ ended r → calls_told host e x ≡ home_calls host e r ++ verdict_calls e r
  by_body (Body.Commit c) r is h =
      let P : Body → Type 0 = λ b. Made r b in
      subst P (sym is) (unrenewed r (renewed_at (Body.Commit c) is) (repo_shown c.rev (link_line x ∷ []) r (link_behind x.linked linked) (late_at (Body.Commit c) is) h))
  by_body (Body.Sync s) r is h =
      let P : Body → Type 0 = λ b. Made r b in
      subst P (sym is) (unrenewed r (renewed_at (Body.Sync s) is) (repo_shown s.rev [] r end_behind (late_at (Body.Sync s) is) h))
  by_body Body.Identity r is h =
      identity_calls e host (nat_lt LONGEST_MESSAGE (out_length e)) x.refreshed x.home a.down x.verdict r (⊎_elim (λ s. inl s) (λ n. inr (n.refreshed, n.home)) tidy.short) (late_at Body.Identity is) is h
  by_body (Body.Account b) r is h =
      let none = late_at (Body.Account b) is in
      let calls = account_calls e host (nat_lt LONGEST_MESSAGE (out_length e)) x.home r (⊎_elim (λ s. inl s) (λ n. inr n.home) tidy.short) h in
      let Q : Option Bool → Type 0 = λ v. home_told e.did host x.home ++ verdict_told e v ≡ cond (asks_for_home r) (answers (asks_home e.did host) (shows_home r) ∷ []) [] ++ cond (asks_for_verdict r) [] [] in
      let R : Body → Type 0 = λ k. home_told e.did host x.home ++ verdict_told e x.verdict ≡ cond (asks_for_home r) (answers (asks_home e.did host) (shows_home r) ∷ []) [] ++ cond (asks_for_verdict r) (verdict_call e.did (signed_by k) (shows_verdict r)) [] in
      let P : Body → Type 0 = λ k. Made r k in
      subst P (sym is) (unrenewed r (renewed_at (Body.Account b) is) (subst R (sym is) (subst Q (sym none) calls)))

  -- the calls are those that the row of the refusal shows
  pub calls_shown : (r : Option Refusal) → walk (event_lines a e x) ≡ ended r → calls_told host e x ≡ home_calls host e r ++ verdict_calls e r
  calls_shown r h = by_body e.body r refl (past_moment x.moment _ r h).1

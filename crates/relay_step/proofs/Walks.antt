-- How far the table of an event was gone down, by what is asked next of it.
use Rattle.std.proofs.Common.{◌≡◌, ℕ, Bool, true, false, not, cond, List, [], ◌∷◌, Option, Some, None, Result, Ok, Err, refl, ap}
use Rattle.std.specs.Prelude.{nat_le, option_map}
use Rattle.at_event.specs.Refusals.{code_of}
use Rattle.at_event.specs.Seen.{Seen}
use Rattle.at_event.specs.declared.event.Body.{Body}
use Rattle.at_event.specs.declared.frame.Frame.{Frame}
use Rattle.at_event.specs.declared.head.Head.{Head}
use Rattle.at_event.specs.declared.refusal.Refusal.{Refusal}
use Rattle.relay_row.specs.Rules.{loses}
use Rattle.relay_row.specs.declared.fetched.Fetched.{Fetched}
use Rattle.account_state.specs.State.{State}
use Rattle.relay_core.specs.Decide.{when, is_ahead, refusal_in}
use Rattle.relay_core.specs.Table.{TableLine, told, asked, Walk, waits, refuses, passes, walk, open_line, verdict_line, link_line, repo_lines, body_lines, event_lines, next_at, next_of, after_fetch}
use Rattle.relay_core.specs.declared.answers.Answers.{Answers}
use Rattle.relay_core.specs.declared.answers.Question.{Question}
use Rattle.relay_core.specs.declared.decision.Next.{Next}
use Rattle.relay_core.specs.declared.decision.Pass.{Pass}
use Rattle.relay_step.specs.Questions.{SkippedBefore, is_commit, length_line}
use Rattle.at_event.specs.Bodies.{has_blocks}

-- ---- what is next, by the walk

fetch_asked : (r : Refusal) (f : Option Fetched) (q : Question) → after_fetch r f ≡ Next.Ask q → q ≡ Question.Fetch
fetch_asked r None q h = cc
fetch_asked r (Some Fetched.NotAsked) q h = absurd cc
fetch_asked r (Some Fetched.Absent) q h = absurd cc
fetch_asked r (Some (Fetched.Refused n)) q h = absurd cc
fetch_asked r (Some (Fetched.Whole w)) q h = absurd cc

refused_asked : (b : Bool) (r : Refusal) (f : Option Fetched) (q : Question) → cond b (after_fetch r f) (Next.Done (record { refusal = Some r; held = false; gives = false })) ≡ Next.Ask q → q ≡ Question.Fetch
refused_asked true r f q h = fetch_asked r f q h
refused_asked false r f q h = absurd cc

at_waits : (w : Walk) (a : State) (body : Body) (f : Option Fetched) (q : Question) → (q ≡ Question.Fetch → ⊥) → next_at w a body f ≡ Next.Ask q → w ≡ waits q
at_waits (waits p) a body f q other h = cc
at_waits (refuses r) a body f q other h = absurd (other (refused_asked (loses (code_of r)) r f q h))
at_waits passes a body f q other h = absurd cc

-- an event of which anything is asked stands above its host's cursor
pub asked_above : (cursor : ℕ) (a : State) (e : Seen) (x : Answers) (q : Question) → next_of cursor a (Frame.Event e) x ≡ Next.Ask q → (nat_le e.seq cursor ≡ false) × (next_at (walk (event_lines a e x)) a e.body x.fetched ≡ Next.Ask q)
asked_above cursor a e x q =
    elim (nat_le e.seq cursor) as (λ b. cond b (Next.Pass Pass.Old) (next_at (walk (event_lines a e x)) a e.body x.fetched) ≡ Next.Ask q → (b ≡ false) × (next_at (walk (event_lines a e x)) a e.body x.fetched ≡ Next.Ask q)) [
      | true ↦ λ h. absurd cc
      | false ↦ λ h. (refl, h)
    ]

pub event_waits : (cursor : ℕ) (a : State) (e : Seen) (x : Answers) (q : Question) → (q ≡ Question.Fetch → ⊥) → next_of cursor a (Frame.Event e) x ≡ Next.Ask q → walk (event_lines a e x) ≡ waits q
event_waits cursor a e x q other h = at_waits (walk (event_lines a e x)) a e.body x.fetched q other (asked_above cursor a e x q h).1

-- ---- one line

past_moment : (m : Option ℕ) (lines : List TableLine) (q : Question) → (q ≡ Question.Moment → ⊥) → walk (asked Question.Moment (option_map (λ moment. None) m) ∷ lines) ≡ waits q → ((moment : ℕ) × (m ≡ Some moment)) × (walk lines ≡ waits q)
past_moment None lines q other h = absurd (other cc)
past_moment (Some moment) lines q other h = ((moment, refl), h)

past_told : (o : Option Refusal) (lines : List TableLine) (q : Question) → walk (told o ∷ lines) ≡ waits q → (o ≡ None) × (walk lines ≡ waits q)
past_told None lines q h = (refl, h)
past_told (Some r) lines q h = absurd cc

past_refresh : (b : Bool) (lines : List TableLine) (q : Question) → (q ≡ Question.Refresh → ⊥) → walk (asked Question.Refresh (cond b (Some None) None) ∷ lines) ≡ waits q → (b ≡ true) × (walk lines ≡ waits q)
past_refresh true lines q other h = (refl, h)
past_refresh false lines q other h = absurd (other cc)

past_home : (o : Option Bool) (lines : List TableLine) (q : Question) → (q ≡ Question.Home → ⊥) → walk (asked Question.Home (option_map (λ yes. when (not yes) Refusal.NotHome) o) ∷ lines) ≡ waits q → (o ≡ Some true) × (walk lines ≡ waits q)
past_home None lines q other h = absurd (other cc)
past_home (Some true) lines q other h = (refl, h)
past_home (Some false) lines q other h = absurd cc

past_open : (o : Option (Result Head Refusal)) (lines : List TableLine) (q : Question) → (q ≡ Question.Open → ⊥) → walk (asked Question.Open (option_map refusal_in o) ∷ lines) ≡ waits q → ((head : Head) × (o ≡ Some (Ok head))) × (walk lines ≡ waits q)
past_open None lines q other h = absurd (other cc)
past_open (Some (Ok head)) lines q other h = ((head, refl), h)
past_open (Some (Err r)) lines q other h = absurd cc

past_verdict : (o : Option Bool) (lines : List TableLine) (q : Question) → (q ≡ Question.Verdict → ⊥) → walk (asked Question.Verdict (option_map (λ good. when (not good) Refusal.BadSignature) o) ∷ lines) ≡ waits q → (o ≡ Some true) × (walk lines ≡ waits q)
past_verdict None lines q other h = absurd (other cc)
past_verdict (Some true) lines q other h = (refl, h)
past_verdict (Some false) lines q other h = absurd cc

past_link : (o : Option (Result (Unit {0}) Refusal)) (lines : List TableLine) (q : Question) → (q ≡ Question.Link → ⊥) → walk (asked Question.Link (option_map refusal_in o) ∷ lines) ≡ waits q → walk lines ≡ waits q
past_link None lines q other h = absurd (other cc)
past_link (Some (Ok u)) lines q other h = h
past_link (Some (Err r)) lines q other h = absurd cc

-- ---- the lines of a commit or a sync

-- what is asked of them waits at one of these
record AtRepo (a : State) (rev : ℕ) (x : Answers) (others : List TableLine) (q : Question) : Type 0 where
  home : (q ≡ Question.Home → ⊥) → x.home ≡ Some true
  active : (q ≡ Question.Home → ⊥) → when (not a.active) Refusal.Inactive ≡ None
  up : (q ≡ Question.Home → ⊥) → when a.down Refusal.TakenDown ≡ None
  opened : (q ≡ Question.Home → ⊥) → (q ≡ Question.Open → ⊥) → (head : Head) × (x.opened ≡ Some (Ok head))
  near : (q ≡ Question.Home → ⊥) → (q ≡ Question.Open → ⊥) → when (is_ahead rev x.moment) Refusal.FutureRev ≡ None
  behind : (q ≡ Question.Home → ⊥) → (q ≡ Question.Open → ⊥) → (q ≡ Question.Verdict → ⊥) → walk others ≡ waits q

module _ (a : State) (rev : ℕ) (x : Answers) (others : List TableLine) (q : Question) (h : walk (repo_lines a rev x others) ≡ waits q) where
  abbrev behind_up : List TableLine
  behind_up = open_line x ∷ told (when (is_ahead rev x.moment) Refusal.FutureRev) ∷ verdict_line x ∷ others

  abbrev behind_home : List TableLine
  behind_home = told (when (not a.active) Refusal.Inactive) ∷ told (when a.down Refusal.TakenDown) ∷ behind_up

  past_first : (q ≡ Question.Home → ⊥) → (x.home ≡ Some true) × (walk behind_home ≡ waits q)
  past_first home = past_home x.home behind_home q home h

  past_active : (q ≡ Question.Home → ⊥) → (when (not a.active) Refusal.Inactive ≡ None) × (walk (told (when a.down Refusal.TakenDown) ∷ behind_up) ≡ waits q)
  past_active home = past_told (when (not a.active) Refusal.Inactive) (told (when a.down Refusal.TakenDown) ∷ behind_up) q (past_first home).1

  past_up : (q ≡ Question.Home → ⊥) → (when a.down Refusal.TakenDown ≡ None) × (walk behind_up ≡ waits q)
  past_up home = past_told (when a.down Refusal.TakenDown) behind_up q (past_active home).1

  past_opened : (q ≡ Question.Home → ⊥) → (q ≡ Question.Open → ⊥) → ((head : Head) × (x.opened ≡ Some (Ok head))) × (walk (told (when (is_ahead rev x.moment) Refusal.FutureRev) ∷ verdict_line x ∷ others) ≡ waits q)
  past_opened home opened = past_open x.opened (told (when (is_ahead rev x.moment) Refusal.FutureRev) ∷ verdict_line x ∷ others) q opened (past_up home).1

  past_near : (q ≡ Question.Home → ⊥) → (q ≡ Question.Open → ⊥) → (when (is_ahead rev x.moment) Refusal.FutureRev ≡ None) × (walk (verdict_line x ∷ others) ≡ waits q)
  past_near home opened = past_told (when (is_ahead rev x.moment) Refusal.FutureRev) (verdict_line x ∷ others) q (past_opened home opened).1

  at_repo : AtRepo a rev x others q
  at_repo = record {
    home = λ home. (past_first home).0;
    active = λ home. (past_active home).0;
    up = λ home. (past_up home).0;
    opened = λ home opened. (past_opened home opened).0;
    near = λ home opened. (past_near home opened).0;
    behind = λ home opened verdict. (past_verdict x.verdict others q verdict (past_near home opened).1).1;
  }

-- ---- what is known where a question is asked

-- behind the moment
pub record AtBody (a : State) (e : Seen) (x : Answers) (q : Question) : Type 0 where
  pub moment : (moment : ℕ) × (x.moment ≡ Some moment)
  pub short : length_line e ≡ None
  pub waits_at : walk (body_lines a e.body x) ≡ waits q

pub at_body : (a : State) (e : Seen) (x : Answers) (q : Question) → (q ≡ Question.Moment → ⊥) → walk (event_lines a e x) ≡ waits q → AtBody a e x q
at_body a e x q other h =
    let past = past_moment x.moment _ q other h in
    let behind = past_told (length_line e) (body_lines a e.body x) q past.1 in
    record { moment = past.0; short = behind.0; waits_at = behind.1 }

-- the home of an identity is asked for behind its refresh
pub home_renewed : (a : State) (body : Body) (x : Answers) → walk (body_lines a body x) ≡ waits Question.Home → body ≡ Body.Identity → x.refreshed ≡ true
home_renewed a (Body.Commit c) x h is = absurd cc
home_renewed a (Body.Sync s) x h is = absurd cc
home_renewed a Body.Identity x h is = (past_refresh x.refreshed _ Question.Home (λ e. absurd cc) h).0
home_renewed a (Body.Account b) x h is = absurd cc

-- an identity alone is looked up anew
pub identity_asked : (a : State) (body : Body) (x : Answers) → walk (body_lines a body x) ≡ waits Question.Refresh → body ≡ Body.Identity
identity_asked a (Body.Commit c) x h =
    let at = at_repo a c.rev x (link_line x ∷ []) Question.Refresh h in
    let end = past_link x.linked [] Question.Refresh (λ e. absurd cc) (at.behind (λ e. absurd cc) (λ e. absurd cc) (λ e. absurd cc)) in
    absurd cc
identity_asked a (Body.Sync s) x h =
    let at = at_repo a s.rev x [] Question.Refresh h in
    let end = at.behind (λ e. absurd cc) (λ e. absurd cc) (λ e. absurd cc) in
    absurd cc
identity_asked a Body.Identity x h = refl
identity_asked a (Body.Account b) x h = let end = (past_home x.home [] Question.Refresh (λ e. absurd cc) h).1 in absurd cc

-- blocks are asked of a commit or a sync alone
pub blocks_asked : (a : State) (body : Body) (x : Answers) (q : Question) → (q ≡ Question.Refresh → ⊥) → (q ≡ Question.Home → ⊥) → walk (body_lines a body x) ≡ waits q → has_blocks body ≡ true
blocks_asked a (Body.Commit c) x q refresh home h = refl
blocks_asked a (Body.Sync s) x q refresh home h = refl
blocks_asked a Body.Identity x q refresh home h =
    let end = (past_told (when a.down Refusal.TakenDown) [] q (past_home x.home _ q home (past_refresh x.refreshed _ q refresh h).1).1).1 in
    absurd cc
blocks_asked a (Body.Account b) x q refresh home h = let end = (past_home x.home [] q home h).1 in absurd cc

-- what stands before a signature, or the question of what a commit follows
abbrev pub IsSkippedBefore : State → Seen → Body → Answers → Type 0
IsSkippedBefore a e (Body.Commit c) x = SkippedBefore a e c.rev x
IsSkippedBefore a e (Body.Sync s) x = SkippedBefore a e s.rev x
IsSkippedBefore a e Body.Identity x = ⊥
IsSkippedBefore a e (Body.Account b) x = ⊥

skipped_repo : (a : State) (e : Seen) (rev : ℕ) (x : Answers) (others : List TableLine) (q : Question) → (q ≡ Question.Home → ⊥) → (q ≡ Question.Open → ⊥) → length_line e ≡ None → AtRepo a rev x others q → SkippedBefore a e rev x
skipped_repo a e rev x others q home opened short at =
    let head = at.opened home opened in
    record { short = short; home = at.home home; active = at.active home; up = at.up home; head = head.0; opened = head.1; near = at.near home opened }

pub skipped_before : (a : State) (e : Seen) (body : Body) (x : Answers) (q : Question) → (q ≡ Question.Refresh → ⊥) → (q ≡ Question.Home → ⊥) → (q ≡ Question.Open → ⊥) → length_line e ≡ None → walk (body_lines a body x) ≡ waits q → IsSkippedBefore a e body x
skipped_before a e (Body.Commit c) x q refresh home opened short h = skipped_repo a e c.rev x (link_line x ∷ []) q home opened short (at_repo a c.rev x (link_line x ∷ []) q h)
skipped_before a e (Body.Sync s) x q refresh home opened short h = skipped_repo a e s.rev x [] q home opened short (at_repo a s.rev x [] q h)
skipped_before a e Body.Identity x q refresh home opened short h = absurd (false_true (blocks_asked a Body.Identity x q refresh home h))
  where
    false_true : ◌≡◌ {A = Bool} false true → ⊥
    false_true e = absurd cc
skipped_before a e (Body.Account b) x q refresh home opened short h = absurd (false_true (blocks_asked a (Body.Account b) x q refresh home h))
  where
    false_true : ◌≡◌ {A = Bool} false true → ⊥
    false_true e = absurd cc

pub commit_asked : (a : State) (body : Body) (x : Answers) → walk (body_lines a body x) ≡ waits Question.Link → is_commit body ≡ true
commit_asked a (Body.Commit c) x h = refl
commit_asked a (Body.Sync s) x h =
    let at = at_repo a s.rev x [] Question.Link h in
    let end = at.behind (λ e. absurd cc) (λ e. absurd cc) (λ e. absurd cc) in
    absurd cc
commit_asked a Body.Identity x h = let none = blocks_asked a Body.Identity x Question.Link (λ e. absurd cc) (λ e. absurd cc) h in absurd cc
commit_asked a (Body.Account b) x h = let none = blocks_asked a (Body.Account b) x Question.Link (λ e. absurd cc) (λ e. absurd cc) h in absurd cc

-- ---- a fetch

never_fetch : (a : State) (body : Body) (x : Answers) → walk (body_lines a body x) ≡ waits Question.Fetch → ⊥
never_fetch a (Body.Commit c) x h =
    let at = at_repo a c.rev x (link_line x ∷ []) Question.Fetch h in
    let end = past_link x.linked [] Question.Fetch (λ e. absurd cc) (at.behind (λ e. absurd cc) (λ e. absurd cc) (λ e. absurd cc)) in
    absurd cc
never_fetch a (Body.Sync s) x h =
    let at = at_repo a s.rev x [] Question.Fetch h in
    let end = at.behind (λ e. absurd cc) (λ e. absurd cc) (λ e. absurd cc) in
    absurd cc
never_fetch a Body.Identity x h = let none = blocks_asked a Body.Identity x Question.Fetch (λ e. absurd cc) (λ e. absurd cc) h in absurd cc
never_fetch a (Body.Account b) x h = let none = blocks_asked a (Body.Account b) x Question.Fetch (λ e. absurd cc) (λ e. absurd cc) h in absurd cc

at_lost : (w : Walk) (a : State) (body : Body) (f : Option Fetched) → (w ≡ waits Question.Fetch → ⊥) → next_at w a body f ≡ Next.Ask Question.Fetch → (r : Refusal) × (w ≡ refuses r) × (loses (code_of r) ≡ true)
at_lost (waits p) a body f never h = let same : p ≡ Question.Fetch = cc in absurd (never (ap waits same))
at_lost (refuses r) a body f never h = (r, refl, by_loses (loses (code_of r)) h)
  where
    by_loses : (b : Bool) → cond b (after_fetch r f) (Next.Done (record { refusal = Some r; held = false; gives = false })) ≡ Next.Ask Question.Fetch → b ≡ true
    by_loses true h = refl
    by_loses false h = absurd cc
at_lost passes a body f never h = absurd cc

-- the refusal behind which a fetch is asked for
pub lost_walk : (a : State) (e : Seen) (x : Answers) → next_at (walk (event_lines a e x)) a e.body x.fetched ≡ Next.Ask Question.Fetch → (r : Refusal) × (walk (event_lines a e x) ≡ refuses r) × (loses (code_of r) ≡ true)
lost_walk a e x h = at_lost (walk (event_lines a e x)) a e.body x.fetched (λ w. never_fetch a e.body x (at_body a e x Question.Fetch (λ k. absurd cc) w).waits_at) h

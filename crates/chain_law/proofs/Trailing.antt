-- The account of a second relay trails that of the first, and what shows no refusal of the one shows none of the other.
use Rattle.std.proofs.Common.{◌≡◌, ◌≢◌, ℕ, Bool, true, false, not, List, [], ◌∷◌, Option, Some, None, Result, Ok, refl, sym, ap, ◌∙◌, subst}
use Rattle.std.specs.Prelude.{nat_lt}
use Rattle.at_event.specs.Refusals.{code_of}
use Rattle.at_event.specs.Seen.{Seen}
use Rattle.at_event.specs.Writing.{out_length}
use Rattle.at_event.specs.declared.event.Body.{Body}
use Rattle.at_event.specs.declared.head.Head.{Head}
use Rattle.at_event.specs.declared.refusal.Refusal.{Refusal}
use Rattle.relay_row.specs.Rules.{loses}
use Rattle.relay_row.specs.declared.taken.Effect.{Effect}
use Rattle.account_state.specs.Folds.{effected, last_rev}
use Rattle.account_state.specs.State.{State}
use Rattle.account_state.specs.declared.repo.Repo.{Repo}
use Rattle.relay_core.specs.Decide.{Checks, Outside, first_refusal, body_refusals, refusal_of, when, is_ahead, refusal_in, refusal_at}
use Rattle.relay_core.specs.Rows.{effect_of, head_effect}
use Rattle.relay_core.specs.declared.limits.TheConstants.{LONGEST_MESSAGE}
use Rattle.relay_core.proofs.Showing.{table}
use Rattle.relay_law.proofs.Answered.{told_ok}
use Rattle.chain_law.specs.Again.{Trails}
use Rattle.chain_law.proofs.Tables.{table_none, table_late, table_lost, short, short_none, short_late, short_lost, down_lost, alone, when_not, when_active}

pub good_trails : (a b : State) (head : Head) → Trails a b → Trails (record a { repo = Repo.Good head }) (record b { repo = Repo.Good head })
good_trails a b head t = record { active = t.active; up = t.up; rev = refl; repo = λ known. refl }

-- ---- what shows no refusal, but for the clock's

abbrev pub is_long : Seen → Bool
is_long e = nat_lt LONGEST_MESSAGE (out_length e)

pub record RepoShows (checks : Checks) (a : State) (e : Seen) : Type 0 where
  pub fits : is_long e ≡ false
  pub active : a.active ≡ true
  pub up : a.down ≡ false
  pub opened : refusal_in (checks.opens e (last_rev a.repo)) ≡ None

abbrev pub Shows : Checks → State → Seen → Body → Type 0
Shows checks a e (Body.Commit c) = RepoShows checks a e × (checks.links e a.repo ≡ None)
Shows checks a e (Body.Sync s) = RepoShows checks a e
Shows checks a e Body.Identity = (is_long e ≡ false) × (a.down ≡ false)
Shows checks a e (Body.Account b) = is_long e ≡ false

module _ (checks : Checks) (a : State) (e : Seen) (o : Outside) (m : Option ℕ) where
  abbrev too_long : Option Refusal
  too_long = when (is_long e) Refusal.TooLong

  abbrev opened : Option Refusal
  opened = refusal_in (checks.opens e (last_rev a.repo))

  abbrev linked : List (Option Refusal)
  linked = checks.links e a.repo ∷ []

  abbrev inactive : Option Refusal
  inactive = when (not a.active) Refusal.Inactive

  abbrev down : Option Refusal
  down = when a.down Refusal.TakenDown

  repo_shows : (u : Option Refusal) (others : List (Option Refusal)) → table too_long o.home inactive down opened u o.verdict others ≡ None → RepoShows checks a e × (first_refusal others ≡ None)
  repo_shows u others h =
      let parts = table_none too_long o.home inactive down opened u o.verdict others h in
      (record { fits = when_not (is_long e) Refusal.TooLong parts.0; active = when_active a.active Refusal.Inactive parts.1; up = when_not a.down Refusal.TakenDown parts.2; opened = parts.3 }, parts.4)

  body_shows : (body : Body) → first_refusal (too_long ∷ body_refusals checks a e body o m) ≡ None → Shows checks a e body
  body_shows (Body.Commit c) h =
      let both = repo_shows (when (is_ahead c.rev m) Refusal.FutureRev) linked h in
      (both.0, sym (alone (checks.links e a.repo)) ∙ both.1)
  body_shows (Body.Sync s) h = (repo_shows (when (is_ahead s.rev m) Refusal.FutureRev) [] h).0
  body_shows Body.Identity h =
      let parts = short_none too_long o.home (down ∷ []) h in
      (when_not (is_long e) Refusal.TooLong parts.0, when_not a.down Refusal.TakenDown (sym (alone down) ∙ parts.1))
  body_shows (Body.Account b) h = when_not (is_long e) Refusal.TooLong (short_none too_long o.home [] h).0

  -- an event that is accepted shows no refusal
  pub accepted_shows : refusal_at checks a e o m ≡ None → Shows checks a e e.body
  accepted_shows h = body_shows e.body h

  body_lost : (body : Body) (r : Refusal) → first_refusal (too_long ∷ body_refusals checks a e body o m) ≡ Some r → loses (code_of r) ≡ true → (a.active ≡ true) × (a.down ≡ false)
  body_lost (Body.Commit c) r h lost = table_lost (is_long e) o.home a.active a.down opened (when (is_ahead c.rev m) Refusal.FutureRev) o.verdict linked r h lost
  body_lost (Body.Sync s) r h lost = table_lost (is_long e) o.home a.active a.down opened (when (is_ahead s.rev m) Refusal.FutureRev) o.verdict [] r h lost
  body_lost Body.Identity r h lost = short_lost _ (is_long e) o.home (down ∷ []) r (down_lost _ a.down) h lost
  body_lost (Body.Account b) r h lost = short_lost _ (is_long e) o.home [] r (λ s no some. absurd cc) h lost

  -- one after which its account is lost is of an account that is active and not down
  pub lost_active : (r : Refusal) → refusal_at checks a e o m ≡ Some r → loses (code_of r) ≡ true → (a.active ≡ true) × (a.down ≡ false)
  lost_active r h lost = body_lost e.body r h lost

-- ---- what shows none is accepted by a relay that trusts, unless its clock refuses it

abbrev clock_or : Option Refusal → Type 0
clock_or u = u ≢ Some Refusal.FutureRev → u ≡ None

ahead_or : (b : Bool) → clock_or (when b Refusal.FutureRev)
ahead_or true not_so = absurd (not_so refl)
ahead_or false not_so = refl

unmet : (b : Bool) (r : Refusal) → b ≡ false → when b r ≡ None
unmet b r h = rw h refl

module _ (checks : Checks) (b : State) (e : Seen) (o : Outside) (home : o.home ≡ true) (verdict : o.verdict ≡ true) where
  abbrev body_refusal : Body → Option Refusal
  body_refusal body = first_refusal (when (is_long e) Refusal.TooLong ∷ body_refusals checks b e body o (Some o.moment))

  abbrev at_last : Bool → Bool → Option Refusal → List (Option Refusal) → Option Refusal
  at_last h v u others = table (when (is_long e) Refusal.TooLong) h (when (not b.active) Refusal.Inactive) (when b.down Refusal.TakenDown) (refusal_in (checks.opens e (last_rev b.repo))) u v others

  repo_passes : RepoShows checks b e → (ahead : Bool) (others : List (Option Refusal)) → first_refusal others ≡ None → clock_or (at_last o.home o.verdict (when ahead Refusal.FutureRev) others)
  repo_passes s ahead others none =
      let u = when ahead Refusal.FutureRev in
      let inactive = when (not b.active) Refusal.Inactive in
      let is : at_last o.home o.verdict u others ≡ u =
      ap (λ (h : Bool). at_last h o.verdict u others) home ∙ ap (λ (v : Bool). at_last true v u others) verdict
      ∙ table_late (when (is_long e) Refusal.TooLong) inactive (when b.down Refusal.TakenDown) (refusal_in (checks.opens e (last_rev b.repo))) u others
      (unmet (is_long e) Refusal.TooLong s.fits) (unmet (not b.active) Refusal.Inactive (ap not s.active)) (unmet b.down Refusal.TakenDown s.up) s.opened none in
      subst clock_or (sym is) (ahead_or ahead)

  body_passes : (body : Body) → Shows checks b e body → clock_or (body_refusal body)
  body_passes (Body.Commit c) s = repo_passes s.0 (is_ahead c.rev (Some o.moment)) (checks.links e b.repo ∷ []) (alone (checks.links e b.repo) ∙ s.1)
  body_passes (Body.Sync s) shows = repo_passes shows (is_ahead s.rev (Some o.moment)) [] refl
  body_passes Body.Identity s = λ not_so.
      ap (λ (h : Bool). short (when (is_long e) Refusal.TooLong) h (when b.down Refusal.TakenDown ∷ [])) home
      ∙ short_late (when (is_long e) Refusal.TooLong) (when b.down Refusal.TakenDown ∷ []) (unmet (is_long e) Refusal.TooLong s.0) (alone (when b.down Refusal.TakenDown) ∙ unmet b.down Refusal.TakenDown s.1)
  body_passes (Body.Account c) s = λ not_so.
      ap (λ (h : Bool). short (when (is_long e) Refusal.TooLong) h []) home
      ∙ short_late (when (is_long e) Refusal.TooLong) [] (unmet (is_long e) Refusal.TooLong s) refl

  pub passes_again : Shows checks b e e.body → refusal_of checks b e o ≢ Some Refusal.FutureRev → refusal_of checks b e o ≡ None
  passes_again s not_so = body_passes e.body s not_so

-- ---- what it does to the account

-- what an event does to an account that trails, it does to the one that it trails
pub record Carries (checks : Checks) (a after : State) (e : Seen) : Type 0 where
  pub shows : (b : State) → Trails a b → Shows checks b e e.body
  pub moves : (b : State) → Trails a b → Trails after (effected b (effect_of e.body (Some (checks.opens e (last_rev b.repo)))))

-- the head that opening gives
pub opens_to : (checks : Checks) (e : Seen) (last : Option ℕ) (head : Head) → refusal_in (checks.opens e last) ≡ None → ((h : Head) → checks.opens e last ≡ Ok h → h ≡ head) → head_effect (Some (checks.opens e last)) ≡ Effect.Repo head
opens_to checks e last head passed one =
    let there = told_ok (checks.opens e last) passed in
    ap (λ (x : Result Head Refusal). head_effect (Some x)) there.1 ∙ ap (λ (h : Head). Effect.Repo h) (one there.0 there.1)

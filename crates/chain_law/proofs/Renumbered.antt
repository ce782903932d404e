-- An event that one relay accepted and sends on is accepted by another whose account trails that of the first, and does the same to it.
use Rattle.std.proofs.Common.{◌≡◌, ◌≢◌, ℕ, ◌-◌, ◌^◌, ◌<◌, Bool, true, false, not, ◌&&◌, List, length, min, Option, Some, None, Result, refl, sym, ap, ◌∙◌, subst}
use Rattle.std.specs.Prelude.{nat_lt}
use Rattle.at_car.specs.Car.{car_of}
use Rattle.at_commit.specs.declared.commit.Commit.{Commit}
use Rattle.at_event.specs.Events.{IsEvent}
use Rattle.at_event.specs.Seen.{Seen}
use Rattle.at_event.specs.Writing.{numbered, out_length}
use Rattle.at_event.specs.declared.event.Body.{Body}
use Rattle.at_event.specs.declared.event.CommitEvent.{CommitEvent}
use Rattle.at_event.specs.declared.head.Head.{Head}
use Rattle.at_event.specs.declared.refusal.Refusal.{Refusal}
use Rattle.at_event.proofs.Renumbered.{numbered_again, numbered_is_event}
use Rattle.event_checks.specs.Opening.{CarResult}
use Rattle.event_checks.specs.Table.{car_in}
use Rattle.at_cid.specs.declared.limits.TheConstants.{NUMBERS}
use Rattle.relay_row.specs.declared.taken.Effect.{Effect}
use Rattle.account_state.specs.Folds.{effected, last_rev}
use Rattle.account_state.specs.State.{State}
use Rattle.account_state.specs.declared.repo.Repo.{Repo}
use Rattle.commit_check.specs.Order.{HoldsCommit}
use Rattle.commit_check.specs.Step.{is_gap, root_before}
use Rattle.commit_check.proofs.Held.{shown_held}
use Rattle.relay_core.specs.Decide.{Checks, refusal_in, is_held}
use Rattle.relay_core.specs.Opening.{OpensRight, IsHeadIn, IsHeadOf, shown_alone}
use Rattle.relay_core.specs.Rows.{effect_of, head_effect}
use Rattle.relay_core.specs.declared.limits.TheConstants.{LONGEST_MESSAGE}
use Rattle.relay_law.specs.Right.{LinksRight, expect_of}
use Rattle.relay_law.proofs.Answered.{same_head, told_ok, linking_decided}
use Rattle.relay_law.proofs.Right.{checks_right}
use Rattle.chain_law.specs.Again.{Trails}
use Rattle.chain_law.proofs.Trailing.{RepoShows, Shows, Carries, is_long, good_trails}

-- ---- one head

some_same : {A : Type 0} (x y : A) → Some x ≡ Some y → x ≡ y
some_same x y h = cc

-- the blocks of an event give its repository one head
pub one_head : (car : CarResult) (rev : ℕ) (g h : Head) → IsHeadIn car rev g → IsHeadIn car rev h → g ≡ h
one_head car rev g h one other =
    let link : g.commit ≡ h.commit = some_same g.commit h.commit (sym one.found.root_is ∙ other.found.root_is) in
    let object : one.commit ≡ other.commit = some_same one.commit other.commit (sym one.found.object_is ∙ other.found.object_is) in
    same_head g h (one.rev_is ∙ sym other.rev_is) (one.data_is ∙ ap (λ (c : Commit). c.data_root) object ∙ sym other.data_is) link

-- ---- an account that is active and not down is so behind it

pub shown_active : (a b : State) → Trails a b → a.active ≡ true → a.down ≡ false → b.active ≡ true
shown_active a b t active up = t.active ∙ rw (active, up) refl

and_one : (x : Bool) → x ≡ (x && true)
and_one true = refl
and_one false = refl

account_trails : (a b : State) (active : Bool) (status : Option (List ℕ)) → Trails a b → a.down ≡ false → Trails (effected a (Effect.Account active status)) (effected b (Effect.Account active status))
account_trails a b active status t up = record {
  active = and_one active ∙ ap (λ (d : Bool). active && not d) (sym up);
  up = t.up;
  rev = t.rev;
  repo = t.repo;
}

module _ (checks : Checks) (opens : OpensRight checks) (links : LinksRight checks) (e : Seen) (read : IsEvent e) (n : ℕ) (below : n < NUMBERS) where
  abbrev again : Seen
  again = numbered e n

  read_again : IsEvent again
  read_again = numbered_is_event e n below read

  same_length : out_length again ≡ out_length e
  unfolding out_length
  same_length = ap (λ (bytes : List ℕ). min (length bytes) (2 ^ 64 - 1)) (numbered_again e (NUMBERS - 1) n)

  fits_again : is_long e ≡ false → is_long again ≡ false
  fits_again h = ap (λ (k : ℕ). nat_lt LONGEST_MESSAGE k) same_length ∙ h

  opened_again : (last other : Option ℕ) → other ≡ last → refusal_in (checks.opens e last) ≡ None → refusal_in (checks.opens again other) ≡ None
  opened_again last other same h = opens.refusal again other ∙ ap (λ (l : Option ℕ). shown_alone e.body l) same ∙ sym (opens.refusal e last) ∙ h

  holds_there : (c : CommitEvent) → e.body ≡ Body.Commit c → (last : Option ℕ) → refusal_in (checks.opens e last) ≡ None → HoldsCommit c
  holds_there c body last h = shown_held c last (sym (ap (λ (b : Body). shown_alone b last) body) ∙ sym (opens.refusal e last) ∙ h)

  linked_again : (c : CommitEvent) → e.body ≡ Body.Commit c → (last : Option ℕ) (repo : Repo) → refusal_in (checks.opens e last) ≡ None → checks.links e repo ≡ None → checks.links again repo ≡ None
  linked_again c body last repo opened linked =
      let h = holds_there c body last opened in
      elim (checks.links again repo) as (λ x. checks.links again repo ≡ x → x ≡ None) [
        | None ↦ λ is. refl
        | Some r ↦ λ is.
            absurd ((linking_decided (is_gap c (expect_of repo)) again c (root_before (expect_of repo)) h read_again body).not_both r
            (links.no_gap e c repo body linked, links.leads e c repo h read body linked) (links.stops again c repo h r read_again body is))
      ] refl

  known : (c : CommitEvent) → e.body ≡ Body.Commit c → (repo : Repo) → checks.links e repo ≡ None → (rev : Option ℕ) → repo ≢ Repo.Lost rev
  known c body repo linked rev lost = (checks_right checks opens links).not_lost e c rev body (subst (λ (r : Repo). checks.links e r ≡ None) lost linked)

  module _ (a b : State) (t : Trails a b) where
    repo_again : RepoShows checks a e → RepoShows checks b again
    repo_again s = record { fits = fits_again s.fits; active = shown_active a b t s.active s.up; up = t.up; opened = opened_again (last_rev a.repo) (last_rev b.repo) t.rev s.opened }

    body_again : (body : Body) → e.body ≡ body → Shows checks a e body → Shows checks b again body
    body_again (Body.Commit c) body s =
        let same : b.repo ≡ a.repo = t.repo (known c body a.repo s.1) in
        (repo_again s.0, ap (λ (r : Repo). checks.links again r) same ∙ linked_again c body (last_rev a.repo) a.repo s.0.opened s.1)
    body_again (Body.Sync s) body shows = repo_again shows
    body_again Body.Identity body s = (fits_again s.0, t.up)
    body_again (Body.Account c) body s = fits_again s

    -- the same head is given to both
    heads_moved : ((g h : Head) → IsHeadOf e.body g → IsHeadOf e.body h → g ≡ h) → refusal_in (checks.opens e (last_rev a.repo)) ≡ None
        → Trails (effected a (head_effect (Some (checks.opens e (last_rev a.repo))))) (effected b (head_effect (Some (checks.opens again (last_rev b.repo)))))
    heads_moved one opened =
        let g = told_ok (checks.opens e (last_rev a.repo)) opened in
        let h = told_ok (checks.opens again (last_rev b.repo)) (opened_again (last_rev a.repo) (last_rev b.repo) t.rev opened) in
        let same : g.0 ≡ h.0 = one g.0 h.0 (opens.head e (last_rev a.repo) g.0 g.1) (opens.head again (last_rev b.repo) h.0 h.1) in
        let P : Result Head Refusal → Type 0 = λ x. Trails (effected a (head_effect (Some x))) (effected b (head_effect (Some (checks.opens again (last_rev b.repo))))) in
        let Q : Result Head Refusal → Type 0 = λ x. Trails (record a { repo = Repo.Good g.0 }) (effected b (head_effect (Some x))) in
        let R : Head → Type 0 = λ x. Trails (record a { repo = Repo.Good g.0 }) (record b { repo = Repo.Good x }) in
        subst P (sym g.1) (subst Q (sym h.1) (subst R same (good_trails a b g.0 t)))

    body_moved : (body : Body) → e.body ≡ body → Shows checks a e body → is_held a body ≡ false
        → Trails (effected a (effect_of body (Some (checks.opens e (last_rev a.repo))))) (effected b (effect_of body (Some (checks.opens again (last_rev b.repo)))))
    body_moved (Body.Commit c) body s held =
        let P : Body → Type 0 = λ x. (g h : Head) → IsHeadOf x g → IsHeadOf x h → g ≡ h in
        heads_moved (subst P (sym body) (λ g h. one_head (car_in c) c.rev g h)) s.0.opened
    body_moved (Body.Sync s) body shows held =
        let P : Body → Type 0 = λ x. (g h : Head) → IsHeadOf x g → IsHeadOf x h → g ≡ h in
        heads_moved (subst P (sym body) (λ g h. one_head (car_of s.blocks) s.rev g h)) shows.opened
    body_moved Body.Identity body s held = t
    body_moved (Body.Account c) body s held = account_trails a b c.active c.status t held

  -- an event that was accepted is carried on
  pub carried_on : (a : State) → Shows checks a e e.body → is_held a e.body ≡ false → Carries checks a (effected a (effect_of e.body (Some (checks.opens e (last_rev a.repo))))) again
  carried_on a s held = record {
    shows = λ b t. body_again a b t e.body refl s;
    moves = λ b t. body_moved a b t e.body refl s held;
  }

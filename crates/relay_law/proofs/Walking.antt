-- Where the table of an event ends: at a refusal that a row may keep, or past all lines.
use Rattle.std.proofs.Common.{◌≡◌, ℕ, ◌⊎◌, inl, inr, Bool, true, false, not, ◌&&◌, List, [], ◌∷◌, Option, Some, None, refl, ap, ◌∙◌, cond, subst}
use Rattle.std.specs.Prelude.{Result, Ok, Err, option_map, nat_lt}
use Rattle.std.proofs.lemmas.Bool.{and_parts}
use Rattle.at_cid.specs.Link.{IsBytes, IsNodeLink, kind_of}
use Rattle.at_cid.specs.declared.cid.Kind.{Kind}
use Rattle.at_cid.specs.declared.cid.Kind.TheVariants.{Node, Raw}
use Rattle.at_cid.proofs.Bytes.{cid_is_link}
use Rattle.at_event.specs.Seen.{Seen}
use Rattle.at_event.specs.Writing.{out_length}
use Rattle.at_event.specs.declared.event.Body.{Body}
use Rattle.at_event.specs.declared.event.CommitEvent.{CommitEvent}
use Rattle.at_event.specs.declared.head.Head.{Head}
use Rattle.at_event.specs.declared.refusal.Refusal.{Refusal}
use Rattle.event_checks.specs.Table.{car_in}
use Rattle.account_state.specs.Folds.{last_rev}
use Rattle.account_state.specs.State.{State}
use Rattle.account_state.specs.declared.repo.Repo.{Repo}
use Rattle.commit_check.specs.Step.{is_gap, root_before}
use Rattle.commit_check.proofs.Held.{car_linked}
use Rattle.commit_check.proofs.Objects.{data_held}
use Rattle.relay_row.specs.Rules.{is_cid, is_node, is_node_kind, is_rev}
use Rattle.relay_row.proofs.Fits.{node_fits}
use Rattle.relay_core.specs.Decide.{when, refusal_in, is_ahead}
use Rattle.relay_core.specs.Table.{TableLine, told, asked, Walk, waits, refuses, passes, walk, walk_past, link_line, repo_lines, body_lines, event_lines}
use Rattle.relay_core.specs.declared.answers.Answers.{Answers}
use Rattle.relay_core.specs.declared.answers.Question.{Question}
use Rattle.relay_core.specs.declared.limits.TheConstants.{LONGEST_MESSAGE}
use Rattle.relay_law.specs.Formed.{AreAnswersTo, IsOpenedAs}
use Rattle.relay_law.specs.Right.{expect_of}
use Rattle.relay_law.proofs.EventForms.{IsBodyKept}
use Rattle.relay_law.proofs.Heads.{IsFormedAccount, IsFormedRepo}
use Rattle.relay_law.proofs.Refusals.{is_kept, shown_kept, linked_kept, few_ops}
use Rattle.relay_law.proofs.Right.{held_in}

-- ---- lines

abbrev Tells : TableLine → Refusal → Type 0
Tells (told o) r = o ≡ Some r
Tells (asked q o) r = o ≡ Some (Some r)

abbrev pub Passes : TableLine → Type 0
Passes (told o) = o ≡ None
Passes (asked q o) = o ≡ Some None

abbrev pub AllPass : List TableLine → Type 0
AllPass [] = Unit {0}
AllPass (line ∷ lines) = Passes line × AllPass lines

-- each refusal that a line tells, where those before it are passed, is one that a row may keep
abbrev AreKept : List TableLine → Type 0
AreKept [] = Unit {0}
AreKept (line ∷ lines) = ((r : Refusal) → Tells line r → is_kept r ≡ true) × (Passes line → AreKept lines)

past_refuses : (o : Option Refusal) (w : Walk) (r : Refusal) → walk_past o w ≡ refuses r → (o ≡ Some r) ⊎ ((o ≡ None) × (w ≡ refuses r))
past_refuses None w r h = inr (refl, h)
past_refuses (Some q) w r h = let same : q ≡ r = cc in inl (ap (λ (x : Refusal). Some x) same)

past_passes : (o : Option Refusal) (w : Walk) → walk_past o w ≡ passes → (o ≡ None) × (w ≡ passes)
past_passes None w h = (refl, h)
past_passes (Some q) w h = absurd cc

refuses_kept : (lines : List TableLine) (r : Refusal) → AreKept lines → walk lines ≡ refuses r → is_kept r ≡ true
refuses_kept [] r are h = absurd cc
refuses_kept (told o ∷ lines) r are h =
    elim (past_refuses o (walk lines) r h) [
      | inl e ↦ are.0 r e
      | inr e ↦ refuses_kept lines r (are.1 e.0) e.1
    ]
refuses_kept (asked q None ∷ lines) r are h = absurd cc
refuses_kept (asked q (Some o) ∷ lines) r are h =
    elim (past_refuses o (walk lines) r h) [
      | inl e ↦ are.0 r (ap (λ (x : Option Refusal). Some x) e)
      | inr e ↦ refuses_kept lines r (are.1 (ap (λ (x : Option Refusal). Some x) e.0)) e.1
    ]

pub all_pass : (lines : List TableLine) → walk lines ≡ passes → AllPass lines
all_pass [] h = tt
all_pass (told o ∷ lines) h = let e = past_passes o (walk lines) h in (e.0, all_pass lines e.1)
all_pass (asked q None ∷ lines) h = absurd cc
all_pass (asked q (Some o) ∷ lines) h = let e = past_passes o (walk lines) h in (ap (λ (x : Option Refusal). Some x) e.0, all_pass lines e.1)

-- ---- conditions

-- where a test is told
when_kept : (b : Bool) (q r : Refusal) → is_kept q ≡ true → when b q ≡ Some r → is_kept r ≡ true
when_kept true q r h e = let same : q ≡ r = cc in subst (λ (x : Refusal). is_kept x ≡ true) same h
when_kept false q r h e = absurd cc

pub not_met : (b : Bool) (q : Refusal) → when b q ≡ None → b ≡ false
not_met true q e = absurd cc
not_met false q e = refl

-- what an answer was told by
mapped : {A : Type 0} (f : A → Option Refusal) (o : Option A) (u : Option Refusal) → option_map f o ≡ Some u → (x : A) × (o ≡ Some x) × (f x ≡ u)
mapped f (Some x) u e = let same : f x ≡ u = cc in (x, refl, same)
mapped f None u e = absurd cc

mapped_kept : {A : Type 0} (f : A → Option Refusal) (o : Option A) → ((x : A) (r : Refusal) → o ≡ Some x → f x ≡ Some r → is_kept r ≡ true) → (r : Refusal) → option_map f o ≡ Some (Some r) → is_kept r ≡ true
mapped_kept f o kept r e = let from = mapped f o (Some r) e in kept from.0 r from.1 from.2

refusal_is : {A : Type 0} (x : Result A Refusal) (r : Refusal) → refusal_in x ≡ Some r → x ≡ Err r
refusal_is (Ok y) r e = absurd cc
refusal_is (Err q) r e = let same : q ≡ r = cc in ap (λ (y : Refusal). Err y) same

ok_is : {A : Type 0} (x : Result A Refusal) → refusal_in x ≡ None → (y : A) × (x ≡ Ok y)
ok_is (Ok y) e = (y, refl)
ok_is (Err r) e = absurd cc

-- where opening was passed, there is a head
pub opened_head : (o : Option (Result Head Refusal)) → option_map refusal_in o ≡ Some None → (head : Head) × (o ≡ Some (Ok head))
opened_head o e =
    let from = mapped refusal_in o None e in
    let head = ok_is from.0 from.2 in
    (head.0, from.1 ∙ ap (λ (y : Result Head Refusal). Some y) head.1)

-- ---- roots

node_kind : (k : Kind) → is_node_kind k ≡ true → k ≡ Node
node_kind Node h = refl
node_kind Raw h = absurd cc

node_back : (link : List ℕ) → is_node link ≡ true → IsNodeLink link
node_back link h =
    let form = node_fits link h in
    record { link = form.0; bytes = form.1; node = node_kind (kind_of link) (and_parts (is_cid link) (is_node_kind (kind_of link)) h).1 }

-- the root before the next commit of an account is a link of kind Node
former_node : (repo : Repo) → IsFormedRepo repo → IsNodeLink (root_before (expect_of repo))
former_node Repo.Missing is = cid_is_link _
former_node (Repo.Good head) is =
    node_back head.data_root (and_parts (is_node head.data_root) (is_cid head.commit) (and_parts (is_rev head.rev) (is_node head.data_root && is_cid head.commit) is).1).0
former_node (Repo.Lost rev) is = cid_is_link _

-- ---- the table of an event

module _ (last : ℕ) (a : State) (e : Seen) (x : Answers) (right : AreAnswersTo last a e x) (account : IsFormedAccount a) where
  opened_kept : (body : Body) → e.body ≡ body → (answer : Result Head Refusal) (r : Refusal) → x.opened ≡ Some answer → refusal_in answer ≡ Some r → is_kept r ≡ true
  opened_kept body is answer r given told_so =
      let P : Result Head Refusal → Type 0 = λ y. IsOpenedAs e.body (last_rev a.repo) y in
      shown_kept e.body (last_rev a.repo) r (subst P (refusal_is answer r told_so) (right.opened answer given))

  link_kept : (c : CommitEvent) → e.body ≡ Body.Commit c → IsBytes c.blocks → (head : Head) → x.opened ≡ Some (Ok head) → (answer : Result (Unit {0}) Refusal) (r : Refusal) → x.linked ≡ Some answer → refusal_in answer ≡ Some r → is_kept r ≡ true
  link_kept c is bytes head opened answer r given told_so =
      let P : Body → Type 0 = λ b. IsOpenedAs b (last_rev a.repo) (Ok head) in
      let top : IsOpenedAs (Body.Commit c) (last_rev a.repo) (Ok head) = subst P is (right.opened (Ok head) opened) in
      let h = (held_in c (car_in c) refl head.commit top.1.block top.1.commit top.1.found.root_is top.1.found.object_is).0 in
      let linked = car_linked c.blocks h.roots h.blocks bytes h.car in
      linked_kept (is_gap c (expect_of a.repo)) c h.blocks (root_before (expect_of a.repo)) h.commit.data_root r (former_node a.repo account.repo) (data_held c h linked) (few_ops c (last_rev a.repo) top.0)
      (right.linked c h r is (given ∙ ap (λ (y : Result (Unit {0}) Refusal). Some y) (refusal_is answer r told_so)))

  home_kept : (r : Refusal) → option_map (λ yes. when (not yes) Refusal.NotHome) x.home ≡ Some (Some r) → is_kept r ≡ true
  home_kept = mapped_kept (λ (yes : Bool). when (not yes) Refusal.NotHome) x.home (λ yes r given told_so. when_kept (not yes) Refusal.NotHome r refl told_so)

  refresh_kept : (b : Bool) (r : Refusal) → ◌≡◌ {A = Option (Option Refusal)} (cond b (Some None) None) (Some (Some r)) → is_kept r ≡ true
  refresh_kept true r h = absurd cc
  refresh_kept false r h = absurd cc

  verdict_kept : (r : Refusal) → option_map (λ good. when (not good) Refusal.BadSignature) x.verdict ≡ Some (Some r) → is_kept r ≡ true
  verdict_kept = mapped_kept (λ (good : Bool). when (not good) Refusal.BadSignature) x.verdict (λ good r given told_so. when_kept (not good) Refusal.BadSignature r refl told_so)

  repo_kept : (body : Body) → e.body ≡ body → (rev : ℕ) (others : List TableLine) → ((head : Head) → x.opened ≡ Some (Ok head) → AreKept others) → AreKept (repo_lines a rev x others)
  repo_kept body is rev others more = (
    home_kept,
    λ home. (
      (λ r h. when_kept (not a.active) Refusal.Inactive r refl h),
      λ active. (
        (λ r h. when_kept a.down Refusal.TakenDown r refl h),
        λ down. (
          mapped_kept refusal_in x.opened (opened_kept body is),
          λ opened. (
            (λ r h. when_kept (is_ahead rev x.moment) Refusal.FutureRev r refl h),
            λ near. (
              verdict_kept,
              λ good. (let head = opened_head x.opened opened in more head.0 head.1),
            ),
          ),
        ),
      ),
    ),
  )

  body_kept : (body : Body) → e.body ≡ body → IsBodyKept body → AreKept (body_lines a body x)
  body_kept (Body.Commit c) is forms = repo_kept (Body.Commit c) is c.rev (link_line x ∷ []) (λ head opened. (mapped_kept refusal_in x.linked (link_kept c is forms.0 head opened), λ linked. tt))
  body_kept (Body.Sync s) is forms = repo_kept (Body.Sync s) is s.rev [] (λ head opened. tt)
  body_kept Body.Identity is forms = (refresh_kept x.refreshed, λ refreshed. (home_kept, λ home. ((λ r h. when_kept a.down Refusal.TakenDown r refl h), λ down. tt)))
  body_kept (Body.Account b) is forms = (home_kept, λ home. tt)

  -- the refusal of an event is one that a row may keep
  pub event_refused : IsBodyKept e.body → (r : Refusal) → walk (event_lines a e x) ≡ refuses r → is_kept r ≡ true
  event_refused forms r =
      refuses_kept (event_lines a e x) r (
        mapped_kept {A = ℕ} (λ m. None) x.moment (λ m q given told_so. absurd cc),
        λ moment. (
          (λ q h. when_kept (nat_lt LONGEST_MESSAGE (out_length e)) Refusal.TooLong q refl h),
          λ short. body_kept e.body refl forms,
        ),
      )

-- a walk that doesn't wait has the moment
pub moment_there : (o : Option ℕ) (lines : List TableLine) → ((q : Question) → walk (asked Question.Moment (option_map (λ m. None) o) ∷ lines) ≡ waits q → ⊥) → (m : ℕ) × (o ≡ Some m)
moment_there (Some m) lines h = (m, refl)
moment_there None lines h = absurd (h Question.Moment refl)

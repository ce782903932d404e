-- Right checks say what the calls answer.
use Rattle.std.proofs.Common.{◌≡◌, ℕ, Bool, true, false, List, Option, Some, None, Result, Ok, Err, refl, sym, ap, ◌∙◌, subst}
use Rattle.std.proofs.lemmas.Bool.{and_parts, eqb-true, not-false}
use Rattle.std.proofs.lemmas.Slice.Eq.{bytes_eq-Decides}
use Rattle.std.specs.Prelude.{◌==◌}
use Rattle.std.specs.Str.{bytes_eq}
use Rattle.at_commit.specs.declared.commit.Commit.{Commit}
use Rattle.at_event.specs.Events.{IsEvent}
use Rattle.at_event.specs.Seen.{Seen}
use Rattle.at_event.specs.declared.event.Body.{Body}
use Rattle.at_event.specs.declared.event.CommitEvent.{CommitEvent}
use Rattle.at_event.specs.declared.event.SyncEvent.{SyncEvent}
use Rattle.at_event.specs.declared.head.Head.{Head}
use Rattle.at_event.specs.declared.refusal.Refusal.{Refusal}
use Rattle.at_car.specs.Car.{car_of}
use Rattle.event_checks.specs.Opening.{CarResult, object_in, root_in, is_commit_of, is_rooted}
use Rattle.event_checks.specs.Table.{car_in, open_lines, sync_lines}
use Rattle.event_checks.proofs.Firsts.{all_unmet}
use Rattle.account_state.specs.declared.repo.Repo.{Repo}
use Rattle.commit_check.specs.Laws.{IsDecided}
use Rattle.commit_check.specs.Opening.{IsOpened}
use Rattle.commit_check.specs.Order.{HoldsCommit, StopsPast}
use Rattle.commit_check.specs.Step.{is_gap, root_before, Leads}
use Rattle.commit_check.specs.declared.opened.Opened.{Opened}
use Rattle.commit_check.proofs.Decided.{link_decided}
use Rattle.commit_check.proofs.Formed.{commit_read}
use Rattle.commit_check.proofs.Held.{car_linked}
use Rattle.commit_check.proofs.Objects.{data_held, opened_holds}
use Rattle.commit_check.proofs.Steps.{under_links}
use Rattle.repo_sync.specs.Sync.{IsSyncAnswer}
use Rattle.repo_sync.specs.declared.found.Found.{Found}
use Rattle.relay_core.specs.Decide.{Checks, refusal_in}
use Rattle.relay_core.specs.Opening.{OpensRight, IsHeadIn, IsHeadOf, shown_alone}
use Rattle.relay_law.specs.Calls.{IsOpenAnswer, IsLinkAnswer, opened_head, found_head}
use Rattle.relay_law.specs.Laws.{CallsAnswerRight}
use Rattle.relay_law.specs.Right.{LinksRight, expect_of}

same_some : {A : Type 0} (x y : A) → Some x ≡ Some y → x ≡ y
same_some x y e = cc

pub same_head : (x y : Head) → x.rev ≡ y.rev → x.data_root ≡ y.data_root → x.commit ≡ y.commit → x ≡ y
same_head x y rev data_root commit =
    let R : ℕ → Head = λ n. record { rev = n; data_root = x.data_root; commit = x.commit } in
    let D : List ℕ → Head = λ d. record { rev = y.rev; data_root = d; commit = x.commit } in
    let C : List ℕ → Head = λ c. record { rev = y.rev; data_root = y.data_root; commit = c } in
    ap R rev ∙ ap D data_root ∙ ap C commit

-- what is told of an event that shows this by itself

pub told_ok : (x : Result Head Refusal) → refusal_in x ≡ None → (head : Head) × (x ≡ Ok head)
told_ok (Ok head) h = (head, refl)
told_ok (Err r) h = absurd cc

pub told_err : (x : Result Head Refusal) (r : Refusal) → refusal_in x ≡ Some r → x ≡ Err r
told_err (Ok head) r h = absurd cc
told_err (Err q) r h = ap (λ (s : Refusal). Err s) (same_some q r h)

rooted_is : (stated link : List ℕ) (root : Option (List ℕ)) → root ≡ Some link → is_rooted (Some stated) root ≡ true → link ≡ stated
rooted_is stated link root is h =
    let P : Option (List ℕ) → Type 0 = λ o. is_rooted (Some stated) o ≡ true in
    (bytes_eq-Decides link stated).0 (subst P is h)

rev_is : (did : List ℕ) (rev : ℕ) (commit : Commit) → is_commit_of did rev (Some commit) ≡ true → commit.rev ≡ rev
rev_is did rev commit h = eqb-true commit.rev rev (and_parts (bytes_eq commit.did did) (commit.rev == rev) h).1

-- the head in a CAR is one
pub same_top : (car : CarResult) (rev : ℕ) (head : Head) (link : List ℕ) (commit : Commit) → IsHeadIn car rev head → root_in car ≡ Some link → object_in car ≡ Some commit
    → (head.rev ≡ rev) × (head.data_root ≡ commit.data_root) × (head.commit ≡ link)
same_top car rev head link commit top root object =
    let same = same_some top.commit commit (sym top.found.object_is ∙ object) in
    (top.rev_is, top.data_is ∙ ap (λ (k : Commit). k.data_root) same, same_some head.commit link (sym top.found.root_is ∙ root))

module _ (checks : Checks) (opens : OpensRight checks) where
  alone : (e : Seen) (b : Body) (last : Option ℕ) (o : Option Refusal) → e.body ≡ b → shown_alone b last ≡ o → refusal_in (checks.opens e last) ≡ o
  alone e b last o body h = opens.refusal e last ∙ ap (λ (x : Body). shown_alone x last) body ∙ h

  open_said : (e : Seen) (c : CommitEvent) (last : Option ℕ) (answer : Result Opened Refusal) → e.body ≡ Body.Commit c → IsOpenAnswer c last answer → checks.opens e last ≡ opened_head answer
  open_said e c last (Err refusal) body answer = told_err (checks.opens e last) refusal (alone e (Body.Commit c) last (Some refusal) body answer)
  open_said e c last (Ok o) body (shown, opened) =
      let told = told_ok (checks.opens e last) (alone e (Body.Commit c) last None body shown) in
      let P : Body → Type 0 = λ b. IsHeadOf b told.0 in
      let top : IsHeadIn (car_in c) c.rev told.0 = subst P body (opens.head e last told.0 told.1) in
      let all = all_unmet (open_lines c last) shown in
      let rooted = rooted_is c.commit told.0.commit (root_in (car_in c)) top.found.root_is (not-false (is_rooted (Some c.commit) (root_in (car_in c))) all.1.1.1.1.1.1.1.1.1.0) in
      let same = same_top (car_in c) c.rev told.0 told.0.commit opened.commit top top.found.root_is opened.object in
      told.1 ∙ ap (λ (h : Head). Ok h) (same_head told.0 o.head (same.0 ∙ sym (rev_is c.repo c.rev opened.commit opened.own) ∙ sym opened.head.rev) (same.1 ∙ sym opened.head.data_root) (rooted ∙ sym opened.head.link))

  sync_said : (e : Seen) (s : SyncEvent) (last : Option ℕ) (answer : Result Found Refusal) → e.body ≡ Body.Sync s → IsSyncAnswer s last answer → checks.opens e last ≡ found_head answer
  sync_said e s last (Err refusal) body answer = told_err (checks.opens e last) refusal (alone e (Body.Sync s) last (Some refusal) body answer)
  sync_said e s last (Ok found) body synced =
      let told = told_ok (checks.opens e last) (alone e (Body.Sync s) last None body synced.shown) in
      let P : Body → Type 0 = λ b. IsHeadOf b told.0 in
      let top : IsHeadIn (car_of s.blocks) s.rev told.0 = subst P body (opens.head e last told.0 told.1) in
      let all = all_unmet (sync_lines s last) synced.shown in
      let is = synced.found_in in
      let same = same_top (car_of s.blocks) s.rev told.0 is.link is.commit top is.held.root_is is.held.object_is in
      let Q : Option Commit → Type 0 = λ o. is_commit_of s.did s.rev o ≡ true in
      let own = subst Q is.held.object_is (not-false (is_commit_of s.did s.rev (object_in (car_of s.blocks))) all.1.1.1.1.1.1.1.0) in
      let H : Found → Head = λ f. f.head in
      told.1 ∙ ap (λ (h : Head). Ok h) (same_head told.0 (H found) (same.0 ∙ sym (rev_is s.did s.rev is.commit own) ∙ sym (ap (λ (f : Found). f.head.rev) is.found_is)) (same.1 ∙ sym (ap (λ (f : Found). f.head.data_root) is.found_is)) (same.2 ∙ sym (ap (λ (f : Found). f.head.commit) is.found_is)))

-- linking a commit of which a CAR was read passes, or one refusal stops it
pub linking_decided : (gap : Bool) (e : Seen) (c : CommitEvent) (former : List ℕ) (h : HoldsCommit c) → IsEvent e → e.body ≡ Body.Commit c
    → IsDecided ((gap ≡ false) × Leads c h.blocks former h.commit.data_root) (StopsPast gap c h.blocks former h.commit.data_root)
linking_decided gap e c former h read body =
    let all = car_linked c.blocks h.roots h.blocks (commit_read e c read body).blocks.1 h.car in
    link_decided gap c h.blocks former h.commit.data_root (under_links h.blocks all) (data_held c h all)

module _ (checks : Checks) (links : LinksRight checks) (e : Seen) (c : CommitEvent) (repo : Repo) (h : HoldsCommit c) (read : IsEvent e) (body : e.body ≡ Body.Commit c) where
  abbrev gap : Bool
  gap = is_gap c (expect_of repo)

  abbrev former : List ℕ
  former = root_before (expect_of repo)

  abbrev Linked : Option Refusal → Type 0
  Linked None = (gap ≡ false) × Leads c h.blocks former h.commit.data_root
  Linked (Some refusal) = StopsPast gap c h.blocks former h.commit.data_root refusal

  said : (x answer : Option Refusal) → checks.links e repo ≡ x → Linked answer → x ≡ answer
  said None None is linked = refl
  said None (Some r) is stops =
      absurd ((linking_decided gap e c former h read body).not_both r (links.no_gap e c repo body is, links.leads e c repo h read body is) stops)
  said (Some q) None is linked = absurd ((linking_decided gap e c former h read body).not_both q linked (links.stops e c repo h q read body is))
  said (Some q) (Some r) is stops = ap (λ (s : Refusal). Some s) ((linking_decided gap e c former h read body).one q r (links.stops e c repo h q read body is) stops)

link_said : (checks : Checks) → LinksRight checks → (e : Seen) (c : CommitEvent) (opened : Opened) (repo : Repo) (answer : Option Refusal) → IsEvent e → e.body ≡ Body.Commit c → IsOpened c opened → IsLinkAnswer c opened (expect_of repo) answer
    → checks.links e repo ≡ answer
link_said checks links e c o repo None read body opened (no_gap, leads) =
    let P : List ℕ → Type 0 = λ d. Leads c o.car.blocks (root_before (expect_of repo)) d in
    said checks links e c repo (opened_holds c o opened) read body (checks.links e repo) None refl (no_gap, subst P opened.head.data_root leads)
link_said checks links e c o repo (Some r) read body opened stops =
    let P : List ℕ → Type 0 = λ d. StopsPast (is_gap c (expect_of repo)) c o.car.blocks (root_before (expect_of repo)) d r in
    said checks links e c repo (opened_holds c o opened) read body (checks.links e repo) (Some r) refl (subst P opened.head.data_root stops)

pub calls_right : CallsAnswerRight
calls_right checks opens links = record { opens = open_said checks opens; syncs = sync_said checks opens; links = link_said checks links }

-- There are checks that open and link rightly.
use Rattle.std.proofs.Common.{◌≡◌, ◌<◌, ◌⊎◌, inl, inr, ℕ, zero, suc, Bool, true, false, is_some, List, [], ◌∷◌, Option, Some, None, Result, Ok, Err, refl, sym, ap, ◌∙◌, subst, ltb, lit<}
use Rattle.std.proofs.lemmas.Bool.{false≢true, lt-ltb, ltb-true, not-false}
use Rattle.at_cid.specs.Link.{IsBytes}
use Rattle.at_car.specs.Blocks.{BlockMap}
use Rattle.at_car.specs.Car.{car_of}
use Rattle.at_commit.specs.declared.commit.Commit.{Commit}
use Rattle.at_event.specs.declared.event.Body.{Body}
use Rattle.at_event.specs.declared.event.CommitEvent.{CommitEvent}
use Rattle.at_event.specs.declared.event.SyncEvent.{SyncEvent}
use Rattle.at_event.specs.declared.head.Head.{Head}
use Rattle.at_event.specs.declared.refusal.Refusal.{Refusal}
use Rattle.event_checks.specs.Lines.{first_of}
use Rattle.event_checks.specs.Opening.{CarResult, block_in, object_in, root_in, is_rooted}
use Rattle.event_checks.specs.Table.{car_in, open_lines, sync_lines}
use Rattle.event_checks.proofs.Firsts.{all_unmet}
use Rattle.account_state.specs.declared.repo.Repo.{Repo}
use Rattle.commit_check.specs.Order.{HoldsCommit, StopsPast}
use Rattle.commit_check.specs.Step.{is_gap, root_before, Leads}
use Rattle.commit_check.proofs.Decided.{link_decided}
use Rattle.commit_check.proofs.Formed.{commit_read}
use Rattle.commit_check.proofs.Held.{car_linked, same_blocks, same_data}
use Rattle.commit_check.proofs.Objects.{data_held}
use Rattle.commit_check.proofs.Steps.{under_links}
use Rattle.relay_core.specs.Decide.{Checks, refusal_in}
use Rattle.relay_core.specs.Opening.{IsHeadIn, IsHeadOf, shown_alone}
use Rattle.relay_law.specs.Laws.{SomeChecksAreRight}
use Rattle.relay_law.specs.Right.{expect_of}

-- ---- opening

abbrev top_head : Option (List ℕ) → Option Commit → ℕ → Head
top_head (Some link) (Some commit) rev = record { rev = rev; data_root = commit.data_root; commit = link }
top_head (Some link) None rev = record { rev = rev; data_root = []; commit = link }
top_head None object rev = record { rev = rev; data_root = []; commit = [] }

abbrev told : Option Refusal → Head → Result Head Refusal
told (Some refusal) head = Err refusal
told None head = Ok head

abbrev opens_by : Body → Option ℕ → Result Head Refusal
opens_by (Body.Commit c) last = told (first_of (open_lines c last)) (top_head (root_in (car_in c)) (object_in (car_in c)) c.rev)
opens_by (Body.Sync s) last = told (first_of (sync_lines s last)) (top_head (root_in (car_of s.blocks)) (object_in (car_of s.blocks)) s.rev)
opens_by Body.Identity last = Ok (top_head None None 0)
opens_by (Body.Account a) last = Ok (top_head None None 0)

told_refusal : (o : Option Refusal) (head : Head) → refusal_in (told o head) ≡ o
told_refusal (Some refusal) head = refl
told_refusal None head = refl

opens_refusal : (b : Body) (last : Option ℕ) → refusal_in (opens_by b last) ≡ shown_alone b last
opens_refusal (Body.Commit c) last = told_refusal (first_of (open_lines c last)) (top_head (root_in (car_in c)) (object_in (car_in c)) c.rev)
opens_refusal (Body.Sync s) last = told_refusal (first_of (sync_lines s last)) (top_head (root_in (car_of s.blocks)) (object_in (car_of s.blocks)) s.rev)
opens_refusal Body.Identity last = refl
opens_refusal (Body.Account a) last = refl

same_ok : (x y : Head) → ◌≡◌ {A = Result Head Refusal} (Ok x) (Ok y) → x ≡ y
same_ok x y e = cc

found_by : (car : CarResult) (rev : ℕ) (head : Head) (stated root block : Option (List ℕ)) (object : Option Commit) → root_in car ≡ root → block_in car ≡ block → object_in car ≡ object
    → is_rooted stated root ≡ true → is_some block ≡ true → is_some object ≡ true → top_head root object rev ≡ head → IsHeadIn car rev head
found_by car rev head stated None block object r b o rooted there reads same = absurd cc
found_by car rev head stated (Some link) None object r b o rooted there reads same = absurd cc
found_by car rev head stated (Some link) (Some block) None r b o rooted there reads same = absurd cc
found_by car rev head stated (Some link) (Some block) (Some commit) r b o rooted there reads same =
    subst (IsHeadIn car rev) same (record { block = block; commit = commit; found = record { root_is = r; block_is = b; object_is = o }; rev_is = refl; data_is = refl })

commit_head : (c : CommitEvent) (last : Option ℕ) (head : Head) (o : Option Refusal) → first_of (open_lines c last) ≡ o → told o (top_head (root_in (car_in c)) (object_in (car_in c)) c.rev) ≡ Ok head → IsHeadIn (car_in c) c.rev head
commit_head c last head (Some refusal) shown same = absurd cc
commit_head c last head None shown same =
    let car = car_in c in
    let all = all_unmet (open_lines c last) shown in
    found_by car c.rev head (Some c.commit) (root_in car) (block_in car) (object_in car) refl refl refl (not-false (is_rooted (Some c.commit) (root_in car)) all.1.1.1.1.1.1.1.1.1.0)
    (not-false (is_some (block_in car)) all.1.1.1.1.1.1.1.1.1.1.0) (not-false (is_some (object_in car)) all.1.1.1.1.1.1.1.1.1.1.1.0)
    (same_ok (top_head (root_in car) (object_in car) c.rev) head same)

sync_head : (s : SyncEvent) (last : Option ℕ) (head : Head) (o : Option Refusal) → first_of (sync_lines s last) ≡ o → told o (top_head (root_in (car_of s.blocks)) (object_in (car_of s.blocks)) s.rev) ≡ Ok head → IsHeadIn (car_of s.blocks) s.rev head
sync_head s last head (Some refusal) shown same = absurd cc
sync_head s last head None shown same =
    let car = car_of s.blocks in
    let all = all_unmet (sync_lines s last) shown in
    found_by car s.rev head None (root_in car) (block_in car) (object_in car) refl refl refl (not-false (is_rooted None (root_in car)) all.1.1.1.1.0) (not-false (is_some (block_in car)) all.1.1.1.1.1.0)
    (not-false (is_some (object_in car)) all.1.1.1.1.1.1.0) (same_ok (top_head (root_in car) (object_in car) s.rev) head same)

opens_head : (b : Body) (last : Option ℕ) (head : Head) → opens_by b last ≡ Ok head → IsHeadOf b head
opens_head (Body.Commit c) last head same = commit_head c last head (first_of (open_lines c last)) refl same
opens_head (Body.Sync s) last head same = sync_head s last head (first_of (sync_lines s last)) refl same
opens_head Body.Identity last head same = tt
opens_head (Body.Account a) last head same = tt

-- ---- linking

bytes_more : (b : ℕ) (bytes : List ℕ) → b < 256 → IsBytes bytes → IsBytes (b ∷ bytes)
bytes_more b bytes low h zero = low
bytes_more b bytes low h (suc i) = h i

bytes_or : (bytes : List ℕ) → IsBytes bytes ⊎ (IsBytes bytes → ⊥)
bytes_or [] = inl (λ i. lit< tt)
bytes_or (b ∷ bytes) = go (ltb b 256) refl (bytes_or bytes)
  where
    go : (t : Bool) → ltb b 256 ≡ t → IsBytes bytes ⊎ (IsBytes bytes → ⊥) → IsBytes (b ∷ bytes) ⊎ (IsBytes (b ∷ bytes) → ⊥)
    go true low (inl h) = inl (bytes_more b bytes (ltb-true b 256 low) h)
    go true low (inr n) = inr (λ h. n (λ i. h (suc i)))
    go false high rest = inr (λ h. false≢true (sym high ∙ lt-ltb b 256 (h 0)))

holds_or : (c : CommitEvent) (car : CarResult) → car_in c ≡ car → (o : Option Commit) → object_in (car_in c) ≡ o → HoldsCommit c ⊎ (HoldsCommit c → ⊥)
holds_or c (Ok (roots, blocks)) is (Some commit) object = inl (record { roots = roots; blocks = blocks; commit = commit; car = is; object = object })
holds_or c (Ok (roots, blocks)) is None object = inr (λ h. let same : None ≡ Some h.commit = sym object ∙ h.object in absurd cc)
holds_or c (Err fault) is o object = inr (λ h. let same = sym is ∙ h.car in absurd cc)

-- a right answer to linking a commit
record IsLinking (c : CommitEvent) (repo : Repo) (answer : Option Refusal) : Type 0 where
  no_gap : answer ≡ None → is_gap c (expect_of repo) ≡ false
  leads : (h : HoldsCommit c) → IsBytes c.blocks → answer ≡ None → Leads c h.blocks (root_before (expect_of repo)) h.commit.data_root
  stops : (h : HoldsCommit c) (refusal : Refusal) → IsBytes c.blocks → answer ≡ Some refusal → StopsPast (is_gap c (expect_of repo)) c h.blocks (root_before (expect_of repo)) h.commit.data_root refusal

same_some : (x y : Refusal) → Some x ≡ Some y → x ≡ y
same_some x y e = cc

-- one that is never asked for
unasked : (c : CommitEvent) (repo : Repo) → (HoldsCommit c → IsBytes c.blocks → ⊥) → IsLinking c repo (Some Refusal.Gap)
unasked c repo never = record {
  no_gap = λ e. absurd cc;
  leads = λ h bytes e. absurd (never h bytes);
  stops = λ h refusal bytes e. absurd (never h bytes);
}

module _ (c : CommitEvent) (repo : Repo) (h : HoldsCommit c) where
  abbrev gap : Bool
  gap = is_gap c (expect_of repo)

  abbrev former : List ℕ
  former = root_before (expect_of repo)

  leads_in : (g : HoldsCommit c) → Leads c h.blocks former h.commit.data_root → Leads c g.blocks former g.commit.data_root
  leads_in g leads =
      let P : BlockMap → Type 0 = λ b. Leads c b former h.commit.data_root in
      let Q : List ℕ → Type 0 = λ d. Leads c g.blocks former d in
      subst Q (same_data c h g) (subst P (same_blocks c h g) leads)

  stops_in : (g : HoldsCommit c) (refusal : Refusal) → StopsPast gap c h.blocks former h.commit.data_root refusal → StopsPast gap c g.blocks former g.commit.data_root refusal
  stops_in g refusal stops =
      let P : BlockMap → Type 0 = λ b. StopsPast gap c b former h.commit.data_root refusal in
      let Q : List ℕ → Type 0 = λ d. StopsPast gap c g.blocks former d refusal in
      subst Q (same_data c h g) (subst P (same_blocks c h g) stops)

  linking_by : ((gap ≡ false) × Leads c h.blocks former h.commit.data_root) ⊎ ((refusal : Refusal) × StopsPast gap c h.blocks former h.commit.data_root refusal) → (answer : Option Refusal) × IsLinking c repo answer
  linking_by (inl (no_gap, leads)) = (
    None,
    record {
      no_gap = λ e. no_gap;
      leads = λ g bytes e. leads_in g leads;
      stops = λ g refusal bytes e. absurd cc;
    },
  )
  linking_by (inr (r, stops)) = (
    Some r,
    record {
      no_gap = λ e. absurd cc;
      leads = λ g bytes e. absurd cc;
      stops = λ g refusal bytes e. stops_in g refusal (subst (StopsPast gap c h.blocks former h.commit.data_root) (same_some r refusal e) stops);
    },
  )

  linking_of_bytes : IsBytes c.blocks → (answer : Option Refusal) × IsLinking c repo answer
  linking_of_bytes bytes =
      let all = car_linked c.blocks h.roots h.blocks bytes h.car in
      linking_by ((link_decided gap c h.blocks former h.commit.data_root (under_links h.blocks all) (data_held c h all)).some)

linking : (c : CommitEvent) (repo : Repo) → HoldsCommit c ⊎ (HoldsCommit c → ⊥) → IsBytes c.blocks ⊎ (IsBytes c.blocks → ⊥) → (answer : Option Refusal) × IsLinking c repo answer
linking c repo (inl h) (inl bytes) = linking_of_bytes c repo h bytes
linking c repo (inl h) (inr n) = (Some Refusal.Gap, unasked c repo (λ g bytes. n bytes))
linking c repo (inr n) bytes = (Some Refusal.Gap, unasked c repo (λ g bytes. n g))

right_linking : (c : CommitEvent) (repo : Repo) → (answer : Option Refusal) × IsLinking c repo answer
right_linking c repo = linking c repo (holds_or c (car_in c) refl (object_in (car_in c)) refl) (bytes_or c.blocks)

abbrev links_by : Body → Repo → Option Refusal
links_by (Body.Commit c) repo = (right_linking c repo).0
links_by (Body.Sync s) repo = None
links_by Body.Identity repo = None
links_by (Body.Account a) repo = None

-- what linking says of a commit event
said_of : (b : Body) (c : CommitEvent) (repo : Repo) (x : Option Refusal) → b ≡ Body.Commit c → links_by b repo ≡ x → (right_linking c repo).0 ≡ x
said_of b c repo x body is = sym (ap (λ (a : Body). links_by a repo) body) ∙ is

abbrev chosen : Checks
chosen = record { opens = λ e last. opens_by e.body last; links = λ e repo. links_by e.body repo }

pub some_right : SomeChecksAreRight
some_right = (
  chosen,
  record { refusal = λ e last. opens_refusal e.body last; head = λ e last head is. opens_head e.body last head is },
  record {
    no_gap = λ e c repo body is. (right_linking c repo).1.no_gap (said_of e.body c repo None body is);
    leads = λ e c repo h read body is. (right_linking c repo).1.leads h (commit_read e c read body).blocks.1 (said_of e.body c repo None body is);
    stops = λ e c repo h refusal read body is. (right_linking c repo).1.stops h refusal (commit_read e c read body).blocks.1 (said_of e.body c repo (Some refusal) body is);
  },
)

-- What linking a commit says is right.
use Rattle.std.proofs.Common.{◌≡◌, ℕ, Bool, true, false, List, [], ◌∷◌, Option, Some, None, Result, Ok, Err, refl, sym, ap, ◌∙◌, subst}
use Rattle.at_car.specs.Blocks.{BlockMap}
use Rattle.at_event.specs.Events.{IsEvent}
use Rattle.at_event.specs.Seen.{Seen}
use Rattle.at_event.specs.declared.event.Body.{Body}
use Rattle.at_event.specs.declared.event.CommitEvent.{CommitEvent}
use Rattle.at_event.specs.declared.refusal.Refusal.{Refusal}
use Rattle.mst_list.specs.declared.op.Op.{Op}
use Rattle.account_state.specs.declared.repo.Repo.{Repo}
use Rattle.commit_check.specs.Linking.{IsUnlinked}
use Rattle.commit_check.specs.Opening.{IsOpened}
use Rattle.commit_check.specs.Order.{HoldsCommit, StopsPast}
use Rattle.commit_check.specs.Refusing.{RefusesWith}
use Rattle.commit_check.specs.Step.{Leads, StopsAt, edits_of, is_gap, root_before}
use Rattle.commit_check.specs.declared.expect.Expect.{Expect}
use Rattle.commit_check.specs.declared.fault.CheckFault.{CheckFault}
use Rattle.commit_check.specs.declared.opened.Opened.{Opened}
use Rattle.commit_check.proofs.Held.{same_blocks, same_data}
use Rattle.relay_core.specs.Answering.{as_result}
use Rattle.relay_core.specs.Decide.{Checks}
use Rattle.relay_law.specs.Right.{LinksRight, expect_of}
use Rattle.relay_step.specs.Questions.{IsLinkAnswer, IsReadOf, is_unlinked}
use Rattle.relay_step.specs.declared.reading.Read.{Read}

stop_unlinked : (ops : List Op) (blocks : BlockMap) (former later : List ℕ) (r : Refusal) → StopsAt ops blocks former later r → is_unlinked r ≡ true
stop_unlinked [] blocks former later (Refusal.OtherData want got) h = refl
stop_unlinked [] blocks former later r h = absurd h
stop_unlinked (op ∷ ops) blocks former later (Refusal.BadNode link) h = refl
stop_unlinked (op ∷ ops) blocks former later (Refusal.OtherOp i) h = refl
stop_unlinked (op ∷ ops) blocks former later (Refusal.NotCovered i) h = refl
stop_unlinked (op ∷ ops) blocks former later (Refusal.OtherData want got) h = refl
stop_unlinked (op ∷ ops) blocks former later r h = absurd h

past_unlinked : (gap : Bool) (c : CommitEvent) (blocks : BlockMap) (former later : List ℕ) (r : Refusal) → StopsPast gap c blocks former later r → is_unlinked r ≡ true
past_unlinked true c blocks former later r h = ap is_unlinked h
past_unlinked false c blocks former later r h = stop_unlinked (edits_of c) blocks former later r h

body_commit : (e : Seen) (c d : CommitEvent) → e.body ≡ Body.Commit c → e.body ≡ Body.Commit d → d ≡ c
body_commit e c d one other = let same : Body.Commit d ≡ Body.Commit c = sym other ∙ one in cc

module _ (e : Seen) (c : CommitEvent) (o : Opened) (repo : Repo) (event : IsEvent e) (body : e.body ≡ Body.Commit c) (is : IsOpened c o) where
  held : HoldsCommit c
  held = record { roots = o.car.roots; blocks = o.car.blocks; commit = is.commit; car = is.car; object = is.object }

  abbrev stops_so : Refusal → Type 0
  stops_so r = StopsPast (is_gap c (expect_of repo)) c o.car.blocks (root_before (expect_of repo)) o.head.data_root r

  -- what stops the commit, by whatever is held of it
  stops_here : (h : HoldsCommit c) (r : Refusal) → StopsPast (is_gap c (expect_of repo)) c h.blocks (root_before (expect_of repo)) h.commit.data_root r → stops_so r
  unfolding held
  stops_here h r stops =
      let P : BlockMap → Type 0 = λ b. StopsPast (is_gap c (expect_of repo)) c b (root_before (expect_of repo)) h.commit.data_root r in
      let Q : List ℕ → Type 0 = λ d. StopsPast (is_gap c (expect_of repo)) c o.car.blocks (root_before (expect_of repo)) d r in
      subst Q (same_data c h held ∙ sym is.head.data_root) (subst P (same_blocks c h held) stops)

  stops_there : (h : HoldsCommit c) (r : Refusal) → stops_so r → StopsPast (is_gap c (expect_of repo)) c h.blocks (root_before (expect_of repo)) h.commit.data_root r
  unfolding held
  stops_there h r stops =
      let P : BlockMap → Type 0 = λ b. StopsPast (is_gap c (expect_of repo)) c b (root_before (expect_of repo)) h.commit.data_root r in
      let Q : List ℕ → Type 0 = λ d. StopsPast (is_gap c (expect_of repo)) c o.car.blocks (root_before (expect_of repo)) d r in
      subst P (same_blocks c held h) (subst Q (is.head.data_root ∙ same_data c held h) stops)

  leads_here : (checks : Checks) → LinksRight checks → checks.links e repo ≡ None → Leads c o.car.blocks (root_before (expect_of repo)) o.head.data_root
  unfolding held
  leads_here checks links none =
      let Q : List ℕ → Type 0 = λ d. Leads c o.car.blocks (root_before (expect_of repo)) d in
      subst Q (sym is.head.data_root) (links.leads e c repo held event body none)

  -- it is linked
  pub linked_answer : ((r : Refusal) → IsUnlinked c o (expect_of repo) (CheckFault.Refused r) → RefusesWith {X = Unit {0}} r (Ok tt)) → IsLinkAnswer repo e (Ok tt)
  unfolding held
  linked_answer exact = record {
    right = λ checks links. go checks links (checks.links e repo) refl;
    unlinked = λ r same. absurd cc;
    stops = λ d h r other same. absurd cc;
  }
    where
      go : (checks : Checks) → LinksRight checks → (answer : Option Refusal) → checks.links e repo ≡ answer → Ok tt ≡ as_result (checks.links e repo)
      go checks links None is_so = sym (ap as_result is_so)
      go checks links (Some r) is_so = let never = exact r (stops_here held r (links.stops e c repo held r event body is_so)) in absurd cc

  -- it isn't
  pub unlinked_answer : (r : Refusal) → IsUnlinked c o (expect_of repo) (CheckFault.Refused r)
      → (is_gap c (expect_of repo) ≡ false → Leads c o.car.blocks (root_before (expect_of repo)) o.head.data_root → ⊥)
      → ((q : Refusal) → IsUnlinked c o (expect_of repo) (CheckFault.Refused q) → RefusesWith {X = Unit {0}} q (Err (CheckFault.Refused r))) → IsLinkAnswer repo e (Err r)
  unfolding held
  unlinked_answer r refused only exact = record {
    right = λ checks links. go checks links (checks.links e repo) refl;
    unlinked = λ q same. same_unlinked q same;
    stops = λ d h q other same. stopped d h q other same;
  }
    where
      same_refusal : (q : Refusal) → ◌≡◌ {A = Result (Unit {0}) Refusal} (Err r) (Err q) → r ≡ q
      same_refusal q same = cc

      same_unlinked : (q : Refusal) → ◌≡◌ {A = Result (Unit {0}) Refusal} (Err r) (Err q) → is_unlinked q ≡ true
      same_unlinked q same = ap is_unlinked (sym (same_refusal q same)) ∙ past_unlinked (is_gap c (expect_of repo)) c o.car.blocks (root_before (expect_of repo)) o.head.data_root r refused

      stopped : (d : CommitEvent) (h : HoldsCommit d) (q : Refusal) → e.body ≡ Body.Commit d → ◌≡◌ {A = Result (Unit {0}) Refusal} (Err r) (Err q)
          → StopsPast (is_gap d (expect_of repo)) d h.blocks (root_before (expect_of repo)) h.commit.data_root q
      stopped d h q other same =
          let F : CommitEvent → Type 0 = λ k. (g : HoldsCommit k) → StopsPast (is_gap k (expect_of repo)) k g.blocks (root_before (expect_of repo)) g.commit.data_root q in
          let S : Refusal → Type 0 = λ s. stops_so s in
          subst F (body_commit e d c other body) (λ g. stops_there g q (subst S (same_refusal q same) refused)) h

      go : (checks : Checks) → LinksRight checks → (answer : Option Refusal) → checks.links e repo ≡ answer → Err r ≡ as_result (checks.links e repo)
      go checks links None is_so = absurd (only (links.no_gap e c repo body is_so) (leads_here checks links is_so))
      go checks links (Some q) is_so = let same = exact q (stops_here held q (links.stops e c repo held q event body is_so)) in sym same ∙ sym (ap as_result is_so)

-- what was read of a commit
pub read_commit : (b : Body) (r : Read) (c : CommitEvent) (o : Opened) → b ≡ Body.Commit c → r ≡ Read.Commit o → IsReadOf b r → IsOpened c o
read_commit b r c o one two is =
    let P : Body → Type 0 = λ k. IsReadOf k r in
    let Q : Read → Type 0 = λ k. IsReadOf (Body.Commit c) k in
    (subst Q two (subst P one is)).0

pub linked_by : (e : Seen) (c : CommitEvent) (o : Opened) (repo : Repo) (expect : Expect) → IsEvent e → e.body ≡ Body.Commit c → IsOpened c o → expect ≡ expect_of repo
    → ((r : Refusal) → IsUnlinked c o expect (CheckFault.Refused r) → RefusesWith {X = Unit {0}} r (Ok tt)) → IsLinkAnswer repo e (Ok tt)
linked_by e c o repo expect event body is same exact =
    let P : Expect → Type 0 = λ x. (r : Refusal) → IsUnlinked c o x (CheckFault.Refused r) → RefusesWith {X = Unit {0}} r (Ok tt) in
    linked_answer e c o repo event body is (subst P same exact)

-- what a refusal to link says
pub record IsUnlinkedBy (c : CommitEvent) (o : Opened) (expect : Expect) (r : Refusal) : Type 0 where
  pub refused : IsUnlinked c o expect (CheckFault.Refused r)
  pub only : is_gap c expect ≡ false → Leads c o.car.blocks (root_before expect) o.head.data_root → ⊥
  pub exact : (q : Refusal) → IsUnlinked c o expect (CheckFault.Refused q) → RefusesWith {X = Unit {0}} q (Err (CheckFault.Refused r))

pub unlinked_by : (e : Seen) (c : CommitEvent) (o : Opened) (repo : Repo) (expect : Expect) (r : Refusal) → IsEvent e → e.body ≡ Body.Commit c → IsOpened c o → expect ≡ expect_of repo → IsUnlinkedBy c o expect r → IsLinkAnswer repo e (Err r)
unlinked_by e c o repo expect r event body is same by =
    let P : Expect → Type 0 = λ x. IsUnlinkedBy c o x r in
    let there = subst P same by in
    unlinked_answer e c o repo event body is r there.refused there.only there.exact

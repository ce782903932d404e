-- Checks that open and link rightly are right.
use Rattle.std.proofs.Common.{◌≡◌, ℕ, List, ◌∷◌, Option, Some, None, Result, Ok, Err, refl, ap, ◌∙◌, sym, subst}
use Rattle.std.proofs.lemmas.Bool.{true≢false, or_parts}
use Rattle.std.specs.List.{list_any}
use Rattle.at_commit.specs.declared.commit.Commit.{Commit}
use Rattle.at_event.specs.Events.{IsEvent}
use Rattle.at_event.specs.Seen.{Seen}
use Rattle.at_event.specs.declared.event.Body.{Body}
use Rattle.at_event.specs.declared.event.CommitEvent.{CommitEvent}
use Rattle.at_event.specs.declared.head.Head.{Head}
use Rattle.at_event.specs.declared.refusal.Refusal.{Refusal}
use Rattle.event_checks.proofs.Firsts.{first_front}
use Rattle.event_checks.specs.Lines.{first_of}
use Rattle.event_checks.specs.Opening.{CarResult, object_in, root_in}
use Rattle.event_checks.specs.Table.{car_in, field_lines, block_lines, is_stale}
use Rattle.account_state.specs.declared.repo.Repo.{Repo}
use Rattle.commit_check.specs.Order.{HoldsCommit}
use Rattle.commit_check.specs.Step.{edits_of, lacks_prev, root_before, strays, ReplaysBy}
use Rattle.commit_check.proofs.Formed.{edits_formed}
use Rattle.commit_check.proofs.Steps.{sound_by}
use Rattle.relay_core.specs.Decide.{Checks, refusal_in}
use Rattle.relay_core.specs.Opening.{OpensRight, IsHeadIn, IsHeadOf, shown_alone}
use Rattle.relay_law.specs.Laws.{ChecksAreRight}
use Rattle.relay_law.specs.Right.{LinksRight, expect_of, root_expected}
use Rattle.relay_law.specs.Sound.{GoesFrom}

-- a CAR that was read, and not one at fault, holds a commit object
pub held_in : (c : CommitEvent) (car : CarResult) → car_in c ≡ car → (link block : List ℕ) (commit : Commit) → root_in car ≡ Some link → object_in car ≡ Some commit → (h : HoldsCommit c) × (h.commit ≡ commit)
held_in c (Ok (roots, blocks)) is link block commit rooted object =
    (record { roots = roots; blocks = blocks; commit = commit; car = is; object = ap object_in is ∙ object }, refl)
held_in c (Err fault) is link block commit rooted object = absurd cc

pub body_back : (P : Body → Type 0) (b : Body) (c : CommitEvent) → b ≡ Body.Commit c → P b → P (Body.Commit c)
body_back P b c is p = subst P is p

fields_fine : (checks : Checks) → OpensRight checks → (e : Seen) (c : CommitEvent) (last : Option ℕ) (head : Head) → e.body ≡ Body.Commit c → checks.opens e last ≡ Ok head → first_of (field_lines c) ≡ None
fields_fine checks opens e c last head body opened =
    let alone : shown_alone e.body last ≡ None = sym (opens.refusal e last) ∙ ap (λ (x : Result Head Refusal). refusal_in x) opened in
    first_front (field_lines c) ((Refusal.Stale, is_stale last c.rev) ∷ block_lines c) (body_back (λ b. shown_alone b last ≡ None) e.body c body alone)

head_in : (checks : Checks) → OpensRight checks → (e : Seen) (c : CommitEvent) (last : Option ℕ) (head : Head) → e.body ≡ Body.Commit c → checks.opens e last ≡ Ok head → IsHeadIn (car_in c) c.rev head
head_in checks opens e c last head body opened = body_back (λ b. IsHeadOf b head) e.body c body (opens.head e last head opened)

expected_root : (repo : Repo) → root_before (expect_of repo) ≡ root_expected repo
expected_root Repo.Missing = refl
expected_root (Repo.Good head) = refl
expected_root (Repo.Lost rev) = refl

goes_from : (checks : Checks) → OpensRight checks → LinksRight checks → (e : Seen) (c : CommitEvent) (repo : Repo) (last : Option ℕ) (head : Head) → IsEvent e → e.body ≡ Body.Commit c → checks.opens e last ≡ Ok head → checks.links e repo ≡ None
    → GoesFrom c (root_expected repo) head.data_root
goes_from checks opens links e c repo last head read body opened linked =
    let top = head_in checks opens e c last head body opened in
    let held = held_in c (car_in c) refl head.commit top.block top.commit top.found.root_is top.found.object_is in
    let h = held.0 in
    let no_prev = (or_parts (strays c (expect_of repo)) (list_any lacks_prev c.ops) (links.no_gap e c repo body linked)).1 in
    let formed = edits_formed e c read body (fields_fine checks opens e c last head body opened) no_prev in
    let replays = sound_by (edits_of c) h.blocks (root_before (expect_of repo)) h.commit.data_root formed.0 formed.1 (links.leads e c repo h read body linked) in
    let P : List ℕ → Type 0 = λ r. ReplaysBy (edits_of c) h.blocks r head.data_root in
    let Q : List ℕ → Type 0 = λ d. ReplaysBy (edits_of c) h.blocks (root_before (expect_of repo)) d in
    let same : h.commit.data_root ≡ head.data_root = ap (λ (k : Commit). k.data_root) held.1 ∙ sym top.data_is in
    record { blocks = h.blocks; has = record { roots = h.roots; car = h.car }; replays = subst P (expected_root repo) (subst Q same replays) }

pub checks_right : ChecksAreRight
checks_right checks opens links = record {
  not_lost = λ e c rev body linked. true≢false (links.no_gap e c (Repo.Lost rev) body linked);
  goes = λ e c repo last head. goes_from checks opens links e c repo last head;
}

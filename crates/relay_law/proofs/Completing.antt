-- A covered commit is accepted where its home and its signature are good.
use Rattle.std.proofs.Common.{◌≡◌, ℕ, Bool, List, ◌∷◌, Option, Some, None, Result, Ok, Err, refl, ap, ◌∙◌, sym, subst}
use Rattle.at_event.specs.Events.{IsEvent}
use Rattle.at_event.specs.Seen.{Seen}
use Rattle.at_event.specs.declared.event.Body.{Body}
use Rattle.at_event.specs.declared.head.Head.{Head}
use Rattle.at_event.specs.declared.refusal.Refusal.{Refusal}
use Rattle.event_checks.proofs.Firsts.{first_front}
use Rattle.event_checks.specs.Table.{block_lines, field_lines, is_stale}
use Rattle.relay_row.specs.Folds.{last_seq}
use Rattle.relay_row.specs.declared.row.Row.{Row}
use Rattle.relay_row.specs.declared.taken.Taken.{Taken}
use Rattle.account_state.specs.Folds.{account, last_rev}
use Rattle.commit_check.specs.Order.{StopsPast}
use Rattle.commit_check.specs.Step.{edits_of, root_before, Leads}
use Rattle.commit_check.proofs.Formed.{commit_read, edits_formed}
use Rattle.commit_check.proofs.Held.{car_linked}
use Rattle.commit_check.proofs.Steps.{complete_by, not_stopped, under_links}
use Rattle.std.proofs.lemmas.Bool.{or_parts}
use Rattle.std.specs.List.{list_any}
use Rattle.commit_check.specs.Step.{lacks_prev, strays}
use Rattle.relay_core.specs.Decide.{Checks, decided_event, refusal_of, refusal_in}
use Rattle.relay_core.specs.Opening.{OpensRight, shown_alone}
use Rattle.relay_core.specs.Ready.{IsReady}
use Rattle.relay_core.proofs.Accepting.{ready_decides}
use Rattle.relay_core.proofs.Agreeing.{event_told}
use Rattle.relay_law.specs.Covered.{IsCovered}
use Rattle.relay_law.specs.Laws.{CoveredAreAccepted}
use Rattle.relay_law.specs.Right.{LinksRight, expect_of}

opened_head : (x : Result Head Refusal) → refusal_in x ≡ None → (head : Head) × (x ≡ Ok head)
opened_head (Ok head) h = (head, refl)
opened_head (Err r) h = absurd cc

none_of : (o : Option Refusal) → ((r : Refusal) → o ≡ Some r → ⊥) → o ≡ None
none_of None h = refl
none_of (Some r) h = absurd (h r refl)

-- a covered commit leads to its data
covered_leads : (J : List Row) (host : List ℕ) (e : Seen) (moment : ℕ) → IsEvent e → (c : IsCovered J host e moment) → Leads c.commit c.holds.blocks (root_before (expect_of (account e.did J).repo)) c.holds.commit.data_root
covered_leads J host e moment read c =
    let fields = first_front (field_lines c.commit) ((Refusal.Stale, is_stale (last_rev (account e.did J).repo) c.commit.rev) ∷ block_lines c.commit) c.shown in
    let no_prev = (or_parts (strays c.commit (expect_of (account e.did J).repo)) (list_any lacks_prev c.commit.ops) c.no_gap).1 in
    let formed = edits_formed e c.commit read c.body fields no_prev in
    let under = under_links c.holds.blocks (car_linked c.commit.blocks c.holds.roots c.holds.blocks (commit_read e c.commit read c.body).blocks.1 c.holds.car) in
    complete_by (edits_of c.commit) c.holds.blocks (root_before (expect_of (account e.did J).repo)) c.holds.commit.data_root under formed.0 formed.1 c.covered

covered_links : (checks : Checks) → LinksRight checks → (J : List Row) (host : List ℕ) (e : Seen) (moment : ℕ) → IsEvent e → IsCovered J host e moment → checks.links e (account e.did J).repo ≡ None
covered_links checks links J host e moment read c =
    let repo = (account e.did J).repo in
    let former = root_before (expect_of repo) in
    none_of (checks.links e repo) (λ r is.
    let P : Bool → Type 0 = λ gap. StopsPast gap c.commit c.holds.blocks former c.holds.commit.data_root r in
    not_stopped (edits_of c.commit) c.holds.blocks former c.holds.commit.data_root r (covered_leads J host e moment read c) (subst P c.no_gap (links.stops e c.commit repo c.holds r read c.body is)))

covered_ready : (checks : Checks) → OpensRight checks → LinksRight checks → (J : List Row) (host : List ℕ) (e : Seen) (moment : ℕ) → IsEvent e → IsCovered J host e moment → IsReady checks J host e moment
covered_ready checks opens links J host e moment read c =
    let last = last_rev (account e.did J).repo in
    let alone : shown_alone e.body last ≡ None = ap (λ (b : Body). shown_alone b last) c.body ∙ c.shown in
    let opened = opened_head (checks.opens e last) (opens.refusal e last ∙ alone) in
    record {
      commit = c.commit;
      body = c.body;
      above = c.above;
      short = c.short;
      active = c.active;
      up = c.up;
      head = opened.0;
      opens = opened.1;
      near = c.near;
      links = covered_links checks links J host e moment read c;
    }

taken_is : (s t : Taken) → Some s ≡ Some t → s ≡ t
taken_is s t e = cc

pub covered_accepted : CoveredAreAccepted
covered_accepted checks opens links J host e o t read covered is =
    let a = account e.did J in
    ap (λ (s : Taken). s.refusal) (sym (taken_is (decided_event checks (last_seq J) a host e o) t is)) ∙ (event_told checks (last_seq J) a host e o (Some o.moment) (refusal_of checks a e o)).refusal
    ∙ ready_decides checks J host e o (covered_ready checks opens links J host e o.moment read covered)

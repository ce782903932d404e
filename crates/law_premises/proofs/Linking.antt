-- Checks that link rightly and take everything for opened.
use Rattle.std.proofs.Common.{◌≡◌, Bool, true, false, [], Option, None, Some, Result, Ok, Err, refl, sym, ◌∙◌, subst}
use Rattle.std.specs.Prelude.{if◌then◌else◌}
use Rattle.at_event.specs.Events.{IsEvent}
use Rattle.at_event.specs.Seen.{Seen}
use Rattle.at_event.specs.declared.event.Body.{Body}
use Rattle.at_event.specs.declared.event.CommitEvent.{CommitEvent}
use Rattle.at_event.specs.declared.head.Head.{Head}
use Rattle.at_event.specs.declared.refusal.Refusal.{Refusal}
use Rattle.event_checks.specs.Lines.{first_of}
use Rattle.event_checks.specs.Opening.{CarResult}
use Rattle.event_checks.specs.Table.{car_in, open_lines}
use Rattle.account_state.specs.declared.repo.Repo.{Repo}
use Rattle.commit_check.specs.Order.{HoldsCommit, StopsPast}
use Rattle.commit_check.specs.Step.{empty_root, is_gap, root_before, Leads}
use Rattle.relay_core.specs.Decide.{Checks}
use Rattle.relay_law.specs.Calls.{SayWhatCallsAnswer}
use Rattle.relay_law.specs.Right.{LinksRight, expect_of}
use Rattle.relay_law.proofs.Choosing.{some_right}
use Rattle.law_premises.specs.Checking.{LinkingMayBeWrong}
use Rattle.law_premises.proofs.Messages.{no_car}
use Rattle.law_premises.proofs.Running.{empty_event, no_goes}
use Rattle.law_premises.proofs.Samples.{commit, event, link, top}

-- where there is no CAR, a commit passes unless there is a gap before it
abbrev links_blind : CarResult → CommitEvent → Seen → Repo → Option Refusal
links_blind (Err fault) c e repo = if is_gap c (expect_of repo) then Some Refusal.Gap else None
links_blind (Ok car) c e repo = some_right.0.links e repo

abbrev blind_links : Body → Seen → Repo → Option Refusal
blind_links (Body.Commit c) e repo = links_blind (car_in c) c e repo
blind_links other e repo = None

abbrev pub blind : Checks
blind = record { opens = λ e last. Ok top; links = λ e repo. blind_links e.body e repo }

none_if : (b : Bool) → (if b then Some Refusal.Gap else None) ≡ None → b ≡ false
none_if true e = absurd cc
none_if false e = refl

module _ (e : Seen) (c : CommitEvent) (repo : Repo) (body : e.body ≡ Body.Commit c) where
  said : (x : Option Refusal) → blind_links e.body e repo ≡ x → links_blind (car_in c) c e repo ≡ x
  said x linked = subst (λ (b : Body). blind_links b e repo ≡ x) body linked

  no_gap : (car : CarResult) → links_blind car c e repo ≡ None → is_gap c (expect_of repo) ≡ false
  no_gap (Err fault) linked = none_if (is_gap c (expect_of repo)) linked
  no_gap (Ok car) linked = some_right.2.no_gap e c repo body linked

  leads : (h : HoldsCommit c) → IsEvent e → (car : CarResult) → car_in c ≡ car → links_blind car c e repo ≡ None → Leads c h.blocks (root_before (expect_of repo)) h.commit.data_root
  leads h read (Err fault) is linked = let no : ◌≡◌ {A = CarResult} (Err fault) (Ok (h.roots, h.blocks)) = sym is ∙ h.car in absurd cc
  leads h read (Ok car) is linked = some_right.2.leads e c repo h read body linked

  stops : (h : HoldsCommit c) (refusal : Refusal) → IsEvent e → (car : CarResult) → car_in c ≡ car → links_blind car c e repo ≡ Some refusal
      → StopsPast (is_gap c (expect_of repo)) c h.blocks (root_before (expect_of repo)) h.commit.data_root refusal
  stops h refusal read (Err fault) is linked = let no : ◌≡◌ {A = CarResult} (Err fault) (Ok (h.roots, h.blocks)) = sym is ∙ h.car in absurd cc
  stops h refusal read (Ok car) is linked = some_right.2.stops e c repo h refusal read body linked

pub blind_right : LinksRight blind
blind_right = record {
  no_gap = λ e c repo body linked. no_gap e c repo body (car_in c) (said e c repo body None linked);
  leads = λ e c repo h read body linked. leads e c repo body h read (car_in c) refl (said e c repo body None linked);
  stops = λ e c repo h refusal read body linked. stops e c repo body h refusal read (car_in c) refl (said e c repo body (Some refusal) linked);
}

pub passes_blind : links_blind (car_in (commit [])) (commit []) (event []) Repo.Missing ≡ None
passes_blind = rw no_car refl

pub linking_wrong : LinkingMayBeWrong
linking_wrong all = no_goes empty_root (link 0) ((all blind blind_right).goes (event []) (commit []) Repo.Missing None top empty_event refl refl passes_blind)

pub nothing_there : first_of (open_lines (commit []) None) ≡ Some Refusal.BadCar
nothing_there = rw no_car refl

pub opens_otherwise : SayWhatCallsAnswer blind → ⊥
opens_otherwise says =
    let said : ◌≡◌ {A = Result Head Refusal} (Ok top) (Err Refusal.BadCar) = says.opens (event []) (commit []) None (Err Refusal.BadCar) refl nothing_there in
    absurd cc

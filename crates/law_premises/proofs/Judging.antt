-- A covered commit that is refused, or one that passes, without a premise.
use Rattle.std.proofs.Common.{◌∷◌, ◌≡◌, ℕ, true, false, nat_lt, [], Option, None, Some, Err, refl, sym, ◌∙◌, subst}
use Rattle.at_cbor.specs.Item.{Item}
use Rattle.at_cbor.specs.Encoding.{info_of, tail_of}
use Rattle.at_car.specs.Varint.{groups}
use Rattle.at_form.specs.Forms.{present_value}
use Rattle.at_event.specs.Events.{IsEvent}
use Rattle.at_event.specs.Seen.{Seen}
use Rattle.at_event.specs.Table.{seq_of}
use Rattle.at_event.specs.Writing.{event_message, out_length, out_of}
use Rattle.at_event.specs.declared.event.Body.{Body}
use Rattle.at_event.specs.declared.event.CommitEvent.{CommitEvent}
use Rattle.at_event.specs.declared.refusal.Refusal.{Refusal}
use Rattle.relay_row.specs.Folds.{cursor, last_seq}
use Rattle.relay_row.specs.declared.taken.Taken.{Taken}
use Rattle.account_state.specs.Folds.{account}
use Rattle.account_state.specs.declared.repo.Repo.{Repo}
use Rattle.commit_check.specs.Step.{is_gap}
use Rattle.commit_check.specs.Opening.{IsOpened}
use Rattle.commit_check.specs.declared.opened.Opened.{Opened}
use Rattle.sha2.specs.Sha256.{sha256}
use Rattle.relay_core.specs.Decide.{Checks, Outside, absent, decided_event, refusal_in}
use Rattle.relay_core.specs.Opening.{OpensRight}
use Rattle.relay_core.specs.declared.limits.TheConstants.{LONGEST_MESSAGE}
use Rattle.relay_law.specs.Calls.{SayWhatCallsAnswer}
use Rattle.relay_law.specs.Covered.{IsCovered}
use Rattle.relay_law.specs.Right.{LinksRight, expect_of}
use Rattle.relay_law.proofs.Choosing.{some_right}
use Rattle.law_premises.specs.Checking.{ChecksMaySayOtherwise, CoveredMayBeRefused, IsJudged}
use Rattle.law_premises.proofs.Covered.{car, car_read, covered, empty_is, empty_link, held, held_object, holds, is_covered, is_covered_event, nothing_shown, object_there, top}
use Rattle.law_premises.proofs.Linking.{blind, blind_right, nothing_there, opens_otherwise}
use Rattle.law_premises.proofs.Running.{empty_event}
use Rattle.law_premises.proofs.Samples.{commit_of, event, host}

abbrev pub good : Outside
good = record { moment = 0; home = true; verdict = true; fetched = absent }

-- the event with another payload
abbrev pub with_payload : Item → Seen
with_payload payload = record { seq = covered.seq; did = covered.did; time = covered.time; body = covered.body; payload = payload }

its : (payload : Item) → nat_lt LONGEST_MESSAGE (out_length (with_payload payload)) ≡ false → IsCovered [] host (with_payload payload) 0
unfolding account cursor
its payload short = record {
  commit = commit_of top car;
  body = refl;
  above = refl;
  short = short;
  active = refl;
  up = refl;
  shown = nothing_shown;
  near = refl;
  no_gap = refl;
  holds = holds;
  covered = is_covered;
}

own_short : nat_lt LONGEST_MESSAGE (out_length covered) ≡ false
unfolding out_length out_of event_message info_of tail_of groups
own_short = refl

null_short : nat_lt LONGEST_MESSAGE (out_length (with_payload Item.null)) ≡ false
unfolding out_length out_of event_message info_of tail_of
null_short = refl

own : IsCovered [] host covered 0
own = its covered.payload own_short

-- the row that is decided of an event there
abbrev row : Checks → Seen → Taken
row checks e = decided_event checks (last_seq []) (account e.did []) host e good

refused : (t : Taken) (r : Refusal) → t.refusal ≡ Some r → IsJudged good t → ⊥
refused t r is judged = let no : Some r ≡ None = sym is ∙ judged in absurd cc

-- ---- checks that open nothing

abbrev shut : Checks
shut = record { opens = λ e last. Err Refusal.BadCar; links = some_right.0.links }

shut_right : LinksRight shut
shut_right = record { no_gap = some_right.2.no_gap; leads = some_right.2.leads; stops = some_right.2.stops }

shut_refused : (row shut covered).refusal ≡ Some Refusal.BadCar
unfolding account out_length out_of event_message info_of tail_of groups
shut_refused = refl

-- ---- checks that link nothing

abbrev cut : Checks
cut = record { opens = some_right.0.opens; links = λ e repo. Some Refusal.Gap }

cut_right : OpensRight cut
cut_right = record { refusal = some_right.1.refusal; head = some_right.1.head }

pub opened : (payload : Item) → refusal_in (some_right.0.opens (with_payload payload) None) ≡ None
opened payload = some_right.1.refusal (with_payload payload) None ∙ nothing_shown

cut_refused : (row cut covered).refusal ≡ Some Refusal.Gap
unfolding account out_length out_of event_message info_of tail_of groups
cut_refused = rw (opened covered.payload) refl

-- ---- right checks that pass no event without a number

abbrev links_unread : Option ℕ → Seen → Repo → Option Refusal
links_unread None e repo = Some Refusal.Gap
links_unread (Some n) e repo = some_right.0.links e repo

abbrev strict : Checks
strict = record { opens = some_right.0.opens; links = λ e repo. links_unread (seq_of e.payload) e repo }

module _ (e : Seen) (c : CommitEvent) (repo : Repo) (body : e.body ≡ Body.Commit c) where
  strict_gap : (n : Option ℕ) → links_unread n e repo ≡ None → is_gap c (expect_of repo) ≡ false
  strict_gap None linked = absurd cc
  strict_gap (Some n) linked = some_right.2.no_gap e c repo body linked

  numbered : (x : Option Refusal) → IsEvent e → links_unread (seq_of e.payload) e repo ≡ x → some_right.0.links e repo ≡ x
  numbered x read linked = subst (λ (n : Option ℕ). links_unread n e repo ≡ x) read.number linked

strict_right : LinksRight strict
strict_right = record {
  no_gap = λ e c repo body linked. strict_gap e c repo body (seq_of e.payload) linked;
  leads = λ e c repo h read body linked. some_right.2.leads e c repo h read body (numbered e c repo body None read linked);
  stops = λ e c repo h refusal read body linked. some_right.2.stops e c repo h refusal read body (numbered e c repo body (Some refusal) read linked);
}

strict_opens : OpensRight strict
strict_opens = record { refusal = some_right.1.refusal; head = some_right.1.head }

strict_refused : (row strict (with_payload Item.null)).refusal ≡ Some Refusal.Gap
unfolding account out_length out_of event_message info_of tail_of seq_of present_value
strict_refused = rw (opened Item.null) refl

-- ---- a commit without a CAR

bare_shown : refusal_in (some_right.0.opens (event []) None) ≡ Some Refusal.BadCar
bare_shown = some_right.1.refusal (event []) None ∙ nothing_there

bare_refused : (row some_right.0 (event [])).refusal ≡ Some Refusal.BadCar
unfolding account out_length out_of event_message info_of tail_of
bare_refused = rw bare_shown refl

pub covered_refused : CoveredMayBeRefused
covered_refused = record {
  opens = λ all. refused (row shut covered) Refusal.BadCar shut_refused (all shut shut_right [] host covered good (row shut covered) is_covered_event own refl);
  links = λ all. refused (row cut covered) Refusal.Gap cut_refused (all cut cut_right [] host covered good (row cut covered) is_covered_event own refl);
  event = λ all. refused (row strict (with_payload Item.null)) Refusal.Gap strict_refused
      (all strict strict_opens strict_right [] host (with_payload Item.null) good (row strict (with_payload Item.null)) (its Item.null null_short) refl);
  covered = λ all. refused (row some_right.0 (event [])) Refusal.BadCar bare_refused (all some_right.0 some_right.1 some_right.2 [] host (event []) good (row some_right.0 (event [])) empty_event refl);
  decided = λ all. refused (row shut covered) Refusal.BadCar shut_refused (all some_right.0 some_right.1 some_right.2 [] host covered good (row shut covered) is_covered_event own);
}

-- ---- what is handed on of the commit when it is opened

abbrev handed_on : Opened
handed_on = record { head = record { rev = 0; data_root = empty_link; commit = top }; digest = sha256 held_object.unsigned; sig = []; car = record { roots = top ∷ []; blocks = held } }

is_opened : IsOpened (commit_of top car) handed_on
is_opened = record { car = car_read; commit = held_object; object = object_there; own = refl; head = record { rev = refl; data_root = refl; link = refl; digest = refl; sig = refl } }

links_otherwise : SayWhatCallsAnswer cut → ⊥
links_otherwise says =
    let said : Some Refusal.Gap ≡ None = says.links covered (commit_of top car) handed_on Repo.Missing None is_covered_event refl is_opened (refl, sym empty_is) in
    absurd cc

pub checks_otherwise : ChecksMaySayOtherwise
checks_otherwise = record { opens = λ all. opens_otherwise (all blind blind_right); links = λ all. links_otherwise (all cut cut_right) }

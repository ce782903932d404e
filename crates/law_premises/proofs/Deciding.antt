-- Rows that are decided for answers to all questions, and are ill formed or break the order.
use Rattle.std.proofs.Common.{◌≡◌, ℕ, true, false, ◌&&◌, List, [], ◌∷◌, None, Some, Ok, refl, sym, ◌∙◌, lit<}
use Rattle.std.proofs.lemmas.Bool.{and_parts, false≢true}
use Rattle.std.specs.Prelude.{◌==◌, ◌||◌, nat_le}
use Rattle.at_cbor.specs.Encoding.{info_of, tail_of}
use Rattle.at_car.specs.Varint.{groups}
use Rattle.at_cid.specs.declared.limits.TheConstants.{NUMBERS}
use Rattle.at_event.specs.Refusals.{code_of}
use Rattle.at_event.specs.Writing.{event_message, out_length, out_of}
use Rattle.at_event.specs.declared.frame.Frame.{Frame}
use Rattle.at_event.specs.declared.refusal.Refusal.{Refusal}
use Rattle.relay_row.specs.Folds.{cursor, last_seq}
use Rattle.relay_row.specs.Rules.{is_accepted, is_decided, is_detail, is_effect, is_refused, is_timed}
use Rattle.relay_row.specs.declared.fetched.Fetched.{Fetched}
use Rattle.relay_row.specs.declared.row.Row.{Row}
use Rattle.relay_row.specs.declared.taken.Effect.{Effect}
use Rattle.relay_row.specs.declared.taken.Taken.{Taken}
use Rattle.relay_row.proofs.Journals.{grew, no_rows}
use Rattle.account_state.specs.Folds.{account}
use Rattle.relay_core.specs.Decide.{Checks, Outside, decided, passed}
use Rattle.relay_core.specs.Opening.{OpensRight}
use Rattle.relay_core.specs.Rows.{faulty_taken}
use Rattle.relay_law.specs.Right.{LinksRight}
use Rattle.relay_law.proofs.Choosing.{some_right}
use Rattle.law_premises.specs.Forming.{DecidedMayBeIllFormed}
use Rattle.law_premises.proofs.Covered.{covered, is_covered_event}
use Rattle.law_premises.proofs.Forming.{above_all, accepted_number, bad, bad_cursor, behind_bad, faulty, faulty_again, faulty_journal, final, final_journal, first_cursor, headless, no_host, no_number, taken_parts}
use Rattle.law_premises.proofs.Judging.{good, opened}
use Rattle.law_premises.proofs.Linking.{blind, blind_right}
use Rattle.law_premises.proofs.Messages.{no_car}
use Rattle.law_premises.proofs.Running.{empty_event}
use Rattle.law_premises.proofs.Samples.{did, event, host, host_named}
use Rattle.law_premises.proofs.Storing.{made, row}

abbrev chosen : Checks
chosen = some_right.0

abbrev at_moment : ℕ → Outside
at_moment m = record good { moment = m }

-- ---- a head that is none

abbrev careless : Checks
careless = record { opens = λ e last. Ok headless; links = blind.links }

careless_right : LinksRight careless
careless_right = record { no_gap = blind_right.no_gap; leads = blind_right.leads; stops = blind_right.stops }

abbrev beheaded : Taken
beheaded = record { host = host; host_seq = 1; did = did; kind = 1; refusal = None; seq = 1; message = out_of (event []) 1; effect = Effect.Repo headless; fetched = Fetched.NotAsked; moment = Some 0 }

beheaded_decided : decided careless (last_seq []) (account did []) host (Frame.Event (event [])) good ≡ Some beheaded
unfolding account last_seq out_length out_of event_message info_of tail_of
beheaded_decided = rw no_car refl

effect_formed : (t : Taken) → is_decided None t ≡ true → is_effect t.kind t.effect ≡ true
unfolding is_accepted
effect_formed t is = (and_parts (is_effect t.kind t.effect) _ is).0

-- ---- a refusal with a link that is none

abbrev broken : Checks
broken = record { opens = chosen.opens; links = λ e repo. Some (Refusal.BadNode []) }

broken_right : OpensRight broken
broken_right = record { refusal = some_right.1.refusal; head = some_right.1.head }

abbrev unlinked : Taken
unlinked = record { host = host; host_seq = 1; did = did; kind = 1; refusal = Some (Refusal.BadNode []); seq = 0; message = []; effect = Effect.Nothing; fetched = Fetched.Absent; moment = Some 0 }

unlinked_decided : decided broken (last_seq []) (account did []) host (Frame.Event covered) good ≡ Some unlinked
unfolding account last_seq out_length out_of event_message info_of tail_of groups
unlinked_decided = rw (opened covered.payload) refl

detail_formed : (r : Refusal) (t : Taken) → is_decided (Some r) t ≡ true → is_detail r ≡ true
unfolding is_refused
detail_formed r t is = (and_parts (is_detail r) _ (and_parts (is_detail r && (nat_le (code_of r) 24 || (code_of r == 25 && is_timed t.moment))) _ is).0).0

passed_first : (h : List ℕ) (seq : ℕ) → nat_le seq 0 ≡ false → passed (cursor h []) (Frame.Faulty seq) ≡ None
passed_first h seq above = rw (first_cursor h, above) refl

event_first : (h : List ℕ) → passed (cursor h []) (Frame.Event (event [])) ≡ None
event_first h = rw (first_cursor h) refl

covered_first : passed (cursor host []) (Frame.Event covered) ≡ None
covered_first = rw (first_cursor host) refl

covered_behind : passed (cursor host (final ∷ [])) (Frame.Event covered) ≡ None
unfolding cursor
covered_behind = refl

pub decided_ill_formed : DecidedMayBeIllFormed
decided_ill_formed = record {
  opens = λ all. false≢true (effect_formed beheaded (taken_parts beheaded (grew [] (Row.Taken beheaded)
      (all careless careless_right [] host (Frame.Event (event [])) good beheaded no_rows host_named empty_event (lit< tt, tt) (event_first host) beheaded_decided (lit< tt))).0).3);
  links = λ all. false≢true (detail_formed (Refusal.BadNode []) unlinked (taken_parts unlinked (grew [] (Row.Taken unlinked)
      (all broken broken_right [] host (Frame.Event covered) good unlinked no_rows host_named is_covered_event (lit< tt, tt) covered_first unlinked_decided (lit< tt))).0).3);
  journal = λ all. behind_bad (faulty host 1 0) (all chosen some_right.1 some_right.2 (bad ∷ []) host (Frame.Faulty 1) good (faulty_taken host 1 (Some 0)) host_named (lit< tt) (lit< tt) (rw bad_cursor refl) refl (lit< tt));
  host = λ all. no_host (taken_parts _ (grew [] (faulty [] 1 0) (all chosen some_right.1 some_right.2 [] [] (Frame.Faulty 1) good (faulty_taken [] 1 (Some 0)) no_rows (lit< tt) (lit< tt) (passed_first [] 1 refl) refl (lit< tt))).0).0;
  frame = λ all. false≢true (taken_parts _ (grew [] (faulty host NUMBERS 0) (all chosen some_right.1 some_right.2 [] host (Frame.Faulty NUMBERS) good (faulty_taken host NUMBERS (Some 0)) no_rows host_named (lit< tt) (passed_first host NUMBERS refl) refl (lit< tt))).0).1;
  answers = λ all. above_all (taken_parts _ (grew [] (faulty host 1 NUMBERS) (all chosen some_right.1 some_right.2 [] host (Frame.Faulty 1) (at_moment NUMBERS) (faulty_taken host 1 (Some NUMBERS)) no_rows host_named (lit< tt) (passed_first host 1 refl) refl (lit< tt))).0).2;
  over = λ all. false≢true (sym faulty_again ∙ (grew (faulty host 1 0 ∷ []) (faulty host 1 0)
      (all chosen some_right.1 some_right.2 (faulty host 1 0 ∷ []) host (Frame.Faulty 1) good (faulty_taken host 1 (Some 0)) faulty_journal host_named (lit< tt) (lit< tt) refl (lit< tt))).1);
  own = λ all. no_host (taken_parts _ (grew [] (faulty [] 1 0) (all chosen some_right.1 some_right.2 [] host (Frame.Faulty 1) good (faulty_taken [] 1 (Some 0)) no_rows host_named (lit< tt) (lit< tt) (passed_first host 1 refl) (lit< tt))).0).0;
  number = λ all. no_number NUMBERS refl (accepted_number _ refl refl (taken_parts _ (grew (final ∷ []) row
      (all chosen some_right.1 some_right.2 (final ∷ []) host (Frame.Event covered) good _ final_journal host_named is_covered_event (lit< tt, tt) covered_behind (made chosen some_right.1 some_right.2))).0).3);
}

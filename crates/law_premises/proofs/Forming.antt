-- Rows that are ill formed, or break the order.
use Rattle.std.proofs.Common.{◌≡◌, ℕ, ◌+◌, ◌-◌, ◌<◌, ◌^◌, Bool, true, false, not, ◌&&◌, nat_lt, length, List, [], ◌∷◌, ◌++◌, Option, None, Some, Result, Ok, codes, refl, sym, ◌∙◌, subst, lit<, arith}
use Rattle.std.proofs.lemmas.Bool.{and_parts, false≢true}
use Rattle.std.specs.Prelude.{◌==◌, ◌||◌, nat_le}
use Rattle.std.specs.Str.{is_utf8}
use Rattle.at_cbor.specs.Encoding.{info_of, tail_of}
use Rattle.at_car.specs.Varint.{groups}
use Rattle.at_syntax.specs.Did.{is_did}
use Rattle.at_syntax.specs.Host.{is_host}
use Rattle.at_event.specs.Formed.{IsShortText}
use Rattle.at_event.specs.Writing.{account_payload, event_message, out_length, out_of}
use Rattle.at_event.specs.declared.frame.Frame.{Frame}
use Rattle.at_event.specs.declared.head.Head.{Head}
use Rattle.at_event.specs.declared.refusal.Refusal.{Refusal}
use Rattle.relay_row.specs.Folds.{cursor, last_seq}
use Rattle.relay_row.specs.Journal.{IsJournal, keeps_order}
use Rattle.relay_row.specs.Rules.{are_bytes, is_about, is_accepted, is_carried, is_decided, is_effect, is_empty, is_fetched, is_message, is_moment, is_number, is_operated, is_positive, is_refused, is_row, is_string, is_taken, is_timed, names_did, names_host}
use Rattle.relay_row.specs.declared.carried.Carried.{Carried}
use Rattle.at_cid.specs.declared.limits.TheConstants.{NUMBERS}
use Rattle.relay_row.specs.declared.operated.Operated.{Operated}
use Rattle.relay_row.specs.declared.row.Row.{Row}
use Rattle.relay_row.specs.declared.taken.Taken.{Taken}
use Rattle.relay_row.proofs.Journals.{fronts, grew, grows, no_rows}
use Rattle.account_state.specs.Folds.{account}
use Rattle.relay_core.specs.Answering.{event_taken}
use Rattle.relay_core.specs.Operating.{operated_as, operated_message}
use Rattle.relay_core.specs.Rows.{faulty_taken}
use Rattle.relay_core.specs.Table.{next_of, no_answers}
use Rattle.relay_core.specs.declared.answers.Answers.{Answers}
use Rattle.relay_core.specs.declared.decision.Decision.{Decision}
use Rattle.relay_core.specs.declared.decision.Next.{Next}
use Rattle.relay_core.specs.Opening.{IsHeadOf}
use Rattle.relay_law.specs.Formed.{AreAnswersFor, IsOpenedAs}
use Rattle.law_premises.specs.Forming.{MadeMayBeIllFormed, OperatedMayBeIllFormed}
use Rattle.law_premises.proofs.Covered.{block, block_there, covered, empty_link, held_object, is_covered_event, nothing_shown, object_there, root_there, top}
use Rattle.law_premises.proofs.Samples.{ascii, did, did_named, host, host_named, host_text}

-- ---- rows in front

-- a last number that is none
abbrev pub bad : Row
bad = Row.Carried (Carried.Last 0)

bad_ill : is_row bad ≡ false
unfolding is_row is_carried
bad_ill = refl

ill_formed : (rows : List Row) (row : Row) → is_row row ≡ false → IsJournal (rows ++ row ∷ []) → ⊥
ill_formed rows row ill is = false≢true (sym ill ∙ (grew rows row is).0)

pub behind_bad : (row : Row) → IsJournal (bad ∷ row ∷ []) → ⊥
behind_bad row is = ill_formed [] bad bad_ill (fronts (bad ∷ []) (row ∷ []) is)

pub bad_last : last_seq (bad ∷ []) + 1 < NUMBERS
unfolding last_seq
bad_last = lit< tt

pub none_last : last_seq [] + 1 < NUMBERS
unfolding last_seq
none_last = lit< tt

-- the greatest number
abbrev pub final : Row
final = Row.Carried (Carried.Last (NUMBERS - 1))

final_formed : is_row final ≡ true
unfolding is_row is_carried
final_formed = refl

pub final_journal : IsJournal (final ∷ [])
final_journal = grows [] final no_rows final_formed refl

pub final_last : last_seq (final ∷ []) + 1 ≡ NUMBERS
unfolding last_seq
final_last = refl

-- ---- operators' rows

operated_parts : (o : Operated) → is_operated o ≡ true → (names_did o.did ≡ true) × (is_positive o.seq ≡ true) × (is_message o.message ≡ true) × (is_moment o.moment ≡ true)
unfolding is_operated
operated_parts o is =
    let one = and_parts (names_did o.did) (is_positive o.seq && (is_message o.message && is_moment o.moment)) is in
    let two = and_parts (is_positive o.seq) (is_message o.message && is_moment o.moment) one.1 in
    let three = and_parts (is_message o.message) (is_moment o.moment) two.1 in
    (one.0, two.0, three.0, three.1)

pub word_parts : (J : List Row) (o : Operated) → IsJournal (J ++ Row.Operated o ∷ []) → (names_did o.did ≡ true) × (is_positive o.seq ≡ true) × (is_message o.message ≡ true) × (is_moment o.moment ≡ true)
unfolding is_row
word_parts J o is = operated_parts o (grew J (Row.Operated o) is).0

pub no_did : names_did [] ≡ true → ⊥
unfolding is_did
no_did is = false≢true (and_parts (is_utf8 [] && true) false is).1

pub is_text_short : IsShortText (codes "t")
is_text_short = record { text = ascii (codes "t") refl (lit< tt); short = omega arith }

message_bytes : (message : List ℕ) → is_message message ≡ true → are_bytes message ≡ true
message_bytes message is = (and_parts (nat_lt (length message) (2 ^ 64)) (are_bytes message) (and_parts (is_string message) (not (is_empty message)) is).0).1

-- a time that is no list of bytes
no_time : are_bytes (operated_message (account did []) true did (300 ∷ []) (last_seq [] + 1)) ≡ false
unfolding event_message account_payload info_of tail_of last_seq
no_time = refl

pub above_all : is_moment (Some NUMBERS) ≡ true → ⊥
above_all is = false≢true is

pub no_number : (n : ℕ) → n ≡ NUMBERS → is_positive n ≡ true → ⊥
no_number n is positive = let less : nat_lt n NUMBERS ≡ true = (and_parts (nat_lt 0 n) (is_number n) positive).1 in false≢true (subst (λ (m : ℕ). nat_lt m NUMBERS ≡ true) is less)

pub operated_ill_formed : OperatedMayBeIllFormed
operated_ill_formed = record {
  journal = λ all. behind_bad _ (all (bad ∷ []) did true (codes "t") 0 did_named is_text_short (lit< tt) bad_last);
  did = λ all. no_did (word_parts [] _ (all [] [] true (codes "t") 0 no_rows is_text_short (lit< tt) none_last)).0;
  time = λ all. false≢true (sym no_time ∙ message_bytes (operated_as (last_seq []) (account did []) did true (300 ∷ []) (Some 0)).message (word_parts [] _ (all [] did true (300 ∷ []) 0 no_rows did_named (lit< tt) none_last)).2);
  moment = λ all. above_all (word_parts [] _ (all [] did true (codes "t") NUMBERS no_rows did_named is_text_short none_last)).3;
  number = λ all. no_number (last_seq (final ∷ []) + 1) final_last (word_parts (final ∷ []) _ (all (final ∷ []) did true (codes "t") 0 final_journal did_named is_text_short (lit< tt))).1;
}

abbrev pub headless : Head
headless = record { rev = 0; data_root = []; commit = [] }

-- ---- rows of messages

abbrev at_moment : ℕ → Answers
at_moment m = record no_answers { moment = Some m }

abbrev refused : Decision
refused = record { refusal = Some Refusal.BadEvent; held = false; gives = false }

abbrev pub faulty : List ℕ → ℕ → ℕ → Row
faulty h seq m = Row.Taken (faulty_taken h seq (Some m))

pub taken_parts : (t : Taken) → is_row (Row.Taken t) ≡ true → (names_host t.host ≡ true) × (is_number t.host_seq ≡ true) × (is_moment t.moment ≡ true) × (is_decided t.refusal t ≡ true)
unfolding is_row is_taken
taken_parts t is =
    let one = and_parts (names_host t.host) (is_number t.host_seq && (is_about t.kind t.did && (is_moment t.moment && is_decided t.refusal t))) is in
    let two = and_parts (is_number t.host_seq) (is_about t.kind t.did && (is_moment t.moment && is_decided t.refusal t)) one.1 in
    let three = and_parts (is_about t.kind t.did) (is_moment t.moment && is_decided t.refusal t) two.1 in
    let four = and_parts (is_moment t.moment) (is_decided t.refusal t) three.1 in
    (one.0, two.0, four.0, four.1)

faulty_formed : is_row (faulty host 1 0) ≡ true
unfolding is_row is_taken is_refused is_host
faulty_formed = rw host_text refl

faulty_first : keeps_order [] (faulty host 1 0) ≡ true
unfolding cursor last_seq
faulty_first = refl

pub faulty_journal : IsJournal (faulty host 1 0 ∷ [])
faulty_journal = grows [] (faulty host 1 0) no_rows faulty_formed faulty_first

pub faulty_again : keeps_order (faulty host 1 0 ∷ []) (faulty host 1 0) ≡ false
unfolding cursor last_seq
faulty_again = refl

pub no_host : names_host [] ≡ true → ⊥
unfolding is_host
no_host is = false≢true (and_parts (is_utf8 [] && true) false is).1

moment_is : (m n : ℕ) → m < NUMBERS → Some m ≡ Some n → n < NUMBERS
moment_is m n low same = let is : m ≡ n = cc in subst (λ (k : ℕ). k < NUMBERS) is low

next_in : (J : List Row) (h : List ℕ) (seq m : ℕ) → nat_le seq (cursor h J) ≡ false → next_of (cursor h J) (account [] J) (Frame.Faulty seq) (at_moment m) ≡ Next.Done refused
next_in J h seq m above = rw above refl

pub first_cursor : (h : List ℕ) → cursor h [] ≡ 0
unfolding cursor
first_cursor h = refl

pub bad_cursor : cursor host (bad ∷ []) ≡ 0
unfolding cursor
bad_cursor = refl

-- ---- an accepted commit behind the greatest number

abbrev accepted : Decision
accepted = record { refusal = None; held = false; gives = true }

abbrev pub its_head : Head
its_head = record { rev = 0; data_root = empty_link; commit = top }

abbrev agreed : Answers
agreed = record { moment = Some 0; refreshed = true; home = Some true; opened = Some (Ok its_head); verdict = Some true; linked = Some (Ok tt); fetched = None }

abbrev last_row : Row
last_row = Row.Taken (event_taken (last_seq (final ∷ [])) host covered accepted agreed)

head_there : IsHeadOf covered.body its_head
head_there = record { block = block; commit = held_object; found = record { root_is = root_there; block_is = block_there; object_is = object_there }; rev_is = refl; data_is = refl }

opened_is : (answer : Result Head Refusal) → Some (Ok its_head) ≡ Some answer → Ok its_head ≡ answer
opened_is answer same = cc

agreed_right : AreAnswersFor (last_seq (final ∷ [])) (account did (final ∷ [])) (Frame.Event covered) agreed
unfolding account
agreed_right = record {
  moment = λ m is. moment_is 0 m (lit< tt) is;
  opened = λ answer is. subst (λ (a : Result Head Refusal). IsOpenedAs covered.body None a) (opened_is answer is) (nothing_shown, head_there);
  linked = λ c h r body is. absurd cc;
  fetched = λ f is. absurd cc;
}

agreed_next : next_of (cursor host (final ∷ [])) (account did (final ∷ [])) (Frame.Event covered) agreed ≡ Next.Done accepted
unfolding account cursor out_length out_of event_message info_of tail_of groups
agreed_next = refl

alone : (b : Bool) → b || false ≡ true → b ≡ true
alone true is = refl
alone false is = is

pub accepted_number : (t : Taken) → t.refusal ≡ None → t.kind ≡ 1 → is_decided t.refusal t ≡ true → is_positive t.seq ≡ true
unfolding is_accepted
accepted_number t none kind is =
    let whole : is_accepted t ≡ true = subst (λ (q : Option Refusal). is_decided q t ≡ true) none is in
    let sent = (and_parts (is_fetched false (is_timed t.moment) t.fetched) _ (and_parts (is_effect t.kind t.effect) _ whole).1).1 in
    let goes = alone (is_positive t.seq && is_message t.message)
    (subst (λ (k : ℕ). (is_positive t.seq && is_message t.message) || (k == 4 && (t.seq == 0 && is_empty t.message)) ≡ true) kind sent) in
    (and_parts (is_positive t.seq) (is_message t.message) goes).0

pub made_ill_formed : MadeMayBeIllFormed
made_ill_formed = record {
  journal = λ all. behind_bad _ (all (bad ∷ []) host (Frame.Faulty 1) (at_moment 0) refused (faulty host 1 0) host_named (lit< tt) (λ n is. moment_is 0 n (lit< tt) is) (next_in (bad ∷ []) host 1 0 (rw bad_cursor refl)) refl (lit< tt));
  host = λ all. no_host (taken_parts _ (grew [] _ (all [] [] (Frame.Faulty 1) (at_moment 0) refused (faulty [] 1 0) no_rows (lit< tt) (λ n is. moment_is 0 n (lit< tt) is) (next_in [] [] 1 0 (rw (first_cursor []) refl)) refl (lit< tt))).0).0;
  frame = λ all. false≢true (taken_parts _ (grew [] _ (all [] host (Frame.Faulty NUMBERS) (at_moment 0) refused (faulty host NUMBERS 0) no_rows host_named (λ n is. moment_is 0 n (lit< tt) is) (next_in [] host NUMBERS 0 (rw (first_cursor host) refl)) refl (lit< tt))).0).1;
  answers = λ all. above_all (taken_parts _ (grew [] _ (all [] host (Frame.Faulty 1) (at_moment NUMBERS) refused (faulty host 1 NUMBERS) no_rows host_named (lit< tt) (next_in [] host 1 NUMBERS (rw (first_cursor host) refl)) refl (lit< tt))).0).2;
  next = λ all. false≢true (sym faulty_again ∙ (grew (faulty host 1 0 ∷ []) (faulty host 1 0) (all (faulty host 1 0 ∷ []) host (Frame.Faulty 1) (at_moment 0) refused (faulty host 1 0) faulty_journal host_named (lit< tt) (λ n is. moment_is 0 n (lit< tt) is) refl (lit< tt))).1);
  row = λ all. ill_formed [] bad bad_ill (all [] host (Frame.Faulty 1) (at_moment 0) refused bad no_rows host_named (lit< tt) (λ n is. moment_is 0 n (lit< tt) is) (next_in [] host 1 0 (rw (first_cursor host) refl)) (lit< tt));
  number = λ all. no_number (last_seq (final ∷ []) + 1) final_last (accepted_number _ refl refl (taken_parts _ (grew (final ∷ []) _ (all (final ∷ []) host (Frame.Event covered) agreed accepted last_row final_journal host_named is_covered_event agreed_right agreed_next refl)).0).3);
}

-- Small cases in which all premises but one hold, and a relay behind a relay doesn't follow.
use Rattle.std.proofs.Common.{◌≡◌, ℕ, ◌+◌, ◌<◌, true, false, List, [], ◌∷◌, replicate, Some, None, Result, Ok, Err, codes, refl, sym, subst, arith, lit<, lit≤, ◌≢◌, ◌&&◌}
use Rattle.std.specs.Str.{is_utf8}
use Rattle.std.proofs.lemmas.Bool.{and_from}
use Rattle.std.proofs.lemmas.Str.{IsUtf8-from_is_utf8}
use Rattle.at_cid.specs.declared.limits.TheConstants.{NUMBERS}
use Rattle.at_cbor.specs.Heads.{argued, argument_at, head_at, major_of}
use Rattle.at_cbor.specs.Majors.{major_in}
use Rattle.at_cbor.specs.Reading.{body_of as item_body, item_at}
use Rattle.at_cbor.specs.Taking.{item_from_front, whole_item}
use Rattle.at_syntax.specs.Did.{is_did}
use Rattle.at_event.specs.Formed.{IsShortText}
use Rattle.at_event.specs.Frames.{frame_of, items_in}
use Rattle.at_event.specs.Writing.{account_seen}
use Rattle.at_event.specs.declared.frame.Frame.{Frame}
use Rattle.at_event.specs.declared.frame.FrameFault.{FrameFault}
use Rattle.at_event.proofs.OwnEvents.{account_read}
use Rattle.at_event.proofs.Texts.{ascii_text}
use Rattle.relay_row.specs.Folds.{cursor, is_named, last_seq}
use Rattle.relay_row.specs.Journal.{IsJournal, keeps_order}
use Rattle.relay_row.specs.Rules.{is_carried, is_operated, is_row, names_did}
use Rattle.relay_row.specs.declared.carried.Carried.{Carried}
use Rattle.relay_row.specs.declared.carried.CarriedRepo.{CarriedRepo}
use Rattle.relay_row.specs.declared.operated.Operated.{Operated}
use Rattle.relay_row.specs.declared.row.Row.{Row}
use Rattle.relay_row.proofs.Journals.{grows, no_rows}
use Rattle.account_state.specs.Folds.{account}
use Rattle.account_state.specs.declared.repo.Repo.{Repo}
use Rattle.relay_core.specs.Decide.{Checks}
use Rattle.relay_core.specs.Operating.{operate_refusal, operated_as}
use Rattle.relay_core.specs.Rows.{faulty_taken}
use Rattle.relay_core.specs.Runs.{Run, RunFrom}
use Rattle.relay_law.proofs.Choosing.{some_right}
use Rattle.relay_law.proofs.Operating.{operated_formed}
use Rattle.relay_law.proofs.Own.{did_named, takendown}
use Rattle.chain_law.specs.Chained.{FollowsAll}
use Rattle.chain_law.specs.Given.{AreGiven}
use Rattle.chain_law.specs.Needed.{Case, HoldsPremise, IsNeeded, Premise, PremisesAreNeeded, wants_cursor, wants_given, wants_journal, wants_new, wants_raised, wants_run, wants_shown, wants_timely, wants_uncut, wants_yes}

abbrev checks : Checks
checks = some_right.0

abbrev host : List ℕ
host = codes "a.b"

abbrev did : List ℕ
did = codes "did:plc:a"

abbrev link : List ℕ
link = 0x01 ∷ 0x71 ∷ 0x12 ∷ 0x20 ∷ replicate 32 0

did_text : is_utf8 did ≡ true
did_text = (ascii_text did refl (lit< tt)).1

named : names_did did ≡ true
unfolding is_did
named = and_from (is_utf8 did && true) true (and_from (is_utf8 did) true did_text refl) refl

-- ---- an account that is carried

abbrev last_row : Row
last_row = Row.Carried (Carried.Last 1)

abbrev held : Row
held = Row.Carried (Carried.Account (record { did = did; active = true; status = None; down = false; repo = CarriedRepo.Good (record { rev = 0; data_root = link; commit = link }) }))

abbrev carried : List Row
carried = last_row ∷ held ∷ []

last_formed : is_row last_row ≡ true
unfolding is_row is_carried
last_formed = refl

held_formed : is_row held ≡ true
unfolding is_row is_carried is_did
held_formed = rw did_text refl

last_next : keeps_order [] last_row ≡ true
last_next = refl

held_next : keeps_order (last_row ∷ []) held ≡ true
unfolding is_named
held_next = refl

carried_journal : IsJournal carried
carried_journal = grows (last_row ∷ []) held (grows [] last_row no_rows last_formed last_next) held_formed held_next

abbrev cut_case : Case
cut_case = record { one = carried; two = []; rows = []; host = host; did = did; shows = λ row. true }

cut_others : (other : Premise) → other ≢ wants_uncut → HoldsPremise checks cut_case other
unfolding cursor is_named
cut_others wants_journal apart = carried_journal
cut_others wants_given apart = (tt, (tt, tt))
cut_others wants_cursor apart = refl
cut_others wants_run apart = refl
cut_others wants_yes apart = refl
cut_others wants_uncut apart = absurd (apart refl)
cut_others wants_shown apart = refl
cut_others wants_raised apart = (λ is. refl, (λ is. refl, tt))
cut_others wants_new apart = refl
cut_others wants_timely apart = refl

cut_fails : FollowsAll did carried [] [] → ⊥
unfolding account
cut_fails follows = let same : Repo.Missing ≡ Repo.Good (record { rev = 0; data_root = link; commit = link }) = follows.repo (λ rev lost. absurd cc) in absurd cc

-- ---- a second relay that knows the account

abbrev known_case : Case
known_case = record { one = []; two = carried; rows = []; host = host; did = did; shows = λ row. true }

known_others : (other : Premise) → other ≢ wants_new → HoldsPremise checks known_case other
unfolding cursor
known_others wants_journal apart = no_rows
known_others wants_given apart = tt
known_others wants_cursor apart = refl
known_others wants_run apart = refl
known_others wants_yes apart = refl
known_others wants_uncut apart = refl
known_others wants_shown apart = refl
known_others wants_raised apart = tt
known_others wants_new apart = absurd (apart refl)
known_others wants_timely apart = refl

known_fails : FollowsAll did [] carried [] → ⊥
unfolding account
known_fails follows = let same : Repo.Good (record { rev = 0; data_root = link; commit = link }) ≡ Repo.Missing = follows.repo (λ rev lost. absurd cc) in absurd cc

-- ---- an account that an operator took down

short : IsShortText []
short = record { text = ascii_text [] refl (lit< tt); short = lit≤ tt }

no_number : last_seq [] ≡ 0
unfolding last_seq
no_number = refl

below : last_seq [] + 1 < NUMBERS
below = omega (arith, no_number)

abbrev down : Operated
down = operated_as (last_seq []) (account did []) did true [] (Some 0)

abbrev taken_down : List Row
taken_down = Row.Operated down ∷ []

down_journal : IsJournal taken_down
down_journal = operated_formed [] did true [] 0 no_rows named short (lit< tt) below

up_before : operate_refusal (account did []) true ≡ None
unfolding account
up_before = refl

down_given : AreGiven checks [] taken_down
down_given = (record { time = []; short = short; allowed = up_before; is = refl }, tt)

down_reads : frame_of down.message ≡ Ok (Frame.Event (account_seen did false (Some (codes "takendown")) [] (last_seq [] + 1)))
down_reads =
    let is = did_named did named in
    account_read did false [] (last_seq [] + 1) is.0.0 (IsUtf8-from_is_utf8 did is.0.1) is.1 short.text.0 (IsUtf8-from_is_utf8 [] short.text.1) short.short below (Some (codes "takendown")) takendown

abbrev hidden_case : Case
hidden_case = record { one = taken_down; two = []; rows = []; host = host; did = did; shows = λ row. false }

hidden_others : (other : Premise) → other ≢ wants_shown → HoldsPremise checks hidden_case other
unfolding cursor is_named
hidden_others wants_journal apart = down_journal
hidden_others wants_given apart = down_given
hidden_others wants_cursor apart = refl
hidden_others wants_run apart = refl
hidden_others wants_yes apart = refl
hidden_others wants_uncut apart = refl
hidden_others wants_shown apart = absurd (apart refl)
hidden_others wants_raised apart = (λ is. refl, tt)
hidden_others wants_new apart = refl
hidden_others wants_timely apart = refl

abbrev idle_case : Case
idle_case = record { one = taken_down; two = []; rows = []; host = host; did = did; shows = λ row. true }

idle_others : (other : Premise) → other ≢ wants_run → HoldsPremise checks idle_case other
unfolding cursor is_named
idle_others wants_journal apart = down_journal
idle_others wants_given apart = down_given
idle_others wants_cursor apart = refl
idle_others wants_run apart = absurd (apart refl)
idle_others wants_yes apart = refl
idle_others wants_uncut apart = refl
idle_others wants_shown apart = refl
idle_others wants_raised apart = (λ is. refl, tt)
idle_others wants_new apart = refl
idle_others wants_timely apart = refl

-- a second relay that took five messages of the host
abbrev ahead : List Row
ahead = Row.Taken (faulty_taken host 5 None) ∷ []

ahead_run : Run checks ahead ((host, frame_of down.message) ∷ []) []
unfolding cursor last_seq
ahead_run = let P : Result Frame FrameFault → Type 0 = λ f. RunFrom checks ahead [] ((host, f) ∷ []) [] in subst P (sym down_reads) refl

abbrev ahead_case : Case
ahead_case = record { one = taken_down; two = ahead; rows = []; host = host; did = did; shows = λ row. true }

ahead_others : (other : Premise) → other ≢ wants_cursor → HoldsPremise checks ahead_case other
unfolding is_named
ahead_others wants_journal apart = down_journal
ahead_others wants_given apart = down_given
ahead_others wants_cursor apart = absurd (apart refl)
ahead_others wants_run apart = ahead_run
ahead_others wants_yes apart = refl
ahead_others wants_uncut apart = refl
ahead_others wants_shown apart = refl
ahead_others wants_raised apart = (λ is. refl, tt)
ahead_others wants_new apart = refl
ahead_others wants_timely apart = refl

-- ---- a row whose message is none

abbrev torn : Row
torn = Row.Operated (record { did = did; down = true; seq = 1; message = 0 ∷ []; moment = None })

torn_formed : is_row torn ≡ true
unfolding is_row is_operated is_did
torn_formed = rw did_text refl

torn_next : keeps_order [] torn ≡ true
unfolding last_seq
torn_next = refl

no_frame : frame_of (0 ∷ []) ≡ Err FrameFault.BadFrame
unfolding frame_of items_in item_from_front item_at head_at argued argument_at major_in major_of item_body whole_item
no_frame = refl

torn_run : Run checks [] ((host, frame_of (0 ∷ [])) ∷ []) []
torn_run = let P : Result Frame FrameFault → Type 0 = λ f. RunFrom checks [] [] ((host, f) ∷ []) [] in subst P (sym no_frame) refl

abbrev torn_case : Case
torn_case = record { one = torn ∷ []; two = []; rows = []; host = host; did = did; shows = λ row. true }

torn_others : (other : Premise) → other ≢ wants_given → HoldsPremise checks torn_case other
unfolding cursor is_named
torn_others wants_journal apart = grows [] torn no_rows torn_formed torn_next
torn_others wants_given apart = absurd (apart refl)
torn_others wants_cursor apart = refl
torn_others wants_run apart = torn_run
torn_others wants_yes apart = refl
torn_others wants_uncut apart = refl
torn_others wants_shown apart = refl
torn_others wants_raised apart = (λ is. refl, tt)
torn_others wants_new apart = refl
torn_others wants_timely apart = refl

-- ---- all of them

needed : (premise : Premise) (c : Case) → ((other : Premise) → other ≢ premise → HoldsPremise checks c other) → (FollowsAll c.did c.one c.two c.rows → ⊥) → IsNeeded premise
needed premise c others fails = record { checks = checks; opens = some_right.1; links = some_right.2; case = c; others = others; fails = fails }

pub premises_needed : PremisesAreNeeded
premises_needed = record {
  given = needed wants_given torn_case torn_others (λ follows. follows.accepted);
  cursor = needed wants_cursor ahead_case ahead_others (λ follows. follows.accepted);
  run = needed wants_run idle_case idle_others (λ follows. follows.accepted);
  uncut = needed wants_uncut cut_case cut_others cut_fails;
  shown = needed wants_shown hidden_case hidden_others (λ follows. follows.accepted);
  new = needed wants_new known_case known_others known_fails;
}

-- What operators' commands make: rows that are ill formed, and messages that read as something else.
use Rattle.std.proofs.Common.{◌≡◌, ℕ, ◌+◌, ◌<◌, ◌^◌, true, false, cond, ◌&&◌, ltb, List, [], ◌∷◌, ◌++◌, length, replicate, Option, None, Some, Result, Ok, codes, refl, sym, ◌∙◌, ap, subst, lit<, arith}
use Rattle.std.proofs.lemmas.Bool.{and_parts, false≢true}
use Rattle.std.specs.FinMap as map
use Rattle.std.specs.List.{list_all}
use Rattle.std.specs.Ordering.{eq_by_cmp}
use Rattle.at_cbor.specs.Item.{Item}
use Rattle.at_cbor.specs.Encoding.{Fits, IsText, info_of, tail_of}
use Rattle.at_cbor.specs.declared.decoding.TheConstants.{DEPTH}
use Rattle.at_car.specs.Blocks.{BlockMap}
use Rattle.at_car.specs.Form.{header_bytes, sections_bytes}
use Rattle.at_car.specs.Varint.{groups}
use Rattle.at_car.specs.Writing.{car_header, written}
use Rattle.at_cid.specs.Link.{IsBytes}
use Rattle.at_cid.specs.Order.{key_cmp}
use Rattle.at_cid.specs.OrderLaws.{key_total}
use Rattle.at_cid.proofs.Order.{cmp_exact}
use Rattle.at_form.specs.Forms.{did_in, present_value, number_in, short_text_in}
use Rattle.at_syntax.specs.Did.{is_did}
use Rattle.at_syntax.specs.Tid.{character_at, digits_of}
use Rattle.at_event.specs.Frames.{frame_of}
use Rattle.at_event.specs.Table.{event_of, seq_of}
use Rattle.at_event.specs.Writing.{account_payload, event_message, sync_payload}
use Rattle.at_event.specs.declared.event.Body.{Body}
use Rattle.at_event.specs.declared.frame.Frame.{Frame}
use Rattle.at_event.specs.declared.frame.FrameFault.{FrameFault}
use Rattle.at_event.specs.declared.kind.EventKind.{EventKind}
use Rattle.at_event.proofs.Texts.{digits_text}
use Rattle.relay_row.specs.Folds.{last_seq}
use Rattle.relay_row.specs.Journal.{IsJournal, keeps_order}
use Rattle.relay_row.specs.Rules.{is_head, is_message, is_moment, is_number, is_operated, is_positive, is_row, is_whole, names_did}
use Rattle.relay_row.specs.declared.fetched.Whole.{Whole}
use Rattle.at_cid.specs.declared.limits.TheConstants.{NUMBERS}
use Rattle.relay_row.specs.declared.row.Row.{Row}
use Rattle.relay_row.proofs.Journals.{grew, grows, no_rows}
use Rattle.account_state.specs.Folds.{account}
use Rattle.relay_core.specs.Decide.{commit_blocks, commit_car, found, sync_message, whole_under}
use Rattle.relay_core.specs.Operating.{operated_as}
use Rattle.relay_law.specs.Faithful.{IsReadBack, ReadsAs, SendsWhatItKeeps}
use Rattle.relay_law.specs.Formed.{IsFormedFound}
use Rattle.law_premises.specs.Forming.{SyncedMayBeIllFormed}
use Rattle.law_premises.specs.Runs.{OperatorsMayBeUnfaithful}
use Rattle.law_premises.proofs.Forming.{above_all, bad, bad_last, behind_bad, final, final_journal, final_last, headless, is_text_short, no_did, no_number, none_last}
use Rattle.law_premises.proofs.Messages.{faulty_read}
use Rattle.law_premises.proofs.Samples.{ascii, bytes_by, did, did_named, did_text, link, top}

-- ---- a CAR of an empty block

abbrev one_block : List (List ℕ × List ℕ)
one_block = (link 0, []) ∷ []

abbrev car : List ℕ
car = header_bytes (car_header (link 0)) ++ sections_bytes one_block

same_blocks : commit_blocks top [] ≡ map.from_sorted {R = key_cmp} one_block
same_blocks = map.same_map key_total cmp_exact (commit_blocks top []) (map.from_sorted {R = key_cmp} one_block) (λ q.
    map.get-insert key_total map.empty (link 0) [] q ∙ ap (λ (o : Option (List ℕ)). cond (eq_by_cmp key_cmp q (link 0)) (Some []) o) (map.get-empty key_cmp q) ∙ sym (map.get-from_sorted key_cmp one_block q tt))

car_of_sorted : written (link 0) (map.from_sorted {R = key_cmp} one_block) ≡ car
unfolding written key_cmp
car_of_sorted = rw (map.entries-from_sorted key_cmp one_block tt, map.get-from_sorted key_cmp one_block (link 0) tt) refl

car_is : commit_car top [] ≡ car
car_is = ap (λ (m : BlockMap). written (link 0) m) same_blocks ∙ car_of_sorted

-- ---- rows of repositories

none_found : IsFormedFound (last_seq []) did [] (found top 0 [])
unfolding sync_message event_message sync_payload info_of tail_of groups digits_of character_at last_seq
none_found = (refl, lit< tt, rw car_is refl)

nameless_found : IsFormedFound (last_seq []) [] [] (found top 0 [])
unfolding sync_message event_message sync_payload info_of tail_of groups digits_of character_at last_seq
nameless_found = (refl, lit< tt, rw car_is refl)

bad_found : IsFormedFound (last_seq (bad ∷ [])) did [] (found top 0 [])
unfolding sync_message event_message sync_payload info_of tail_of groups digits_of character_at last_seq
bad_found = (refl, lit< tt, rw car_is refl)

final_found : IsFormedFound (last_seq (final ∷ [])) did [] (found top 0 [])
unfolding sync_message event_message sync_payload info_of tail_of groups digits_of character_at last_seq
final_found = (refl, lit< tt, rw car_is refl)

synced_parts : (d : List ℕ) (w : Whole) (moment : Option ℕ) → is_row (Row.Synced d w moment) ≡ true → (names_did d ≡ true) × (is_whole w ≡ true) × (is_moment moment ≡ true)
unfolding is_row
synced_parts d w moment is =
    let one = and_parts (names_did d) (is_whole w && is_moment moment) is in
    let two = and_parts (is_whole w) (is_moment moment) one.1 in
    (one.0, two.0, two.1)

whole_parts : (w : Whole) → is_whole w ≡ true → (is_positive w.seq ≡ true) × (is_head w.head ≡ true)
unfolding is_whole
whole_parts w is =
    let one = and_parts (is_positive w.seq) (is_head w.head && (is_number w.records && is_message w.message)) is in
    (one.0, (and_parts (is_head w.head) (is_number w.records && is_message w.message) one.1).0)

pub synced_ill_formed : SyncedMayBeIllFormed
synced_ill_formed = record {
  journal = λ all. behind_bad _ (all (bad ∷ []) did [] top 0 [] 0 did_named bad_found (lit< tt) bad_last);
  did = λ all. no_did (synced_parts [] _ (Some 0) (grew [] _ (all [] [] [] top 0 [] 0 no_rows nameless_found (lit< tt) none_last)).0).0;
  fetched = λ all. false≢true (whole_parts _ (synced_parts did _ (Some 0) (grew [] _ (all [] did [] headless 0 [] 0 no_rows did_named (lit< tt) none_last)).0).1).1;
  moment = λ all. above_all (synced_parts did _ (Some NUMBERS) (grew [] _ (all [] did [] top 0 [] NUMBERS no_rows did_named none_found none_last)).0).2;
  number = λ all. no_number (last_seq (final ∷ []) + 1) final_last (whole_parts _ (synced_parts did _ (Some 0) (grew (final ∷ []) _ (all (final ∷ []) did [] top 0 [] 0 final_journal did_named final_found (lit< tt))).0).1).0;
}

-- ---- messages that read as no event

abbrev long : List ℕ
long = replicate 65 116

abbrev own_account : List ℕ → List ℕ → Item
own_account d time = account_payload d false (Some (codes "takendown")) time 1

account_fits : (d time : List ℕ) → IsText d → IsText time → Fits (own_account d time) DEPTH
unfolding account_payload key_cmp
account_fits d time named timed = (
  lit< tt,
  lit< tt,
  (
    ascii (codes "did") refl (lit< tt),
    refl,
    named,
    (
      ascii (codes "seq") refl (lit< tt),
      refl,
      lit< tt,
      (
        ascii (codes "time") refl (lit< tt),
        refl,
        timed,
        (ascii (codes "active") refl (lit< tt), refl, tt, (ascii (codes "status") refl (lit< tt), refl, ascii (codes "takendown") refl (lit< tt), tt)),
      ),
    ),
  ),
)

account_unread : (d time : List ℕ) → IsText d → IsText time → event_of EventKind.Account 1 (own_account d time) ≡ None → frame_of (event_message EventKind.Account (own_account d time)) ≡ Ok (Frame.Faulty 1)
unfolding account_payload seq_of present_value number_in
account_unread d time named timed none = faulty_read EventKind.Account (own_account d time) 1 _ (account_fits d time named timed) refl refl none

long_account : event_of EventKind.Account 1 (own_account did long) ≡ None
unfolding event_of account_payload did_in is_did short_text_in present_value
long_account = refl

nameless_account : event_of EventKind.Account 1 (own_account [] (codes "t")) ≡ None
unfolding event_of account_payload did_in is_did present_value
nameless_account = refl

not_read : (message d : List ℕ) (seq : ℕ) (Says : Body → Type 0) → frame_of message ≡ Ok (Frame.Faulty 1) → ReadsAs message d seq Says → ⊥
not_read message d seq Says faulty reads =
    let same : ◌≡◌ {A = Result Frame FrameFault} (Ok (Frame.Faulty 1)) (Ok (Frame.Event reads.event)) = sym faulty ∙ reads.reads in
    absurd cc

did_is_text : IsText did
did_is_text = ascii did refl (lit< tt)

none_is_text : IsText []
none_is_text = ascii [] refl (lit< tt)

long_is_text : IsText long
long_is_text = ascii long refl (lit< tt)

abbrev long_word : Row
long_word = Row.Operated (operated_as (last_seq []) (account did []) did true long (Some 0))

long_formed : is_row long_word ≡ true
unfolding is_row is_operated is_did event_message account_payload info_of tail_of last_seq
long_formed = rw did_text refl

long_next : keeps_order [] long_word ≡ true
unfolding last_seq
long_next = refl

long_journal : IsJournal (long_word ∷ [])
long_journal = grows [] long_word no_rows long_formed long_next

long_unread : SendsWhatItKeeps [] long_word → ⊥
unfolding last_seq
long_unread reads = not_read _ _ _ _ (account_unread did long did_is_text long_is_text long_account) reads

nameless_unread : SendsWhatItKeeps [] (Row.Operated (operated_as (last_seq []) (account [] []) [] true (codes "t") (Some 0))) → ⊥
unfolding last_seq
nameless_unread reads = not_read _ _ _ _ (account_unread [] (codes "t") none_is_text (ascii (codes "t") refl (lit< tt)) nameless_account) reads

-- ---- the same of a repository

abbrev own_sync : List ℕ → List ℕ → Item
own_sync d time = sync_payload d 0 (commit_car top []) time 1

car_tested : (length car < 256) × (list_all (λ c. ltb c 256) car ≡ true)
unfolding groups info_of tail_of
car_tested = (lit< tt, refl)

blocks_fit : (length (commit_car top []) < 2 ^ 64) × IsBytes (commit_car top [])
blocks_fit = subst (λ (c : List ℕ). (length c < 2 ^ 64) × IsBytes c) (sym car_is) (omega (arith, car_tested.0), bytes_by car car_tested.1)

sync_fits : (d time : List ℕ) → IsText d → IsText time → Fits (own_sync d time) DEPTH
unfolding sync_payload key_cmp
sync_fits d time named timed = (
  lit< tt,
  lit< tt,
  (
    ascii (codes "did") refl (lit< tt),
    refl,
    named,
    (
      ascii (codes "rev") refl (lit< tt),
      refl,
      digits_text 0 (lit< tt),
      (
        ascii (codes "seq") refl (lit< tt),
        refl,
        lit< tt,
        (ascii (codes "time") refl (lit< tt), refl, timed, (ascii (codes "blocks") refl (lit< tt), refl, blocks_fit, tt)),
      ),
    ),
  ),
)

sync_unread : (d time : List ℕ) → IsText d → IsText time → event_of EventKind.Sync 1 (own_sync d time) ≡ None → frame_of (sync_message d time top [] 1) ≡ Ok (Frame.Faulty 1)
unfolding sync_message sync_payload seq_of present_value number_in
sync_unread d time named timed none = faulty_read EventKind.Sync (own_sync d time) 1 _ (sync_fits d time named timed) refl refl none

long_sync : event_of EventKind.Sync 1 (own_sync did long) ≡ None
unfolding event_of sync_payload did_in is_did short_text_in present_value
long_sync = refl

nameless_sync : event_of EventKind.Sync 1 (own_sync [] (codes "t")) ≡ None
unfolding event_of sync_payload did_in is_did present_value
nameless_sync = refl

abbrev taken_over : List ℕ → List ℕ → Row
taken_over d time = Row.Synced d (whole_under d time top 0 [] (last_seq [] + 1)) (Some 0)

over_formed : is_row (taken_over did long) ≡ true
unfolding is_row is_whole is_did sync_message event_message sync_payload info_of tail_of groups digits_of character_at last_seq
over_formed = rw (did_text, car_is) refl

over_next : keeps_order [] (taken_over did long) ≡ true
unfolding last_seq
over_next = refl

over_journal : IsJournal (taken_over did long ∷ [])
over_journal = grows [] (taken_over did long) no_rows over_formed over_next

over_unread : IsReadBack (taken_over did long) → ⊥
unfolding last_seq
over_unread reads = not_read _ _ _ _ (sync_unread did long did_is_text long_is_text long_sync) reads

nameless_over : IsReadBack (taken_over [] (codes "t")) → ⊥
unfolding last_seq
nameless_over reads = not_read _ _ _ _ (sync_unread [] (codes "t") none_is_text (ascii (codes "t") refl (lit< tt)) nameless_sync) reads

pub operators_unfaithful : OperatorsMayBeUnfaithful
operators_unfaithful = record {
  operated_time = λ all. long_unread (all [] did true long (Some 0) long_journal);
  operated_journal = λ all. nameless_unread (all [] [] true (codes "t") (Some 0) is_text_short);
  synced_time = λ all. over_unread (all [] did long top 0 [] (Some 0) over_journal);
  synced_journal = λ all. nameless_over (all [] [] (codes "t") top 0 [] (Some 0) is_text_short);
}

-- The relay's own messages are read as what they say.
use Rattle.std.proofs.Common.{◌≡◌, ◌+◌, ◌<◌, ℕ, Bool, true, false, ◌&&◌, List, [], ◌∷◌, ◌++◌, length, cond, Option, Some, None, codes, refl, ◌∙◌, sym, subst, arith, length-append, lit<, lit≤}
use Rattle.std.proofs.lemmas.Bool.{and_parts, false≢true, ltb-true, leb-true}
use Rattle.std.proofs.lemmas.Str.{IsUtf8-from_is_utf8}
use Rattle.std.specs.List.{list_all}
use Rattle.std.specs.Prelude.{nat_lt, nat_le}
use Rattle.std.specs.Str.{bytes_eq}
use Rattle.at_cbor.specs.Item.{Item, Fields, no_fields, field}
use Rattle.at_cbor.specs.Kinds.{value_of, field_of}
use Rattle.at_cbor.specs.Encoding.{front_of, encoding, text_encoding, fields_count, fields_encoding, IsString, IsText}
use Rattle.at_cbor.specs.declared.major.Major.{Major}
use Rattle.at_syntax.specs.Did.{is_did}
use Rattle.at_event.specs.Formed.{IsShortText}
use Rattle.at_event.specs.Refusals.{code_of}
use Rattle.at_event.specs.Writing.{header_of, event_message, sync_payload, sync_seen, account_seen}
use Rattle.at_event.specs.declared.event.Body.{Body}
use Rattle.at_event.specs.declared.event.SyncEvent.{SyncEvent}
use Rattle.at_event.specs.declared.head.Head.{Head}
use Rattle.at_event.specs.declared.kind.EventKind.{EventKind}
use Rattle.at_event.specs.declared.refusal.Refusal.{Refusal}
use Rattle.at_event.proofs.OwnEvents.{IsStatus, sync_again, account_read}
use Rattle.at_event.proofs.Texts.{ascii_text}
use Rattle.relay_row.specs.Folds.{folded, names, did_of_row, last_seq}
use Rattle.relay_row.specs.Journal.{IsJournal}
use Rattle.relay_row.specs.Rules.{is_text, is_number, is_positive, is_rev, is_head, is_node, is_cid, is_message, is_moment, is_status, is_whole, is_operated, is_carried, is_row, is_repo, loses, names_did}
use Rattle.relay_row.specs.declared.carried.Carried.{Carried}
use Rattle.relay_row.specs.declared.fetched.Fetched.{Fetched}
use Rattle.at_cid.specs.declared.limits.TheConstants.{NUMBERS}
use Rattle.at_form.specs.declared.forms.TheConstants.{LONGEST_SHORT_TEXT}
use Rattle.relay_row.specs.declared.operated.Operated.{Operated}
use Rattle.relay_row.specs.declared.row.Row.{Row}
use Rattle.relay_row.specs.declared.taken.Effect.{Effect}
use Rattle.relay_row.proofs.Journals.{fronts, grew}
use Rattle.relay_row.proofs.Fits.{FitsEffect, message_fits, rev_fits, text_fits, did_text, taken_fits}
use Rattle.account_state.specs.Folds.{account, account_after, effected, fresh, last_rev, lost, moved, refetched}
use Rattle.account_state.specs.State.{State}
use Rattle.account_state.specs.declared.repo.Repo.{Repo}
use Rattle.commit_check.proofs.Held.{bytes_left, bytes_right}
use Rattle.relay_core.specs.Decide.{commit_car, sync_message, whole_under}
use Rattle.relay_core.specs.Opening.{IsHeadOf}
use Rattle.relay_core.specs.Operating.{operated_as, operated_message}
use Rattle.relay_core.specs.Rows.{kind_number}
use Rattle.relay_law.specs.Faithful.{ReadsAs, IsCommandOf, IsReadBack, SendsRev, SendsSync, SendsWhatItKeeps}
use Rattle.relay_law.specs.Heads.{BlockGives}
use Rattle.relay_law.specs.Laws.{OperatorsAreFaithful, operated_row, synced_row}
use Rattle.relay_law.proofs.Blocks.{own_head}

-- ---- the blocks in a message that is a byte string are one

string_left : (a b : List ℕ) → IsString (a ++ b) → IsString a
string_left a b h = (omega (arith, h.0, length-append a b), bytes_left a b h.1)

string_right : (a b : List ℕ) → IsString (a ++ b) → IsString b
string_right a b h = (omega (arith, h.0, length-append a b), bytes_right a b h.1)

same_item : (i j : Item) → Some i ≡ Some j → i ≡ j
same_item i j e = cc

value_string : (fs : Fields) (name : List ℕ) (i : Item) → IsString (fields_encoding fs) → value_of fs name ≡ Some i → IsString (encoding i)
value_string no_fields name i h e = absurd cc
value_string (field k j fs) name i h e =
    let behind = string_right (text_encoding k) (encoding j ++ fields_encoding fs) h in
    elim (bytes_eq k name) as (λ b. cond b (Some j) (value_of fs name) ≡ Some i → IsString (encoding i)) [
      | true ↦ λ same. subst (λ (x : Item). IsString (encoding x)) (same_item j i same) (string_left (encoding j) (fields_encoding fs) behind)
      | false ↦ λ other. value_string fs name i (string_right (encoding j) (fields_encoding fs) behind) other
    ] e

payload_value : (header : List ℕ) (payload : Item) (name : List ℕ) (i : Item) → IsString (header ++ encoding payload) → field_of payload name ≡ Some i → IsString (encoding i)
payload_value header (Item.map fs) name i h e = value_string fs name i (string_right (front_of Major.Map (fields_count fs)) (fields_encoding fs) (string_right header (encoding (Item.map fs)) h)) e
payload_value header payload name i h e = absurd cc

pub sync_blocks : (did : List ℕ) (rev : ℕ) (blocks time : List ℕ) (seq : ℕ) → IsString (event_message EventKind.Sync (sync_payload did rev blocks time seq)) → IsString blocks
unfolding event_message sync_payload
sync_blocks did rev blocks time seq h =
    string_right (front_of Major.Bytes (length blocks)) blocks (payload_value (encoding (header_of EventKind.Sync)) (sync_payload did rev blocks time seq) (codes "blocks") (Item.bytes blocks) h refl)

-- ---- the relay's own `#sync`

pub number_below : (n : ℕ) → is_positive n ≡ true → n < NUMBERS
number_below n h = ltb-true n NUMBERS (and_parts (nat_lt 0 n) (is_number n) h).1

abbrev pub own_sync : List ℕ → Head → List ℕ → SyncEvent
own_sync did head block = record { did = did; rev = head.rev; blocks = commit_car head block }

-- the message is read as what it says, and holds bytes
record ReadsOwn (did time : List ℕ) (head : Head) (block : List ℕ) (n : ℕ) : Type 0 where
  sent : ReadsAs (sync_message did time head block n) did n (λ body. body ≡ Body.Sync (own_sync did head block))
  car : IsString (commit_car head block)
  formed : is_head head ≡ true

own_reads : (did time : List ℕ) (head : Head) (records : ℕ) (block : List ℕ) (n : ℕ) → IsText did → is_did did ≡ true → IsShortText time → is_whole (whole_under did time head records block n) ≡ true
    → ReadsOwn did time head block n
unfolding is_whole sync_message
own_reads did time head records block n text is short formed =
    let message = event_message EventKind.Sync (sync_payload did head.rev (commit_car head block) time n) in
    let one = and_parts (is_positive n) (is_head head && (is_number records && is_message message)) formed in
    let two = and_parts (is_head head) (is_number records && is_message message) one.1 in
    let three = and_parts (is_number records) (is_message message) two.1 in
    let rev = rev_fits head.rev (and_parts (is_rev head.rev) (is_node head.data_root && is_cid head.commit) two.0).0 in
    let car = sync_blocks did head.rev (commit_car head block) time n (message_fits message three.1) in
    record {
      sent = record {
        event = sync_seen did head.rev (commit_car head block) time n;
        reads = sync_again did head.rev (commit_car head block) time n text.0 (IsUtf8-from_is_utf8 did text.1) is rev car short.text.0 (IsUtf8-from_is_utf8 time short.text.1) short.short (number_below n one.0);
        did_is = refl;
        seq_is = refl;
        says = refl;
      };
      car = car;
      formed = two.0;
    }

-- what is read as something says all that this says
says_more : (message did : List ℕ) (seq : ℕ) (P Q : Body → Type 0) → ((body : Body) → P body → Q body) → ReadsAs message did seq P → ReadsAs message did seq Q
says_more message did seq P Q more r = record { event = r.event; reads = r.reads; did_is = r.did_is; seq_is = r.seq_is; says = more r.event.body r.says }

pub whole_reads : (did time : List ℕ) (head : Head) (records : ℕ) (block : List ℕ) (n : ℕ) → IsText did → is_did did ≡ true → IsShortText time → is_whole (whole_under did time head records block n) ≡ true
    → SendsRev did (whole_under did time head records block n)
whole_reads did time head records block n text is short formed =
    let w = whole_under did time head records block n in
    let own = own_reads did time head records block n text is short formed in
    let P : Body → Type 0 = λ b. (sync : SyncEvent) × (b ≡ Body.Sync sync) × (sync.rev ≡ w.head.rev) in
    says_more w.message did n (λ (b : Body). b ≡ Body.Sync (own_sync did head block)) P (λ b same. (own_sync did head block, same, refl)) own.sent

-- where its block gives the head, its message does
pub whole_gives : (did time : List ℕ) (head : Head) (records : ℕ) (block : List ℕ) (n : ℕ) → IsText did → is_did did ≡ true → IsShortText time → BlockGives head block
    → is_whole (whole_under did time head records block n) ≡ true → SendsSync did (whole_under did time head records block n)
whole_gives did time head records block n text is short gives formed =
    let w = whole_under did time head records block n in
    let own = own_reads did time head records block n text is short formed in
    let P : Body → Type 0 = λ b. (kind_number b ≡ 2) × IsHeadOf b head in
    says_more w.message did n (λ (b : Body). b ≡ Body.Sync (own_sync did head block)) P (λ b same. subst P (sym same) (refl, own_head head block gives own.formed own.car)) own.sent

pub did_named : (did : List ℕ) → names_did did ≡ true → IsText did × (is_did did ≡ true)
did_named did h = (did_text did h, (and_parts (is_text did) (is_did did) h).1)

-- ---- the status of an account behind a journal is one

lost_status : (a : State) (o : Option Refusal) → (lost a o).status ≡ a.status
lost_status a None = refl
lost_status a (Some r) =
    elim (loses (code_of r)) as (λ b. (cond b (record { active = a.active; status = a.status; down = a.down; repo = Repo.Lost (last_rev a.repo) }) a).status ≡ a.status) [ true ↦ refl | false ↦ refl ]

refetched_status : (a : State) (f : Fetched) → (refetched a f).status ≡ a.status
refetched_status a Fetched.NotAsked = refl
refetched_status a Fetched.Absent = refl
refetched_status a (Fetched.Refused n) = refl
refetched_status a (Fetched.Whole w) = refl

effected_status : (a : State) (x : Effect) → FitsEffect x → is_status a.status ≡ true → is_status (effected a x).status ≡ true
effected_status a Effect.Nothing fits is = is
effected_status a (Effect.Repo head) fits is = is
effected_status a (Effect.Account active status) fits is = fits

moved_status : (a : State) (row : Row) → is_row row ≡ true → is_status a.status ≡ true → is_status (moved a row).status ≡ true
unfolding is_row is_carried
moved_status a (Row.Taken t) formed is =
    let P : Option (List ℕ) → Type 0 = λ s. is_status s ≡ true in
    let same = refetched_status (lost (effected a t.effect) t.refusal) t.fetched ∙ lost_status (effected a t.effect) t.refusal in
    subst P (sym same) (effected_status a t.effect (taken_fits t formed).effect is)
moved_status a (Row.Synced did whole moment) formed is = is
moved_status a (Row.Operated o) formed is = is
moved_status a (Row.Carried (Carried.Last seq)) formed is = is
moved_status a (Row.Carried (Carried.Host host n)) formed is = is
moved_status a (Row.Carried (Carried.Account b)) formed is = (and_parts (is_status b.status) (is_repo b.repo) (and_parts (names_did b.did) (is_status b.status && is_repo b.repo) formed).1).0

folded_status : (did : List ℕ) (rows : List Row) (a : State) → list_all is_row rows ≡ true → is_status a.status ≡ true → is_status (folded (account_after did) a rows).status ≡ true
folded_status did [] a formed is = is
folded_status did (row ∷ rows) a formed is =
    let both = and_parts (is_row row) (list_all is_row rows) formed in
    folded_status did rows (account_after did a row) both.1
    (elim (names did (did_of_row row)) as (λ b. is_status (cond b (moved a row) a).status ≡ true) [ true ↦ moved_status a row both.0 is | false ↦ is ])

account_status : (did : List ℕ) (J : List Row) → IsJournal J → is_status (account did J).status ≡ true
unfolding account
account_status did J journal = folded_status did J fresh journal.formed refl

-- ---- the relay's own `#account`

pub status_is : (status : Option (List ℕ)) → is_status status ≡ true → IsStatus status
status_is None h = tt
status_is (Some text) h =
    let both = and_parts (is_text text) (nat_le (length text) LONGEST_SHORT_TEXT) h in
    let short = leb-true (length text) LONGEST_SHORT_TEXT both.1 in
    (text_fits text both.0 (omega (arith, short)), short)

pub takendown : IsStatus (Some (codes "takendown"))
takendown = (ascii_text (codes "takendown") refl (lit< tt), lit≤ tt)

word_reads : (a : State) (did : List ℕ) (down : Bool) (time : List ℕ) (n : ℕ) (moment : Option ℕ) → is_status a.status ≡ true → IsText did → is_did did ≡ true → IsShortText time → n < NUMBERS → (o : Operated)
    → o ≡ record { did = did; down = down; seq = n; message = operated_message a down did time n; moment = moment } → ReadsAs o.message o.did o.seq (IsCommandOf o)
word_reads a did true time n moment status text is short below o same =
    let P : Operated → Type 0 = λ p. ReadsAs p.message p.did p.seq (IsCommandOf p) in
    let gone = Some (codes "takendown") in
    subst P (sym same) (record {
      event = account_seen did false gone time n;
      reads = account_read did false time n text.0 (IsUtf8-from_is_utf8 did text.1) is short.text.0 (IsUtf8-from_is_utf8 time short.text.1) short.short below gone takendown;
      did_is = refl;
      seq_is = refl;
      says = (record { active = false; status = gone }, refl, λ down. refl);
    })
word_reads a did false time n moment status text is short below o same =
    let P : Operated → Type 0 = λ p. ReadsAs p.message p.did p.seq (IsCommandOf p) in
    subst P (sym same) (record {
      event = account_seen did a.active a.status time n;
      reads = account_read did a.active time n text.0 (IsUtf8-from_is_utf8 did text.1) is short.text.0 (IsUtf8-from_is_utf8 time short.text.1) short.short below a.status (status_is a.status status);
      did_is = refl;
      seq_is = refl;
      says = (record { active = a.active; status = a.status }, refl, λ down. absurd (false≢true down));
    })

operated_reads : (J : List Row) (did : List ℕ) (down : Bool) (time : List ℕ) (moment : Option ℕ) → IsShortText time → IsJournal (J ++ operated_row J did down time moment ∷ [])
    → SendsWhatItKeeps J (operated_row J did down time moment)
unfolding is_row is_operated
operated_reads J did down time moment short journal =
    let o = operated_as (last_seq J) (account did J) did down time moment in
    let formed = (grew J (Row.Operated o) journal).0 in
    let one = and_parts (names_did did) (is_positive (last_seq J + 1) && (is_message o.message && is_moment moment)) formed in
    let two = and_parts (is_positive (last_seq J + 1)) (is_message o.message && is_moment moment) one.1 in
    let named = did_named did one.0 in
    word_reads (account did J) did down time (last_seq J + 1) moment (account_status did J (fronts J (Row.Operated o ∷ []) journal)) named.0 named.1 short (number_below (last_seq J + 1) two.0) o refl

-- what the row of an operator's command to synchronize an account shows
record IsSyncedWell (did time : List ℕ) (head : Head) (records : ℕ) (block : List ℕ) (n : ℕ) : Type 0 where
  text : IsText did
  named : is_did did ≡ true
  whole : is_whole (whole_under did time head records block n) ≡ true

synced_well : (J : List Row) (did time : List ℕ) (head : Head) (records : ℕ) (block : List ℕ) (moment : Option ℕ) → IsJournal (J ++ synced_row J did time head records block moment ∷ [])
    → IsSyncedWell did time head records block (last_seq J + 1)
unfolding is_row
synced_well J did time head records block moment journal =
    let w = whole_under did time head records block (last_seq J + 1) in
    let formed = (grew J (Row.Synced did w moment) journal).0 in
    let one = and_parts (names_did did) (is_whole w && is_moment moment) formed in
    let named = did_named did one.0 in
    record { text = named.0; named = named.1; whole = (and_parts (is_whole w) (is_moment moment) one.1).0 }

synced_reads : (J : List Row) (did time : List ℕ) (head : Head) (records : ℕ) (block : List ℕ) (moment : Option ℕ) → IsShortText time → IsJournal (J ++ synced_row J did time head records block moment ∷ [])
    → IsReadBack (synced_row J did time head records block moment)
synced_reads J did time head records block moment short journal =
    let well = synced_well J did time head records block moment journal in
    whole_reads did time head records block (last_seq J + 1) well.text well.named short well.whole

pub synced_gives : (J : List Row) (did time : List ℕ) (head : Head) (records : ℕ) (block : List ℕ) (moment : Option ℕ) → IsShortText time → BlockGives head block
    → IsJournal (J ++ synced_row J did time head records block moment ∷ []) → SendsWhatItKeeps J (synced_row J did time head records block moment)
synced_gives J did time head records block moment short gives journal =
    let well = synced_well J did time head records block moment journal in
    whole_gives did time head records block (last_seq J + 1) well.text well.named short gives well.whole

pub operators_faithful : OperatorsAreFaithful
operators_faithful = record { operated = operated_reads; synced = synced_reads }

-- The rows that operators' commands make are well formed and keep the order of their journal.
use Rattle.std.proofs.Common.{◌≡◌, ℕ, ◌+◌, ◌*◌, ◌<◌, ◌≤◌, Bool, true, false, not, ◌&&◌, List, [], ◌∷◌, ◌++◌, length, Option, Some, None, codes, refl, sym, subst, arith, lit<}
use Rattle.std.specs.Prelude.{nat_le}
use Rattle.std.specs.Str.{is_utf8}
use Rattle.std.proofs.lemmas.Bool.{and_parts, and_from, lt-ltb, leb-true}
use Rattle.std.proofs.lemmas.List.{append-nil, length-append}
use Rattle.at_cid.specs.Link.{IsBytes}
use Rattle.at_cbor.specs.declared.major.Major.{Major}
use Rattle.at_cbor.specs.Item.{Item, Fields, field}
use Rattle.at_cbor.specs.Majors.{major_number}
use Rattle.at_cbor.specs.Encoding.{info_of, tail_of, front_of, text_encoding, encoding, fields_count, fields_encoding}
use Rattle.at_syntax.specs.Did.{is_did}
use Rattle.at_event.specs.declared.kind.EventKind.{EventKind}
use Rattle.at_event.specs.Formed.{IsShortText}
use Rattle.at_event.specs.Writing.{header_of, event_message, number_item, status_field, account_payload}
use Rattle.at_event.proofs.Texts.{ascii_text}
use Rattle.relay_row.specs.Folds.{last_seq}
use Rattle.relay_row.specs.Rules.{are_bytes, is_empty, is_head, is_message, is_number, is_operated, is_positive, is_row, is_status, is_string, is_text, is_whole, names_did}
use Rattle.at_cid.specs.declared.limits.TheConstants.{NUMBERS}
use Rattle.relay_row.specs.declared.row.Row.{Row}
use Rattle.relay_row.proofs.Bytes.{string_tested, tested_bytes}
use Rattle.relay_row.proofs.Journals.{grows}
use Rattle.account_state.specs.Folds.{account}
use Rattle.account_state.specs.State.{State}
use Rattle.relay_core.specs.Decide.{sync_message}
use Rattle.relay_core.specs.Operating.{operated_message, operated_as}
use Rattle.relay_law.specs.Laws.{OperatedRowsAreFormed, SyncedRowsAreFormed}
use Rattle.relay_law.proofs.Deciding.{next_above, positive_next}
use Rattle.relay_law.proofs.EventForms.{text_tested}
use Rattle.relay_law.proofs.Heads.{IsFormedAccount, accounts_are_formed}
use Rattle.relay_law.proofs.Encoded.{bytes_join, front_bytes, front_short, header_bytes, not_empty}

-- ---- the relay's own `#account`

-- bytes, of which there are at most so many
record IsWithin (n : ℕ) (bytes : List ℕ) : Type 0 where
  are : IsBytes bytes
  few : length bytes ≤ n

join : (n m : ℕ) (a b : List ℕ) → IsWithin n a → IsWithin m b → IsWithin (n + m) (a ++ b)
join n m a b one other = record { are = bytes_join a b one.are other.are; few = omega (arith, length-append a b, one.few, other.few) }

text_within : (n : ℕ) (text : List ℕ) → IsBytes text → length text ≤ n → IsWithin (9 + n) (text_encoding text)
text_within n text bytes few =
    join 9 n (front_of Major.Text (length text)) text (record { are = front_bytes Major.Text (length text); few = front_short Major.Text (length text) }) (record { are = bytes; few = few })

key_within : (text : List ℕ) → are_bytes text ≡ true → length text < 10 → IsWithin 18 (text_encoding text)
key_within text bytes few = text_within 9 text (tested_bytes text bytes) (omega arith)

number_within : (n : ℕ) → IsWithin 9 (encoding (number_item n))
number_within n = record { are = front_bytes Major.Unsigned n; few = front_short Major.Unsigned n }

bool_within : (b : Bool) → IsWithin 9 (encoding (Item.bool b))
bool_within true = record { are = tested_bytes (0xf5 ∷ []) refl; few = omega arith }
bool_within false = record { are = tested_bytes (0xf4 ∷ []) refl; few = omega arith }

status_within : (status : Option (List ℕ)) → is_status status ≡ true → IsWithin 91 (fields_encoding (status_field status))
status_within None h = record { are = tested_bytes [] refl; few = omega arith }
status_within (Some status) h =
    let both = and_parts (is_text status) (nat_le (length status) 64) h in
    let bytes = tested_bytes status (and_parts (is_utf8 status) (are_bytes status) both.0).1 in
    join 18 73 (text_encoding (codes "status")) (text_encoding status ++ []) (key_within (codes "status") refl (lit< tt))
    (subst (λ (t : List ℕ). IsWithin 73 t) (sym (append-nil (text_encoding status))) (text_within 64 status bytes (leb-true (length status) 64 both.1)))

header_short : length (encoding (header_of EventKind.Account)) < 65
unfolding info_of tail_of
header_short = lit< tt

field_within : (k : List ℕ) (i : Item) (fs : Fields) (n m : ℕ) → IsWithin 18 (text_encoding k) → IsWithin n (encoding i) → IsWithin m (fields_encoding fs) → IsWithin (18 + (n + m)) (fields_encoding (field k i fs))
field_within k i fs n m key value others = join 18 (n + m) (text_encoding k) (encoding i ++ fields_encoding fs) key (join n m (encoding i) (fields_encoding fs) value others)

map_within : (fs : Fields) (n : ℕ) → IsWithin n (fields_encoding fs) → IsWithin (9 + n) (encoding (Item.map fs))
map_within fs n all = join 9 n (front_of Major.Map (fields_count fs)) (fields_encoding fs) (record { are = front_bytes Major.Map (fields_count fs); few = front_short Major.Map (fields_count fs) }) all

did_short : (did : List ℕ) → is_did did ≡ true → length did ≤ 2048
unfolding is_did
did_short did h = leb-true (length did) 2048 (and_parts (nat_le (length did) 2048) _ h).0

module _ (did : List ℕ) (active : Bool) (status : Option (List ℕ)) (time : List ℕ) (n : ℕ) (of_did : names_did did ≡ true) (is : is_status status ≡ true) (timed : IsShortText time) where
  abbrev flagged : Fields
  flagged = field (codes "active") (Item.bool active) (status_field status)

  abbrev timed_at : Fields
  timed_at = field (codes "time") (Item.text time) flagged

  abbrev numbered_at : Fields
  numbered_at = field (codes "seq") (number_item n) timed_at

  flagged_within : IsWithin 118 (fields_encoding flagged)
  flagged_within = field_within (codes "active") (Item.bool active) (status_field status) 9 91 (key_within (codes "active") refl (lit< tt)) (bool_within active) (status_within status is)

  timed_within : IsWithin 209 (fields_encoding timed_at)
  timed_within =
      field_within (codes "time") (Item.text time) flagged 73 118 (key_within (codes "time") refl (lit< tt))
      (text_within 64 time timed.text.0.1 timed.short) flagged_within

  numbered_within : IsWithin 236 (fields_encoding numbered_at)
  numbered_within = field_within (codes "seq") (number_item n) timed_at 9 209 (key_within (codes "seq") refl (lit< tt)) (number_within n) timed_within

  payload_within : IsWithin 2320 (encoding (account_payload did active status time n))
  unfolding account_payload
  payload_within =
      let named = and_parts (is_text did) (is_did did) of_did in
      let bytes = tested_bytes did (and_parts (is_utf8 did) (are_bytes did) named.0).1 in
      map_within (field (codes "did") (Item.text did) numbered_at) 2311
      (field_within (codes "did") (Item.text did) numbered_at 2057 236 (key_within (codes "did") refl (lit< tt)) (text_within 2048 did bytes (did_short did named.1)) numbered_within)

  account_sent : is_message (event_message EventKind.Account (account_payload did active status time n)) ≡ true
  unfolding event_message
  account_sent =
      let header : IsWithin 64 (encoding (header_of EventKind.Account)) = record { are = header_bytes EventKind.Account; few = omega (arith, header_short) } in
      let all = join 64 2320 (encoding (header_of EventKind.Account)) (encoding (account_payload did active status time n)) header payload_within in
      let bytes = encoding (header_of EventKind.Account) ++ encoding (account_payload did active status time n) in
      and_from (is_string bytes) (not (is_empty bytes)) (string_tested bytes all.are (omega (arith, all.few))) (not_empty (32 * major_number Major.Map + info_of 2) _)

operated_sent : (a : State) (did : List ℕ) (down : Bool) (time : List ℕ) (n : ℕ) → IsFormedAccount a → names_did did ≡ true → IsShortText time → is_message (operated_message a down did time n) ≡ true
operated_sent a did true time n is of_did timed =
    let word = text_tested (codes "takendown") (ascii_text (codes "takendown") refl (lit< tt)) in
    account_sent did false (Some (codes "takendown")) time n of_did (and_from (is_text (codes "takendown")) true word refl) timed
operated_sent a did false time n is of_did timed = account_sent did a.active a.status time n of_did is.status timed

-- ---- rows

pub operated_formed : OperatedRowsAreFormed
unfolding is_row is_operated
operated_formed J did down time moment journal of_did timed fits below =
    let n = last_seq J + 1 in
    let message = operated_message (account did J) down did time n in
    let sent = operated_sent (account did J) did down time n (accounts_are_formed did J journal) of_did timed in
    grows J (Row.Operated (operated_as (last_seq J) (account did J) did down time (Some moment))) journal
    (and_from (names_did did) _ of_did (and_from (is_positive n) _ (positive_next (last_seq J) n refl below) (and_from (is_message message) (is_number moment) sent (lt-ltb moment NUMBERS fits))))
    (next_above (last_seq J) n refl)

pub synced_formed : SyncedRowsAreFormed
unfolding is_row is_whole
synced_formed J did time head records block moment journal of_did formed fits below =
    let n = last_seq J + 1 in
    let message = sync_message did time head block n in
    grows J (Row.Synced did (record { seq = n; head = head; records = records; message = message }) (Some moment)) journal
    (and_from (names_did did) _ of_did
    (and_from (is_positive n && (is_head head && (is_number records && is_message message))) (is_number moment)
    (and_from (is_positive n) _ (positive_next (last_seq J) n refl below) (and_from (is_head head) _ formed.0 (and_from (is_number records) (is_message message) (lt-ltb records NUMBERS formed.1) formed.2)))
    (lt-ltb moment NUMBERS fits)))
    (next_above (last_seq J) n refl)

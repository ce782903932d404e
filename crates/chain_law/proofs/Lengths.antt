-- The relay's own events are short.
use Rattle.std.proofs.Common.{◌≡◌, ℕ, ◌+◌, ◌-◌, ◌≤◌, ◌^◌, Bool, true, false, List, ◌++◌, length, min, Option, Some, None, codes, refl, arith}
use Rattle.std.specs.Prelude.{nat_lt}
use Rattle.std.proofs.lemmas.Bool.{le-ltb}
use Rattle.std.proofs.lemmas.List.{length-append}
use Rattle.std.proofs.Math.Nat.{min-le_left}
use Rattle.at_cbor.specs.Item.{Item, Fields, no_fields, field}
use Rattle.at_cbor.specs.Encoding.{front_of, tail_of, encoding, text_encoding, fields_count, fields_encoding}
use Rattle.at_cbor.specs.declared.major.Major.{Major}
use Rattle.at_syntax.specs.Did.{is_did}
use Rattle.at_syntax.specs.Tid.{digits_of}
use Rattle.at_event.specs.Writing.{header_of, event_message, number_item, out_of, out_length, sync_payload, sync_seen, account_payload, account_seen, status_field}
use Rattle.at_event.specs.declared.kind.EventKind.{EventKind}
use Rattle.at_event.proofs.OwnEvents.{IsStatus}
use Rattle.at_cid.specs.declared.limits.TheConstants.{NUMBERS}
use Rattle.std.specs.Prelude.{nat_le}
use Rattle.std.proofs.lemmas.Bool.{and_parts, leb-true}
use Rattle.relay_core.specs.declared.limits.TheConstants.{LONGEST_MESSAGE}
use Rattle.relay_law.proofs.Encoded.{front_short}
use Rattle.chain_law.proofs.Trailing.{is_long}

-- ---- items

text_short : (text : List ℕ) → length (text_encoding text) ≤ 9 + length text
text_short text = omega (arith, length-append (front_of Major.Text (length text)) text, front_short Major.Text (length text))

bytes_short : (bytes : List ℕ) → length (encoding (Item.bytes bytes)) ≤ 9 + length bytes
bytes_short bytes = omega (arith, length-append (front_of Major.Bytes (length bytes)) bytes, front_short Major.Bytes (length bytes))

field_short : (k : List ℕ) (i : Item) (fs : Fields) → length (fields_encoding (field k i fs)) ≤ 9 + length k + (length (encoding i) + length (fields_encoding fs))
field_short k i fs = omega (arith, text_short k, length-append (text_encoding k) (encoding i ++ fields_encoding fs), length-append (encoding i) (fields_encoding fs))

map_short : (fs : Fields) → length (encoding (Item.map fs)) ≤ 9 + length (fields_encoding fs)
map_short fs = omega (arith, length-append (front_of Major.Map (fields_count fs)) (fields_encoding fs), front_short Major.Map (fields_count fs))

digits_short : (rev : ℕ) → length (digits_of rev) ≡ 13
unfolding digits_of
digits_short rev = refl

pub did_short : (did : List ℕ) → is_did did ≡ true → length did ≤ 2048
unfolding is_did
did_short did h = leb-true (length did) 2048 (and_parts (nat_le (length did) 2048) _ h).0

-- ---- messages

sync_header : length (encoding (header_of EventKind.Sync)) ≡ 13
unfolding tail_of
sync_header = refl

account_header : length (encoding (header_of EventKind.Account)) ≡ 16
unfolding tail_of
account_header = refl

fits_in : (e : List ℕ) → length e ≤ 20000 → nat_lt LONGEST_MESSAGE (min (length e) (2 ^ 64 - 1)) ≡ false
fits_in e few = le-ltb LONGEST_MESSAGE (min (length e) (2 ^ 64 - 1)) (omega (arith, few, min-le_left (length e) (2 ^ 64 - 1)))

module _ (did : List ℕ) (time : List ℕ) (n : ℕ) (named : length did ≤ 2048) (brief : length time ≤ 64) where
  abbrev most : ℕ
  most = NUMBERS - 1

  numbered_short : length (encoding (number_item most)) ≤ 9
  numbered_short = front_short Major.Unsigned most

  module _ (rev : ℕ) (blocks : List ℕ) (few : length blocks ≤ 10000) where
    abbrev with_blocks : Fields
    with_blocks = field (codes "blocks") (Item.bytes blocks) no_fields

    abbrev with_time : Fields
    with_time = field (codes "time") (Item.text time) with_blocks

    abbrev with_number : Fields
    with_number = field (codes "seq") (number_item most) with_time

    abbrev with_rev : Fields
    with_rev = field (codes "rev") (Item.text (digits_of rev)) with_number

    sync_length : length (encoding (Item.map (field (codes "did") (Item.text did) with_rev))) ≤ 13000
    sync_length =
        omega (
          arith,
          named,
          brief,
          few,
          map_short (field (codes "did") (Item.text did) with_rev),
          field_short (codes "did") (Item.text did) with_rev,
          text_short did,
          field_short (codes "rev") (Item.text (digits_of rev)) with_number,
          text_short (digits_of rev),
          digits_short rev,
          field_short (codes "seq") (number_item most) with_time,
          numbered_short,
          field_short (codes "time") (Item.text time) with_blocks,
          text_short time,
          field_short (codes "blocks") (Item.bytes blocks) no_fields,
          bytes_short blocks,
        )

    pub sync_fits : is_long (sync_seen did rev blocks time n) ≡ false
    unfolding out_length out_of event_message sync_payload
    sync_fits =
        let payload = Item.map (field (codes "did") (Item.text did) with_rev) in
        fits_in (encoding (header_of EventKind.Sync) ++ encoding payload) (omega (arith, sync_length, sync_header, length-append (encoding (header_of EventKind.Sync)) (encoding payload)))

  status_short : (status : Option (List ℕ)) → IsStatus status → length (fields_encoding (status_field status)) ≤ 100
  status_short None h = omega arith
  status_short (Some status) h = omega (arith, h.1, field_short (codes "status") (Item.text status) no_fields, text_short status)

  bool_short : (b : Bool) → length (encoding (Item.bool b)) ≤ 1
  bool_short true = omega arith
  bool_short false = omega arith

  module _ (active : Bool) (status : Option (List ℕ)) (is : IsStatus status) where
    abbrev flagged : Fields
    flagged = field (codes "active") (Item.bool active) (status_field status)

    abbrev timed : Fields
    timed = field (codes "time") (Item.text time) flagged

    abbrev numbered_at : Fields
    numbered_at = field (codes "seq") (number_item most) timed

    account_length : length (encoding (Item.map (field (codes "did") (Item.text did) numbered_at))) ≤ 3000
    account_length =
        omega (
          arith,
          named,
          brief,
          status_short status is,
          bool_short active,
          map_short (field (codes "did") (Item.text did) numbered_at),
          field_short (codes "did") (Item.text did) numbered_at,
          text_short did,
          field_short (codes "seq") (number_item most) timed,
          numbered_short,
          field_short (codes "time") (Item.text time) flagged,
          text_short time,
          field_short (codes "active") (Item.bool active) (status_field status),
        )

    account_sent : length (encoding (header_of EventKind.Account) ++ encoding (Item.map (field (codes "did") (Item.text did) numbered_at))) ≤ 20000
    account_sent =
        let payload = Item.map (field (codes "did") (Item.text did) numbered_at) in
        omega (arith, account_length, account_header, length-append (encoding (header_of EventKind.Account)) (encoding payload))

  pub account_fits : (active : Bool) (status : Option (List ℕ)) → IsStatus status → is_long (account_seen did active status time n) ≡ false
  unfolding out_length out_of event_message account_payload
  account_fits active None is = fits_in (encoding (header_of EventKind.Account) ++ encoding (Item.map (field (codes "did") (Item.text did) (numbered_at active None is)))) (account_sent active None is)
  account_fits active (Some status) is =
      fits_in (encoding (header_of EventKind.Account) ++ encoding (Item.map (field (codes "did") (Item.text did) (numbered_at active (Some status) is)))) (account_sent active (Some status) is)

-- What is encoded of items that fit is bytes, and a message of them is a string that isn't empty.
use Rattle.std.proofs.Common.{◌≡◌, ℕ, zero, suc, ◌+◌, ◌-◌, ◌*◌, ◌<◌, ◌≤◌, ◌^◌, ◌/◌, Bool, true, false, not, cond, ltb, List, [], ◌∷◌, ◌++◌, length, Option, Some, None, pos, negsuc, refl, ap, arith, lit<, mod-lt}
use Rattle.std.specs.Int.{w16, w32, w64, to_be_bytes, bytes_high_first, byte_at}
use Rattle.std.specs.Prelude.{ℤ}
use Rattle.std.proofs.lemmas.Bool.{and_from, ltb-true, ne_eqb}
use Rattle.at_cid.specs.Link.{IsBytes}
use Rattle.at_cbor.specs.declared.major.Major.{Major}
use Rattle.at_cbor.specs.Item.{Item, Items, no_items, item, Fields, no_fields, field}
use Rattle.at_cbor.specs.Majors.{major_number}
use Rattle.at_cbor.specs.Encoding.{info_of, tail_of, front_of, int_encoding, text_encoding, link_encoding, bool_encoding, items_count, fields_count, encoding, items_encoding, fields_encoding, Fits, ItemsFit, FieldsFit}
use Rattle.at_event.specs.declared.kind.EventKind.{EventKind}
use Rattle.at_event.specs.Writing.{header_of, event_message}
use Rattle.relay_row.specs.Rules.{is_string, is_empty, is_message}
use Rattle.relay_row.proofs.Bytes.{string_tested, tested_bytes}

pub bytes_join : (a b : List ℕ) → IsBytes a → IsBytes b → IsBytes (a ++ b)
bytes_join [] b fa fb i = fb i
bytes_join (x ∷ a) b fa fb zero = fa 0
bytes_join (x ∷ a) b fa fb (suc i) = bytes_join a b (λ j. fa (suc j)) fb i

bytes_more : (x : ℕ) (a : List ℕ) → x < 256 → IsBytes a → IsBytes (x ∷ a)
bytes_more x a lt fa zero = lt
bytes_more x a lt fa (suc i) = fa i

no_bytes : IsBytes []
no_bytes i = lit< tt

-- ---- heads

byte_fits : (k n : ℕ) → byte_at k n < 256
byte_fits zero n = omega arith
byte_fits (suc k) n = mod-lt (n / 256 ^ suc k) (lit< tt)

high_first : (k n : ℕ) → IsBytes (bytes_high_first k n)
high_first zero n = no_bytes
high_first (suc k) n = bytes_more (byte_at k n) (bytes_high_first k n) (byte_fits k n) (high_first k n)

-- a head's low bits and the bytes behind them
record IsTail (info : ℕ) (tail : List ℕ) : Type 0 where
  low : info < 28
  bytes : IsBytes tail
  short : length tail < 9

either_tail : (b : Bool) (i j : ℕ) (s t : List ℕ) → (b ≡ true → IsTail i s) → (b ≡ false → IsTail j t) → IsTail (cond b i j) (cond b s t)
either_tail true i j s t low high = low refl
either_tail false i j s t low high = high refl

tail_is : (n : ℕ) → IsTail (info_of n) (tail_of n)
unfolding info_of tail_of
tail_is n =
    either_tail (ltb n 24) n _ [] _ (λ low. record { low = omega (arith, ltb-true n 24 low); bytes = no_bytes; short = lit< tt }) (λ high.
    either_tail (ltb n (2 ^ 8)) 24 _ (n ∷ []) _ (λ low. record { low = lit< tt; bytes = bytes_more n [] (ltb-true n (2 ^ 8) low) no_bytes; short = lit< tt }) (λ high.
    either_tail (ltb n (2 ^ 16)) 25 _ (to_be_bytes w16 n) _ (λ low. record { low = lit< tt; bytes = high_first 2 n; short = lit< tt }) (λ high.
    either_tail (ltb n (2 ^ 32)) 26 27 (to_be_bytes w32 n) (to_be_bytes w64 n) (λ low. record { low = lit< tt; bytes = high_first 4 n; short = lit< tt })
    (λ high. record { low = lit< tt; bytes = high_first 8 n; short = lit< tt }))))

major_below : (major : Major) → major_number major < 8
major_below Major.Unsigned = lit< tt
major_below Major.Negative = lit< tt
major_below Major.Bytes = lit< tt
major_below Major.Text = lit< tt
major_below Major.List = lit< tt
major_below Major.Map = lit< tt
major_below Major.Tag = lit< tt
major_below Major.Simple = lit< tt

pub front_bytes : (major : Major) (n : ℕ) → IsBytes (front_of major n)
front_bytes major n =
    let tail = tail_is n in
    bytes_more (32 * major_number major + info_of n) (tail_of n) (omega (arith, major_below major, tail.low)) tail.bytes

pub front_short : (major : Major) (n : ℕ) → length (front_of major n) ≤ 9
front_short major n = let tail = tail_is n in omega (arith, tail.short)

text_bytes : (text : List ℕ) → IsBytes text → IsBytes (text_encoding text)
text_bytes text h = bytes_join (front_of Major.Text (length text)) text (front_bytes Major.Text (length text)) h

int_bytes : (z : ℤ) → IsBytes (int_encoding z)
int_bytes (pos n) = front_bytes Major.Unsigned n
int_bytes (negsuc n) = front_bytes Major.Negative n

bool_bytes : (b : Bool) → IsBytes (bool_encoding b)
bool_bytes true = bytes_more 0xf5 [] (lit< tt) no_bytes
bool_bytes false = bytes_more 0xf4 [] (lit< tt) no_bytes

link_bytes : (link : List ℕ) → IsBytes link → IsBytes (link_encoding link)
link_bytes link h =
    bytes_more 0xd8 (0x2a ∷ 0x58 ∷ 0x25 ∷ 0x00 ∷ link) (lit< tt)
    (bytes_more 0x2a (0x58 ∷ 0x25 ∷ 0x00 ∷ link) (lit< tt) (bytes_more 0x58 (0x25 ∷ 0x00 ∷ link) (lit< tt) (bytes_more 0x25 (0x00 ∷ link) (lit< tt) (bytes_more 0x00 link (lit< tt) h))))

-- ---- items

mutual
  pub encoded_bytes : (i : Item) (depth : ℕ) → Fits i depth → IsBytes (encoding i)
  encoded_bytes (Item.int z) depth fits = int_bytes z
  encoded_bytes (Item.bytes bs) depth fits = bytes_join (front_of Major.Bytes (length bs)) bs (front_bytes Major.Bytes (length bs)) fits.1
  encoded_bytes (Item.text bs) depth fits = text_bytes bs fits.0.1
  encoded_bytes (Item.list is) depth fits = bytes_join (front_of Major.List (items_count is)) (items_encoding is) (front_bytes Major.List (items_count is)) (items_bytes is (depth - 1) fits.2)
  encoded_bytes (Item.map fs) depth fits = bytes_join (front_of Major.Map (fields_count fs)) (fields_encoding fs) (front_bytes Major.Map (fields_count fs)) (fields_bytes fs None (depth - 1) fits.2)
  encoded_bytes (Item.link bs) depth fits = link_bytes bs fits.1
  encoded_bytes (Item.bool b) depth fits = bool_bytes b
  encoded_bytes Item.null depth fits = bytes_more 0xf6 [] (lit< tt) no_bytes

  items_bytes : (is : Items) (depth : ℕ) → ItemsFit is depth → IsBytes (items_encoding is)
  items_bytes no_items depth fits = no_bytes
  items_bytes (item i is) depth fits = bytes_join (encoding i) (items_encoding is) (encoded_bytes i depth fits.0) (items_bytes is depth fits.1)

  fields_bytes : (fs : Fields) (before : Option (List ℕ)) (depth : ℕ) → FieldsFit fs before depth → IsBytes (fields_encoding fs)
  fields_bytes no_fields before depth fits = no_bytes
  fields_bytes (field k i fs) before depth fits =
      bytes_join (text_encoding k) (encoding i ++ fields_encoding fs) (text_bytes k fits.0.0.1) (bytes_join (encoding i) (fields_encoding fs) (encoded_bytes i depth fits.2) (fields_bytes fs (Some k) depth fits.3))

-- ---- messages

pub header_bytes : (kind : EventKind) → IsBytes (encoding (header_of kind))
unfolding info_of tail_of
header_bytes EventKind.Commit = tested_bytes (encoding (header_of EventKind.Commit)) refl
header_bytes EventKind.Sync = tested_bytes (encoding (header_of EventKind.Sync)) refl
header_bytes EventKind.Identity = tested_bytes (encoding (header_of EventKind.Identity)) refl
header_bytes EventKind.Account = tested_bytes (encoding (header_of EventKind.Account)) refl

pub not_empty : (x : ℕ) (rest : List ℕ) → not (is_empty (x ∷ rest)) ≡ true
not_empty x rest = ap not (ne_eqb (length (x ∷ rest)) 0 (λ zero. omega (arith, zero)))

-- a message of an event whose payload fits, and that isn't too long, is one that a row may have
pub message_formed : (kind : EventKind) (payload : Item) → Fits payload 64 → length (event_message kind payload) < 2 ^ 64 → is_message (event_message kind payload) ≡ true
unfolding event_message
message_formed kind payload fits short =
    let bytes = bytes_join (encoding (header_of kind)) (encoding payload) (header_bytes kind) (encoded_bytes payload 64 fits) in
    and_from (is_string (encoding (header_of kind) ++ encoding payload)) (not (is_empty (encoding (header_of kind) ++ encoding payload))) (string_tested (encoding (header_of kind) ++ encoding payload) bytes short) (not_empty (32 * major_number Major.Map + info_of 2) _)

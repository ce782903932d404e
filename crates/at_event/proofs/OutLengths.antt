-- How long an outgoing frame is, by the length of the payload that came in.
use Rattle.std.proofs.Common.{◌≡◌, ℕ, ◌+◌, ◌-◌, ◌<◌, ◌≤◌, ◌^◌, ◌⊎◌, inl, inr, Bool, true, false, cond, ltb, eqb, ◌&&◌, min, List, [], ◌∷◌, ◌++◌, length, Option, Some, None, codes, pos, negsuc, refl, sym, ap, subst, ◌∙◌, arith, Less, Equal}
use Rattle.std.specs.Int.{w16, w32, w64, to_be_bytes}
use Rattle.std.specs.Ordering.{is_lt}
use Rattle.std.specs.Str.{bytes_eq}
use Rattle.std.proofs.lemmas.Bool.{or_cases, cases_lt, le-ltb, ltb-true, eqb-true, and_parts, false_from_ne_true}
use Rattle.std.proofs.lemmas.List.{length-append}
use Rattle.std.proofs.lemmas.Slice.Eq.{bytes_eq-Decides}
use Rattle.std.proofs.Math.Nat.{min-eq_left, min-eq_right, min-le_left, min-le_right}
use Rattle.at_cid.specs.Order.{key_cmp}
use Rattle.at_cid.proofs.Order.{cmp_trans, cmp_same}
use Rattle.at_cbor.specs.declared.major.Major.{Major}
use Rattle.at_cbor.specs.Item.{Item, Fields, no_fields, field, is_above}
use Rattle.at_cbor.specs.Kinds.{value_of, field_of}
use Rattle.at_cbor.specs.Encoding.{front_of, tail_of, text_encoding, fields_count, encoding, fields_encoding, Fits, FieldsFit}
use Rattle.at_event.specs.declared.kind.EventKind.{EventKind}
use Rattle.at_event.specs.Events.{IsEvent}
use Rattle.at_cbor.specs.Taking.{◌>>=◌}
use Rattle.at_cid.specs.declared.limits.TheConstants.{NUMBERS}
use Rattle.at_form.specs.Forms.{number_in, number_from}
use Rattle.at_event.specs.Seen.{Seen}
use Rattle.at_event.specs.Table.{seq_of, event_kind_of}
use Rattle.at_event.specs.Writing.{kind_name, header_of, number_item, with_field_value, with_seq, event_message, out_of}
use Rattle.at_event.proofs.Renumbered.{with_value_count}

-- ---- a key comes once

abbrev Above : List ℕ → List ℕ → Type 0
Above a b = (length a < length b) ⊎ ((length a ≡ length b) × (key_cmp a b ≡ Less))

is_less : (a b : List ℕ) → is_lt (key_cmp a b) ≡ true → key_cmp a b ≡ Less
is_less a b h = elim (key_cmp a b) as (λ o. is_lt o ≡ true → o ≡ Less) [ Less ↦ λ _. refl | _ ↦ λ p. absurd cc ] h

above_parts : (a b : List ℕ) → is_above (Some a) b ≡ true → Above a b
above_parts a b h =
    elim (or_cases (ltb (length a) (length b)) (eqb (length a) (length b) && is_lt (key_cmp a b)) h) [
      | inl p ↦ inl (ltb-true (length a) (length b) p)
      | inr p ↦ let both = and_parts (eqb (length a) (length b)) (is_lt (key_cmp a b)) p in inr (eqb-true (length a) (length b) both.0, is_less a b both.1)
    ]

above_trans : (a b c : List ℕ) → Above a b → Above b c → Above a c
above_trans a b c (inl p) (inl q) = inl (omega arith)
above_trans a b c (inl p) (inr q) = inl (omega (arith, q.0))
above_trans a b c (inr p) (inl q) = inl (omega (arith, p.0))
above_trans a b c (inr p) (inr q) = inr (p.0 ∙ q.0, cmp_trans a b c p.1 q.1)

above_itself : (a : List ℕ) → Above a a → ⊥
above_itself a (inl p) = omega arith
above_itself a (inr p) = let no : Equal ≡ Less = sym (cmp_same a) ∙ p.1 in cc

above_other : (a b : List ℕ) → Above a b → bytes_eq b a ≡ false
above_other a b h = false_from_ne_true (bytes_eq b a) (λ p. above_itself a (subst (Above a) ((bytes_eq-Decides b a).0 p) h))

kept_if : (b : Bool) (i j : Item) → b ≡ false → cond b i j ≡ j
kept_if b i j h = rw h refl

-- fields behind a key of that name have no other
pub none_behind : (name : List ℕ) (i : Item) (before : List ℕ) (fs : Fields) (depth : ℕ) → FieldsFit fs (Some before) depth → (before ≡ name) ⊎ Above name before → with_field_value name i fs ≡ fs
none_behind name i before no_fields depth fits behind = refl
none_behind name i before (field k j fs) depth fits behind =
    let next = above_parts before k fits.1 in
    let above : Above name k = elim behind [ inl e ↦ subst (λ (b : List ℕ). Above b k) e next | inr h ↦ above_trans name before k h next ] in
    ap (λ (x : Item). field k x (with_field_value name i fs)) (kept_if (bytes_eq k name) i j (above_other name k above)) ∙ ap (field k j) (none_behind name i k fs depth fits.3 (inr above))

-- ---- the payload

some_same : {A : Type 0} (x y : A) → Some x ≡ Some y → x ≡ y
some_same x y e = cc

field_length : (k : List ℕ) (i : Item) (fs : Fields) → length (fields_encoding (field k i fs)) ≡ length (text_encoding k) + length (encoding i) + length (fields_encoding fs)
field_length k i fs = omega (arith, length-append (text_encoding k) (encoding i ++ fields_encoding fs), length-append (encoding i) (fields_encoding fs))

-- one field, whose key is the name or is not
swapped_field : (b : Bool) (k : List ℕ) (i j l : Item) (fs put : Fields) (others : Option Item) → cond b (Some l) others ≡ Some j → (b ≡ true → put ≡ fs)
    → (others ≡ Some j → length (fields_encoding put) + length (encoding j) ≡ length (fields_encoding fs) + length (encoding i))
    → length (fields_encoding (field k (cond b i l) put)) + length (encoding j) ≡ length (fields_encoding (field k l fs)) + length (encoding i)
swapped_field true k i j l fs put others e none more =
    omega (arith, field_length k i put, field_length k l fs, ap (λ (x : Item). length (encoding x)) (some_same l j e), ap (λ (x : Fields). length (fields_encoding x)) (none refl))
swapped_field false k i j l fs put others e none more = omega (arith, field_length k l put, field_length k l fs, more e)

swapped : (name : List ℕ) (i j : Item) (before : Option (List ℕ)) (fs : Fields) (depth : ℕ) → FieldsFit fs before depth → value_of fs name ≡ Some j
    → length (fields_encoding (with_field_value name i fs)) + length (encoding j) ≡ length (fields_encoding fs) + length (encoding i)
swapped name i j before no_fields depth fits e = absurd cc
swapped name i j before (field k l fs) depth fits e =
    swapped_field (bytes_eq k name) k i j l fs (with_field_value name i fs) (value_of fs name) e
    (λ same. none_behind name i k fs depth fits.3 (inl ((bytes_eq-Decides k name).0 same)))
    (λ later. swapped name i j (Some k) fs depth fits.3 later)

-- ---- the number

number_is : (n m : ℕ) → number_from (pos n) ≡ Some m → (n ≡ m) × (n < 2 ^ 53)
number_is n m e =
    let tested = elim (ltb n NUMBERS) as (λ b. cond b (Some n) None ≡ Some m → (b ≡ true) × (n ≡ m)) [ true ↦ λ p. (refl, some_same n m p) | false ↦ λ p. absurd cc ] e in
    (tested.1, ltb-true n NUMBERS tested.0)

read_number : (i : Item) (m : ℕ) → number_in i ≡ Some m → (i ≡ number_item m) × (m < 2 ^ 53)
unfolding number_in
read_number (Item.int (pos n)) m e = let is = number_is n m e in (ap number_item is.0, omega (arith, is.0, is.1))
read_number (Item.int (negsuc n)) m e = absurd cc
read_number (Item.bytes bs) m e = absurd cc
read_number (Item.text bs) m e = absurd cc
read_number (Item.list is) m e = absurd cc
read_number (Item.map fs) m e = absurd cc
read_number (Item.link bs) m e = absurd cc
read_number (Item.bool b) m e = absurd cc
read_number Item.null m e = absurd cc

read_some : (o : Option Item) (m : ℕ) → (o >>= number_in) ≡ Some m → (o ≡ Some (number_item m)) × (m < 2 ^ 53)
read_some (Some i) m e = let is = read_number i m e in (ap Some is.0, is.1)
read_some None m e = absurd cc

pub number_there : (payload : Item) (m : ℕ) → seq_of payload ≡ Some m → (field_of payload (codes "seq") ≡ Some (number_item m)) × (m < 2 ^ 53)
unfolding seq_of
number_there payload m e = read_some (field_of payload (codes "seq")) m e

contained_or : (b : Bool) (k : List ℕ) (j l : Item) (fs : Fields) (others : Option Item) → cond b (Some l) others ≡ Some j → (others ≡ Some j → length (encoding j) ≤ length (fields_encoding fs)) → length (encoding j) ≤ length (fields_encoding (field k l fs))
contained_or true k j l fs others e more = omega (arith, field_length k l fs, ap (λ (x : Item). length (encoding x)) (some_same l j e))
contained_or false k j l fs others e more = omega (arith, field_length k l fs, more e)

contained : (name : List ℕ) (j : Item) (fs : Fields) → value_of fs name ≡ Some j → length (encoding j) ≤ length (fields_encoding fs)
contained name j no_fields e = absurd cc
contained name j (field k l fs) e = contained_or (bytes_eq k name) k j l fs (value_of fs name) e (contained name j fs)

map_length : (fs : Fields) → length (encoding (Item.map fs)) ≡ length (front_of Major.Map (fields_count fs)) + length (fields_encoding fs)
map_length fs = length-append (front_of Major.Map (fields_count fs)) (fields_encoding fs)

number_contained : (payload : Item) (m : ℕ) → field_of payload (codes "seq") ≡ Some (number_item m) → length (encoding (number_item m)) ≤ length (encoding payload)
number_contained (Item.map fs) m e = omega (arith, map_length fs, contained (codes "seq") (number_item m) fs e)
number_contained (Item.int z) m e = absurd cc
number_contained (Item.bytes bs) m e = absurd cc
number_contained (Item.text bs) m e = absurd cc
number_contained (Item.list is) m e = absurd cc
number_contained (Item.link bs) m e = absurd cc
number_contained (Item.bool b) m e = absurd cc
number_contained Item.null m e = absurd cc

seq_swapped : (payload : Item) (n m depth : ℕ) → Fits payload depth → field_of payload (codes "seq") ≡ Some (number_item m)
    → length (encoding (with_seq n payload)) + length (encoding (number_item m)) ≡ length (encoding payload) + length (encoding (number_item n))
seq_swapped (Item.map fs) n m depth fits e =
    omega (arith, map_length fs, map_length (with_field_value (codes "seq") (number_item n) fs), ap (λ (k : ℕ). length (front_of Major.Map k)) (with_value_count (codes "seq") (number_item n) fs), swapped (codes "seq") (number_item n) (number_item m) None fs (depth - 1) fits.2 e)
seq_swapped (Item.int z) n m depth fits e = absurd cc
seq_swapped (Item.bytes bs) n m depth fits e = absurd cc
seq_swapped (Item.text bs) n m depth fits e = absurd cc
seq_swapped (Item.list is) n m depth fits e = absurd cc
seq_swapped (Item.link bs) n m depth fits e = absurd cc
seq_swapped (Item.bool b) n m depth fits e = absurd cc
seq_swapped Item.null n m depth fits e = absurd cc

header_length : (kind : EventKind) → length (encoding (header_of kind)) ≡ length (kind_name kind) + 8
unfolding tail_of
header_length EventKind.Commit = refl
header_length EventKind.Sync = refl
header_length EventKind.Identity = refl
header_length EventKind.Account = refl

pub name_short : (kind : EventKind) → length (kind_name kind) ≤ 9
name_short EventKind.Commit = omega arith
name_short EventKind.Sync = omega arith
name_short EventKind.Identity = omega arith
name_short EventKind.Account = omega arith

-- the length of the frame of an event under a number
frame_length : (event : Seen) (n : ℕ) → IsEvent event
    → length (out_of event n) + length (encoding (number_item event.seq)) ≡ length (encoding event.payload) + length (encoding (number_item n)) + (length (kind_name (event_kind_of event.body)) + 8)
unfolding out_of event_message
frame_length event n h =
    let there = number_there event.payload event.seq h.number in
    omega (arith, length-append (encoding (header_of (event_kind_of event.body))) (encoding (with_seq n event.payload)), header_length (event_kind_of event.body), seq_swapped event.payload n event.seq 64 h.fits there.0)

-- ---- nine bytes

short_or : (b : Bool) (x y : List ℕ) → length x ≤ 8 → length y ≤ 8 → length (cond b x y) ≤ 8
short_or true x y p q = p
short_or false x y p q = q

tail_most : (n : ℕ) → length (tail_of n) ≤ 8
unfolding tail_of
tail_most n =
    short_or (ltb n 24) [] _ (omega arith)
    (short_or (ltb n (2 ^ 8)) (n ∷ []) _ (omega arith)
    (short_or (ltb n (2 ^ 16)) (to_be_bytes w16 n) _ (omega arith)
    (short_or (ltb n (2 ^ 32)) (to_be_bytes w32 n) (to_be_bytes w64 n) (omega arith) (omega arith))))

number_most : (n : ℕ) → length (encoding (number_item n)) ≤ 9
number_most n = omega (arith, tail_most n)

number_nine : (n : ℕ) → 2 ^ 32 ≤ n → length (encoding (number_item n)) ≡ 9
unfolding tail_of
number_nine n h = rw (le-ltb n 24 (omega (arith, h)), le-ltb n (2 ^ 8) (omega (arith, h)), le-ltb n (2 ^ 16) (omega (arith, h)), le-ltb n (2 ^ 32) h) refl

min_cases : (a b : ℕ) → ((a ≤ b) × (min a b ≡ a)) ⊎ ((b ≤ a) × (min a b ≡ b))
min_cases a b = elim (cases_lt b a) [ inl lt ↦ inr (omega (arith, lt), min-eq_right (omega (arith, lt))) | inr le ↦ inl (le, min-eq_left le) ]

abbrev most_number : ℕ
most_number = 2 ^ 64 - 1

old_is : (old q : ℕ) → q ≡ min old most_number → old ≤ 9 → q ≡ old
old_is old q q_is small = q_is ∙ min-eq_left (omega (arith, small))

is_within : (payload old p q : ℕ) → p ≡ min payload most_number → q ≡ min old most_number → old ≤ 9 → old ≤ payload → q ≤ p
is_within payload old p q p_is q_is small inside =
    let q_old = old_is old q q_is small in
    elim (min_cases payload most_number) [ inl c ↦ omega (arith, c.1, p_is, q_old, inside) | inr c ↦ omega (arith, c.1, p_is, q_old, small) ]

-- The sum that is taken, where payload is the length of the payload, old that of its number, new that of the other, and frame that of the frame.
module _ (payload old new names frame : ℕ) (p q s r : ℕ) (p_is : p ≡ min payload most_number) (q_is : q ≡ min old most_number) (s_is : s ≡ min new most_number) (r_is : r ≡ min (p - q + (s + (names + 8))) most_number) (small : old ≤ 9) (inside : old ≤ payload) (some : 1 ≤ new) (most : new ≤ 9) (parts : frame + old ≡ payload + new + (names + 8)) where
  q_old : q ≡ old
  q_old = old_is old q q_is small

  s_new : s ≡ new
  s_new = old_is new s s_is most

  sum_is : r ≡ min frame most_number
  sum_is =
      elim (min_cases payload most_number) [
        | inl c ↦
            let same : p - q + (s + (names + 8)) ≡ frame = omega (arith, c.1, p_is, q_old, s_new, parts, inside) in
            r_is ∙ ap (λ (n : ℕ). min n most_number) same
        | inr c ↦
            let full : r ≡ most_number = r_is ∙ min-eq_right (omega (arith, c.1, p_is, q_old, s_new, small, some)) in
            full ∙ sym (min-eq_right (omega (arith, c.0, parts, small, some)))
      ]

number_some : (n : ℕ) → 1 ≤ length (encoding (number_item n))
number_some n = omega arith

module _ (event : Seen) (h : IsEvent event) (p q : ℕ) (p_is : p ≡ min (length (encoding event.payload)) most_number) (q_is : q ≡ min (length (encoding (number_item event.seq))) most_number) where
  inside_of : length (encoding (number_item event.seq)) ≤ length (encoding event.payload)
  inside_of = number_contained event.payload event.seq (number_there event.payload event.seq h.number).0

  pub number_within : q ≤ p
  number_within = is_within (length (encoding event.payload)) (length (encoding (number_item event.seq))) p q p_is q_is (number_most event.seq) inside_of

  pub length_of : (n names s r : ℕ) → s ≡ min (length (encoding (number_item n))) most_number → names ≡ length (kind_name (event_kind_of event.body)) → r ≡ min (p - q + (s + (names + 8))) most_number
      → r ≡ min (length (out_of event n)) most_number
  length_of n names s r s_is names_is r_is =
      sum_is (length (encoding event.payload)) (length (encoding (number_item event.seq))) (length (encoding (number_item n))) names (length (out_of event n)) p q s r p_is q_is s_is r_is
      (number_most event.seq) inside_of (number_some n) (number_most n) (omega (arith, frame_length event n h, names_is))

-- a number's length is 9 bytes at most
pub number_short : (n s : ℕ) → s ≡ min (length (encoding (number_item n))) most_number → s ≤ 9
number_short n s s_is = omega (arith, old_is (length (encoding (number_item n))) s s_is (number_most n), number_most n)

-- all numbers of nine bytes make frames of one length
pub nine_bytes : (event : Seen) → IsEvent event → (n m : ℕ) → 2 ^ 32 ≤ n → 2 ^ 32 ≤ m → length (out_of event n) ≡ length (out_of event m)
nine_bytes event h n m n_least m_least = omega (arith, frame_length event n h, frame_length event m h, number_nine n n_least, number_nine m m_least)

-- and none a longer one
pub most_bytes : (event : Seen) → IsEvent event → (n m : ℕ) → 2 ^ 32 ≤ m → length (out_of event n) ≤ length (out_of event m)
most_bytes event h n m least = omega (arith, frame_length event n h, frame_length event m h, number_most n, number_nine m least)

pub less_of : (a b : ℕ) → a ≤ b → min a most_number ≤ min b most_number
less_of a b le =
    elim (min_cases b most_number) [ inl c ↦ omega (arith, c.1, min-le_left a most_number, le) | inr c ↦ omega (arith, c.1, min-le_right a most_number) ]

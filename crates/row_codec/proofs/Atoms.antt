-- The single items of rows: what is read of each is encoded so, and read again.
use Rattle.std.proofs.Common.{◌≡◌, ℕ, ◌<◌, ◌^◌, inl, inr, pos, negsuc, Bool, true, List, ◌++◌, Option, Some, None, refl, ap, ◌∙◌, arith, ltb, lit<}
use Rattle.std.proofs.lemmas.Str.{is_utf8-from_IsUtf8}
use Rattle.std.specs.Prelude.{option_map}
use Rattle.std.proofs.lemmas.Bool.{lt-ltb}
use Rattle.at_cid.specs.Link.{IsBytes, is_link}
use Rattle.at_cbor.specs.Item.{Item}
use Rattle.at_cbor.specs.Kinds.{text_in, bytes_in, bool_in, link_in}
use Rattle.at_cbor.specs.Encoding.{encoding, IsText, IsString}
use Rattle.at_cbor.proofs.Steps.{chosen}
use Rattle.at_syntax.specs.Tid.{tid_of, is_tid, tid_value, digits_of}
use Rattle.at_syntax.proofs.Tids.{tid_again, written_read}
use Rattle.at_syntax.proofs.Texts.{digits_ascii, digits_utf8}
use Rattle.at_event.specs.Writing.{number_item as number}
use Rattle.row_codec.specs.Items.{rev_text, or_null}
use Rattle.row_codec.specs.Readers.{number_in, below, rev_in, null_or, number_at, byte_at, place_at, text_at, bytes_at, bool_at, link_at, rev_at, null_or_rev_at, null_or_text_at}
use Rattle.relay_row.proofs.Fits.{IsRevOrNone, IsTextOrNone}
use Rattle.row_codec.proofs.Steps.{some_is, Sound, Tells, formed_sound, formed_again}
use Rattle.relay_row.specs.declared.limits.TheConstants.{PLACES}

digits_text : (rev : ℕ) → IsText (digits_of rev)
unfolding digits_of
digits_text rev =
    let bytes : IsBytes (digits_of rev) = λ i. omega (arith, digits_ascii rev i) in
    ((lit< tt, bytes), is_utf8-from_IsUtf8 (digits_of rev) (digits_utf8 rev))

-- ---- the forms tell their items

pub tells_number : Tells number number_in
tells_number (Item.int (pos n)) m e = ap number (some_is n m e)
tells_number (Item.int (negsuc n)) m e = absurd cc
tells_number i m e = absurd cc

below_is : (most : ℕ) (o : Option ℕ) (n : ℕ) → below most o ≡ Some n → o ≡ Some n
below_is most (Some m) n e = elim (chosen (ltb m most) (Some m) None (Some n) e) [ inl h ↦ h.1 | inr h ↦ absurd cc ]
below_is most None n e = absurd cc

tells_below : (most : ℕ) → Tells number (λ i. below most (number_in i))
tells_below most i n e = tells_number i n (below_is most (number_in i) n e)

pub tells_text : Tells Item.text text_in
tells_text (Item.text t) x e = ap Item.text (some_is t x e)
tells_text i x e = absurd cc

pub tells_bytes : Tells Item.bytes bytes_in
tells_bytes (Item.bytes t) x e = ap Item.bytes (some_is t x e)
tells_bytes i x e = absurd cc

pub tells_bool : Tells Item.bool bool_in
tells_bool (Item.bool t) x e = ap Item.bool (some_is t x e)
tells_bool i x e = absurd cc

pub tells_link : Tells Item.link link_in
tells_link (Item.link t) x e = ap Item.link (some_is t x e)
tells_link i x e = absurd cc

tid_is : (text : List ℕ) (rev : ℕ) → tid_of text ≡ Some rev → text ≡ digits_of rev
unfolding tid_of
tid_is text rev e =
    elim (chosen (is_tid text) (Some (tid_value text)) None (Some rev) e) [
      | inl h ↦ tid_again text h.0 ∙ ap digits_of (some_is (tid_value text) rev h.1)
      | inr h ↦ absurd cc
    ]

tells_rev : Tells rev_text rev_in
tells_rev (Item.text t) x e = ap Item.text (tid_is t x e)
tells_rev i x e = absurd cc

mapped_is : {A : Type 0} (s : A → Item) (i : Item) (o : Option A) (x : Option A) → ((y : A) → o ≡ Some y → i ≡ s y) → option_map Some o ≡ Some x → i ≡ or_null s x
mapped_is s i (Some y) (Some z) tells e = tells y refl ∙ ap s (cc)
mapped_is s i (Some y) None tells e = absurd cc
mapped_is s i None x tells e = absurd cc

tells_null_or : {A : Type 0} (s : A → Item) (form : Item → Option A) → Tells s form → Tells (or_null s) (null_or form)
tells_null_or s form tells Item.null None e = refl
tells_null_or s form tells Item.null (Some x) e = absurd cc
tells_null_or s form tells (Item.int z) x e = mapped_is s (Item.int z) (form (Item.int z)) x (tells (Item.int z)) e
tells_null_or s form tells (Item.bytes z) x e = mapped_is s (Item.bytes z) (form (Item.bytes z)) x (tells (Item.bytes z)) e
tells_null_or s form tells (Item.text z) x e = mapped_is s (Item.text z) (form (Item.text z)) x (tells (Item.text z)) e
tells_null_or s form tells (Item.list z) x e = mapped_is s (Item.list z) (form (Item.list z)) x (tells (Item.list z)) e
tells_null_or s form tells (Item.map z) x e = mapped_is s (Item.map z) (form (Item.map z)) x (tells (Item.map z)) e
tells_null_or s form tells (Item.link z) x e = mapped_is s (Item.link z) (form (Item.link z)) x (tells (Item.link z)) e
tells_null_or s form tells (Item.bool z) x e = mapped_is s (Item.bool z) (form (Item.bool z)) x (tells (Item.bool z)) e

-- ---- what is read is encoded so

pub number_sound : Sound (λ n. encoding (number n)) number_at
unfolding number_at
number_sound = formed_sound number number_in tells_number

pub byte_sound : Sound (λ n. encoding (number n)) byte_at
unfolding byte_at
byte_sound = formed_sound number (λ i. below 256 (number_in i)) (tells_below 256)

pub place_sound : Sound (λ n. encoding (number n)) place_at
unfolding place_at
place_sound = formed_sound number (λ i. below PLACES (number_in i)) (tells_below PLACES)

pub text_sound : Sound (λ t. encoding (Item.text t)) text_at
unfolding text_at
text_sound = formed_sound Item.text text_in tells_text

pub bytes_sound : Sound (λ t. encoding (Item.bytes t)) bytes_at
unfolding bytes_at
bytes_sound = formed_sound Item.bytes bytes_in tells_bytes

pub bool_sound : Sound (λ t. encoding (Item.bool t)) bool_at
unfolding bool_at
bool_sound = formed_sound Item.bool bool_in tells_bool

pub link_sound : Sound (λ t. encoding (Item.link t)) link_at
unfolding link_at
link_sound = formed_sound Item.link link_in tells_link

pub rev_sound : Sound (λ t. encoding (rev_text t)) rev_at
unfolding rev_at
rev_sound = formed_sound rev_text rev_in tells_rev

pub null_or_rev_sound : Sound (λ t. encoding (or_null rev_text t)) null_or_rev_at
unfolding null_or_rev_at
null_or_rev_sound = formed_sound (or_null rev_text) (null_or rev_in) (tells_null_or rev_text rev_in tells_rev)

pub null_or_text_sound : Sound (λ t. encoding (or_null Item.text t)) null_or_text_at
unfolding null_or_text_at
null_or_text_sound = formed_sound (or_null Item.text) (null_or text_in) (tells_null_or Item.text text_in tells_text)

-- ---- what is encoded so is read

pub number_again : (n : ℕ) (rest : List ℕ) → n < 2 ^ 63 → number_at (encoding (number n) ++ rest) ≡ Some (n, rest)
unfolding number_at
number_again n rest h = formed_again number number_in n rest h refl

pub byte_again : (n : ℕ) (rest : List ℕ) → n < 256 → byte_at (encoding (number n) ++ rest) ≡ Some (n, rest)
unfolding byte_at
byte_again n rest h = formed_again number (λ i. below 256 (number_in i)) n rest (omega (arith, h)) (rw (lt-ltb n 256 h) refl)

pub place_again : (n : ℕ) (rest : List ℕ) → n < PLACES → place_at (encoding (number n) ++ rest) ≡ Some (n, rest)
unfolding place_at
place_again n rest h = formed_again number (λ i. below PLACES (number_in i)) n rest (omega (arith, h)) (rw (lt-ltb n PLACES h) refl)

pub text_again : (t : List ℕ) (rest : List ℕ) → IsText t → text_at (encoding (Item.text t) ++ rest) ≡ Some (t, rest)
unfolding text_at
text_again t rest h = formed_again Item.text text_in t rest h refl

pub bytes_again : (t : List ℕ) (rest : List ℕ) → IsString t → bytes_at (encoding (Item.bytes t) ++ rest) ≡ Some (t, rest)
unfolding bytes_at
bytes_again t rest h = formed_again Item.bytes bytes_in t rest h refl

pub bool_again : (t : Bool) (rest : List ℕ) → bool_at (encoding (Item.bool t) ++ rest) ≡ Some (t, rest)
unfolding bool_at
bool_again t rest = formed_again Item.bool bool_in t rest tt refl

pub link_again : (t : List ℕ) (rest : List ℕ) → (is_link t ≡ true) × IsBytes t → link_at (encoding (Item.link t) ++ rest) ≡ Some (t, rest)
unfolding link_at
link_again t rest h = formed_again Item.link link_in t rest h refl

pub rev_again : (t : ℕ) (rest : List ℕ) → t < 2 ^ 64 → rev_at (encoding (rev_text t) ++ rest) ≡ Some (t, rest)
unfolding rev_at
rev_again t rest h = formed_again rev_text rev_in t rest (digits_text t) (written_read t h)

-- a revision, a text, or nothing
pub null_or_rev_again : (t : Option ℕ) (rest : List ℕ) → IsRevOrNone t → null_or_rev_at (encoding (or_null rev_text t) ++ rest) ≡ Some (t, rest)
unfolding null_or_rev_at
null_or_rev_again None rest h = formed_again (or_null rev_text) (null_or rev_in) None rest tt refl
null_or_rev_again (Some t) rest h = formed_again (or_null rev_text) (null_or rev_in) (Some t) rest (digits_text t) (ap (option_map Some) (written_read t h))

pub null_or_text_again : (t : Option (List ℕ)) (rest : List ℕ) → IsTextOrNone t → null_or_text_at (encoding (or_null Item.text t) ++ rest) ≡ Some (t, rest)
unfolding null_or_text_at
null_or_text_again None rest h = formed_again (or_null Item.text) (null_or text_in) None rest tt refl
null_or_text_again (Some t) rest h = formed_again (or_null Item.text) (null_or text_in) (Some t) rest h refl

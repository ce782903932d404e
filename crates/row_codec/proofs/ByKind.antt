-- Items that are read as the one kind that they are to be: what is read so is what an item of that form gives.
use Rattle.std.proofs.Common.{◌≡◌, ℕ, ◌<◌, ◌^◌, inl, inr, Bool, true, false, cond, ltb, eqb, get_or, List, [], ◌∷◌, ◌++◌, Option, Some, None, refl, sym, ap, ◌∙◌, subst, arith}
use Rattle.std.specs.Prelude.{option_map}
use Rattle.std.proofs.lemmas.Bool.{ltb-true, lt-ltb, eqb-true}
use Rattle.at_cid.specs.Link.{IsBytes}
use Rattle.at_cbor.specs.declared.major.Major.{Major}
use Rattle.at_cbor.specs.Heads.{head_at}
use Rattle.at_cbor.specs.Item.{Item}
use Rattle.at_cbor.specs.Kinds.{text_in, bytes_in, bool_in, link_in}
use Rattle.at_cbor.specs.Reading.{item_at as depth_at}
use Rattle.at_cbor.specs.Encoding.{front_of, encoding, Fits}
use Rattle.at_cbor.specs.Taking.{number_at as front_at, string_at, text_from_front, behind as behind_front, link_from_front, item_from_front}
use Rattle.at_cbor.proofs.Steps.{Takes, chosen}
use Rattle.at_cbor.proofs.Taken.{number_takes, number_again, string_takes, string_short, string_again, text_takes, text_again, link_takes, link_again, item_taken, item_taken_again}
use Rattle.at_syntax.specs.Tid.{tid_of}
use Rattle.at_event.specs.Writing.{number_item as number}
use Rattle.row_codec.specs.Readers.{Reading, behind, give, given, item_at, formed, number_in, below, tid_from, rev_in, null_or, number_at, byte_at, place_at, text_at, bytes_at, bool_at, link_at, rev_at, null_or_rev_at, null_or_text_at}
use Rattle.row_codec.proofs.Steps.{some_is, found, behind_some, given_some, Tells, formed_again}
use Rattle.row_codec.proofs.Atoms.{tells_number, tells_text, tells_bytes, tells_bool, tells_link}
use Rattle.relay_row.specs.declared.limits.TheConstants.{PLACES}

-- two answers, each of which is the other's wherever there is one
same_answer : {A : Type 0} (o p : Option A) → ((x : A) → o ≡ Some x → p ≡ Some x) → ((x : A) → p ≡ Some x → o ≡ Some x) → o ≡ p
same_answer None None f g = refl
same_answer (Some x) p f g = sym (f x refl)
same_answer None (Some y) f g = g y refl

-- what is read of a form is encoded in front, and fits
formed_fits : {A : Type 0} (s : A → Item) (form : Item → Option A) → Tells s form → (bytes : List ℕ) (x : A) (rest : List ℕ) → IsBytes bytes → formed form bytes ≡ Some (x, rest)
    → Takes bytes (encoding (s x)) rest × Fits (s x) 64
unfolding item_at
formed_fits s form tells bytes x rest ok e =
    let h = behind_some (item_from_front bytes) (λ i. given (form i)) (x, rest) e in
    let g = given_some (form h.0.0) h.0.1 x rest h.2 in
    let is : h.0.0 ≡ s x = tells h.0.0 x g.0 in
    subst (λ (left : List ℕ). Takes bytes (encoding (s x)) left × Fits (s x) 64) g.1 (subst (λ (i : Item). Takes bytes (encoding i) h.0.1 × Fits i 64) is (item_taken bytes h.0 ok h.1))

-- ---- numbers

below_some : (most m n : ℕ) → below most (Some m) ≡ Some n → (m ≡ n) × (m < most)
below_some most m n e = elim (chosen (ltb m most) (Some m) None (Some n) e) [ inl h ↦ (some_is m n h.1, ltb-true m most h.0) | inr h ↦ absurd cc ]

abbrev low_number : List ℕ → Option (ℕ × List ℕ)
low_number bytes = behind (front_at Major.Unsigned bytes) (λ n. given (below (2 ^ 63) (Some n)))

number_there : (bytes : List ℕ) (x : ℕ × List ℕ) → IsBytes bytes → formed number_in bytes ≡ Some (x.0, x.1) → low_number bytes ≡ Some (x.0, x.1)
number_there bytes x ok e =
    let t = formed_fits number number_in tells_number bytes x.0 x.1 ok e in
    let front : front_at Major.Unsigned bytes ≡ Some (x.0, x.1) = ap (front_at Major.Unsigned) t.0.parts ∙ number_again Major.Unsigned x.0 x.1 (omega (arith, t.1)) in
    rw (front, lt-ltb x.0 (2 ^ 63) t.1) refl

number_here : (bytes : List ℕ) (x : ℕ × List ℕ) → IsBytes bytes → low_number bytes ≡ Some (x.0, x.1) → formed number_in bytes ≡ Some (x.0, x.1)
number_here bytes x ok e =
    let h = behind_some (front_at Major.Unsigned bytes) (λ n. given (below (2 ^ 63) (Some n))) x e in
    let t = number_takes Major.Unsigned bytes h.0 ok h.1 in
    let g = given_some (below (2 ^ 63) (Some h.0.0)) h.0.1 x.0 x.1 h.2 in
    let b = below_some (2 ^ 63) h.0.0 x.0 g.0 in
    let parts : bytes ≡ encoding (number x.0) ++ x.1 = t.0.parts ∙ ap (λ (n : ℕ). front_of Major.Unsigned n ++ h.0.1) b.0 ∙ ap (λ (left : List ℕ). encoding (number x.0) ++ left) g.1 in
    ap (formed number_in) parts ∙ formed_again number number_in x.0 x.1 (subst (λ (n : ℕ). n < 2 ^ 63) b.0 b.1) refl

pub number_is : (bytes : List ℕ) → IsBytes bytes → number_at bytes ≡ low_number bytes
unfolding number_at
number_is bytes ok = same_answer (formed number_in bytes) (low_number bytes) (λ x e. number_there bytes x ok e) (λ x e. number_here bytes x ok e)

given_below : (most : ℕ) (o : Option ℕ) (rest : List ℕ) → given (below most o) rest ≡ behind (given o rest) (λ n. given (below most (Some n)))
given_below most None rest = refl
given_below most (Some n) rest = refl

below_after : (most : ℕ) (o : Option (Item × List ℕ)) → behind o (λ i. given (below most (number_in i))) ≡ behind (behind o (λ i. given (number_in i))) (λ n. given (below most (Some n)))
below_after most None = refl
below_after most (Some x) = given_below most (number_in x.0) x.1

pub byte_is : (bytes : List ℕ) → byte_at bytes ≡ behind (number_at bytes) (λ n. given (below 256 (Some n)))
unfolding byte_at number_at
byte_is bytes = below_after 256 (item_at bytes)

pub place_is : (bytes : List ℕ) → place_at bytes ≡ behind (number_at bytes) (λ n. given (below PLACES (Some n)))
unfolding place_at number_at
place_is bytes = below_after PLACES (item_at bytes)

-- ---- texts and strings of bytes

text_there : (bytes : List ℕ) (x : List ℕ × List ℕ) → IsBytes bytes → formed text_in bytes ≡ Some (x.0, x.1) → text_from_front bytes ≡ Some (x.0, x.1)
text_there bytes x ok e =
    let t = formed_fits Item.text text_in tells_text bytes x.0 x.1 ok e in
    ap text_from_front t.0.parts ∙ text_again x.0 x.1 t.1

text_here : (bytes : List ℕ) (x : List ℕ × List ℕ) → IsBytes bytes → text_from_front bytes ≡ Some (x.0, x.1) → formed text_in bytes ≡ Some (x.0, x.1)
text_here bytes x ok e =
    let t = text_takes bytes x ok e in
    ap (formed text_in) t.0.parts ∙ formed_again Item.text text_in x.0 x.1 t.1 refl

pub text_is : (bytes : List ℕ) → IsBytes bytes → text_at bytes ≡ text_from_front bytes
unfolding text_at
text_is bytes ok = same_answer (formed text_in bytes) (text_from_front bytes) (λ x e. text_there bytes x ok e) (λ x e. text_here bytes x ok e)

string_there : (bytes : List ℕ) (x : List ℕ × List ℕ) → IsBytes bytes → formed bytes_in bytes ≡ Some (x.0, x.1) → string_at bytes ≡ Some (x.0, x.1)
string_there bytes x ok e =
    let t = formed_fits Item.bytes bytes_in tells_bytes bytes x.0 x.1 ok e in
    ap string_at t.0.parts ∙ string_again x.0 x.1 t.1.0

string_here : (bytes : List ℕ) (x : List ℕ × List ℕ) → IsBytes bytes → string_at bytes ≡ Some (x.0, x.1) → formed bytes_in bytes ≡ Some (x.0, x.1)
string_here bytes x ok e =
    let t = string_takes bytes x ok e in
    ap (formed bytes_in) t.0.parts ∙ formed_again Item.bytes bytes_in x.0 x.1 (string_short bytes x ok e, t.1) refl

pub bytes_is : (bytes : List ℕ) → IsBytes bytes → bytes_at bytes ≡ string_at bytes
unfolding bytes_at
bytes_is bytes ok = same_answer (formed bytes_in bytes) (string_at bytes) (λ x e. string_there bytes x ok e) (λ x e. string_here bytes x ok e)

-- ---- links and truths

link_there : (bytes : List ℕ) (x : List ℕ × List ℕ) → IsBytes bytes → formed link_in bytes ≡ Some (x.0, x.1) → link_from_front bytes ≡ Some (x.0, x.1)
link_there bytes x ok e =
    let t = formed_fits Item.link link_in tells_link bytes x.0 x.1 ok e in
    ap link_from_front t.0.parts ∙ link_again x.0 x.1 t.1.0

link_here : (bytes : List ℕ) (x : List ℕ × List ℕ) → IsBytes bytes → link_from_front bytes ≡ Some (x.0, x.1) → formed link_in bytes ≡ Some (x.0, x.1)
link_here bytes x ok e =
    let t = link_takes bytes x ok e in
    ap (formed link_in) t.0.parts ∙ formed_again Item.link link_in x.0 x.1 (t.1.link, t.1.bytes) refl

pub link_is : (bytes : List ℕ) → IsBytes bytes → link_at bytes ≡ link_from_front bytes
unfolding link_at
link_is bytes ok = same_answer (formed link_in bytes) (link_from_front bytes) (λ x e. link_there bytes x ok e) (λ x e. link_here bytes x ok e)

-- this and the bytes behind a front, or another answer where the front isn't there
abbrev first_of : {A : Type 0} → Option (List ℕ) → A → Option (A × List ℕ) → Option (A × List ℕ)
first_of (Some rest) x other = Some (x, rest)
first_of None x other = other

abbrev bool_from : List ℕ → Option (Bool × List ℕ)
bool_from bytes = first_of (behind_front (0xf4 ∷ []) bytes) false (first_of (behind_front (0xf5 ∷ []) bytes) true None)

bool_from_again : (t : Bool) (rest : List ℕ) → bool_from (encoding (Item.bool t) ++ rest) ≡ Some (t, rest)
unfolding behind_front
bool_from_again false rest = refl
bool_from_again true rest = refl

bool_there : (bytes : List ℕ) (x : Bool × List ℕ) → IsBytes bytes → formed bool_in bytes ≡ Some (x.0, x.1) → bool_from bytes ≡ Some (x.0, x.1)
bool_there bytes x ok e =
    let t = formed_fits Item.bool bool_in tells_bool bytes x.0 x.1 ok e in
    ap bool_from t.0.parts ∙ bool_from_again x.0 x.1

bool_read : (t : Bool) (b : ℕ) (bytes : List ℕ) (x : Bool × List ℕ) → b ∷ [] ≡ encoding (Item.bool t) → found t bytes ≡ Some x → formed bool_in (b ∷ bytes) ≡ Some x
bool_read t b bytes x is e = ap (λ (l : List ℕ). formed bool_in (l ++ bytes)) is ∙ formed_again Item.bool bool_in t bytes tt refl ∙ e

bool_tested : (s t : Bool) (b : ℕ) (bytes : List ℕ) (x : Bool × List ℕ) → eqb 0xf4 b ≡ s → eqb 0xf5 b ≡ t
    → first_of (cond s (Some bytes) None) false (first_of (cond t (Some bytes) None) true None) ≡ Some x → formed bool_in (b ∷ bytes) ≡ Some x
bool_tested true t b bytes x f g e = bool_read false b bytes x (ap (λ (n : ℕ). n ∷ []) (sym (eqb-true 0xf4 b f))) e
bool_tested false true b bytes x f g e = bool_read true b bytes x (ap (λ (n : ℕ). n ∷ []) (sym (eqb-true 0xf5 b g))) e
bool_tested false false b bytes x f g e = absurd cc

bool_here : (bytes : List ℕ) (x : Bool × List ℕ) → bool_from bytes ≡ Some x → formed bool_in bytes ≡ Some x
unfolding behind_front
bool_here [] x e = absurd cc
bool_here (b ∷ bytes) x e = bool_tested (eqb 0xf4 b) (eqb 0xf5 b) b bytes x refl refl e

pub bool_is : (bytes : List ℕ) → IsBytes bytes → bool_at bytes ≡ bool_from bytes
unfolding bool_at
bool_is bytes ok = same_answer (formed bool_in bytes) (bool_from bytes) (λ x e. bool_there bytes x ok e) (λ x e. bool_here bytes x e)

-- ---- revisions

given_rev : (o : Option (List ℕ)) (rest : List ℕ) → given (tid_from o) rest ≡ behind (given o rest) (λ t. given (tid_of t))
given_rev None rest = refl
given_rev (Some t) rest = refl

rev_after : (o : Option (Item × List ℕ)) → behind o (λ i. given (rev_in i)) ≡ behind (behind o (λ i. given (text_in i))) (λ t. given (tid_of t))
rev_after None = refl
rev_after (Some x) = given_rev (text_in x.0) x.1

pub rev_is : (bytes : List ℕ) → rev_at bytes ≡ behind (text_at bytes) (λ t. given (tid_of t))
unfolding rev_at text_at
rev_is bytes = rev_after (item_at bytes)

-- ---- null, or an item of a form

no_item : item_at [] ≡ None
unfolding item_at item_from_front depth_at head_at
no_item = refl

null_again : (bytes : List ℕ) → item_at (0xf6 ∷ bytes) ≡ Some (Item.null, bytes)
unfolding item_at
null_again bytes = item_taken_again Item.null bytes tt

not_null : (b : ℕ) (bytes rest : List ℕ) → IsBytes (b ∷ bytes) → eqb 0xf6 b ≡ false → item_at (b ∷ bytes) ≡ Some (Item.null, rest) → ⊥
unfolding item_at
not_null b bytes rest ok other e =
    let t = item_taken (b ∷ bytes) (Item.null, rest) ok e in
    let is : b ≡ 0xf6 = ap (λ (l : List ℕ). get_or l 0 0) t.0.parts in
    let bad : true ≡ false = subst (λ (n : ℕ). eqb 0xf6 n ≡ false) is other in
    absurd cc

mapped : {A : Type 0} (o : Option A) (rest : List ℕ) → given (option_map Some o) rest ≡ behind (given o rest) (λ x. give (Some x))
mapped None rest = refl
mapped (Some x) rest = refl

other_item : {A : Type 0} (form : Item → Option A) (i : Item) (rest : List ℕ) → (i ≡ Item.null → ⊥) → given (null_or form i) rest ≡ behind (given (form i) rest) (λ x. give (Some x))
other_item form Item.null rest other = absurd (other refl)
other_item form (Item.int z) rest other = mapped (form (Item.int z)) rest
other_item form (Item.bytes z) rest other = mapped (form (Item.bytes z)) rest
other_item form (Item.text z) rest other = mapped (form (Item.text z)) rest
other_item form (Item.list z) rest other = mapped (form (Item.list z)) rest
other_item form (Item.map z) rest other = mapped (form (Item.map z)) rest
other_item form (Item.link z) rest other = mapped (form (Item.link z)) rest
other_item form (Item.bool z) rest other = mapped (form (Item.bool z)) rest

other_read : {A : Type 0} (form : Item → Option A) (o : Option (Item × List ℕ)) → ((rest : List ℕ) → o ≡ Some (Item.null, rest) → ⊥)
    → behind o (λ i. given (null_or form i)) ≡ behind (behind o (λ i. given (form i))) (λ x. give (Some x))
other_read form None other = refl
other_read form (Some (i, rest)) other = other_item form i rest (λ e. other rest (ap (λ (j : Item). Some (j, rest)) e))

abbrev some_at : {A : Type 0} → Reading A → Reading (Option A)
some_at r bytes = behind (r bytes) (λ x. give (Some x))

first_is : {A : Type 0} (form : Item → Option A) (b : ℕ) (bytes : List ℕ) (t : Bool) → IsBytes (b ∷ bytes) → eqb 0xf6 b ≡ t
    → formed (null_or form) (b ∷ bytes) ≡ first_of (cond t (Some bytes) None) None (some_at (formed form) (b ∷ bytes))
first_is form b bytes true ok e =
    let null : formed (null_or form) (0xf6 ∷ bytes) ≡ Some (None, bytes) = rw (null_again bytes) refl in
    ap (λ (n : ℕ). formed (null_or form) (n ∷ bytes)) (sym (eqb-true 0xf6 b e)) ∙ null
first_is form b bytes false ok e = other_read form (item_at (b ∷ bytes)) (λ rest is. not_null b bytes rest ok e is)

null_or_is : {A : Type 0} (form : Item → Option A) (bytes : List ℕ) → IsBytes bytes → formed (null_or form) bytes ≡ first_of (behind_front (0xf6 ∷ []) bytes) None (some_at (formed form) bytes)
unfolding behind_front
null_or_is form [] ok = rw no_item refl
null_or_is form (b ∷ bytes) ok = first_is form b bytes (eqb 0xf6 b) ok refl

pub null_or_rev_is : (bytes : List ℕ) → IsBytes bytes → null_or_rev_at bytes ≡ first_of (behind_front (0xf6 ∷ []) bytes) None (some_at rev_at bytes)
unfolding null_or_rev_at rev_at
null_or_rev_is bytes ok = null_or_is rev_in bytes ok

pub null_or_text_is : (bytes : List ℕ) → IsBytes bytes → null_or_text_at bytes ≡ first_of (behind_front (0xf6 ∷ []) bytes) None (some_at text_at bytes)
unfolding null_or_text_at text_at
null_or_text_is bytes ok = null_or_is text_in bytes ok

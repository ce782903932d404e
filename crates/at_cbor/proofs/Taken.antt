-- The pieces that are taken from the front of bytes are those that are encoded there, and what is encoded is taken.
use Rattle.std.proofs.Common.{◌≡◌, ℕ, suc, ◌+◌, ◌*◌, ◌/◌, ◌%◌, ◌^◌, ◌<◌, ◌≤◌, Bool, true, false, cond, ltb, eqb, ◌&&◌, List, [], ◌∷◌, ◌++◌, length, get_or, take, drop, Option, Some, None, Ok, Err, refl, sym, ap, ◌∙◌, subst, arith, inl, inr, append_assoc, take-append-drop}
use Rattle.std.specs.Cmp.Lexicographic.{pointwise}
use Rattle.std.specs.Str.{is_utf8}
use Rattle.std.proofs.lemmas.Bool.{cases_lt, and_parts, ltb-true, ltb-false, lt-ltb, le-ltb, eqb-true}
use Rattle.std.proofs.lemmas.Bool.Decides.{nat_tests}
use Rattle.std.proofs.lemmas.List.{take_at, drop_at, length-append, length-take, append-nil}
use Rattle.std.proofs.lemmas.Option.{same_Some}
use Rattle.at_cid.specs.Link.{IsBytes, IsLink, IsNodeLinkOrNone, is_link, link_at, kind_of}
use Rattle.at_cid.specs.declared.cid.Kind.TheVariants.{Node, Raw}
use Rattle.at_cid.proofs.Links.{link_length, link_at_short}
use Rattle.at_cbor.specs.declared.major.Major.{Major}
use Rattle.at_cbor.specs.Item.{Item}
use Rattle.at_cbor.specs.Heads.{argument_at, least_of}
use Rattle.at_cbor.specs.Majors.{major_number}
use Rattle.at_cbor.specs.Reading.{Reading, item_at}
use Rattle.at_cbor.specs.Encoding.{info_of, front_of, link_encoding, encoding, Fits, IsString, IsText}
use Rattle.at_cbor.specs.Taking.{◌>>=◌, Taking, behind, all_of, shortest, number_at, string_of, string_behind, string_at, text_from_front, linked, link_from_front, link_item, child_at, found, item_from_front, whole_item}
use Rattle.at_cbor.specs.TakingLaws.{TakesFronts, TakesNumbers, TakesStrings, TakesTexts, TakesLinks, TakesChildren, TakesItems, TakesWholes}
use Rattle.at_cbor.proofs.Fronts.{argument_takes, argument_again}
use Rattle.at_cbor.proofs.ItemLaws.{item_takes}
use Rattle.at_cbor.proofs.ItemAgain.{item_again}
use Rattle.at_cbor.proofs.Steps.{chosen, IsBytes-drop, IsBytes-take, Takes}

-- the value of a step that took something
pub bind_some : {A B : Type 0} (o : Option A) (f : A → Option B) (y : B) → (o >>= f) ≡ Some y → (x : A) × (o ≡ Some x) × (f x ≡ Some y)
bind_some (Some x) f y e = (x, refl, e)
bind_some None f y e = absurd cc

-- a test that held
pub held : {A : Type 0} (b : Bool) (o : Option A) (y : A) → cond b o None ≡ Some y → (b ≡ true) × (o ≡ Some y)
held true o y e = (refl, e)
held false o y e = absurd cc

-- a test that didn't hold
unheld : {A : Type 0} (b : Bool) (o : Option A) (y : A) → cond b None o ≡ Some y → (b ≡ false) × (o ≡ Some y)
unheld true o y e = absurd cc
unheld false o y e = (refl, e)

-- ---- fronts, numbers and strings

pub behind_takes : (front bytes rest : List ℕ) → IsBytes bytes → behind front bytes ≡ Some rest → Takes bytes front rest
unfolding behind
behind_takes [] bytes rest fits e = let same : bytes ≡ rest = same_Some bytes rest e in record { parts = same; rest_fits = subst IsBytes same fits }
behind_takes (x ∷ front) [] rest fits e = absurd cc
behind_takes (x ∷ front) (b ∷ bytes) rest fits e =
    let t = held (eqb x b) (behind front bytes) rest e in
    let more = behind_takes front bytes rest (λ i. fits (suc i)) t.1 in
    record { parts = ap (λ (n : ℕ). n ∷ bytes) (sym (eqb-true x b t.0)) ∙ ap (λ (l : List ℕ). x ∷ l) more.parts; rest_fits = more.rest_fits }

pub behind_again : (front rest : List ℕ) → behind front (front ++ rest) ≡ Some rest
unfolding behind
behind_again [] rest = refl
behind_again (x ∷ front) rest = let same : eqb x x ≡ true = grind (arith, nat_tests) in rw same (behind_again front rest)

-- a front that is compared as a whole
pub behind_short : (front bytes : List ℕ) → length bytes < length front → None ≡ behind front bytes
unfolding behind
behind_short [] bytes low = absurd (omega arith)
behind_short (x ∷ front) [] low = refl
behind_short (x ∷ front) (b ∷ bytes) low = elim (eqb x b) as (λ t. None ≡ cond t (behind front bytes) None) [ true ↦ behind_short front bytes (omega arith) | false ↦ refl ]

behind_tested : (front bytes : List ℕ) → length front ≤ length bytes → cond (pointwise eqb front (take (length front) bytes)) (Some (drop (length front) bytes)) None ≡ behind front bytes
unfolding behind
behind_tested [] bytes long = refl
behind_tested (x ∷ front) [] long = absurd (omega arith)
behind_tested (x ∷ front) (b ∷ bytes) long =
    elim (eqb x b) as (λ t. cond (t && pointwise eqb front (take (length front) bytes)) (Some (drop (length front) bytes)) None ≡ cond t (behind front bytes) None) [
      | true ↦ behind_tested front bytes (omega arith)
      | false ↦ refl
    ]

pub behind_found : (n : ℕ) (front bytes : List ℕ) → length front ≡ n → n ≤ length bytes → true ≡ pointwise eqb front (take n bytes) → Some (drop n bytes) ≡ behind front bytes
behind_found n front bytes len long e =
    subst (λ (m : ℕ). m ≤ length bytes → true ≡ pointwise eqb front (take m bytes) → Some (drop m bytes) ≡ behind front bytes) len
    (λ l t. ap (λ (b : Bool). cond b (Some (drop (length front) bytes)) None) t ∙ behind_tested front bytes l) long e

pub behind_other : (n : ℕ) (front bytes : List ℕ) → length front ≡ n → n ≤ length bytes → false ≡ pointwise eqb front (take n bytes) → None ≡ behind front bytes
behind_other n front bytes len long e =
    subst (λ (m : ℕ). m ≤ length bytes → false ≡ pointwise eqb front (take m bytes) → None ≡ behind front bytes) len
    (λ l t. ap (λ (b : Bool). cond b (Some (drop (length front) bytes)) None) t ∙ behind_tested front bytes l) long e

-- two fronts behind one another
pub behind_both : (a b bytes : List ℕ) → behind (a ++ b) bytes ≡ (behind a bytes >>= behind b)
unfolding behind
behind_both [] b bytes = refl
behind_both (x ∷ a) b [] = refl
behind_both (x ∷ a) b (y ∷ bytes) = elim (eqb x y) as (λ t. cond t (behind (a ++ b) bytes) None ≡ (cond t (behind a bytes) None >>= behind b)) [ true ↦ behind_both a b bytes | false ↦ refl ]

shortest_found : (least : ℕ) (found : Taking ℕ) (x : ℕ × List ℕ) → shortest least found ≡ Some x → (found ≡ Some x) × (ltb x.0 least ≡ false)
shortest_found least None x e = absurd cc
shortest_found least (Some a) x e =
    let t = unheld (ltb a.0 least) (Some a) x e in
    let same : a ≡ x = same_Some a x t.1 in (t.1, ap (λ (y : ℕ × List ℕ). ltb y.0 least) (sym same) ∙ t.0)

pub number_takes : (major : Major) (bytes : List ℕ) (x : ℕ × List ℕ) → IsBytes bytes → number_at major bytes ≡ Some x → Takes bytes (front_of major x.0) x.1 × (x.0 < 2 ^ 64)
unfolding number_at
number_takes major [] x fits e = absurd cc
number_takes major (first ∷ bytes) x fits e =
    let t = held (eqb (first / 32) (major_number major) && ltb (first % 32) 28) (shortest (least_of (first % 32)) (argument_at (first % 32) bytes)) x e in
    let b = and_parts (eqb (first / 32) (major_number major)) (ltb (first % 32) 28) t.0 in
    let s = shortest_found (least_of (first % 32)) (argument_at (first % 32) bytes) x t.1 in
    let a = argument_takes (first % 32) bytes x (ltb-true (first % 32) 28 b.1) (λ i. fits (suc i)) s.0 s.1 in
    let high : first / 32 ≡ major_number major = eqb-true (first / 32) (major_number major) b.0 in
    let low : first % 32 ≡ info_of x.0 = a.info_is in
    let head : first ≡ 32 * major_number major + info_of x.0 = omega arith in
    (record { parts = ap (λ (n : ℕ). n ∷ bytes) head ∙ ap (λ (l : List ℕ). (32 * major_number major + info_of x.0) ∷ l) a.taken.parts; rest_fits = a.taken.rest_fits }, a.below)

pub number_again : (major : Major) (n : ℕ) (rest : List ℕ) → n < 2 ^ 64 → number_at major (front_of major n ++ rest) ≡ Some (n, rest)
unfolding number_at
number_again major n rest below =
    let reads = argument_again n rest below in
    let low : (32 * major_number major + info_of n) % 32 ≡ info_of n = omega (arith, reads.info_below) in
    let high : (32 * major_number major + info_of n) / 32 ≡ major_number major = omega (arith, reads.info_below) in
    let small : ltb (info_of n) 28 ≡ true = lt-ltb (info_of n) 28 reads.info_below in
    let same : eqb (major_number major) (major_number major) ≡ true = grind (arith, nat_tests) in
    rw (low, high, same, small, reads.found, reads.shortest) refl

string_found : (n : ℕ) (bytes : List ℕ) (x : List ℕ × List ℕ) → IsBytes bytes → string_of n bytes ≡ Some x → Takes bytes x.0 x.1 × (length x.0 ≡ n) × IsBytes x.0
string_found n bytes x fits e =
    let t = unheld (ltb (length bytes) n) (Some (take n bytes, drop n bytes)) x e in
    let long = ltb-false (length bytes) n t.0 in
    let P : List ℕ × List ℕ → Type 0 = λ y. Takes bytes y.0 y.1 × (length y.0 ≡ n) × IsBytes y.0 in
    subst P (same_Some (take n bytes, drop n bytes) x t.1) (record { parts = sym (take-append-drop n bytes); rest_fits = IsBytes-drop n bytes fits }, omega (arith, length-take n bytes), IsBytes-take n bytes fits)

-- as many bytes as a head tells stand behind it
string_behind_takes : (major : Major) (bytes : List ℕ) (x : List ℕ × List ℕ) → IsBytes bytes → string_behind major bytes ≡ Some x
    → Takes bytes (front_of major (length x.0) ++ x.0) x.1 × IsString x.0
string_behind_takes major bytes x fits e =
    let n = bind_some (number_at major bytes) _ x e in
    let head = number_takes major bytes n.0 fits n.1 in
    let s = string_found n.0.0 n.0.1 x head.0.rest_fits n.2 in
    let front : front_of major n.0.0 ≡ front_of major (length x.0) = ap (front_of major) (sym s.1) in
    let parts = head.0.parts ∙ ap (λ (l : List ℕ). l ++ n.0.1) front ∙ ap (λ (l : List ℕ). front_of major (length x.0) ++ l) s.0.parts ∙ sym (append_assoc (front_of major (length x.0)) x.0 x.1) in
    (record { parts = parts; rest_fits = s.0.rest_fits }, (omega (arith, s.1, head.1), s.2))

string_behind_again : (major : Major) (text rest : List ℕ) → length text < 2 ^ 64 → string_behind major ((front_of major (length text) ++ text) ++ rest) ≡ Some (text, rest)
string_behind_again major text rest below =
    let front = front_of major (length text) in
    let read : number_at major ((front ++ text) ++ rest) ≡ Some (length text, text ++ rest) = ap (number_at major) (append_assoc front text rest) ∙ number_again major (length text) (text ++ rest) below in
    let long : ltb (length (text ++ rest)) (length text) ≡ false = le-ltb _ _ (omega (arith, length-append text rest)) in
    rw (read, long, take_at text rest (length text) refl, drop_at text rest (length text) refl) refl

pub string_takes : (bytes : List ℕ) (x : List ℕ × List ℕ) → IsBytes bytes → string_at bytes ≡ Some x → Takes bytes (encoding (Item.bytes x.0)) x.1 × IsBytes x.0
unfolding string_at
string_takes bytes x fits e = let t = string_behind_takes Major.Bytes bytes x fits e in (t.0, t.1.1)

pub string_short : (bytes : List ℕ) (x : List ℕ × List ℕ) → IsBytes bytes → string_at bytes ≡ Some x → length x.0 < 2 ^ 64
unfolding string_at
string_short bytes x fits e = (string_behind_takes Major.Bytes bytes x fits e).1.0

pub string_again : (text rest : List ℕ) → length text < 2 ^ 64 → string_at (encoding (Item.bytes text) ++ rest) ≡ Some (text, rest)
unfolding string_at
string_again text rest below = string_behind_again Major.Bytes text rest below

-- ---- texts

pub text_takes : (bytes : List ℕ) (x : List ℕ × List ℕ) → IsBytes bytes → text_from_front bytes ≡ Some x → Takes bytes (encoding (Item.text x.0)) x.1 × IsText x.0
unfolding text_from_front
text_takes bytes x fits e =
    let P : List ℕ × List ℕ → Type 0 = λ y. Takes bytes (encoding (Item.text y.0)) y.1 × IsText y.0 in
    let s = bind_some (string_behind Major.Text bytes) _ x e in
    let t = held (is_utf8 s.0.0) (Some s.0) x s.2 in
    let taken = string_behind_takes Major.Text bytes s.0 fits s.1 in
    subst P (same_Some s.0 x t.1) (taken.0, (taken.1, t.0))

pub text_again : (text rest : List ℕ) → IsText text → text_from_front (encoding (Item.text text) ++ rest) ≡ Some (text, rest)
unfolding text_from_front
text_again text rest is = rw (string_behind_again Major.Text text rest is.0.0, is.1) refl

-- ---- links

abbrev link_front : List ℕ
link_front = 0xd8 ∷ 0x2a ∷ 0x58 ∷ 0x25 ∷ 0x00 ∷ []

-- where a link is found there are as many bytes
pub link_long : (bytes c : List ℕ) → Some c ≡ link_at bytes → 36 ≤ length bytes
link_long bytes c e =
    elim (cases_lt (length bytes) 36) [
      | inl low ↦ let none = link_at_short bytes low in absurd cc
      | inr long ↦ long
    ]

linked_found : (bytes : List ℕ) (t : Bool) (x : List ℕ × List ℕ) → is_link (take 36 bytes) ≡ t → linked (cond t (Some (take 36 bytes)) None) (drop 36 bytes) ≡ Some x → (is_link (take 36 bytes) ≡ true) × ((take 36 bytes, drop 36 bytes) ≡ x)
linked_found bytes true x is e = (is, same_Some (take 36 bytes, drop 36 bytes) x e)
linked_found bytes false x is e = absurd cc

pub link_takes : (bytes : List ℕ) (x : List ℕ × List ℕ) → IsBytes bytes → link_from_front bytes ≡ Some x → Takes bytes (link_encoding x.0) x.1 × IsLink x.0
unfolding link_from_front
link_takes bytes x fits e =
    let b = bind_some (behind link_front bytes) _ x e in
    let front = behind_takes link_front bytes b.0 fits b.1 in
    let f = linked_found b.0 (is_link (take 36 b.0)) x refl b.2 in
    let P : List ℕ × List ℕ → Type 0 = λ y. Takes bytes (link_encoding y.0) y.1 × IsLink y.0 in
    subst P f.1 (
      record { parts = front.parts ∙ ap (λ (l : List ℕ). link_front ++ l) (sym (take-append-drop 36 b.0)); rest_fits = IsBytes-drop 36 b.0 front.rest_fits },
      record { link = f.0; bytes = IsBytes-take 36 b.0 front.rest_fits },
    )

pub link_again : (c rest : List ℕ) → is_link c ≡ true → link_from_front (link_encoding c ++ rest) ≡ Some (c, rest)
unfolding link_from_front behind
link_again c rest is =
    let len = link_length c is in
    let front : take 36 (c ++ rest) ≡ c = take_at c rest 36 len in
    let still : is_link (take 36 (c ++ rest)) ≡ true = ap is_link front ∙ is in
    let found : link_at (c ++ rest) ≡ Some c = rw still (ap Some front) in
    rw (found, drop_at c rest 36 len) refl

node_kind : (c : List ℕ) → eqb (get_or c 1 0) 0x71 ≡ true → kind_of c ≡ Node
node_kind c t = rw t refl

node_byte : (c : List ℕ) → kind_of c ≡ Node → eqb (get_or c 1 0) 0x71 ≡ true
node_byte c = elim (eqb (get_or c 1 0) 0x71) as (λ t. (cond t Node Raw ≡ Node → t ≡ true)) [ true ↦ λ e. refl | false ↦ λ e. absurd cc ]

pub child_takes : (bytes : List ℕ) (x : Option (List ℕ) × List ℕ) → IsBytes bytes → child_at bytes ≡ Some x → Takes bytes (encoding (link_item x.0)) x.1 × IsNodeLinkOrNone x.0
unfolding child_at
child_takes [] x fits e = absurd cc
child_takes (first ∷ bytes) x fits e =
    let P : Option (List ℕ) × List ℕ → Type 0 = λ y. Takes (first ∷ bytes) (encoding (link_item y.0)) y.1 × IsNodeLinkOrNone y.0 in
    elim (chosen (eqb first 0xf6) (Some (None, bytes)) _ (Some x) e) [
      | inl (t, f) ↦ subst P (same_Some (None, bytes) x f) (record { parts = ap (λ (n : ℕ). n ∷ bytes) (eqb-true first 0xf6 t); rest_fits = λ i. fits (suc i) }, tt)
      | inr (t, f) ↦
          let c = bind_some (link_from_front (first ∷ bytes)) _ x f in
          let taken = link_takes (first ∷ bytes) c.0 fits c.1 in
          let k = held (eqb (get_or c.0.0 1 0) 0x71) (Some (Some c.0.0, c.0.1)) x c.2 in
          subst P (same_Some (Some c.0.0, c.0.1) x k.1) (taken.0, record { link = taken.1.link; bytes = taken.1.bytes; node = node_kind c.0.0 k.0 })
    ]

pub child_again : (o : Option (List ℕ)) (rest : List ℕ) → IsNodeLinkOrNone o → child_at (encoding (link_item o) ++ rest) ≡ Some (o, rest)
unfolding child_at
child_again None rest form = refl
child_again (Some c) rest form = rw (link_again c rest form.link, node_byte c form.node) refl

-- ---- items

found_some : {A : Type 0} (r : Reading A) (x : A × List ℕ) → found r ≡ Some x → r ≡ Ok x
found_some (Ok y) x e = ap Ok (same_Some y x e)
found_some (Err flaw) x e = absurd cc

pub item_taken : (bytes : List ℕ) (x : Item × List ℕ) → IsBytes bytes → item_from_front bytes ≡ Some x → Takes bytes (encoding x.0) x.1 × Fits x.0 64
unfolding item_from_front
item_taken bytes x fits e = item_takes 64 bytes x fits (found_some (item_at 64 bytes) x e)

pub item_taken_again : (i : Item) (rest : List ℕ) → Fits i 64 → item_from_front (encoding i ++ rest) ≡ Some (i, rest)
unfolding item_from_front
item_taken_again i rest fits = ap found (item_again 64 i rest fits)

pub all_found : {A : Type 0} (x : A × List ℕ) (y : A) → all_of x ≡ Some y → x ≡ (y, [])
all_found (x, []) y e = ap (λ z. (z, [])) (same_Some x y e)
all_found (x, b ∷ bytes) y e = absurd cc

pub whole_takes : (i : Item) (bytes : List ℕ) → IsBytes bytes → whole_item bytes ≡ Some i → Fits i 64 × (bytes ≡ encoding i)
unfolding whole_item
whole_takes i bytes fits e =
    let s = bind_some (item_from_front bytes) all_of i e in
    let t = item_taken bytes (i, []) fits (s.1 ∙ ap Some (all_found s.0 i s.2)) in
    (t.1, t.0.parts ∙ append-nil (encoding i))

pub whole_again : (i : Item) → Fits i 64 → whole_item (encoding i) ≡ Some i
unfolding whole_item
whole_again i fits = ap (λ (l : List ℕ). item_from_front l >>= all_of) (sym (append-nil (encoding i))) ∙ ap (λ (o : Taking Item). o >>= all_of) (item_taken_again i [] fits)

-- ---- both ways

behind_parts : (front bytes rest : List ℕ) → behind front bytes ≡ Some rest → bytes ≡ front ++ rest
unfolding behind
behind_parts [] bytes rest e = same_Some bytes rest e
behind_parts (x ∷ front) [] rest e = absurd cc
behind_parts (x ∷ front) (b ∷ bytes) rest e =
    let t = held (eqb x b) (behind front bytes) rest e in
    ap (λ (n : ℕ). n ∷ bytes) (sym (eqb-true x b t.0)) ∙ ap (λ (l : List ℕ). x ∷ l) (behind_parts front bytes rest t.1)

pub takes_fronts : TakesFronts
takes_fronts front bytes rest = (behind_parts front bytes rest, λ e. ap (behind front) e ∙ behind_again front rest)

pub takes_numbers : TakesNumbers
takes_numbers major n bytes rest fits =
    (λ e. let t = number_takes major bytes (n, rest) fits e in (t.1, t.0.parts), λ (below, e). ap (number_at major) e ∙ number_again major n rest below)

pub takes_strings : TakesStrings
takes_strings string bytes rest fits =
    (λ e. (string_short bytes (string, rest) fits e, (string_takes bytes (string, rest) fits e).0.parts), λ (below, e). ap string_at e ∙ string_again string rest below)

pub takes_texts : TakesTexts
takes_texts text bytes rest fits =
    (λ e. let t = text_takes bytes (text, rest) fits e in (t.1, t.0.parts), λ (is, e). ap text_from_front e ∙ text_again text rest is)

pub takes_links : TakesLinks
takes_links link bytes rest fits =
    (λ e. let t = link_takes bytes (link, rest) fits e in (t.1, t.0.parts), λ (is, e). ap link_from_front e ∙ link_again link rest is.link)

pub takes_children : TakesChildren
takes_children link bytes rest fits =
    (λ e. let t = child_takes bytes (link, rest) fits e in (t.1, t.0.parts), λ (is, e). ap child_at e ∙ child_again link rest is)

pub takes_items : TakesItems
takes_items i bytes rest fits =
    (λ e. let t = item_taken bytes (i, rest) fits e in (t.1, t.0.parts), λ (is, e). ap item_from_front e ∙ item_taken_again i rest is)

pub takes_wholes : TakesWholes
takes_wholes i bytes fits = (λ e. whole_takes i bytes fits e, λ (is, e). ap whole_item e ∙ whole_again i is)

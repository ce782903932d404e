-- What is read of a row's parts stands in front of the bytes, encoded.
use Rattle.std.proofs.Common.{◌≡◌, ℕ, suc, ◌+◌, ◌*◌, ◌<◌, inl, inr, Bool, true, false, ◌&&◌, List, [], ◌∷◌, ◌++◌, length, Option, Some, None, refl, sym, ap, ◌∙◌, subst, arith, ltb, eqb, append_assoc}
use Rattle.std.proofs.lemmas.Bool.{ltb-true, eqb-true, and_parts}
use Rattle.at_cid.specs.Link.{IsBytes}
use Rattle.at_cbor.specs.declared.major.Major.{Major}
use Rattle.at_cbor.specs.Item.{Item, items_of}
use Rattle.at_cbor.specs.Encoding.{front_of, encoding, items_encoding}
use Rattle.at_cbor.proofs.Steps.{Takes, Takes-then, chosen}
use Rattle.at_cbor.proofs.Fronts.{form_0}
use Rattle.at_event.specs.Writing.{number_item as number}
use Rattle.at_event.specs.Refusals.{code_of, found_in, plain_refusal, plain_refusals}
use Rattle.at_event.specs.declared.refusal.Refusal.{Refusal}
use Rattle.relay_row.specs.declared.fetched.Fetched.{Fetched}
use Rattle.relay_row.specs.declared.taken.Effect.{Effect}
use Rattle.relay_row.specs.declared.carried.CarriedRepo.{CarriedRepo}
use Rattle.std.specs.Prelude.{option_map}
use Rattle.row_codec.specs.Items.{rev_text, list, or_null, if_there, head_items, whole_items, code, detail_items, effect_item, fetched_item, repo_item}
use Rattle.row_codec.specs.Readers.{Reading, behind, give, given, count_at, or_null_at}
use Rattle.row_codec.specs.Reading.{head_at, whole_items_at, whole_at, plain, one_detail, two_details, details, detail_at, account_effect, effect_of, effect_at, number_or_whole, fetched_at, repo_of, repo_at, moment_at}
use Rattle.row_codec.proofs.Steps.{some_is, found, pair_parts, Sound, step, none_taken, given_some}
use Rattle.row_codec.proofs.Atoms.{number_sound, place_sound, bytes_sound, bool_sound, link_sound, rev_sound, null_or_rev_sound, null_or_text_sound}
use Rattle.row_codec.proofs.Counts.{count_sound, items_count_is, chosen_at, passed_at}

-- items one behind the other
abbrev pub encode : List Item → List ℕ
encode is = items_encoding (items_of is)

pub encode_append : (is js : List Item) → encode is ++ encode js ≡ encode (is ++ js)
encode_append [] js = refl
encode_append (i ∷ is) js = append_assoc (encoding i) (encode is) (encode js) ∙ ap (λ (t : List ℕ). encoding i ++ t) (encode_append is js)

-- more behind what was taken; and nothing more
pub and : {a x b y c : List ℕ} → Takes a x b → Takes b y c → Takes a (x ++ y) c
and {a} {x} {b} {y} {c} p q = Takes-then a x b y c p q

pub last : {a x b : List ℕ} → Takes a x b → Takes a (x ++ []) b
last {a} {x} {b} p = Takes-then a x b [] b p (none_taken b p.rest_fits)

-- the reader gives what was put together
pub finish : {A : Type 0} (P : A → List ℕ → Type 0) (y : A) (mid : List ℕ) (x : A) (rest : List ℕ) → found y mid ≡ found x rest → P y mid → P x rest
finish P y mid x rest e h =
    let same = pair_parts y x mid rest e in
    subst (λ left. P x left) same.1 (subst (λ z. P z mid) same.0 h)

pub head_sound : Sound (λ h. encode (head_items h)) head_at
unfolding head_at
head_sound bytes h rest ok e =
    let p = step rev_sound bytes (h, rest) ok e in
    let q = step link_sound p.left (h, rest) p.takes.rest_fits p.next in
    let r = step link_sound q.left (h, rest) q.takes.rest_fits q.next in
    finish (λ x left. Takes bytes (encode (head_items x)) left) _ _ h rest r.next (and p.takes (and q.takes (last r.takes)))

whole_items_sound : Sound (λ w. encode (whole_items w)) whole_items_at
unfolding whole_items_at
whole_items_sound bytes w rest ok e =
    let p = step number_sound bytes (w, rest) ok e in
    let q = step head_sound p.left (w, rest) p.takes.rest_fits p.next in
    let r = step number_sound q.left (w, rest) q.takes.rest_fits q.next in
    let s = step bytes_sound r.left (w, rest) r.takes.rest_fits r.next in
    let tail : Takes p.left (encode (head_items q.found ++ (number r.found ∷ Item.bytes s.found ∷ []))) s.left =
    subst (λ (t : List ℕ). Takes p.left t s.left) (encode_append (head_items q.found) (number r.found ∷ Item.bytes s.found ∷ [])) (and q.takes (and r.takes (last s.takes))) in
    finish (λ x left. Takes bytes (encode (whole_items x)) left) _ _ w rest s.next (and p.takes tail)

-- a list's front, and its items
pub list_taken : (bytes : List ℕ) (n : ℕ) (mid : List ℕ) (is : List Item) (rest : List ℕ) → Takes bytes (front_of Major.List n) mid → n ≡ length is → Takes mid (encode is) rest → Takes bytes (encoding (list is)) rest
list_taken bytes n mid is rest p len q =
    subst (λ (m : ℕ). Takes bytes (front_of Major.List m ++ encode is) rest) (len ∙ sym (items_count_is is)) (and p q)

pub whole_sound : Sound (λ w. encoding (list (whole_items w))) whole_at
unfolding whole_at
whole_sound bytes w rest ok e =
    let p = step count_sound bytes (w, rest) ok e in
    let g = passed_at (eqb p.found 6) whole_items_at p.left (w, rest) p.next in
    list_taken bytes p.found p.left (whole_items w) rest p.takes (eqb-true p.found 6 g.0) (whole_items_sound p.left w rest p.takes.rest_fits g.1)

-- ---- details

is_bare : List Item → Bool
is_bare [] = true
is_bare (i ∷ is) = false

are_bare : List Refusal → Bool
are_bare [] = true
are_bare (r ∷ rs) = is_bare (detail_items (Some r)) && are_bare rs

bare_is : (is : List Item) → is_bare is ≡ true → is ≡ []
unfolding is_bare
bare_is [] h = refl
bare_is (i ∷ is) h = absurd cc

all_bare : are_bare plain_refusals ≡ true
unfolding are_bare is_bare
all_bare = refl

-- nothing stands beside the number
abbrev IsBare : ℕ → Option Refusal → Type 0
IsBare n r = (detail_items r ≡ []) × (n ≡ code r)

found_bare : (n : ℕ) (rs : List Refusal) (r : Refusal) → are_bare rs ≡ true → found_in n rs ≡ Some r → IsBare n (Some r)
unfolding are_bare
found_bare n [] r all e = absurd cc
found_bare n (q ∷ rs) r all e =
    let both = and_parts (is_bare (detail_items (Some q))) (are_bare rs) all in
    elim (chosen (eqb n (code_of q)) (Some q) (found_in n rs) (Some r) e) [
      | inl h ↦ subst (λ (x : Refusal). IsBare n (Some x)) (some_is q r h.1) (bare_is (detail_items (Some q)) both.0, eqb-true n (code_of q) h.0)
      | inr h ↦ found_bare n rs r both.1 h.1
    ]

some_bare : (n : ℕ) (o : Option Refusal) (r : Option Refusal) → found_in n plain_refusals ≡ o → option_map Some o ≡ Some r → IsBare n r
some_bare n None r is e = absurd cc
some_bare n (Some q) r is e = subst (IsBare n) (some_is (Some q) r e) (found_bare n plain_refusals q all_bare is)

plain_bare : (n : ℕ) (r : Option Refusal) → plain n ≡ Some r → IsBare n r
unfolding plain plain_refusal
plain_bare n r e =
    elim (chosen (eqb n 0) (Some None) (option_map Some (found_in n plain_refusals)) (Some r) e) [
      | inl h ↦ subst (IsBare n) (some_is None r h.1) (refl, eqb-true n 0 h.0)
      | inr h ↦ some_bare n (found_in n plain_refusals) r refl h.1
    ]

-- the detail of a refusal with this number was taken
abbrev pub DetailTaken : ℕ → ℕ → List ℕ → Option Refusal → List ℕ → Type 0
DetailTaken n count bytes r rest = Takes bytes (encode (detail_items r)) rest × (n ≡ code r) × (count ≡ length (detail_items r))

no_detail : (n : ℕ) (bytes : List ℕ) (r : Option Refusal) (rest : List ℕ) → IsBytes bytes → given (plain n) bytes ≡ Some (r, rest) → DetailTaken n 0 bytes r rest
no_detail n bytes r rest ok e =
    let g = given_some (plain n) bytes r rest e in
    let f = plain_bare n r g.0 in
    rw f.0 (subst (λ (left : List ℕ). Takes bytes [] left) g.1 (none_taken bytes ok), f.1, refl)

one_sound : (n : ℕ) (bytes : List ℕ) (r : Option Refusal) (rest : List ℕ) → IsBytes bytes → one_detail n bytes ≡ Some (r, rest) → DetailTaken n 1 bytes r rest
unfolding one_detail
one_sound n bytes r rest ok e =
    elim (chosen_at (eqb n 20) _ _ bytes (r, rest) e) [
      | inl h ↦
          let p = step link_sound bytes (r, rest) ok h.1 in
          finish (DetailTaken n 1 bytes) _ _ r rest p.next (last p.takes, eqb-true n 20 h.0, refl)
      | inr h ↦
          elim (chosen_at (eqb n 21) _ _ bytes (r, rest) h.1) [
            | inl g ↦
                let p = step place_sound bytes (r, rest) ok g.1 in
                finish (DetailTaken n 1 bytes) _ _ r rest p.next (last p.takes, eqb-true n 21 g.0, refl)
            | inr g ↦
                let k = passed_at (eqb n 22) _ bytes (r, rest) g.1 in
                let p = step place_sound bytes (r, rest) ok k.1 in
                finish (DetailTaken n 1 bytes) _ _ r rest p.next (last p.takes, eqb-true n 22 k.0, refl)
          ]
    ]

two_sound : (n : ℕ) (bytes : List ℕ) (r : Option Refusal) (rest : List ℕ) → IsBytes bytes → two_details n bytes ≡ Some (r, rest) → DetailTaken n 2 bytes r rest
unfolding two_details
two_sound n bytes r rest ok e =
    let k = passed_at (eqb n 23) _ bytes (r, rest) e in
    let p = step link_sound bytes (r, rest) ok k.1 in
    let q = step link_sound p.left (r, rest) p.takes.rest_fits p.next in
    finish (DetailTaken n 2 bytes) _ _ r rest q.next (and p.takes (last q.takes), eqb-true n 23 k.0, refl)

with_count : (n m count : ℕ) (bytes : List ℕ) (r : Option Refusal) (rest : List ℕ) → m ≡ count → DetailTaken n count bytes r rest → DetailTaken n m bytes r rest
with_count n m count bytes r rest is d = rw is d

details_sound : (n count : ℕ) (bytes : List ℕ) (r : Option Refusal) (rest : List ℕ) → IsBytes bytes → details n count bytes ≡ Some (r, rest) → DetailTaken n count bytes r rest
details_sound n count bytes r rest ok e =
    elim (chosen_at (eqb count 0) (given (plain n)) _ bytes (r, rest) e) [
      | inl h ↦ with_count n count 0 bytes r rest (eqb-true count 0 h.0) (no_detail n bytes r rest ok h.1)
      | inr h ↦
          elim (chosen_at (eqb count 1) (one_detail n) _ bytes (r, rest) h.1) [
            | inl g ↦ with_count n count 1 bytes r rest (eqb-true count 1 g.0) (one_sound n bytes r rest ok g.1)
            | inr g ↦
                let k = passed_at (eqb count 2) (two_details n) bytes (r, rest) g.1 in
                with_count n count 2 bytes r rest (eqb-true count 2 k.0) (two_sound n bytes r rest ok k.1)
          ]
    ]

pub detail_sound : (n : ℕ) (bytes : List ℕ) (r : Option Refusal) (rest : List ℕ) → IsBytes bytes → detail_at n bytes ≡ Some (r, rest) → Takes bytes (encoding (list (detail_items r))) rest × (n ≡ code r)
unfolding detail_at
detail_sound n bytes r rest ok e =
    let p = step count_sound bytes (r, rest) ok e in
    let d = details_sound n p.found p.left r rest p.takes.rest_fits p.next in
    (list_taken bytes p.found p.left (detail_items r) rest p.takes d.2 d.0, d.1)

-- ---- null, or something else

null_taken : (b : ℕ) (bytes : List ℕ) → IsBytes (b ∷ bytes) → b ≡ 246 → Takes (b ∷ bytes) (246 ∷ []) bytes
null_taken b bytes ok is = record { parts = rw is refl; rest_fits = λ i. ok (suc i) }

pub or_null_sound : {A : Type 0} (s : A → List ℕ) (x : A) (r : Reading A) → s x ≡ 246 ∷ [] → Sound s r → Sound s (or_null_at x r)
or_null_sound s x r is sound [] y rest ok e = absurd cc
or_null_sound s x r is sound (b ∷ bytes) y rest ok e =
    elim (chosen (eqb b 246) (Some (x, bytes)) (r (b ∷ bytes)) (Some (y, rest)) e) [
      | inl h ↦ finish (λ z left. Takes (b ∷ bytes) (s z) left) x bytes y rest h.1 (rw is (null_taken b bytes ok (eqb-true b 246 h.0)))
      | inr h ↦ sound (b ∷ bytes) y rest ok h.1
    ]

account_effect_sound : Sound (λ x. encoding (effect_item x)) (λ bytes. behind (count_at bytes) effect_of)
unfolding account_effect
account_effect_sound bytes x rest ok e =
    let p = step count_sound bytes (x, rest) ok e in
    elim (chosen_at (eqb p.found 3) _ _ p.left (x, rest) p.next) [
      | inl h ↦
          let q = step head_sound p.left (x, rest) p.takes.rest_fits h.1 in
          finish (λ y left. Takes bytes (encoding (effect_item y)) left) _ _ x rest q.next (list_taken bytes p.found p.left (head_items q.found) q.left p.takes (eqb-true p.found 3 h.0) q.takes)
      | inr h ↦
          let k = passed_at (eqb p.found 2) account_effect p.left (x, rest) h.1 in
          let q = step bool_sound p.left (x, rest) p.takes.rest_fits k.1 in
          let r = step null_or_text_sound q.left (x, rest) q.takes.rest_fits q.next in
          finish (λ y left. Takes bytes (encoding (effect_item y)) left) _ _ x rest r.next
          (list_taken bytes p.found p.left (Item.bool q.found ∷ or_null Item.text r.found ∷ []) r.left p.takes (eqb-true p.found 2 k.0) (and q.takes (last r.takes)))
    ]

pub effect_sound : Sound (λ x. encoding (effect_item x)) effect_at
unfolding effect_at
effect_sound = or_null_sound (λ x. encoding (effect_item x)) Effect.Nothing _ refl account_effect_sound

small_taken : (b : ℕ) (bytes : List ℕ) → IsBytes (b ∷ bytes) → b < 24 → Takes (b ∷ bytes) (encoding (number b)) bytes
small_taken b bytes ok lt =
    let form = form_0 b lt in
    let same : b ≡ 32 * 0 + b = omega arith in
    record { parts = rw (form.0, form.1) (ap (λ (c : ℕ). c ∷ bytes) same); rest_fits = λ i. ok (suc i) }

number_or_whole_sound : Sound (λ x. encoding (fetched_item x)) number_or_whole
number_or_whole_sound [] x rest ok e = absurd cc
number_or_whole_sound (b ∷ bytes) x rest ok e =
    elim (chosen (eqb b 0) (Some (Fetched.Absent, bytes)) _ (Some (x, rest)) e) [
      | inl h ↦ finish (λ y left. Takes (b ∷ bytes) (encoding (fetched_item y)) left) Fetched.Absent bytes x rest h.1
          (subst (λ (n : ℕ). Takes (b ∷ bytes) (encoding (number n)) bytes) (eqb-true b 0 h.0) (small_taken b bytes ok (omega (arith, eqb-true b 0 h.0))))
      | inr h ↦
          elim (chosen (ltb b 24) (Some (Fetched.Refused b, bytes)) _ (Some (x, rest)) h.1) [
            | inl g ↦ finish (λ y left. Takes (b ∷ bytes) (encoding (fetched_item y)) left) (Fetched.Refused b) bytes x rest g.1 (small_taken b bytes ok (ltb-true b 24 g.0))
            | inr g ↦
                let p = step whole_sound (b ∷ bytes) (x, rest) ok g.1 in
                finish (λ y left. Takes (b ∷ bytes) (encoding (fetched_item y)) left) _ _ x rest p.next p.takes
          ]
    ]

pub fetched_sound : Sound (λ x. encoding (fetched_item x)) fetched_at
unfolding fetched_at
fetched_sound = or_null_sound (λ x. encoding (fetched_item x)) Fetched.NotAsked number_or_whole refl number_or_whole_sound

repo_items_sound : Sound (λ x. encoding (repo_item x)) (λ bytes. behind (count_at bytes) repo_of)
repo_items_sound bytes x rest ok e =
    let p = step count_sound bytes (x, rest) ok e in
    elim (chosen_at (eqb p.found 3) _ _ p.left (x, rest) p.next) [
      | inl h ↦
          let q = step head_sound p.left (x, rest) p.takes.rest_fits h.1 in
          finish (λ y left. Takes bytes (encoding (repo_item y)) left) _ _ x rest q.next (list_taken bytes p.found p.left (head_items q.found) q.left p.takes (eqb-true p.found 3 h.0) q.takes)
      | inr h ↦
          let k = passed_at (eqb p.found 1) _ p.left (x, rest) h.1 in
          let q = step null_or_rev_sound p.left (x, rest) p.takes.rest_fits k.1 in
          finish (λ y left. Takes bytes (encoding (repo_item y)) left) _ _ x rest q.next
          (list_taken bytes p.found p.left (or_null rev_text q.found ∷ []) q.left p.takes (eqb-true p.found 1 k.0) (last q.takes))
    ]

pub repo_sound : Sound (λ x. encoding (repo_item x)) repo_at
unfolding repo_at
repo_sound = or_null_sound (λ x. encoding (repo_item x)) CarriedRepo.Missing _ refl repo_items_sound

pub moment_sound : (others count : ℕ) (bytes : List ℕ) (m : Option ℕ) (rest : List ℕ) → IsBytes bytes → moment_at others count bytes ≡ Some (m, rest) → Takes bytes (encode (if_there number m)) rest × (count ≡ others + length (if_there number m))
unfolding moment_at
moment_sound others count bytes m rest ok e =
    elim (chosen_at (eqb count others) (give None) _ bytes (m, rest) e) [
      | inl h ↦ finish (λ x left. Takes bytes (encode (if_there number x)) left × (count ≡ others + length (if_there number x))) None bytes m rest h.1 (none_taken bytes ok, omega (arith, eqb-true count others h.0))
      | inr h ↦
          let k = passed_at (eqb count (others + 1)) _ bytes (m, rest) h.1 in
          let p = step number_sound bytes (m, rest) ok k.1 in
          finish (λ x left. Takes bytes (encode (if_there number x)) left × (count ≡ others + length (if_there number x))) _ _ m rest p.next (last p.takes, eqb-true count (others + 1) k.0)
    ]

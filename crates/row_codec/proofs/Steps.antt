-- Steps of a reader that found something, and what a reader takes from the front.
use Rattle.std.proofs.Common.{◌≡◌, ℕ, List, [], ◌++◌, Option, Some, None, refl, ap, subst}
use Rattle.at_cid.specs.Link.{IsBytes}
use Rattle.at_cbor.specs.Item.{Item}
use Rattle.at_cbor.specs.Encoding.{encoding, Fits}
use Rattle.at_cbor.proofs.Steps.{Takes}
use Rattle.at_cbor.proofs.Taken.{item_taken, item_taken_again}
use Rattle.row_codec.specs.Readers.{Reading, behind, given, item_at, formed}

pub some_is : {A : Type 0} (x y : A) → Some x ≡ Some y → x ≡ y
some_is x y e = cc

-- what a reader finds, and what it leaves
abbrev pub found : {A : Type 0} → A → List ℕ → Option (A × List ℕ)
found x rest = Some (x, rest)

pub pair_parts : {A : Type 0} (x y : A) (b c : List ℕ) → found x b ≡ found y c → (x ≡ y) × (b ≡ c)
pair_parts {A} x y b c e =
    let h : ◌≡◌ {A = A × List ℕ} (x, b) (y, c) = some_is (x, b) (y, c) e in
    (ap (λ (z : A × List ℕ). z.0) h, ap (λ (z : A × List ℕ). z.1) h)

-- ---- what is read is what stands in front

-- What the reader finds is encoded at the front.
abbrev pub Sound : {A : Type 0} → (A → List ℕ) → Reading A → Type 0
Sound s r = (bytes : List ℕ) (x : _) (rest : List ℕ) → IsBytes bytes → r bytes ≡ Some (x, rest) → Takes bytes (s x) rest

-- the first of two steps
pub record Step {A B : Type 0} (s : A → List ℕ) (f : A → Reading B) (bytes : List ℕ) (y : B × List ℕ) : Type 0 where
  pub found : A
  pub left : List ℕ
  pub takes : Takes bytes (s found) left
  pub next : f found left ≡ Some y

pub behind_some : {A B : Type 0} (o : Option (A × List ℕ)) (f : A → Reading B) (y : B × List ℕ) → behind o f ≡ Some y → (x : A × List ℕ) × (o ≡ Some x) × (f x.0 x.1 ≡ Some y)
behind_some (Some x) f y e = (x, refl, e)
behind_some None f y e = absurd cc

pub step : {A B : Type 0} {s : A → List ℕ} {r : Reading A} → Sound s r → {f : A → Reading B} (bytes : List ℕ) (y : B × List ℕ) → IsBytes bytes → behind (r bytes) f ≡ Some y → Step s f bytes y
step {A} {B} {s} {r} sound {f} bytes y ok e =
    let h = behind_some (r bytes) f y e in
    record { found = h.0.0; left = h.0.1; takes = sound bytes h.0.0 h.0.1 ok h.1; next = h.2 }

-- The same, handed on: in long chains, where a `let` would be written out again and again.
pub along : {A B : Type 0} {C : Type 0} {s : A → List ℕ} {r : Reading A} → Sound s r → (f : A → Reading B) (bytes : List ℕ) (y : B × List ℕ) → IsBytes bytes → behind (r bytes) f ≡ Some y
    → ((x : A) (left : List ℕ) → Takes bytes (s x) left → f x left ≡ Some y → C) → C
along {A} {B} {C} {s} {r} sound f bytes y ok e on =
    let h = behind_some (r bytes) f y e in
    on h.0.0 h.0.1 (sound bytes h.0.0 h.0.1 ok h.1) h.2

-- a reader that tells something besides
pub along_with : {A B : Type 0} {C : Type 0} {s : A → List ℕ} {Q : A → Type 0} {r : Reading A} → ((bytes : List ℕ) (x : A) (rest : List ℕ) → IsBytes bytes → r bytes ≡ Some (x, rest) → Takes bytes (s x) rest × Q x)
    → (f : A → Reading B) (bytes : List ℕ) (y : B × List ℕ) → IsBytes bytes → behind (r bytes) f ≡ Some y
    → ((x : A) (left : List ℕ) → Takes bytes (s x) left → Q x → f x left ≡ Some y → C) → C
along_with {A} {B} {C} {s} {Q} {r} sound f bytes y ok e on =
    let h = behind_some (r bytes) f y e in
    let p = sound bytes h.0.0 h.0.1 ok h.1 in
    on h.0.0 h.0.1 p.0 p.1 h.2

-- nothing was taken
pub none_taken : (bytes : List ℕ) → IsBytes bytes → Takes bytes [] bytes
none_taken bytes ok = record { parts = refl; rest_fits = ok }

pub given_some : {A : Type 0} (o : Option A) (bytes : List ℕ) (x : A) (rest : List ℕ) → given o bytes ≡ Some (x, rest) → (o ≡ Some x) × (bytes ≡ rest)
given_some (Some x) bytes y rest e =
    let h = pair_parts x y bytes rest e in
    (ap Some h.0, h.1)
given_some None bytes y rest e = absurd cc

pub item_sound : Sound encoding item_at
unfolding item_at
item_sound bytes i rest ok e = (item_taken bytes (i, rest) ok e).0

-- a form tells the item
abbrev pub Tells : {A : Type 0} → (A → Item) → (Item → Option A) → Type 0
Tells s form = (i : Item) (x : _) → form i ≡ Some x → i ≡ s x

pub formed_sound : {A : Type 0} (s : A → Item) (form : Item → Option A) → Tells s form → Sound (λ x. encoding (s x)) (formed form)
formed_sound s form tells bytes x rest ok e =
    let p = step item_sound {f = λ i. given (form i)} bytes (x, rest) ok e in
    let g = given_some (form p.found) p.left x rest p.next in
    let is : p.found ≡ s x = tells p.found x g.0 in
    subst (λ (left : List ℕ). Takes bytes (encoding (s x)) left) g.1 (subst (λ (i : Item). Takes bytes (encoding i) p.left) is p.takes)

-- ---- what is encoded is read

abbrev pub Complete : {A : Type 0} → (A → List ℕ) → (A → Type 0) → Reading A → Type 0
Complete s P r = (x : _) (rest : List ℕ) → P x → r (s x ++ rest) ≡ Some (x, rest)

pub go : {A B : Type 0} (o : Option (A × List ℕ)) (f : A → Reading B) (x : A) (rest : List ℕ) (answer : Option (B × List ℕ)) → o ≡ Some (x, rest) → f x rest ≡ answer → behind o f ≡ answer
go o f x rest answer e h = rw e h

pub item_again : Complete encoding (λ i. Fits i 64) item_at
unfolding item_at
item_again i rest fits = item_taken_again i rest fits

pub formed_again : {A : Type 0} (s : A → Item) (form : Item → Option A) (x : A) (rest : List ℕ) → Fits (s x) 64 → form (s x) ≡ Some x → formed form (encoding (s x) ++ rest) ≡ Some (x, rest)
formed_again s form x rest fits is = go _ _ (s x) rest _ (item_again (s x) rest fits) (rw is refl)

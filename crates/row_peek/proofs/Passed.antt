-- Behind what is encoded of items stands what stands there.
use Rattle.std.proofs.Common.{◌≡◌, ℕ, ◌+◌, ◌*◌, ◌/◌, ◌%◌, ◌^◌, ◌<◌, pos, negsuc, true, false, eqb, ltb, List, [], ◌∷◌, ◌++◌, length, Option, Some, refl, ap, ◌∙◌, arith, append_assoc, lit<}
use Rattle.std.proofs.lemmas.Bool.{le-ltb}
use Rattle.std.proofs.lemmas.List.{drop_at, length-append}
use Rattle.at_cbor.specs.declared.major.Major.{Major}
use Rattle.at_cbor.specs.Item.{Item}
use Rattle.at_cbor.specs.Heads.{argument_at}
use Rattle.at_cbor.specs.Majors.{major_number}
use Rattle.at_cbor.specs.Encoding.{info_of, tail_of, front_of, link_encoding, encoding}
use Rattle.at_cbor.proofs.Fronts.{argument_again}
use Rattle.row_codec.proofs.Again.{then_encode}
use Rattle.row_peek.specs.Passing.{past, content_behind, behind_head, scalar_behind, scalars_behind, item_content_behind, item_behind, items_behind}

pub past_all : (text rest : List ℕ) → past (length text) (text ++ rest) ≡ Some rest
past_all text rest =
    let long : ltb (length (text ++ rest)) (length text) ≡ false = le-ltb _ _ (omega (arith, length-append text rest)) in
    rw (long, drop_at text rest (length text) refl) refl

-- what a head is passed by, and what it announces
pub head_passed : (content : ℕ → ℕ → List ℕ → Option (List ℕ)) (major : Major) (n : ℕ) (rest : List ℕ) → n < 2 ^ 64 → behind_head content (front_of major n ++ rest) ≡ content (major_number major) n rest
head_passed content major n rest below =
    let reads = argument_again n rest below in
    let low : (32 * major_number major + info_of n) % 32 ≡ info_of n = omega (arith, reads.info_below) in
    let high : (32 * major_number major + info_of n) / 32 ≡ major_number major = omega (arith, reads.info_below) in
    rw (low, high, reads.found) refl

-- an item that is no list, nor a map
abbrev pub IsScalar : Item → Type 0
IsScalar (Item.int (pos n)) = n < 2 ^ 64
IsScalar (Item.int (negsuc n)) = n < 2 ^ 64
IsScalar (Item.bytes t) = length t < 2 ^ 64
IsScalar (Item.text t) = length t < 2 ^ 64
IsScalar (Item.list is) = ⊥
IsScalar (Item.map fs) = ⊥
IsScalar (Item.link c) = length c ≡ 36
IsScalar (Item.bool b) = Unit {0}
IsScalar Item.null = Unit {0}

-- the content of no list
record Alike (content : ℕ → ℕ → List ℕ → Option (List ℕ)) : Type 0 where
  alike : (major n : ℕ) (bytes : List ℕ) → eqb major 4 ≡ false → content major n bytes ≡ content_behind major n bytes

string_passed : (content : ℕ → ℕ → List ℕ → Option (List ℕ)) (major : Major) (text rest : List ℕ) → length text < 2 ^ 64 → content (major_number major) (length text) (text ++ rest) ≡ past (length text) (text ++ rest)
    → behind_head content ((front_of major (length text) ++ text) ++ rest) ≡ Some rest
string_passed content major text rest below is =
    ap (behind_head content) (append_assoc (front_of major (length text)) text rest) ∙ head_passed content major (length text) (text ++ rest) below ∙ is ∙ past_all text rest

link_passed : (content : ℕ → ℕ → List ℕ → Option (List ℕ)) (c rest : List ℕ) → length c ≡ 36 → content 6 42 (0x58 ∷ 0x25 ∷ 0x00 ∷ (c ++ rest)) ≡ past 39 (0x58 ∷ 0x25 ∷ 0x00 ∷ (c ++ rest)) → behind_head content (link_encoding c ++ rest) ≡ Some rest
unfolding info_of tail_of
link_passed content c rest len is =
    let long : ltb (length (0x58 ∷ 0x25 ∷ 0x00 ∷ (c ++ rest))) 39 ≡ false = le-ltb _ _ (omega (arith, length-append c rest)) in
    let all : past 39 (0x58 ∷ 0x25 ∷ 0x00 ∷ (c ++ rest)) ≡ Some rest = rw (long, drop_at c rest 36 len) refl in
    head_passed content Major.Tag 42 (0x58 ∷ 0x25 ∷ 0x00 ∷ (c ++ rest)) (lit< tt) ∙ is ∙ all

scalar_passed : (content : ℕ → ℕ → List ℕ → Option (List ℕ)) (i : Item) (rest : List ℕ) → Alike content → IsScalar i → behind_head content (encoding i ++ rest) ≡ Some rest
unfolding argument_at
scalar_passed content (Item.int (pos n)) rest like is = head_passed content Major.Unsigned n rest is ∙ like.alike 0 n rest refl
scalar_passed content (Item.int (negsuc n)) rest like is = head_passed content Major.Negative n rest is ∙ like.alike 1 n rest refl
scalar_passed content (Item.bytes t) rest like is = string_passed content Major.Bytes t rest is (like.alike 2 (length t) (t ++ rest) refl)
scalar_passed content (Item.text t) rest like is = string_passed content Major.Text t rest is (like.alike 3 (length t) (t ++ rest) refl)
scalar_passed content (Item.list is) rest like not = absurd not
scalar_passed content (Item.map fs) rest like not = absurd not
scalar_passed content (Item.link c) rest like is = link_passed content c rest is (like.alike 6 42 _ refl)
scalar_passed content (Item.bool false) rest like is = like.alike 7 20 rest refl
scalar_passed content (Item.bool true) rest like is = like.alike 7 21 rest refl
scalar_passed content Item.null rest like is = like.alike 7 22 rest refl

-- ---- many of them

abbrev pub AreScalars : List Item → Type 0
AreScalars [] = Unit {0}
AreScalars (i ∷ is) = IsScalar i × AreScalars is

no_list : Alike content_behind
no_list = record { alike = λ major n bytes other. refl }

but_lists : Alike item_content_behind
but_lists = record { alike = λ major n bytes other. rw other refl }

pub one_scalar_passed : (i : Item) (rest : List ℕ) → IsScalar i → scalar_behind (encoding i ++ rest) ≡ Some rest
unfolding scalar_behind
one_scalar_passed i rest is = scalar_passed content_behind i rest no_list is

pub scalars_passed : (is : List Item) (rest : List ℕ) → AreScalars is → scalars_behind (length is) (then_encode is rest) ≡ Some rest
unfolding scalars_behind
scalars_passed [] rest all = refl
scalars_passed (i ∷ is) rest all = rw (one_scalar_passed i (then_encode is rest) all.0) (scalars_passed is rest all.1)

-- ---- items of rows

-- it is passed wherever it stands
abbrev pub Passes : Item → Type 0
Passes i = (rest : List ℕ) → item_behind (encoding i ++ rest) ≡ Some rest

abbrev pub AllPass : List Item → Type 0
AllPass [] = Unit {0}
AllPass (i ∷ is) = Passes i × AllPass is

pub scalar_passes : (i : Item) → IsScalar i → Passes i
unfolding item_behind
scalar_passes i is rest = scalar_passed item_content_behind i rest but_lists is

pub items_passed : (is : List Item) (rest : List ℕ) → AllPass is → items_behind (length is) (then_encode is rest) ≡ Some rest
unfolding items_behind
items_passed [] rest all = refl
items_passed (i ∷ is) rest all = rw (all.0 (then_encode is rest)) (items_passed is rest all.1)

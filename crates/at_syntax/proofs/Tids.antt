-- The digits of a TID stand for its value, in order, and for no other.
use Rattle.std.proofs.Common.{◌≡◌, ℕ, zero, suc, ◌+◌, ◌-◌, ◌*◌, ◌/◌, ◌%◌, ◌^◌, ◌<◌, ◌≤◌, true, false, ◌&&◌, eqb, List, [], ◌∷◌, length, drop, map, get_or, Some, refl, sym, ap, ◌∙◌, subst, arith, drop-cons, nat_cmp, Less, Equal, Greater, ⊎_elim}
use Rattle.std.specs.Ordering.{ordering_then}
use Rattle.std.specs.List.{list_all}
use Rattle.std.specs.Cmp.Lexicographic.{slice_cmp}
use Rattle.std.specs.Int.Digits.{number_from_digits_after, AllBelowBase}
use Rattle.std.specs.FinMap.{slice_cmp-IsAntisymmetric, nat_cmp-IsAntisymmetric}
use Rattle.std.proofs.lemmas.Bool.{and_parts, and_from, eqb-true, eq-eqb, false≢true, cases_order, true_from_ne_false}
use Rattle.std.proofs.lemmas.List.Folds.{list_all_at}
use Rattle.std.proofs.lemmas.Bool.Decides.{nat_tests}
use Rattle.std.proofs.lemmas.Int.Digits.{number_after_lt, number_after_ge}
use Rattle.std.proofs.Math.Nat.{pow-suc, div-div-eq-div-mul, div-one, mul-le-mul_right}
use Rattle.std.proofs.lemmas.Nat.{pow-add}
use Rattle.at_syntax.specs.Tid.{IsTid, is_tid, is_tid_character, is_first_character, character_of, digit_of, tid_value, character_at, digits_of, tid_of}
use Rattle.at_syntax.specs.Laws.{WrittenTidsAreRead, TextsAreTids, TidsOrderAsTexts}

digit_of-character_of : (digit : ℕ) → digit < 32 → digit_of (character_of digit) ≡ digit
digit_of-character_of digit h = grind (arith, nat_tests)

character_known : (digit : ℕ) → digit < 32 → is_tid_character (character_of digit) ≡ true
character_known digit h = grind (arith, nat_tests)

first_known : (digit : ℕ) → digit < 16 → is_first_character (character_of digit) ≡ true
first_known digit h = grind (arith, nat_tests)

digit_below : (c : ℕ) → is_tid_character c ≡ true → digit_of c < 32
digit_below c h = grind (arith, nat_tests)

first_below : (c : ℕ) → is_first_character c ≡ true → digit_of c < 16
first_below c h = grind (arith, nat_tests)

digit_ascends : (a b : ℕ) → is_tid_character a ≡ true → is_tid_character b ≡ true → a < b → digit_of a < digit_of b
digit_ascends a b p q h = grind (arith, nat_tests)

fives : (k : ℕ) → 2 ^ (5 * k) ≡ 32 ^ k
fives zero = refl
fives (suc k) =
    let more : 5 * suc k ≡ 5 * k + 5 = omega arith in
    ap (λ (n : ℕ). 2 ^ n) more ∙ pow-add 2 (5 * k) 5 ∙ ap (λ (n : ℕ). n * 32) (fives k) ∙ sym (pow-suc 32 k)

-- five bits of a number, as its digit in base 32
pub digit_at : (value place : ℕ) → place < 13 → value / 2 ^ (60 - 5 * place) ≡ value / 32 ^ (12 - place)
digit_at value place h =
    let bits : 60 - 5 * place ≡ 5 * (12 - place) = omega arith in
    ap (λ (n : ℕ). value / n) (ap (λ (n : ℕ). 2 ^ n) bits ∙ fives (12 - place))

-- a number of characters that all are of a TID

digits_below : (text : List ℕ) → list_all is_tid_character text ≡ true → AllBelowBase 32 (map digit_of text)
digits_below [] h = tt
digits_below (c ∷ text) h =
    let both = and_parts (is_tid_character c) (list_all is_tid_character text) h in
    (digit_below c both.0, digits_below text both.1)

length-digits : (text : List ℕ) → length (map digit_of text) ≡ length text
length-digits [] = refl
length-digits (c ∷ text) = ap suc (length-digits text)

number_above : (n : ℕ) (digits : List ℕ) → n * 32 ^ length digits ≤ number_from_digits_after 32 n digits
number_above n [] = omega arith
number_above n (d ∷ digits) =
    let more : n * 32 ^ suc (length digits) ≡ n * 32 * 32 ^ length digits = rw (pow-suc 32 (length digits)) (omega arith) in
    let least : n * 32 * 32 ^ length digits ≤ (n * 32 + d) * 32 ^ length digits = mul-le-mul_right (32 ^ length digits) (omega arith) in
    omega (arith, number_above (n * 32 + d) digits)

-- numbers of as many characters compare as the characters do

numbers_ascend : (m a b : ℕ) (xs ys : List ℕ) → list_all is_tid_character xs ≡ true → length xs ≡ length ys → digit_of a < digit_of b
    → number_from_digits_after 32 (m * 32 + digit_of a) (map digit_of xs) < number_from_digits_after 32 (m * 32 + digit_of b) (map digit_of ys)
numbers_ascend m a b xs ys p long h =
    let low = number_after_lt 32 (m * 32 + digit_of a) (map digit_of xs) (digits_below xs p) in
    let high = number_above (m * 32 + digit_of b) (map digit_of ys) in
    let same : length (map digit_of xs) ≡ length (map digit_of ys) = length-digits xs ∙ long ∙ sym (length-digits ys) in
    let between : (m * 32 + digit_of a + 1) * 32 ^ length (map digit_of xs) ≤ (m * 32 + digit_of b) * 32 ^ length (map digit_of xs) = mul-le-mul_right (32 ^ length (map digit_of xs)) (omega arith) in
    let level : (m * 32 + digit_of b) * 32 ^ length (map digit_of xs) ≡ (m * 32 + digit_of b) * 32 ^ length (map digit_of ys) = ap (λ (n : ℕ). (m * 32 + digit_of b) * 32 ^ n) same in
    omega arith

is_below : (x y : ℕ) → x < y → nat_cmp x y ≡ Less
is_below x y h = grind (arith, nat_tests)

is_same : (x : ℕ) → nat_cmp x x ≡ Equal
is_same x = grind (arith, nat_tests)

is_above : (x y : ℕ) → y < x → nat_cmp x y ≡ Greater
is_above x y h = grind (arith, nat_tests)

numbers_compare : (m : ℕ) (xs ys : List ℕ) → list_all is_tid_character xs ≡ true → list_all is_tid_character ys ≡ true → length xs ≡ length ys
    → slice_cmp nat_cmp xs ys ≡ nat_cmp (number_from_digits_after 32 m (map digit_of xs)) (number_from_digits_after 32 m (map digit_of ys))
numbers_compare m [] [] p q long = sym (is_same m)
numbers_compare m [] (y ∷ ys) p q long = absurd (omega arith)
numbers_compare m (x ∷ xs) [] p q long = absurd (omega arith)
numbers_compare m (x ∷ xs) (y ∷ ys) p q long =
    let px = and_parts (is_tid_character x) (list_all is_tid_character xs) p in
    let qy = and_parts (is_tid_character y) (list_all is_tid_character ys) q in
    let rest : length xs ≡ length ys = omega arith in
    let tail = slice_cmp nat_cmp xs ys in
    ⊎_elim
    (λ (e : x ≡ y). ap (λ (z : ℕ). ordering_then (nat_cmp x z) tail) (sym e) ∙ ap (λ o. ordering_then o tail) (is_same x) ∙ numbers_compare (m * 32 + digit_of x) xs ys px.1 qy.1 rest
    ∙ ap (λ (z : ℕ). nat_cmp (number_from_digits_after 32 (m * 32 + digit_of x) (map digit_of xs)) (number_from_digits_after 32 (m * 32 + digit_of z) (map digit_of ys))) e)
    (⊎_elim
    (λ (h : x < y). ap (λ o. ordering_then o tail) (is_below x y h) ∙ sym (is_below _ _ (numbers_ascend m x y xs ys px.1 rest (digit_ascends x y px.0 qy.0 h))))
    (λ (h : y < x). ap (λ o. ordering_then o tail) (is_above x y h) ∙ sym (is_above _ _ (numbers_ascend m y x ys xs qy.1 (sym rest) (digit_ascends y x qy.0 px.0 h)))))
    (cases_order x y)

-- the last characters of a number's digits

encoded : ℕ → ℕ → List ℕ
encoded zero value = []
encoded (suc n) value = character_of (value / 32 ^ n % 32) ∷ encoded n value

digits_encoded : (value : ℕ) → digits_of value ≡ encoded 13 value
unfolding digits_of character_at encoded
digits_encoded value = refl

encoded_known : (n value : ℕ) → list_all is_tid_character (encoded n value) ≡ true
unfolding encoded
encoded_known zero value = refl
encoded_known (suc n) value = and_from (is_tid_character (character_of (value / 32 ^ n % 32))) (list_all is_tid_character (encoded n value)) (character_known (value / 32 ^ n % 32) (omega arith)) (encoded_known n value)

length-encoded : (n value : ℕ) → length (encoded n value) ≡ n
unfolding encoded
length-encoded zero value = refl
length-encoded (suc n) value = ap suc (length-encoded n value)

quotient_again : (value n : ℕ) → value / 32 ^ suc n * 32 + value / 32 ^ n % 32 ≡ value / 32 ^ n
quotient_again value n =
    let next : value / 32 ^ suc n ≡ value / 32 ^ n / 32 = ap (λ (d : ℕ). value / d) (pow-suc 32 n) ∙ sym (div-div-eq-div-mul value (32 ^ n) 32) in
    omega arith

number_encoded : (n value : ℕ) → number_from_digits_after 32 (value / 32 ^ n) (map digit_of (encoded n value)) ≡ value
unfolding encoded
number_encoded zero value = div-one value
number_encoded (suc n) value =
    let digit = digit_of-character_of (value / 32 ^ n % 32) (omega arith) in
    ap (λ (d : ℕ). number_from_digits_after 32 (value / 32 ^ suc n * 32 + d) (map digit_of (encoded n value))) digit
    ∙ ap (λ (m : ℕ). number_from_digits_after 32 m (map digit_of (encoded n value))) (quotient_again value n)
    ∙ number_encoded n value

-- the 13 digits of a number

value_again : (value : ℕ) → value < 2 ^ 64 → tid_value (digits_of value) ≡ value
value_again value h =
    let none : 0 ≡ value / 32 ^ 13 = omega arith in
    ap tid_value (digits_encoded value) ∙ ap (λ (m : ℕ). number_from_digits_after 32 m (map digit_of (encoded 13 value))) none ∙ number_encoded 13 value

pub digits_known : (value : ℕ) → list_all is_tid_character (digits_of value) ≡ true
digits_known value = ap (list_all is_tid_character) (digits_encoded value) ∙ encoded_known 13 value

pub length-digits_of : (value : ℕ) → length (digits_of value) ≡ 13
length-digits_of value = ap length (digits_encoded value) ∙ length-encoded 13 value

first_digit : (value : ℕ) → value < 2 ^ 64 → is_first_character (get_or (digits_of value) 0 0) ≡ true
unfolding encoded
first_digit value h = ap (λ (text : List ℕ). is_first_character (get_or text 0 0)) (digits_encoded value) ∙ first_known (value / 32 ^ 12 % 32) (omega arith)

tid_parts : (text : List ℕ) → is_tid text ≡ true → IsTid text
unfolding is_tid
tid_parts text h =
    let both = and_parts (eqb (length text) 13 && is_first_character (get_or text 0 0)) (list_all is_tid_character text) h in
    let front = and_parts (eqb (length text) 13) (is_first_character (get_or text 0 0)) both.0 in
    record { long = eqb-true (length text) 13 front.0; first = front.1; characters = both.1 }

tid_tested : (text : List ℕ) → IsTid text → is_tid text ≡ true
unfolding is_tid
tid_tested text is =
    and_from (eqb (length text) 13 && is_first_character (get_or text 0 0)) (list_all is_tid_character text) (and_from (eqb (length text) 13) (is_first_character (get_or text 0 0)) (eq-eqb (length text) 13 is.long) is.first) is.characters

digits_are_tid : (value : ℕ) → value < 2 ^ 64 → IsTid (digits_of value)
digits_are_tid value h = record { long = length-digits_of value; first = first_digit value h; characters = digits_known value }

pub value_below : (text : List ℕ) → IsTid text → tid_value text < 2 ^ 64
value_below [] is = absurd (omega (arith, is.long))
value_below (c ∷ text) is =
    let both = and_parts (is_tid_character c) (list_all is_tid_character text) is.characters in
    let first = first_below c is.first in
    let long : length (map digit_of text) ≡ 12 = omega (arith, length-digits text, is.long) in
    let most = number_after_lt 32 (0 * 32 + digit_of c) (map digit_of text) (digits_below text both.1) in
    let most : tid_value (c ∷ text) < (0 * 32 + digit_of c + 1) * 32 ^ 12 = subst (λ (n : ℕ). tid_value (c ∷ text) < (0 * 32 + digit_of c + 1) * 32 ^ n) long most in
    omega arith

-- a TID is encoded by its value's digits
pub digits_again : (text : List ℕ) → IsTid text → text ≡ digits_of (tid_value text)
digits_again text is =
    let written = digits_of (tid_value text) in
    let same = value_again (tid_value text) (value_below text is) in
    let compared = numbers_compare 0 text written is.characters (digits_known (tid_value text)) (is.long ∙ sym (length-digits_of (tid_value text))) in
    slice_cmp-IsAntisymmetric nat_cmp-IsAntisymmetric text written (compared ∙ ap (nat_cmp (tid_value text)) same ∙ is_same (tid_value text))

-- each character of a TID is one of its alphabet
pub character_there : (text : List ℕ) (i : ℕ) → is_tid text ≡ true → i < length text → is_tid_character (get_or text i 0) ≡ true
character_there text i is h = true_from_ne_false (is_tid_character (get_or text i 0)) (λ e. false≢true (sym (list_all_at is_tid_character text i 0 h e) ∙ (tid_parts text is).characters))

-- what a number becomes by a TID's next character is at most the TID's value
pub next_below : (text : List ℕ) (i n : ℕ) → is_tid text ≡ true → i < length text → number_from_digits_after 32 n (map digit_of (drop i text)) ≡ tid_value text → n * 32 + digit_of (get_or text i 0) < 2 ^ 64
next_below text i n is h e =
    let next = n * 32 + digit_of (get_or text i 0) in
    let whole : number_from_digits_after 32 next (map digit_of (drop (suc i) text)) ≡ tid_value text = ap (λ (s : List ℕ). number_from_digits_after 32 n (map digit_of s)) (sym (drop-cons text i 0 h)) ∙ e in
    let least = number_after_ge 32 next (map digit_of (drop (suc i) text)) (omega arith) in
    omega (arith, value_below text (tid_parts text is))

pub tid_tested_not : (text : List ℕ) → is_tid text ≡ false → IsTid text → ⊥
tid_tested_not text h is = false≢true (sym h ∙ tid_tested text is)

pub tid_again : (text : List ℕ) → is_tid text ≡ true → text ≡ digits_of (tid_value text)
tid_again text h = digits_again text (tid_parts text h)

tid_from : (text : List ℕ) → IsTid text → tid_of text ≡ Some (tid_value text)
unfolding tid_of
tid_from text is = rw (tid_tested text is) refl

pub written_read : WrittenTidsAreRead
written_read value h = tid_from (digits_of value) (digits_are_tid value h) ∙ ap Some (value_again value h)

pub texts_known : TextsAreTids
texts_known text =
    (λ is. (tid_value text, value_below text is, digits_again text is), λ (value, h, e). subst IsTid (sym e) (digits_are_tid value h))

pub digits_compare : TidsOrderAsTexts
digits_compare a b p q =
    numbers_compare 0 (digits_of a) (digits_of b) (digits_known a) (digits_known b) (length-digits_of a ∙ sym (length-digits_of b))
    ∙ ap (λ (n : ℕ). nat_cmp n (tid_value (digits_of b))) (value_again a p) ∙ ap (nat_cmp a) (value_again b q)

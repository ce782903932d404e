-- A head that is read is the head that was written, and what was written is read again.
use Rattle.std.proofs.Common.{◌≡◌, ℕ, suc, ◌+◌, ◌*◌, ◌%◌, ◌^◌, ◌<◌, ◌≤◌, pos, negsuc, Bool, true, false, cond, ltb, leb, eqb, ◌&&◌, List, [], ◌∷◌, ◌++◌, length, get_or, take, drop, Option, Some, None, Result, Ok, Err, refl, sym, ap, subst, ◌∙◌, arith, inl, inr}
use Rattle.std.specs.Prelude.{◌≢◌}
use Rattle.std.proofs.lemmas.Bool.{and_parts, ltb-true, lt-ltb, eqb-true}
use Rattle.std.proofs.lemmas.Bool.Decides.{nat_tests}
use Rattle.std.proofs.lemmas.List.{take-append-drop, take_at, drop_at, drop-drop, drop-take, get_or-take, take_all, length-take, length-append}
use Rattle.at_cid.specs.Link.{IsBytes, is_link, link_at}
use Rattle.at_cid.proofs.Links.{link_length}
use Rattle.at_cbor.specs.declared.major.Major.{Major}
use Rattle.at_cbor.specs.declared.fault.Cause.{Cause}
use Rattle.at_cbor.specs.declared.head.Head.{Head}
use Rattle.at_cbor.specs.Heads.{Flaw, argument_at, begins_link, link_behind, whole_link, tagged, simple_of, is_long, major_of, argued, head_at}
use Rattle.at_cbor.specs.Majors.{major_number, major_in}
use Rattle.at_cbor.specs.Encoding.{info_of, tail_of, front_of, bool_encoding, link_encoding, head_encoding, HeadFits}
use Rattle.at_cbor.proofs.Steps.{guard_ok, passed_ok, chosen, ok_is, IsBytes-drop, IsBytes-take, Takes}
use Rattle.at_cbor.proofs.Fronts.{argument_takes, argument_is_low, argument_again}
use Rattle.at_cbor.proofs.Majors.{number_in, major_again, short_of, short_for}

-- the bytes begin with this head, and go on with the rest
abbrev pub IsHead : List ℕ → Head × List ℕ → Type 0
IsHead bytes x = Takes bytes (head_encoding x.0) x.1 × HeadFits x.0

made_head : (bytes : List ℕ) (made x : Head × List ℕ) → (let r : Result (Head × List ℕ) Flaw = Ok made in r) ≡ Ok x → IsHead bytes made → IsHead bytes x
made_head bytes made x e is = subst (IsHead bytes) (ok_is made x e) is

-- ---- links

link_found : (bytes : List ℕ) (b : Bool) → b ≡ is_link (take 36 bytes) → (found : Option (List ℕ)) → found ≡ cond b (Some (take 36 bytes)) None → (link : List ℕ) → found ≡ Some link → (is_link link ≡ true) × (link ≡ take 36 bytes)
link_found bytes true e found f link g = let same : take 36 bytes ≡ link = cc in (ap is_link (sym same) ∙ sym e, sym same)
link_found bytes false e found f link g = absurd cc

behind_takes : (left : ℕ) (found : Option (List ℕ)) (rest : List ℕ) (x : Head × List ℕ) → link_behind left found rest ≡ Ok x → (link : List ℕ) × (found ≡ Some link) × (x ≡ (Head.Link link, rest))
behind_takes left None rest x e = absurd cc
behind_takes left (Some link) rest x e = (link, refl, sym (ok_is (Head.Link link, rest) x e))

three_cells : (bytes : List ℕ) → 39 ≤ length bytes → get_or bytes 0 0 ≡ 0x58 → get_or bytes 1 0 ≡ 0x25 → get_or bytes 2 0 ≡ 0x00 → bytes ≡ 0x58 ∷ 0x25 ∷ 0x00 ∷ drop 3 bytes
three_cells [] h a b c = absurd (omega (arith, h))
three_cells (x ∷ []) h a b c = absurd (omega (arith, h))
three_cells (x ∷ y ∷ []) h a b c = absurd (omega (arith, h))
three_cells (x ∷ y ∷ z ∷ bytes) h a b c = rw (a, b, c) refl

whole_takes : (left : ℕ) (bytes : List ℕ) (x : Head × List ℕ) → IsBytes bytes → 39 ≤ length bytes → whole_link left bytes ≡ Ok x → IsHead (0xd8 ∷ 0x2a ∷ bytes) x
unfolding whole_link
whole_takes left bytes x fits long e =
    let first = eqb (get_or bytes 0 0) 0x58 in
    let second = eqb (get_or bytes 1 0) 0x25 in
    let third = eqb (get_or bytes 2 0) 0x00 in
    let t = passed_ok (first && second && third) (Cause.BadTag, left) (link_behind left (link_at (drop 3 bytes)) (drop 39 bytes)) x e in
    let two = and_parts (first && second) third t.0 in
    let one = and_parts first second two.0 in
    let cells = three_cells bytes long (eqb-true _ _ one.0) (eqb-true _ _ one.1) (eqb-true _ _ two.1) in
    let g = behind_takes left (link_at (drop 3 bytes)) (drop 39 bytes) x t.1 in
    let link : List ℕ = g.0 in
    let is = link_found (drop 3 bytes) (is_link (take 36 (drop 3 bytes))) refl (link_at (drop 3 bytes)) refl g.0 g.1 in
    let behind : drop 3 bytes ≡ take 36 (drop 3 bytes) ++ drop 36 (drop 3 bytes) = sym (take-append-drop 36 (drop 3 bytes)) in
    let rest : drop 36 (drop 3 bytes) ≡ drop 39 bytes = drop-drop 36 3 bytes in
    let parts : drop 3 bytes ≡ g.0 ++ drop 39 bytes = behind ∙ ap (λ (l : List ℕ). l ++ drop 36 (drop 3 bytes)) (sym is.1) ∙ ap (λ (r : List ℕ). g.0 ++ r) rest in
    let all : 0xd8 ∷ 0x2a ∷ bytes ≡ link_encoding g.0 ++ drop 39 bytes = ap (λ (l : List ℕ). 0xd8 ∷ 0x2a ∷ l) cells ∙ ap (λ (l : List ℕ). 0xd8 ∷ 0x2a ∷ 0x58 ∷ 0x25 ∷ 0x00 ∷ l) parts in
    let link_fits : IsBytes g.0 = subst IsBytes (sym is.1) (IsBytes-take 36 (drop 3 bytes) (IsBytes-drop 3 bytes fits)) in
    subst (IsHead (0xd8 ∷ 0x2a ∷ bytes)) (sym g.2) (record { parts = all; rest_fits = IsBytes-drop 39 bytes fits }, (is.0, link_fits))

tagged_takes : (left : ℕ) (bytes : List ℕ) (x : Head × List ℕ) → IsBytes bytes → tagged left bytes ≡ Ok x → IsHead (0xd8 ∷ 0x2a ∷ bytes) x
unfolding tagged
tagged_takes left bytes x fits e =
    elim (chosen (leb 39 (length bytes)) (whole_link left bytes) _ (Ok x) e) [
      | inl (t, f) ↦ whole_takes left bytes x fits (grind (arith, nat_tests)) f
      | inr (t, f) ↦ elim (chosen (begins_link bytes) _ _ (Ok x) f) [ inl (u, g) ↦ absurd cc | inr (u, g) ↦ absurd cc ]
    ]

-- a link in so many bytes is the one that stands there
link_inside : (bytes : List ℕ) → link_at (drop 3 (take 39 bytes)) ≡ link_at (drop 3 bytes)
link_inside bytes =
    let inside : drop 3 (take 39 bytes) ≡ take 36 (drop 3 bytes) = drop-take 3 36 bytes in
    let front : take 36 (drop 3 (take 39 bytes)) ≡ take 36 (drop 3 bytes) = ap (take 36) inside ∙ take_all 36 (take 36 (drop 3 bytes)) (omega (arith, length-take 36 (drop 3 bytes))) in
    ap (λ (l : List ℕ). cond (is_link l) (Some l) None) front

-- a link that was found in so many bytes is read
pub link_read : (left : ℕ) (bytes body link : List ℕ) → body ≡ take 39 bytes → get_or body 0 0 ≡ 0x58 → get_or body 1 0 ≡ 0x25 → get_or body 2 0 ≡ 0x00 → Some link ≡ link_at (drop 3 body) → whole_link left bytes ≡ Ok (Head.Link link, drop 39 bytes)
unfolding whole_link
link_read left bytes body link is first second third found =
    let cell : (i : ℕ) → i < 39 → get_or bytes i 0 ≡ get_or body i 0 = λ i low. sym (ap (λ (l : List ℕ). get_or l i 0) is ∙ get_or-take 39 bytes i 0 low) in
    let a : get_or bytes 0 0 ≡ 0x58 = cell 0 (omega arith) ∙ first in
    let b : get_or bytes 1 0 ≡ 0x25 = cell 1 (omega arith) ∙ second in
    let d : get_or bytes 2 0 ≡ 0x00 = cell 2 (omega arith) ∙ third in
    let same : link_at (drop 3 bytes) ≡ Some link = sym (link_inside bytes) ∙ ap (λ (l : List ℕ). link_at (drop 3 l)) (sym is) ∙ sym found in
    rw (a, b, d, same) refl

-- ---- integers and lengths

pub front_42 : front_of Major.Tag 42 ≡ 0xd8 ∷ 0x2a ∷ []
unfolding info_of tail_of
front_42 = refl

int_takes : (n : ℕ) (made : Head) (text : List ℕ) (flaw : Flaw) (rest : List ℕ) (x : Head × List ℕ) → IsBytes rest → head_encoding made ≡ text → (n < 2 ^ 63 → HeadFits made) → cond (ltb n (2 ^ 63)) (Ok (made, rest)) (Err flaw) ≡ Ok x → IsHead (text ++ rest) x
int_takes n made text flaw rest x fits encoded ranged e =
    let t = passed_ok (ltb n (2 ^ 63)) flaw (Ok (made, rest)) x e in
    let below = ltb-true n (2 ^ 63) t.0 in
    made_head (text ++ rest) (made, rest) x t.1 (record { parts = ap (λ (l : List ℕ). l ++ rest) (sym encoded); rest_fits = fits }, ranged below)

major_takes : (major : Major) (first left n : ℕ) (rest : List ℕ) (x : Head × List ℕ) → major ≢ Major.Simple → n < 2 ^ 64 → IsBytes rest → major_of major first left n rest ≡ Ok x → IsHead (front_of major n ++ rest) x
unfolding major_of
major_takes Major.Unsigned first left n rest x other below fits e = int_takes n (Head.Int (pos n)) (front_of Major.Unsigned n) _ rest x fits refl (λ h. h) e
major_takes Major.Negative first left n rest x other below fits e = int_takes n (Head.Int (negsuc n)) (front_of Major.Negative n) _ rest x fits refl (λ h. h) e
major_takes Major.Bytes first left n rest x other below fits e = made_head (front_of Major.Bytes n ++ rest) (Head.Bytes n, rest) x e (record { parts = refl; rest_fits = fits }, below)
major_takes Major.Text first left n rest x other below fits e = made_head (front_of Major.Text n ++ rest) (Head.Text n, rest) x e (record { parts = refl; rest_fits = fits }, below)
major_takes Major.List first left n rest x other below fits e = made_head (front_of Major.List n ++ rest) (Head.List n, rest) x e (record { parts = refl; rest_fits = fits }, below)
major_takes Major.Map first left n rest x other below fits e = made_head (front_of Major.Map n ++ rest) (Head.Map n, rest) x e (record { parts = refl; rest_fits = fits }, below)
major_takes Major.Tag first left n rest x other below fits e =
    let t = passed_ok (eqb n 42) (Cause.BadTag, left) (tagged left rest) x e in
    let is : n ≡ 42 = eqb-true n 42 t.0 in
    let front : 0xd8 ∷ 0x2a ∷ rest ≡ front_of Major.Tag n ++ rest = ap (λ (l : List ℕ). l ++ rest) (sym front_42 ∙ ap (front_of Major.Tag) (sym is)) in
    subst (λ (l : List ℕ). IsHead l x) front (tagged_takes left rest x fits t.1)
major_takes Major.Simple first left n rest x other below fits e = absurd (other refl)

-- ---- simple values, and all heads

simple_is : (first : ℕ) (made : Head) (bytes : List ℕ) (a : ℕ × List ℕ) (x : Head × List ℕ) → first % 32 < 24 → head_encoding made ≡ first ∷ [] → HeadFits made → IsBytes bytes → argument_at (first % 32) bytes ≡ Some a → (let r : Result (Head × List ℕ) Flaw = Ok (made, a.1) in r) ≡ Ok x → IsHead (first ∷ bytes) x
simple_is first made bytes a x low encoded holds fits found e =
    let same : a.1 ≡ bytes = rest_is (first % 32) bytes a (sym found ∙ argument_is_low (first % 32) bytes low) in
    made_head (first ∷ bytes) (made, a.1) x e (record { parts = ap (λ (l : List ℕ). l ++ bytes) (sym encoded) ∙ ap (λ (r : List ℕ). head_encoding made ++ r) (sym same); rest_fits = subst IsBytes (sym same) fits }, holds)
  where
    rest_is : (n : ℕ) (bytes : List ℕ) (a : ℕ × List ℕ) → Some a ≡ Some (n, bytes) → a.1 ≡ bytes
    rest_is n bytes a e = let same : a ≡ (n, bytes) = cc in ap (λ p. p.1) same

simple_takes : (first left : ℕ) (bytes : List ℕ) (a : ℕ × List ℕ) (x : Head × List ℕ) → IsBytes bytes → argument_at (first % 32) bytes ≡ Some a → simple_of first left a.1 ≡ Ok x → IsHead (first ∷ bytes) x
simple_takes first left bytes a x fits found e =
    elim (chosen (eqb first 0xf4) _ _ (Ok x) e) [
      | inl (t, f) ↦ let is = eqb-true first 0xf4 t in simple_is first (Head.Bool false) bytes a x (omega arith) (ap (λ (n : ℕ). n ∷ []) (sym is)) tt fits found f
      | inr (t, e5) ↦ elim (chosen (eqb first 0xf5) _ _ (Ok x) e5) [
        | inl (u, f) ↦ let is = eqb-true first 0xf5 u in simple_is first (Head.Bool true) bytes a x (omega arith) (ap (λ (n : ℕ). n ∷ []) (sym is)) tt fits found f
        | inr (u, e6) ↦ elim (chosen (eqb first 0xf6) _ _ (Ok x) e6) [
          | inl (v, f) ↦ let is = eqb-true first 0xf6 v in simple_is first Head.Null bytes a x (omega arith) (ap (λ (n : ℕ). n ∷ []) (sym is)) tt fits found f
          | inr (v, f) ↦ absurd cc
        ]
      ]
    ]

argued_takes : (first left : ℕ) (bytes : List ℕ) (found : Option (ℕ × List ℕ)) (x : Head × List ℕ) → first < 256 → IsBytes bytes → argument_at (first % 32) bytes ≡ found → argued first left found ≡ Ok x → IsHead (first ∷ bytes) x
unfolding argued major_of
argued_takes first left bytes None x small fits found e = absurd cc
argued_takes first left bytes (Some a) x small fits found e =
    let definite = guard_ok (leb 28 (first % 32)) (Cause.Indefinite, left) _ x e in
    let info : first % 32 < 28 = grind (arith, nat_tests) in
    let shortest = guard_ok (is_long (major_in first) (first % 32) a.0) (Cause.NotShortest, left) (major_of (major_in first) first left a.0 a.1) x definite.1 in
    elim (short_of (major_in first) (first % 32) a.0 shortest.0) [
      | inl simple ↦ simple_takes first left bytes a x fits found (ap (λ (m : Major). major_of m first left a.0 a.1) (sym simple) ∙ shortest.1)
      | inr (other, least) ↦
          let argument = argument_takes (first % 32) bytes a info fits found least in
          let high = number_in first small in
          let front : front_of (major_in first) a.0 ++ a.1 ≡ first ∷ bytes = rw (← argument.taken.parts, ← argument.info_is) (ap (λ (n : ℕ). n ∷ bytes) (omega (arith, high))) in
          subst (λ (l : List ℕ). IsHead l x) front (major_takes (major_in first) first left a.0 a.1 x other argument.below argument.taken.rest_fits shortest.1)
    ]

pub head_takes : (bytes : List ℕ) (x : Head × List ℕ) → IsBytes bytes → head_at bytes ≡ Ok x → IsHead bytes x
unfolding head_at
head_takes [] x fits e = absurd cc
head_takes (first ∷ bytes) x fits e = argued_takes first (length (first ∷ bytes)) bytes (argument_at (first % 32) bytes) x (fits 0) (λ i. fits (suc i)) refl e

-- ---- what was written is read again

argued_again : (major : Major) (first left info n : ℕ) (rest : List ℕ) → first % 32 ≡ info → major_in first ≡ major → info < 28 → is_long major info n ≡ false → argued first left (Some (n, rest)) ≡ major_of major first left n rest
unfolding argued
argued_again major first left info n rest low high definite shortest =
    let test : leb 28 info ≡ false = grind (arith, nat_tests) in
    rw (low, high, test, shortest) refl

-- a major type and its argument are read as what they say
pub front_again : (major : Major) (n : ℕ) (rest : List ℕ) → n < 2 ^ 64 → head_at (front_of major n ++ rest) ≡ major_of major (32 * major_number major + info_of n) (length (front_of major n ++ rest)) n rest
unfolding head_at
front_again major n rest below =
    let reads = argument_again n rest below in
    let low : (32 * major_number major + info_of n) % 32 ≡ info_of n = omega (arith, reads.info_below) in
    let high = major_again major (info_of n) (omega (arith, reads.info_below)) in
    let found : argument_at ((32 * major_number major + info_of n) % 32) (tail_of n ++ rest) ≡ Some (n, rest) = ap (λ (i : ℕ). argument_at i (tail_of n ++ rest)) low ∙ reads.found in
    ap (argued (32 * major_number major + info_of n) (length (front_of major n ++ rest))) found
    ∙ argued_again major (32 * major_number major + info_of n) (length (front_of major n ++ rest)) (info_of n) n rest low high reads.info_below (short_for major (info_of n) n reads.shortest)

bool_again : (b : Bool) (rest : List ℕ) → head_at (bool_encoding b ++ rest) ≡ Ok (Head.Bool b, rest)
unfolding head_at argued argument_at major_in major_of
bool_again false rest = refl
bool_again true rest = refl

null_again : (rest : List ℕ) → head_at (0xf6 ∷ rest) ≡ Ok (Head.Null, rest)
unfolding head_at argued argument_at major_in major_of
null_again rest = refl

in_range : (n left : ℕ) (made : Head) (rest : List ℕ) → n < 2 ^ 63 → (let r : Result (Head × List ℕ) Flaw = cond (ltb n (2 ^ 63)) (Ok (made, rest)) (Err (Cause.IntRange, left)) in r) ≡ Ok (made, rest)
in_range n left made rest h = rw (lt-ltb n (2 ^ 63) h) refl

link_front : (link rest : List ℕ) → is_link link ≡ true → length link ≡ 36 → link_at (link ++ rest) ≡ Some link
link_front link rest is len =
    let front : take 36 (link ++ rest) ≡ link = take_at link rest 36 len in
    let still : is_link (take 36 (link ++ rest)) ≡ true = ap is_link front ∙ is in
    rw still (ap Some front)

pub tagged_again : (left : ℕ) (link rest : List ℕ) → is_link link ≡ true → length link ≡ 36 → tagged left (0x58 ∷ 0x25 ∷ 0x00 ∷ (link ++ rest)) ≡ Ok (Head.Link link, rest)
unfolding tagged whole_link
tagged_again left link rest is len =
    let long : leb 39 (length (0x58 ∷ 0x25 ∷ 0x00 ∷ (link ++ rest))) ≡ true = grind (arith, nat_tests, length-append link rest) in
    rw (long, link_front link rest is len, drop_at link rest 36 len) refl

link_again : (link rest : List ℕ) → is_link link ≡ true → length link ≡ 36 → head_at (link_encoding link ++ rest) ≡ Ok (Head.Link link, rest)
unfolding major_of
link_again link rest is len =
    let behind : List ℕ = 0x58 ∷ 0x25 ∷ 0x00 ∷ (link ++ rest) in
    ap (λ (l : List ℕ). head_at (l ++ (0x58 ∷ 0x25 ∷ 0x00 ∷ (link ++ rest)))) (sym front_42)
    ∙ front_again Major.Tag 42 (0x58 ∷ 0x25 ∷ 0x00 ∷ (link ++ rest)) (omega arith)
    ∙ tagged_again _ link rest is len

pub head_again : (h : Head) (rest : List ℕ) → HeadFits h → head_at (head_encoding h ++ rest) ≡ Ok (h, rest)
unfolding major_of
head_again (Head.Int (pos n)) rest fits = front_again Major.Unsigned n rest (omega (arith, fits)) ∙ in_range n _ (Head.Int (pos n)) rest fits
head_again (Head.Int (negsuc n)) rest fits = front_again Major.Negative n rest (omega (arith, fits)) ∙ in_range n _ (Head.Int (negsuc n)) rest fits
head_again (Head.Bytes n) rest fits = front_again Major.Bytes n rest fits
head_again (Head.Text n) rest fits = front_again Major.Text n rest fits
head_again (Head.List n) rest fits = front_again Major.List n rest fits
head_again (Head.Map n) rest fits = front_again Major.Map n rest fits
head_again (Head.Link link) rest fits = link_again link rest fits.0 (link_length link fits.0)
head_again (Head.Bool false) rest fits = bool_again false rest
head_again (Head.Bool true) rest fits = bool_again true rest
head_again Head.Null rest fits = null_again rest

-- A head that breaks a rule is read as that fault.
use Rattle.std.proofs.Common.{◌≡◌, ℕ, ◌+◌, ◌*◌, ◌%◌, ◌^◌, ◌<◌, ◌≤◌, ◌⊎◌, inl, inr, pos, negsuc, Bool, true, false, cond, ltb, leb, eqb, List, [], ◌∷◌, ◌++◌, length, take, drop, Option, Some, None, Ok, Err, refl, sym, ap, subst, ◌∙◌, arith}
use Rattle.std.specs.Prelude.{◌≢◌}
use Rattle.std.specs.Int.{Width, w8, w16, w32, w64, byte_len, from_be_bytes, to_be_bytes}
use Rattle.std.proofs.lemmas.Bool.{cases_lt, lt-ltb, le-ltb, eqb-true}
use Rattle.std.proofs.lemmas.Bool.Decides.{nat_tests}
use Rattle.std.proofs.lemmas.List.{append-nil, take_at, drop_at, length-append}
use Rattle.at_cid.specs.Link.{IsBytes, is_link, link_at}
use Rattle.at_cid.proofs.Links.{link_length}
use Rattle.at_cbor.specs.declared.major.Major.{Major}
use Rattle.at_cbor.specs.declared.fault.Cause.{Cause}
use Rattle.at_cbor.specs.declared.head.Head.{Head}
use Rattle.at_cbor.specs.Heads.{Flaw, wide_at, argument_at, least_of, begins_link, link_behind, whole_link, tagged, major_of, argued, head_at}
use Rattle.at_cbor.specs.Majors.{major_number}
use Rattle.at_cbor.specs.Encoding.{info_of, tail_of, front_of}
use Rattle.at_cbor.specs.Faults.{wide_for, wide_len, IsCut, IsReserved, IsOtherSimple, IsLongForm, IsOutOfRange, MayBeTagged, BreaksHead}
use Rattle.at_cbor.proofs.Steps.{chosen}
use Rattle.at_cbor.proofs.Fronts.{IsWide, wide8, wide16, wide32, wide64, form_1, form_2, form_3, argument_again}
use Rattle.at_cbor.proofs.HeadLaws.{IsHead, front_42, head_takes, front_again}
use Rattle.at_cbor.proofs.Majors.{major_again, long_for}
use Rattle.at_cbor.proofs.FaultHeads.{err_is, head_faults}

-- the head is read as this fault, with all of the bytes left
abbrev pub HeadFails : Cause → List ℕ → Type 0
HeadFails cause here = head_at here ≡ Err (cause, length here)

-- ---- arguments

abbrev by_width : Option Width → ℕ → List ℕ → Option (ℕ × List ℕ)
by_width None info bytes = Some (info, bytes)
by_width (Some w) info bytes = wide_at w bytes

by_tests : (a b c d : Bool) (info : ℕ) (bytes : List ℕ) → cond a (wide_at w8 bytes) (cond b (wide_at w16 bytes) (cond c (wide_at w32 bytes) (cond d (wide_at w64 bytes) (Some (info, bytes)))))
    ≡ by_width (cond a (Some w8) (cond b (Some w16) (cond c (Some w32) (cond d (Some w64) None)))) info bytes
by_tests true b c d info bytes = refl
by_tests false true c d info bytes = refl
by_tests false false true d info bytes = refl
by_tests false false false true info bytes = refl
by_tests false false false false info bytes = refl

-- an argument is read in the width that the low five bits announce
argument_is : (info : ℕ) (bytes : List ℕ) → argument_at info bytes ≡ by_width (wide_for info) info bytes
unfolding argument_at
argument_is info bytes = by_tests (eqb info 24) (eqb info 25) (eqb info 26) (eqb info 27) info bytes

cut_by : (o : Option Width) (info : ℕ) (bytes : List ℕ) → length bytes < wide_len o → by_width o info bytes ≡ None
cut_by None info bytes h = absurd (omega (arith, h))
cut_by (Some w) info bytes h = rw (lt-ltb (length bytes) (byte_len w) h) refl

there_by : (o : Option Width) (info : ℕ) (bytes : List ℕ) → wide_len o ≤ length bytes → (a : ℕ × List ℕ) × (by_width o info bytes ≡ Some a)
there_by None info bytes h = ((info, bytes), refl)
there_by (Some w) info bytes h = ((from_be_bytes w (take (byte_len w) bytes), drop (byte_len w) bytes), rw (le-ltb (length bytes) (byte_len w) h) refl)

-- low five bits of 28 and more announce no width
no_width : (info : ℕ) → 28 ≤ info → wide_for info ≡ None
no_width info h =
    let a : eqb info 24 ≡ false = grind (arith, nat_tests) in
    let b : eqb info 25 ≡ false = grind (arith, nat_tests) in
    let d : eqb info 26 ≡ false = grind (arith, nat_tests) in
    let e : eqb info 27 ≡ false = grind (arith, nat_tests) in
    rw (a, b, d, e) refl

-- ---- the rules of every head

cut_fails : (here : List ℕ) → IsCut here → HeadFails Cause.Short here
unfolding head_at argued
cut_fails [] cut = refl
cut_fails (first ∷ bytes) cut = ap (argued first (length (first ∷ bytes))) (argument_is (first % 32) bytes ∙ cut_by (wide_for (first % 32)) (first % 32) bytes cut)

reserved_fails : (here : List ℕ) → IsReserved here → HeadFails Cause.Indefinite here
unfolding head_at argued
reserved_fails [] h = absurd h
reserved_fails (first ∷ bytes) h =
    let found : argument_at (first % 32) bytes ≡ Some (first % 32, bytes) = argument_is (first % 32) bytes ∙ ap (λ (o : Option Width). by_width o (first % 32) bytes) (no_width (first % 32) h) in
    let test : leb 28 (first % 32) ≡ true = grind (arith, nat_tests) in
    ap (argued first (length (first ∷ bytes))) found ∙ rw test refl

simple_fails : (here : List ℕ) → IsOtherSimple here → HeadFails Cause.BadSimple here
unfolding head_at argued major_of
simple_fails [] h = absurd h
simple_fails (first ∷ bytes) h =
    let found = there_by (wide_for (first % 32)) (first % 32) bytes h.1 in
    let definite : leb 28 (first % 32) ≡ false = grind (arith, nat_tests, h.2) in
    let a : eqb first 0xf4 ≡ false = grind (arith, nat_tests, h.3) in
    let b : eqb first 0xf5 ≡ false = grind (arith, nat_tests, h.4) in
    let d : eqb first 0xf6 ≡ false = grind (arith, nat_tests, h.5) in
    ap (argued first (length (first ∷ bytes))) (argument_is (first % 32) bytes ∙ found.1) ∙ rw (definite, h.0, a, b, d) refl

-- ---- forms that are longer than needed

tail_8 : (n : ℕ) → 2 ^ 32 ≤ n → 8 ≤ length (tail_of n)
unfolding tail_of
tail_8 n h =
    let a : ltb n 24 ≡ false = le-ltb _ _ (omega arith) in
    let b : ltb n (2 ^ 8) ≡ false = le-ltb _ _ (omega arith) in
    let d : ltb n (2 ^ 16) ≡ false = le-ltb _ _ (omega arith) in
    let e : ltb n (2 ^ 32) ≡ false = le-ltb _ _ h in
    rw (a, b, d, e) (omega (arith, wide64.len n))

tail_4 : (n : ℕ) → 2 ^ 16 ≤ n → 4 ≤ length (tail_of n)
tail_4 n h = elim (cases_lt n (2 ^ 32)) [ inl lt ↦ rw (form_3 n h lt).1 (omega (arith, wide32.len n)) | inr le ↦ omega (arith, tail_8 n le) ]

tail_2 : (n : ℕ) → 2 ^ 8 ≤ n → 2 ≤ length (tail_of n)
tail_2 n h = elim (cases_lt n (2 ^ 16)) [ inl lt ↦ rw (form_2 n h lt).1 (omega (arith, wide16.len n)) | inr le ↦ omega (arith, tail_4 n le) ]

tail_1 : (n : ℕ) → 24 ≤ n → 1 ≤ length (tail_of n)
tail_1 n h = elim (cases_lt n (2 ^ 8)) [ inl lt ↦ rw (form_1 n h lt).1 (omega arith) | inr le ↦ omega (arith, tail_2 n le) ]

-- an argument that a width is longer than needed for is below the least that needs it
abbrev IsBelow : Width → ℕ → Type 0
IsBelow w low = (n : ℕ) → length (tail_of n) < byte_len w → n < low

below_of : (w : Width) (low : ℕ) → ((n : ℕ) → low ≤ n → byte_len w ≤ length (tail_of n)) → IsBelow w low
below_of w low long n h = elim (cases_lt n low) [ inl lt ↦ lt | inr le ↦ absurd (omega (arith, long n le, h)) ]

wide_again : (w : Width) (limit : ℕ) → IsWide w limit → (n : ℕ) (rest : List ℕ) → n < limit → wide_at w (to_be_bytes w n ++ rest) ≡ Some (n, rest)
wide_again w limit wide n rest lt =
    let len = wide.len n in
    let long : ltb (length (to_be_bytes w n ++ rest)) (byte_len w) ≡ false = le-ltb _ _ (omega (arith, length-append (to_be_bytes w n) rest)) in
    rw (long, take_at (to_be_bytes w n) rest (byte_len w) len, drop_at (to_be_bytes w n) rest (byte_len w) len, wide.again n lt) refl

-- the low five bits of a first byte
low_bits : (high info : ℕ) → info < 32 → (32 * high + info) % 32 ≡ info
low_bits high info h = omega (arith, h)

long_in : (w : Width) (k low limit : ℕ) → IsWide w limit → wide_for k ≡ Some w → k < 28 → least_of k ≡ low → low ≤ limit → IsBelow w low
    → (major : Major) (n : ℕ) (rest : List ℕ) → major ≢ Major.Simple → length (tail_of n) < byte_len w → HeadFails Cause.NotShortest ((32 * major_number major + k) ∷ (to_be_bytes w n ++ rest))
unfolding head_at argued
long_in w k low limit wide form small least within below major n rest other shorter =
    let lt : n < low = below n shorter in
    let info : (32 * major_number major + k) % 32 ≡ k = low_bits (major_number major) k (omega (arith, small)) in
    let high = major_again major k (omega (arith, small)) in
    let found : argument_at ((32 * major_number major + k) % 32) (to_be_bytes w n ++ rest) ≡ Some (n, rest) =
    ap (λ (i : ℕ). argument_at i (to_be_bytes w n ++ rest)) info ∙ argument_is k (to_be_bytes w n ++ rest) ∙ ap (λ (o : Option Width). by_width o k (to_be_bytes w n ++ rest)) form ∙ wide_again w limit wide n rest (omega (arith, lt, within)) in
    let definite : leb 28 k ≡ false = grind (arith, nat_tests, small) in
    let test = long_for major k n other (lt-ltb n (least_of k) (omega (arith, lt, least))) in
    ap (argued (32 * major_number major + k) (length ((32 * major_number major + k) ∷ (to_be_bytes w n ++ rest)))) found ∙ rw (info, high, definite, test) refl

-- which low five bits announce a width
some_is : {A : Type 0} (x y : A) → (let o : Option A = Some x in o) ≡ Some y → x ≡ y
some_is x y e = cc

abbrev LongFails : ℕ → Width → Type 0
LongFails info w = (major : Major) (n : ℕ) (rest : List ℕ) → major ≢ Major.Simple → length (tail_of n) < byte_len w → HeadFails Cause.NotShortest ((32 * major_number major + info) ∷ (to_be_bytes w n ++ rest))

long_as : (info k : ℕ) (v w : Width) → eqb info k ≡ true → Some v ≡ Some w → LongFails k v → LongFails info w
long_as info k v w t e h = subst (λ (x : Width). LongFails info x) (some_is v w e) (subst (λ (i : ℕ). LongFails i v) (sym (eqb-true info k t)) h)

long_by : (info : ℕ) (w : Width) → wide_for info ≡ Some w → LongFails info w
long_by info w e =
    elim (chosen (eqb info 24) (Some w8) _ (Some w) e) [
      | inl (t, f) ↦ long_as info 24 w8 w t f (long_in w8 24 24 (2 ^ 8) wide8 refl (omega arith) refl (omega arith) (below_of w8 24 tail_1))
      | inr (t, e25) ↦ elim (chosen (eqb info 25) (Some w16) _ (Some w) e25) [
        | inl (u, f) ↦ long_as info 25 w16 w u f (long_in w16 25 (2 ^ 8) (2 ^ 16) wide16 refl (omega arith) refl (omega arith) (below_of w16 (2 ^ 8) tail_2))
        | inr (u, e26) ↦ elim (chosen (eqb info 26) (Some w32) _ (Some w) e26) [
          | inl (v, f) ↦ long_as info 26 w32 w v f (long_in w32 26 (2 ^ 16) (2 ^ 32) wide32 refl (omega arith) refl (omega arith) (below_of w32 (2 ^ 16) tail_4))
          | inr (v, e27) ↦ elim (chosen (eqb info 27) (Some w64) _ (Some w) e27) [
            | inl (x, f) ↦ long_as info 27 w64 w x f (long_in w64 27 (2 ^ 32) (2 ^ 64) wide64 refl (omega arith) refl (omega arith) (below_of w64 (2 ^ 32) tail_8))
            | inr (x, f) ↦ absurd cc
          ]
        ]
      ]
    ]

long_fails : (here : List ℕ) → IsLongForm here → HeadFails Cause.NotShortest here
long_fails here (major, info, w, n, rest, other, form, parts, shorter) = subst (HeadFails Cause.NotShortest) (sym parts) (long_by info w form major n rest other shorter)

-- ---- integers

range_fails : (here : List ℕ) → IsOutOfRange here → HeadFails Cause.IntRange here
unfolding major_of
range_fails here (n, rest, below, inl parts, large) = subst (HeadFails Cause.IntRange) (sym parts) (front_again Major.Unsigned n rest below ∙ rw (le-ltb n (2 ^ 63) large) refl)
range_fails here (n, rest, below, inr parts, large) = subst (HeadFails Cause.IntRange) (sym parts) (front_again Major.Negative n rest below ∙ rw (le-ltb n (2 ^ 63) large) refl)

-- ---- tags

tag_read : (n : ℕ) (rest : List ℕ) → n < 2 ^ 64 → n ≢ 42 → HeadFails Cause.BadTag (front_of Major.Tag n ++ rest)
unfolding major_of
tag_read n rest below other =
    let test : eqb n 42 ≡ false = grind (arith, nat_tests, other) in
    front_again Major.Tag n rest below ∙ rw test refl

some_first : (a b : ℕ) (xs ys : List ℕ) → (let o : Option (ℕ × List ℕ) = Some (a, xs) in o) ≡ Some (b, ys) → (a ≡ b) × (xs ≡ ys)
some_first a b xs ys e = let same = some_is (a, xs) (b, ys) e in (ap (λ (x : ℕ × List ℕ). x.0) same, ap (λ (x : ℕ × List ℕ). x.1) same)

-- a tag and what is behind it are told from their bytes
one_tag : (n : ℕ) (behind rest : List ℕ) → n < 2 ^ 64 → front_of Major.Tag 42 ++ behind ≡ front_of Major.Tag n ++ rest → (42 ≡ n) × (behind ≡ rest)
one_tag n behind rest below e =
    let here = argument_again 42 behind (omega arith) in
    let there = argument_again n rest below in
    let first : 32 * 6 + info_of 42 ≡ 32 * 6 + info_of n = cc in
    let tails : tail_of 42 ++ behind ≡ tail_of n ++ rest = cc in
    let info : info_of 42 ≡ info_of n = omega (arith, first) in
    some_first 42 n behind rest (sym here.found ∙ ap (λ (i : ℕ). argument_at i (tail_of 42 ++ behind)) info ∙ ap (argument_at (info_of n)) tails ∙ there.found)

no_link : (left : ℕ) (found : Option (List ℕ)) (rest : List ℕ) (d : Flaw) → link_behind left found rest ≡ Err d → (Cause.BadTag, left) ≡ d
no_link left None rest d e = err_is (Cause.BadTag, left) d e
no_link left (Some link) rest d e = absurd cc

-- behind tag 42 two rules may be broken
tag_flaws : (left : ℕ) (behind : List ℕ) (d : Flaw) → tagged left behind ≡ Err d → ((Cause.Short, left) ≡ d) ⊎ ((Cause.BadTag, left) ≡ d)
unfolding tagged whole_link
tag_flaws left behind d e =
    elim (chosen (leb 39 (length behind)) _ _ (Err d) e) [
      | inl (t, f) ↦ elim (chosen _ (link_behind left (link_at (drop 3 behind)) (drop 39 behind)) (Err (Cause.BadTag, left)) (Err d) f) [
        | inl (u, g) ↦ inr (no_link left (link_at (drop 3 behind)) (drop 39 behind) d g)
        | inr (u, g) ↦ inr (err_is (Cause.BadTag, left) d g)
      ]
      | inr (t, f) ↦ elim (chosen (begins_link behind) (Err (Cause.Short, left)) (Err (Cause.BadTag, left)) (Err d) f) [
        | inl (u, g) ↦ inl (err_is (Cause.Short, left) d g)
        | inr (u, g) ↦ inr (err_is (Cause.BadTag, left) d g)
      ]
    ]

-- what is behind a tag, where a link is read
abbrev IsLinked : List ℕ → Type 0
IsLinked behind = (39 ≤ length behind) × MayBeTagged behind

linked : (behind link rest : List ℕ) → is_link link ≡ true → front_of Major.Tag 42 ++ behind ≡ 0xd8 ∷ 0x2a ∷ 0x58 ∷ 0x25 ∷ 0x00 ∷ (link ++ rest) → IsLinked behind
linked behind link rest is e =
    let all : 0xd8 ∷ 0x2a ∷ behind ≡ 0xd8 ∷ 0x2a ∷ 0x58 ∷ 0x25 ∷ 0x00 ∷ (link ++ rest) = ap (λ (l : List ℕ). l ++ behind) (sym front_42) ∙ e in
    let parts : behind ≡ 0x58 ∷ 0x25 ∷ 0x00 ∷ (link ++ rest) = cc in
    let len : length link ≡ 36 = link_length link is in
    let front : take 39 behind ++ [] ≡ 0x58 ∷ 0x25 ∷ 0x00 ∷ link = append-nil (take 39 behind) ∙ ap (take 39) parts ∙ take_at (0x58 ∷ 0x25 ∷ 0x00 ∷ link) rest 39 (omega (arith, len)) in
    (omega (arith, ap (λ (l : List ℕ). length l) parts, length-append link rest, len), ([], (link, is, front)))

-- a first byte that is none of a tag
first_is : (a b : ℕ) (xs ys : List ℕ) → a ∷ xs ≡ b ∷ ys → a ≡ b
first_is a b xs ys e = cc

other_first : (major : Major) (n : ℕ) (behind rest : List ℕ) → major_number major < 6 → n < 2 ^ 64 → front_of Major.Tag 42 ++ behind ≡ front_of major n ++ rest → ⊥
other_first major n behind rest m below e =
    let here = argument_again 42 behind (omega arith) in
    let there = argument_again n rest below in
    absurd (omega (arith, m, here.info_below, there.info_below, first_is (32 * 6 + info_of 42) (32 * major_number major + info_of n) (tail_of 42 ++ behind) (tail_of n ++ rest) e))

link_read : (behind : List ℕ) (x : Head × List ℕ) → IsHead (front_of Major.Tag 42 ++ behind) x → IsLinked behind
link_read behind (Head.Int (pos n), rest) h = absurd (other_first Major.Unsigned n behind rest (omega arith) (omega (arith, h.1)) h.0.parts)
link_read behind (Head.Int (negsuc n), rest) h = absurd (other_first Major.Negative n behind rest (omega arith) (omega (arith, h.1)) h.0.parts)
link_read behind (Head.Bytes n, rest) h = absurd (other_first Major.Bytes n behind rest (omega arith) h.1 h.0.parts)
link_read behind (Head.Text n, rest) h = absurd (other_first Major.Text n behind rest (omega arith) h.1 h.0.parts)
link_read behind (Head.List n, rest) h = absurd (other_first Major.List n behind rest (omega arith) h.1 h.0.parts)
link_read behind (Head.Map n, rest) h = absurd (other_first Major.Map n behind rest (omega arith) h.1 h.0.parts)
link_read behind (Head.Link link, rest) h = linked behind link rest h.1.0 h.0.parts
link_read behind (Head.Bool false, rest) h = absurd (omega (arith, first_is 0xd8 0xf4 (0x2a ∷ behind) rest (ap (λ (l : List ℕ). l ++ behind) (sym front_42) ∙ h.0.parts)))
link_read behind (Head.Bool true, rest) h = absurd (omega (arith, first_is 0xd8 0xf5 (0x2a ∷ behind) rest (ap (λ (l : List ℕ). l ++ behind) (sym front_42) ∙ h.0.parts)))
link_read behind (Head.Null, rest) h = absurd (omega (arith, first_is 0xd8 0xf6 (0x2a ∷ behind) rest (ap (λ (l : List ℕ). l ++ behind) (sym front_42) ∙ h.0.parts)))

module _ (behind : List ℕ) (fits : IsBytes (front_of Major.Tag 42 ++ behind)) where
  abbrev left : ℕ
  left = length (front_of Major.Tag 42 ++ behind)

  behind_read : head_at (front_of Major.Tag 42 ++ behind) ≡ tagged left behind
  unfolding major_of
  behind_read = front_again Major.Tag 42 behind (omega arith)

  not_cut : IsCut (front_of Major.Tag 42 ++ behind) → ⊥
  unfolding info_of tail_of
  not_cut cut = absurd (omega (arith, cut))

  -- a short tag may be one of a link, and another is none
  short_may : tagged left behind ≡ Err (Cause.Short, left) → (length behind < 39) × MayBeTagged behind
  short_may e = elim (head_faults (front_of Major.Tag 42 ++ behind) (Cause.Short, left) fits (behind_read ∙ e)).1 [
    | inl cut ↦ absurd (not_cut cut)
    | inr (rest, parts, short, may) ↦
        let same : rest ≡ behind = sym (one_tag 42 behind rest (omega arith) parts).1 in
        subst (λ (l : List ℕ). (length l < 39) × MayBeTagged l) same (short, may)
  ]

  bad_may_not : tagged left behind ≡ Err (Cause.BadTag, left) → MayBeTagged behind → ⊥
  bad_may_not e may = elim (head_faults (front_of Major.Tag 42 ++ behind) (Cause.BadTag, left) fits (behind_read ∙ e)).1 [
    | inl (n, rest, below, parts, other) ↦ absurd (other (sym (one_tag n behind rest below parts).0))
    | inr (rest, parts, none) ↦ absurd (none (subst MayBeTagged (one_tag 42 behind rest (omega arith) parts).1 may))
  ]

  none_read : (MayBeTagged behind → ⊥) → HeadFails Cause.BadTag (front_of Major.Tag 42 ++ behind)
  none_read none = behind_read ∙ elim (tagged left behind) as (λ r. tagged left behind ≡ r → r ≡ Err (Cause.BadTag, left)) [
    | Ok x ↦ λ e. absurd (none (link_read behind x (head_takes (front_of Major.Tag 42 ++ behind) x fits (behind_read ∙ e))).1)
    | Err d ↦ λ e. elim (tag_flaws left behind d e) [
      | inl f ↦ absurd (none (short_may (e ∙ ap (λ (g : Flaw). Err g) (sym f))).1)
      | inr f ↦ ap (λ (g : Flaw). Err g) (sym f)
    ]
  ] refl

  cut_read : length behind < 39 → MayBeTagged behind → HeadFails Cause.Short (front_of Major.Tag 42 ++ behind)
  cut_read short may = behind_read ∙ elim (tagged left behind) as (λ r. tagged left behind ≡ r → r ≡ Err (Cause.Short, left)) [
    | Ok x ↦ λ e. absurd (omega (arith, short, (link_read behind x (head_takes (front_of Major.Tag 42 ++ behind) x fits (behind_read ∙ e))).0))
    | Err d ↦ λ e. elim (tag_flaws left behind d e) [
      | inl f ↦ ap (λ (g : Flaw). Err g) (sym f)
      | inr f ↦ absurd (bad_may_not (e ∙ ap (λ (g : Flaw). Err g) (sym f)) may)
    ]
  ] refl

-- ---- all heads

pub head_fails : (here : List ℕ) (cause : Cause) → IsBytes here → BreaksHead cause here → HeadFails cause here
head_fails here Cause.Short fits (inl cut) = cut_fails here cut
head_fails here Cause.Short fits (inr (behind, parts, short, may)) = subst (HeadFails Cause.Short) (sym parts) (cut_read behind (subst IsBytes parts fits) short may)
head_fails here Cause.NotShortest fits h = long_fails here h
head_fails here Cause.Indefinite fits h = reserved_fails here h
head_fails here Cause.KeyOrder fits h = absurd h
head_fails here Cause.BadText fits h = absurd h
head_fails here Cause.BadTag fits (inl (n, rest, below, parts, other)) = subst (HeadFails Cause.BadTag) (sym parts) (tag_read n rest below other)
head_fails here Cause.BadTag fits (inr (behind, parts, none)) = subst (HeadFails Cause.BadTag) (sym parts) (none_read behind (subst IsBytes parts fits) none)
head_fails here Cause.BadSimple fits h = simple_fails here h
head_fails here Cause.TooDeep fits h = absurd h
head_fails here Cause.IntRange fits h = range_fails here h

-- What a fault of a head says of the bytes there.
use Rattle.std.proofs.Common.{◌≡◌, ℕ, suc, ◌+◌, ◌-◌, ◌*◌, ◌%◌, ◌^◌, ◌<◌, ◌≤◌, ◌⊎◌, inl, inr, pos, negsuc, Bool, true, false, cond, ltb, leb, eqb, ◌&&◌, ◌||◌, List, [], ◌∷◌, ◌++◌, length, take, drop, Option, Some, None, Result, Ok, Err, refl, sym, ap, subst, ◌∙◌, append_assoc, arith}
use Rattle.std.specs.Prelude.{◌≢◌}
use Rattle.std.specs.Int.{Width, w8, w16, w32, w64, byte_len, from_be_bytes}
use Rattle.std.proofs.Math.ListN.{replicate}
use Rattle.std.proofs.lemmas.Bool.{and_parts, or_cases, or_parts, cases_lt, ltb-true, ltb-false, eqb-true, eqb-false}
use Rattle.std.proofs.lemmas.Bool.Decides.{nat_tests}
use Rattle.std.proofs.lemmas.List.{append-nil, take_all, take-append-drop, length-append, length-take, length-replicate}
use Rattle.at_cid.specs.Link.{IsBytes, is_link, link_at, prefix_of}
use Rattle.at_cid.specs.declared.cid.Kind.TheVariants.{Node, Raw}
use Rattle.at_cid.proofs.Links.{link_length}
use Rattle.at_cbor.specs.declared.major.Major.{Major}
use Rattle.at_cbor.specs.declared.fault.Cause.{Cause}
use Rattle.at_cbor.specs.declared.head.Head.{Head}
use Rattle.at_cbor.specs.Heads.{Flaw, wide_at, argument_at, least_of, agrees, begins_link, link_behind, whole_link, tagged, simple_of, is_long, major_of, argued, head_at}
use Rattle.at_cbor.specs.Majors.{major_number, major_in}
use Rattle.at_cbor.specs.Encoding.{tail_of, front_of}
use Rattle.at_cbor.specs.Faults.{argument_len, wide_for, MayBeTagged, BreaksHead, IsLongForm}
use Rattle.at_cbor.proofs.Steps.{chosen}
use Rattle.at_cbor.proofs.Fronts.{IsWide, wide8, wide16, wide32, wide64, wide_takes, form_0, form_1, form_2, form_3, argument_takes}
use Rattle.at_cbor.proofs.HeadLaws.{tagged_again}
use Rattle.at_cbor.proofs.Majors.{number_in, long_of, short_of}

-- the fault of a step is the one that was made
pub err_is : {A : Type 0} (c d : Flaw) → (let r : Result A Flaw = Err c in r) ≡ Err d → c ≡ d
err_is c d e = cc

-- the rule is broken where the bytes begin
abbrev pub IsHeadFault : List ℕ → Flaw → Type 0
IsHeadFault bytes d = (d.1 ≡ length bytes) × BreaksHead d.0 bytes

made_fault : (bytes : List ℕ) (c d : Flaw) → (let r : Result (Head × List ℕ) Flaw = Err c in r) ≡ Err d → IsHeadFault bytes c → IsHeadFault bytes d
made_fault bytes c d e is = subst (IsHeadFault bytes) (err_is c d e) is

-- ---- arguments

none_if : (b : Bool) (x : ℕ × List ℕ) → cond b None (Some x) ≡ None → b ≡ true
none_if true x e = refl
none_if false x e = absurd cc

some_if : (b : Bool) (x y : ℕ × List ℕ) → cond b None (Some x) ≡ Some y → b ≡ false
some_if true x y e = absurd cc
some_if false x y e = refl

wide_cut : (w : Width) (bytes : List ℕ) → wide_at w bytes ≡ None → length bytes < byte_len w
wide_cut w bytes e = ltb-true (length bytes) (byte_len w) (none_if (ltb (length bytes) (byte_len w)) (from_be_bytes w (take (byte_len w) bytes), drop (byte_len w) bytes) e)

wide_there : (w : Width) (bytes : List ℕ) (a : ℕ × List ℕ) → wide_at w bytes ≡ Some a → byte_len w ≤ length bytes
wide_there w bytes a e = ltb-false (length bytes) (byte_len w) (some_if (ltb (length bytes) (byte_len w)) (from_be_bytes w (take (byte_len w) bytes), drop (byte_len w) bytes) a e)

argument_cut : (info : ℕ) (bytes : List ℕ) → argument_at info bytes ≡ None → length bytes < argument_len info
unfolding argument_at
argument_cut info bytes e =
    elim (chosen (eqb info 24) (wide_at w8 bytes) _ None e) [
      | inl (t, f) ↦ subst (λ (i : ℕ). length bytes < argument_len i) (sym (eqb-true info 24 t)) (wide_cut w8 bytes f)
      | inr (t, e25) ↦ elim (chosen (eqb info 25) (wide_at w16 bytes) _ None e25) [
        | inl (u, f) ↦ subst (λ (i : ℕ). length bytes < argument_len i) (sym (eqb-true info 25 u)) (wide_cut w16 bytes f)
        | inr (u, e26) ↦ elim (chosen (eqb info 26) (wide_at w32 bytes) _ None e26) [
          | inl (v, f) ↦ subst (λ (i : ℕ). length bytes < argument_len i) (sym (eqb-true info 26 v)) (wide_cut w32 bytes f)
          | inr (v, e27) ↦ elim (chosen (eqb info 27) (wide_at w64 bytes) _ None e27) [
            | inl (w, f) ↦ subst (λ (i : ℕ). length bytes < argument_len i) (sym (eqb-true info 27 w)) (wide_cut w64 bytes f)
            | inr (w, f) ↦ absurd cc
          ]
        ]
      ]
    ]

argument_there : (info : ℕ) (bytes : List ℕ) (a : ℕ × List ℕ) → argument_at info bytes ≡ Some a → argument_len info ≤ length bytes
unfolding argument_at
argument_there info bytes a e =
    elim (chosen (eqb info 24) (wide_at w8 bytes) _ (Some a) e) [
      | inl (t, f) ↦ subst (λ (i : ℕ). argument_len i ≤ length bytes) (sym (eqb-true info 24 t)) (wide_there w8 bytes a f)
      | inr (t, e25) ↦ elim (chosen (eqb info 25) (wide_at w16 bytes) _ (Some a) e25) [
        | inl (u, f) ↦ subst (λ (i : ℕ). argument_len i ≤ length bytes) (sym (eqb-true info 25 u)) (wide_there w16 bytes a f)
        | inr (u, e26) ↦ elim (chosen (eqb info 26) (wide_at w32 bytes) _ (Some a) e26) [
          | inl (v, f) ↦ subst (λ (i : ℕ). argument_len i ≤ length bytes) (sym (eqb-true info 26 v)) (wide_there w32 bytes a f)
          | inr (v, e27) ↦ elim (chosen (eqb info 27) (wide_at w64 bytes) _ (Some a) e27) [
            | inl (w, f) ↦ subst (λ (i : ℕ). argument_len i ≤ length bytes) (sym (eqb-true info 27 w)) (wide_there w64 bytes a f)
            | inr (w, f) ↦ rw (t, u, v, w) (omega arith)
          ]
        ]
      ]
    ]

-- ---- forms that are longer than needed

tail_0 : (n : ℕ) → n < 24 → length (tail_of n) < 1
tail_0 n h = rw (form_0 n h).1 (omega arith)

tail_1 : (n : ℕ) → n < 2 ^ 8 → length (tail_of n) < 2
tail_1 n h = elim (cases_lt n 24) [ inl lt ↦ omega (arith, tail_0 n lt) | inr le ↦ rw (form_1 n le h).1 (omega arith) ]

tail_2 : (n : ℕ) → n < 2 ^ 16 → length (tail_of n) < 4
tail_2 n h = elim (cases_lt n (2 ^ 8)) [ inl lt ↦ omega (arith, tail_1 n lt) | inr le ↦ rw (form_2 n le h).1 (omega arith) ]

tail_4 : (n : ℕ) → n < 2 ^ 32 → length (tail_of n) < 8
tail_4 n h = elim (cases_lt n (2 ^ 16)) [ inl lt ↦ omega (arith, tail_2 n lt) | inr le ↦ rw (form_3 n le h).1 (omega arith) ]

-- a form of which every argument below its least has a shorter one
long_in : (w : Width) (k low limit : ℕ) → IsWide w limit → wide_for k ≡ Some w → ((n : ℕ) → n < least_of k → length (tail_of n) < byte_len w)
    → (first : ℕ) (bytes : List ℕ) (a : ℕ × List ℕ) → first < 256 → major_in first ≢ Major.Simple → IsBytes bytes → eqb (first % 32) k ≡ true → wide_at w bytes ≡ Some a → ltb a.0 (least_of (first % 32)) ≡ true → IsLongForm (first ∷ bytes)
long_in w k low limit wide form shorter first bytes a small other fits t found least =
    let is = eqb-true (first % 32) k t in
    let taken = wide_takes w limit wide bytes a fits found in
    let below : a.0 < least_of k = subst (λ (i : ℕ). a.0 < least_of i) is (ltb-true a.0 (least_of (first % 32)) least) in
    let head : first ≡ 32 * major_number (major_in first) + k = omega (arith, is, number_in first small) in
    (major_in first, k, w, a.0, a.1, other, form, ap (λ (n : ℕ). n ∷ bytes) head ∙ ap (λ (l : List ℕ). (32 * major_number (major_in first) + k) ∷ l) taken.0.parts, shorter a.0 below)

long_form : (first : ℕ) (bytes : List ℕ) (a : ℕ × List ℕ) → first < 256 → major_in first ≢ Major.Simple → IsBytes bytes → argument_at (first % 32) bytes ≡ Some a → ltb a.0 (least_of (first % 32)) ≡ true → IsLongForm (first ∷ bytes)
unfolding argument_at
long_form first bytes a small other fits e least =
    elim (chosen (eqb (first % 32) 24) (wide_at w8 bytes) _ (Some a) e) [
      | inl (t, f) ↦ long_in w8 24 24 (2 ^ 8) wide8 refl (λ n h. tail_0 n h) first bytes a small other fits t f least
      | inr (t, e25) ↦ elim (chosen (eqb (first % 32) 25) (wide_at w16 bytes) _ (Some a) e25) [
        | inl (u, f) ↦ long_in w16 25 (2 ^ 8) (2 ^ 16) wide16 refl (λ n h. tail_1 n h) first bytes a small other fits u f least
        | inr (u, e26) ↦ elim (chosen (eqb (first % 32) 26) (wide_at w32 bytes) _ (Some a) e26) [
          | inl (v, f) ↦ long_in w32 26 (2 ^ 16) (2 ^ 32) wide32 refl (λ n h. tail_2 n h) first bytes a small other fits v f least
          | inr (v, e27) ↦ elim (chosen (eqb (first % 32) 27) (wide_at w64 bytes) _ (Some a) e27) [
            | inl (w, f) ↦ long_in w64 27 (2 ^ 32) (2 ^ 64) wide64 refl (λ n h. tail_4 n h) first bytes a small other fits w f least
            | inr (w, f) ↦
                let none : least_of (first % 32) ≡ 0 = rw (t, u, v, w) refl in
                absurd (omega (arith, ltb-true a.0 (least_of (first % 32)) least, none))
          ]
        ]
      ]
    ]

-- ---- tags

-- of two lists one of which begins the other, both go on to the same
pub record Joins (xs ys : List ℕ) : Type 0 where
  pub more : List ℕ
  pub behind : List ℕ
  pub same : xs ++ more ≡ ys ++ behind
  pub short : length behind ≤ length xs - length ys

agreed_join : (xs ys : List ℕ) → agrees xs ys ≡ true → Joins xs ys
agreed_join [] ys e = record { more = ys; behind = []; same = sym (append-nil ys); short = omega arith }
agreed_join (x ∷ xs) [] e = record { more = []; behind = x ∷ xs; same = append-nil (x ∷ xs); short = omega arith }
agreed_join (x ∷ xs) (y ∷ ys) e =
    let parts = and_parts (eqb x y) (agrees xs ys) e in
    let others = agreed_join xs ys parts.1 in
    record { more = others.more; behind = others.behind; same = ap (λ (n : ℕ). n ∷ (xs ++ others.more)) (eqb-true x y parts.0) ∙ ap (λ (l : List ℕ). y ∷ l) others.same; short = omega (arith, others.short) }

same_head : (x y : ℕ) (xs ys : List ℕ) → x ∷ xs ≡ y ∷ ys → (x ≡ y) × (xs ≡ ys)
same_head x y xs ys e = (cc, cc)

joined_agree : (xs ys more behind : List ℕ) → xs ++ more ≡ ys ++ behind → agrees xs ys ≡ true
joined_agree [] ys more behind e = refl
joined_agree (x ∷ xs) [] more behind e = refl
joined_agree (x ∷ xs) (y ∷ ys) more behind e =
    let parts = same_head x y (xs ++ more) (ys ++ behind) e in
    let test : eqb x y ≡ true = grind (arith, nat_tests, parts.0) in
    rw (test, joined_agree xs ys more behind parts.1) refl

abbrev zeros : ℕ → List ℕ
zeros n = replicate n 0

-- too few bytes, which agree with what begins a link, may be followed by the rest of one
may_be : (codec : ℕ) (behind : List ℕ) → ((digest : List ℕ) → length digest ≡ 32 → is_link (0x01 ∷ codec ∷ 0x12 ∷ 0x20 ∷ digest) ≡ true) → length behind < 39 → agrees behind (0x58 ∷ 0x25 ∷ 0x00 ∷ 0x01 ∷ codec ∷ 0x12 ∷ 0x20 ∷ []) ≡ true → MayBeTagged behind
may_be codec behind linked short e =
    let j = agreed_join behind (0x58 ∷ 0x25 ∷ 0x00 ∷ 0x01 ∷ codec ∷ 0x12 ∷ 0x20 ∷ []) e in
    let len : length (j.behind ++ zeros (32 - length j.behind)) ≡ 32 = omega (arith, j.short, short, length-append j.behind (zeros (32 - length j.behind)), length-replicate {A = ℕ} (32 - length j.behind) 0) in (
      j.more ++ zeros (32 - length j.behind),
      (
        0x01 ∷ codec ∷ 0x12 ∷ 0x20 ∷ (j.behind ++ zeros (32 - length j.behind)),
        linked (j.behind ++ zeros (32 - length j.behind)) len,
        ap (λ (l : List ℕ). l ++ (j.more ++ zeros (32 - length j.behind))) (take_all 39 behind (omega (arith, short)))
            ∙ sym (append_assoc behind j.more (zeros (32 - length j.behind)))
            ∙ ap (λ (l : List ℕ). l ++ zeros (32 - length j.behind)) j.same,
      ),
    )

node_link : (digest : List ℕ) → length digest ≡ 32 → is_link (0x01 ∷ 0x71 ∷ 0x12 ∷ 0x20 ∷ digest) ≡ true
node_link digest len = ap (λ (n : ℕ). eqb n 32) len

raw_link : (digest : List ℕ) → length digest ≡ 32 → is_link (0x01 ∷ 0x55 ∷ 0x12 ∷ 0x20 ∷ digest) ≡ true
raw_link digest len = ap (λ (n : ℕ). eqb n 32) len

begun : (behind : List ℕ) → length behind < 39 → begins_link behind ≡ true → MayBeTagged behind
begun behind short e =
    elim (or_cases (agrees behind (0x58 ∷ 0x25 ∷ 0x00 ∷ prefix_of Node)) (agrees behind (0x58 ∷ 0x25 ∷ 0x00 ∷ prefix_of Raw)) e) [
      | inl h ↦ may_be 0x71 behind node_link short h
      | inr h ↦ may_be 0x55 behind raw_link short h
    ]

-- a link begins as one of the two kinds
pub record IsPrefixed (link : List ℕ) : Type 0 where
  pub digest : List ℕ
  pub codec : ℕ
  pub known : (codec ≡ 0x71) ⊎ (codec ≡ 0x55)
  pub parts : link ≡ 0x01 ∷ codec ∷ 0x12 ∷ 0x20 ∷ digest

prefixed : (link : List ℕ) → is_link link ≡ true → IsPrefixed link
prefixed [] h = absurd cc
prefixed (a ∷ []) h = absurd cc
prefixed (a ∷ b ∷ []) h = absurd cc
prefixed (a ∷ b ∷ c ∷ []) h = absurd cc
prefixed (a ∷ b ∷ c ∷ d ∷ digest) h =
    let t5 = and_parts (eqb a 0x01 && (eqb b 0x71 || eqb b 0x55) && eqb c 0x12 && eqb d 0x20) (eqb (length digest) 32) h in
    let t4 = and_parts (eqb a 0x01 && (eqb b 0x71 || eqb b 0x55) && eqb c 0x12) (eqb d 0x20) t5.0 in
    let t3 = and_parts (eqb a 0x01 && (eqb b 0x71 || eqb b 0x55)) (eqb c 0x12) t4.0 in
    let t2 = and_parts (eqb a 0x01) (eqb b 0x71 || eqb b 0x55) t3.0 in
    let known : (b ≡ 0x71) ⊎ (b ≡ 0x55) = elim (or_cases (eqb b 0x71) (eqb b 0x55) t2.1) [ inl p ↦ inl (eqb-true b 0x71 p) | inr p ↦ inr (eqb-true b 0x55 p) ] in
    record { digest = digest; codec = b; known = known; parts = rw (eqb-true a 0x01 t2.0, eqb-true c 0x12 t3.1, eqb-true d 0x20 t4.1) refl }

not_begun : (behind : List ℕ) → length behind < 39 → begins_link behind ≡ false → MayBeTagged behind → ⊥
not_begun behind short e may =
    let tests = or_parts (agrees behind (0x58 ∷ 0x25 ∷ 0x00 ∷ prefix_of Node)) (agrees behind (0x58 ∷ 0x25 ∷ 0x00 ∷ prefix_of Raw)) e in
    let p = prefixed may.1.0 may.1.1 in
    let joined : behind ++ may.0 ≡ 0x58 ∷ 0x25 ∷ 0x00 ∷ 0x01 ∷ p.codec ∷ 0x12 ∷ 0x20 ∷ p.digest = ap (λ (l : List ℕ). l ++ may.0) (sym (take_all 39 behind (omega (arith, short)))) ∙ may.1.2 ∙ ap (λ (l : List ℕ). 0x58 ∷ 0x25 ∷ 0x00 ∷ l) p.parts in
    elim p.known [
      | inl h ↦ absurd (clash (joined_agree behind (0x58 ∷ 0x25 ∷ 0x00 ∷ prefix_of Node) may.0 p.digest (joined ∙ ap (λ (n : ℕ). 0x58 ∷ 0x25 ∷ 0x00 ∷ 0x01 ∷ n ∷ 0x12 ∷ 0x20 ∷ p.digest) h)) tests.0)
      | inr h ↦ absurd (clash (joined_agree behind (0x58 ∷ 0x25 ∷ 0x00 ∷ prefix_of Raw) may.0 p.digest (joined ∙ ap (λ (n : ℕ). 0x58 ∷ 0x25 ∷ 0x00 ∷ 0x01 ∷ n ∷ 0x12 ∷ 0x20 ∷ p.digest) h)) tests.1)
    ]
  where
    clash : {b : Bool} → b ≡ true → b ≡ false → ⊥
    clash p q = cc

-- 39 bytes that may be such are such, and are read
whole_read : (left : ℕ) (behind : List ℕ) → 39 ≤ length behind → MayBeTagged behind → (x : Head × List ℕ) × (tagged left behind ≡ Ok x)
whole_read left behind long may =
    let len = link_length may.1.0 may.1.1 in
    let none : length may.0 ≡ 0 = omega (arith, ap length may.1.2, length-append (take 39 behind) may.0, length-take 39 behind, len, long) in
    let nil : may.0 ≡ [] = empty may.0 none in
    let front : take 39 behind ≡ 0x58 ∷ 0x25 ∷ 0x00 ∷ may.1.0 = sym (append-nil (take 39 behind)) ∙ ap (λ (l : List ℕ). take 39 behind ++ l) (sym nil) ∙ may.1.2 in
    let all : behind ≡ 0x58 ∷ 0x25 ∷ 0x00 ∷ (may.1.0 ++ drop 39 behind) = sym (take-append-drop 39 behind) ∙ ap (λ (l : List ℕ). l ++ drop 39 behind) front in
    ((Head.Link may.1.0, drop 39 behind), ap (tagged left) all ∙ tagged_again left may.1.0 (drop 39 behind) may.1.1 len)
  where
    empty : (xs : List ℕ) → length xs ≡ 0 → xs ≡ []
    empty [] e = refl
    empty (x ∷ xs) e = absurd (omega (arith, e))

behind_err : (left : ℕ) (found : Option (List ℕ)) (rest : List ℕ) (d : Flaw) → link_behind left found rest ≡ Err d → (Cause.BadTag, left) ≡ d
behind_err left None rest d e = err_is (Cause.BadTag, left) d e
behind_err left (Some link) rest d e = absurd cc

whole_err : (left : ℕ) (behind : List ℕ) (d : Flaw) → whole_link left behind ≡ Err d → (Cause.BadTag, left) ≡ d
unfolding whole_link
whole_err left behind d e =
    elim (chosen _ (link_behind left (link_at (drop 3 behind)) (drop 39 behind)) (Err (Cause.BadTag, left)) (Err d) e) [
      | inl (t, f) ↦ behind_err left (link_at (drop 3 behind)) (drop 39 behind) d f
      | inr (t, f) ↦ err_is (Cause.BadTag, left) d f
    ]

not_both : {x : Head × List ℕ} {d : Flaw} (r : Result (Head × List ℕ) Flaw) → r ≡ Ok x → r ≡ Err d → ⊥
not_both r p q = cc

tagged_faults : (left : ℕ) (behind : List ℕ) (d : Flaw) → left ≡ length (front_of Major.Tag 42 ++ behind) → tagged left behind ≡ Err d → IsHeadFault (front_of Major.Tag 42 ++ behind) d
unfolding tagged
tagged_faults left behind d here e =
    elim (cases_lt (length behind) 39) [
      | inl short ↦ short_faults short
      | inr long ↦ subst (IsHeadFault (front_of Major.Tag 42 ++ behind)) (whole_err left behind d (whole_is long)) (here, inr (behind, refl, λ may. not_both (tagged left behind) (whole_read left behind long may).1 e))
    ]
  where
    whole_is : 39 ≤ length behind → whole_link left behind ≡ Err d
    whole_is long = let t : leb 39 (length behind) ≡ true = grind (arith, nat_tests, long) in rw t at e

    short_faults : length behind < 39 → IsHeadFault (front_of Major.Tag 42 ++ behind) d
    short_faults short =
        let t : leb 39 (length behind) ≡ false = grind (arith, nat_tests, short) in
        elim (chosen (begins_link behind) (Err (Cause.Short, left)) (Err (Cause.BadTag, left)) (Err d) (rw t at e)) [
          | inl (u, f) ↦ made_fault (front_of Major.Tag 42 ++ behind) (Cause.Short, left) d f (here, inr (behind, refl, short, begun behind short u))
          | inr (u, f) ↦ made_fault (front_of Major.Tag 42 ++ behind) (Cause.BadTag, left) d f (here, inr (behind, refl, λ may. not_begun behind short u may))
        ]

-- ---- all heads

range_faults : (major : Major) (n left : ℕ) (made : Head) (rest : List ℕ) (d : Flaw) → (front_of major n ++ rest ≡ front_of Major.Unsigned n ++ rest) ⊎ (front_of major n ++ rest ≡ front_of Major.Negative n ++ rest) → n < 2 ^ 64 → left ≡ length (front_of major n ++ rest)
    → cond {A = Result (Head × List ℕ) Flaw} (ltb n (2 ^ 63)) (Ok (made, rest)) (Err (Cause.IntRange, left)) ≡ Err d → IsHeadFault (front_of major n ++ rest) d
range_faults major n left made rest d whole below here e =
    elim (chosen (ltb n (2 ^ 63)) (Ok (made, rest)) (Err (Cause.IntRange, left)) (Err d) e) [
      | inl (t, f) ↦ absurd cc
      | inr (t, f) ↦ made_fault (front_of major n ++ rest) (Cause.IntRange, left) d f (here, (n, rest, below, whole, ltb-false n (2 ^ 63) t))
    ]

major_faults : (major : Major) (first left n : ℕ) (rest : List ℕ) (d : Flaw) → major ≢ Major.Simple → n < 2 ^ 64 → left ≡ length (front_of major n ++ rest) → major_of major first left n rest ≡ Err d → IsHeadFault (front_of major n ++ rest) d
unfolding major_of
major_faults Major.Unsigned first left n rest d other below here e = range_faults Major.Unsigned n left (Head.Int (pos n)) rest d (inl refl) below here e
major_faults Major.Negative first left n rest d other below here e = range_faults Major.Negative n left (Head.Int (negsuc n)) rest d (inr refl) below here e
major_faults Major.Bytes first left n rest d other below here e = absurd cc
major_faults Major.Text first left n rest d other below here e = absurd cc
major_faults Major.List first left n rest d other below here e = absurd cc
major_faults Major.Map first left n rest d other below here e = absurd cc
major_faults Major.Tag first left n rest d other below here e =
    elim (chosen (eqb n 42) (tagged left rest) (Err (Cause.BadTag, left)) (Err d) e) [
      | inl (t, f) ↦
          let is : n ≡ 42 = eqb-true n 42 t in
          subst (λ (k : ℕ). IsHeadFault (front_of Major.Tag k ++ rest) d) (sym is) (tagged_faults left rest d (subst (λ (k : ℕ). left ≡ length (front_of Major.Tag k ++ rest)) is here) f)
      | inr (t, f) ↦ made_fault (front_of Major.Tag n ++ rest) (Cause.BadTag, left) d f (here, inl (n, rest, below, refl, eqb-false n 42 t))
    ]
major_faults Major.Simple first left n rest d other below here e = absurd (other refl)

simple_faults : (first : ℕ) (bytes : List ℕ) (a : ℕ × List ℕ) (d : Flaw) → major_in first ≡ Major.Simple → first % 32 < 28 → argument_len (first % 32) ≤ length bytes → simple_of first (length (first ∷ bytes)) a.1 ≡ Err d → IsHeadFault (first ∷ bytes) d
simple_faults first bytes a d simple definite there e =
    elim (chosen (eqb first 0xf4) _ _ (Err d) e) [
      | inl (t, f) ↦ absurd cc
      | inr (t, e5) ↦ elim (chosen (eqb first 0xf5) _ _ (Err d) e5) [
        | inl (u, f) ↦ absurd cc
        | inr (u, e6) ↦ elim (chosen (eqb first 0xf6) _ _ (Err d) e6) [
          | inl (v, f) ↦ absurd cc
          | inr (v, f) ↦ made_fault (first ∷ bytes) (Cause.BadSimple, length (first ∷ bytes)) d f (refl, (simple, there, definite, eqb-false first 0xf4 t, eqb-false first 0xf5 u, eqb-false first 0xf6 v))
        ]
      ]
    ]

argued_faults : (first : ℕ) (bytes : List ℕ) (found : Option (ℕ × List ℕ)) (d : Flaw) → first < 256 → IsBytes bytes → argument_at (first % 32) bytes ≡ found → argued first (length (first ∷ bytes)) found ≡ Err d → IsHeadFault (first ∷ bytes) d
unfolding argued major_of
argued_faults first bytes None d small fits found e = made_fault (first ∷ bytes) (Cause.Short, length (first ∷ bytes)) d e (refl, inl (argument_cut (first % 32) bytes found))
argued_faults first bytes (Some a) d small fits found e =
    elim (chosen (leb 28 (first % 32)) (Err (Cause.Indefinite, length (first ∷ bytes))) _ (Err d) e) [
      | inl (t, f) ↦ made_fault (first ∷ bytes) (Cause.Indefinite, length (first ∷ bytes)) d f (refl, grind (arith, nat_tests))
      | inr (t, e2) ↦
          let info : first % 32 < 28 = grind (arith, nat_tests) in
          elim (chosen (is_long (major_in first) (first % 32) a.0) (Err (Cause.NotShortest, length (first ∷ bytes))) (major_of (major_in first) first (length (first ∷ bytes)) a.0 a.1) (Err d) e2) [
            | inl (u, f) ↦
                let long = long_of (major_in first) (first % 32) a.0 u in
                made_fault (first ∷ bytes) (Cause.NotShortest, length (first ∷ bytes)) d f (refl, long_form first bytes a small long.0 fits found long.1)
            | inr (u, f) ↦ elim (short_of (major_in first) (first % 32) a.0 u) [
              | inl simple ↦ simple_faults first bytes a d simple info (argument_there (first % 32) bytes a found) (ap (λ (m : Major). major_of m first (length (first ∷ bytes)) a.0 a.1) (sym simple) ∙ f)
              | inr (other, v) ↦
                  let argument = argument_takes (first % 32) bytes a info fits found v in
                  let high = number_in first small in
                  let front : front_of (major_in first) a.0 ++ a.1 ≡ first ∷ bytes = rw (← argument.taken.parts, ← argument.info_is) (ap (λ (n : ℕ). n ∷ bytes) (omega (arith, high))) in
                  subst (λ (l : List ℕ). IsHeadFault l d) front (major_faults (major_in first) first (length (first ∷ bytes)) a.0 a.1 d other argument.below (ap length (sym front)) f)
            ]
          ]
    ]

pub head_faults : (bytes : List ℕ) (d : Flaw) → IsBytes bytes → head_at bytes ≡ Err d → IsHeadFault bytes d
unfolding head_at
head_faults [] d fits e = made_fault [] (Cause.Short, 0) d e (refl, inl tt)
head_faults (first ∷ bytes) d fits e = argued_faults first bytes (argument_at (first % 32) bytes) d (fits 0) (λ i. fits (suc i)) refl e

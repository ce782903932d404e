-- What is read of an input is encoded so, and what is encoded so is read.
use Rattle.std.proofs.Common.{◌≡◌, ℕ, ◌-◌, ◌≤◌, List, ◌++◌, ◌+◌, length, take, drop, Result, Ok, Err, refl, sym, ap, subst, ◌∙◌, arith}
use Rattle.std.specs.Prelude.{IfOk, IfErr, Option, Some, None}
use Rattle.std.proofs.lemmas.List.{length-append, length-take, take_at, take-append-drop}
use Rattle.at_cid.specs.Link.{IsBytes}
use Rattle.at_cid.specs.Memory.{Fails}
use Rattle.at_cbor.specs.declared.fault.Cause.{Cause}
use Rattle.at_cbor.specs.declared.fault.CborFault.{CborFault}
use Rattle.at_cbor.specs.declared.value.Value.{Value}
use Rattle.at_cbor.specs.Item.{Item}
use Rattle.at_cbor.specs.Encoding.{encoding, Fits}
use Rattle.at_cbor.specs.Reading.{Reading, item_at}
use Rattle.at_cbor.specs.Decoding.{fault_of, placed, decoded, Decodes}
use Rattle.at_cbor.specs.Heads.{Flaw}
use Rattle.at_cbor.specs.Faults.{IsFaulty, Blames}
use Rattle.at_cbor.specs.Laws.{IsFront}
use Rattle.at_cbor.specs.View.{item_of}
use Rattle.at_cbor.proofs.Steps.{ok_is}
use Rattle.at_cbor.proofs.Places.{Stays, item_stays}
use Rattle.at_cbor.proofs.FaultItems.{item_faults}
use Rattle.at_cbor.proofs.ItemLaws.{item_takes}
use Rattle.at_cbor.proofs.ItemAgain.{item_again}

pub rest_within : (bytes : List ℕ) (i : Item) (rest : List ℕ) → item_at 64 bytes ≡ Ok (i, rest) → length rest ≤ length bytes
rest_within bytes i rest e = subst (Stays (length bytes)) e (item_stays (length bytes) 64 bytes (omega arith))

pub flaw_within : (bytes : List ℕ) (cause : Cause) (left : ℕ) → item_at 64 bytes ≡ Err (cause, left) → left ≤ length bytes
flaw_within bytes cause left e = subst (Stays (length bytes)) e (item_stays (length bytes) 64 bytes (omega arith))

placed_ok : {A : Type 0} (n : ℕ) (r : Reading A) (y : A × ℕ) → placed n r ≡ Ok y → (x : A × List ℕ) × (r ≡ Ok x) × (y ≡ (x.0, n - length x.1))
placed_ok n (Ok x) y e = (x, refl, cc)
placed_ok n (Err e) y f = absurd cc

abbrev pub IsFound : List ℕ → Item × ℕ → Type 0
IsFound bytes y = Fits y.0 64 × (take y.1 bytes ≡ encoding y.0) × (y.1 ≤ length bytes)

pub found : (bytes : List ℕ) (y : Item × ℕ) → IsBytes bytes → decoded bytes ≡ Ok y → IsFound bytes y
unfolding decoded
found bytes y fits e =
    let read = placed_ok (length bytes) (item_at 64 bytes) y e in
    let x = read.0 in
    let item = item_takes 64 bytes read.0 fits read.1 in
    let len : length bytes - length read.0.1 ≡ length (encoding read.0.0) = omega (arith, ap length item.0.parts, length-append (encoding read.0.0) read.0.1) in
    let front : take (length bytes - length read.0.1) bytes ≡ encoding read.0.0 =
    ap (λ (n : ℕ). take n bytes) len ∙ ap (take (length (encoding read.0.0))) item.0.parts ∙ take_at (encoding read.0.0) read.0.1 (length (encoding read.0.0)) refl in
    subst (IsFound bytes) (sym read.2) (item.1, front, omega arith)

pub is_found : (bytes : List ℕ) (r : Result (Value × ℕ) CborFault) → IsBytes bytes → Decodes r (decoded bytes) → IfOk r (λ x. Fits (item_of x.0) 64 × (take x.1 bytes ≡ encoding (item_of x.0)))
is_found bytes (Ok x) fits given = let f = found bytes (item_of x.0, x.1) fits given in (f.0, f.1)
is_found bytes (Err e) fits given = tt

pub is_within : (bytes : List ℕ) (r : Result (Value × ℕ) CborFault) → IsBytes bytes → Decodes r (decoded bytes) → IfOk r (λ x. x.1 ≤ length bytes)
is_within bytes (Ok x) fits given = (found bytes (item_of x.0, x.1) fits given).2
is_within bytes (Err e) fits given = tt

-- an encoding is read, whatever follows it
pub decoded_again : (i : Item) (rest : List ℕ) → Fits i 64 → decoded (encoding i ++ rest) ≡ Ok (i, length (encoding i))
unfolding decoded
decoded_again i rest fits =
    let len : length (encoding i ++ rest) - length rest ≡ length (encoding i) = omega (arith, length-append (encoding i) rest) in
    ap (placed (length (encoding i ++ rest))) (item_again 64 i rest fits) ∙ ap (λ (n : ℕ). Ok (i, n)) len

pub is_only : (bytes : List ℕ) (r : Result (Value × ℕ) CborFault) (i : Item) (rest : List ℕ) → Decodes r (decoded bytes) → Fits i 64 → bytes ≡ encoding i ++ rest → Decodes r (Ok (i, length (encoding i)))
is_only bytes r i rest given fits e = subst (Decodes r) (ap decoded e ∙ decoded_again i rest fits) given

-- an encoding is read back, whatever follows it
pub encoded_again : (i : Item) (bytes rest : List ℕ) → Fits i 64 → bytes ≡ encoding i → decoded (bytes ++ rest) ≡ Ok (i, length bytes)
encoded_again i bytes rest fits e = subst (λ (l : List ℕ). decoded (l ++ rest) ≡ Ok (i, length l)) (sym e) (decoded_again i rest fits)

-- Spellings in front of the same bytes are of one item.
pub one_encoding : (i j : Item) (depth : ℕ) (behind other : List ℕ) → Fits i depth → Fits j depth → encoding i ++ behind ≡ encoding j ++ other → (i ≡ j) × (behind ≡ other)
one_encoding i j depth behind other fits fits_too e =
    let read : Reading Item = item_at depth (encoding i ++ behind) in
    let same = ok_is (i, behind) (j, other) (sym (item_again depth i behind fits) ∙ ap (item_at depth) e ∙ item_again depth j other fits_too) in
    (ap (λ (x : Item × List ℕ). x.0) same, ap (λ (x : Item × List ℕ). x.1) same)

-- An item is read exactly where its encoding stands in front.
pub read_front : (bytes : List ℕ) (i : Item) (n : ℕ) → IsBytes bytes → decoded bytes ≡ Ok (i, n) → IsFront bytes i n
read_front bytes i n fits e =
    let f = found bytes (i, n) fits e in
    let len : n ≡ length (encoding i) = omega (arith, ap length f.1, length-take n bytes, f.2) in
    (f.0, len, sym (take-append-drop n bytes) ∙ ap (λ (l : List ℕ). l ++ drop n bytes) f.1)

pub front_read : (bytes : List ℕ) (i : Item) (n : ℕ) → IsFront bytes i n → decoded bytes ≡ Ok (i, n)
front_read bytes i n front = ap decoded front.2 ∙ decoded_again i (drop n bytes) front.0 ∙ ap (λ (k : ℕ). Ok (i, k)) (sym front.1)

placed_err : {A : Type 0} (n : ℕ) (r : Reading A) (f : Cause × ℕ) → placed n r ≡ Err f → (d : Flaw) × (r ≡ Err d) × (f ≡ (d.0, n - d.1))
placed_err n (Ok x) f e = absurd cc
placed_err n (Err d) f e = (d, refl, cc)

-- what a fault says of the bytes at its place, and of those in front
pub faulty : (bytes : List ℕ) (f : Cause × ℕ) → IsBytes bytes → decoded bytes ≡ Err f → IsFaulty bytes f.0 f.1
unfolding decoded
faulty bytes f fits e =
    let read = placed_err (length bytes) (item_at 64 bytes) f e in
    let fault = item_faults 64 bytes read.0 fits read.1 in
    let place : length bytes - read.0.1 + length fault.0 ≡ length bytes = omega (arith, fault.1, flaw_within bytes read.0.0 read.0.1 read.1) in
    subst (λ (g : Cause × ℕ). IsFaulty bytes g.0 g.1) (sym read.2) (fault.0, place, fault.2)

is_broken : (bytes : List ℕ) (cause : Option (Cause × ℕ)) → IsBytes bytes → Fails cause (decoded bytes) → Blames bytes cause
is_broken bytes None fits given = tt
is_broken bytes (Some f) fits given = faulty bytes f fits given

pub are_broken : (bytes : List ℕ) (r : Result (Value × ℕ) CborFault) → IsBytes bytes → Decodes r (decoded bytes) → IfErr r (λ e. Blames bytes (fault_of e))
are_broken bytes (Ok x) fits given = tt
are_broken bytes (Err e) fits given = is_broken bytes (fault_of e) fits given

-- Reading on.
use Rattle.std.proofs.Common.{◌≡◌, ℕ, ◌+◌, ◌-◌, ◌<◌, ◌≤◌, List, [], ◌∷◌, ◌++◌, length, true, false, cond, ltb, ◌/◌, ◌%◌, drop, Some, None, Result, Ok, Err, refl, ap, sym, ◌∙◌, arith}
use Rattle.std.specs.FinMap as map
use Rattle.std.proofs.lemmas.List.{length-append}
use Rattle.at_cid.specs.Link.{IsBytes}
use Rattle.at_car.specs.declared.fault.CarFault.{CarFault}
use Rattle.at_car.specs.Blocks.{BlockMap, kept}
use Rattle.at_car.specs.Car.{behind, car_of}
use Rattle.at_car.specs.Form.{header_bytes, section_bytes}
use Rattle.at_car.specs.Header.{header_at}
use Rattle.at_car.specs.Varint.{groups, varint}
use Rattle.at_cbor.specs.Encoding.{encoding}
use Rattle.at_car.specs.Sections.{◌>>=◌, Section, section_at, sections_in}
use Rattle.at_car.specs.Merging.{merged}
use Rattle.at_car.proofs.Sections.{merged_first, merged_next, merged_fails, merged_last, section_shorter}
use Rattle.at_car.proofs.Takes.{header_takes, section_takes}
use Rattle.at_car.specs.Cuts.{is_cut}
use Rattle.at_car.specs.Standing.{resumed}
use Rattle.at_car.proofs.Extends.{further, further_ok, header_further, section_further, header_cut, section_cut, some_bytes}

with_roots : List (List ℕ) → Result BlockMap CarFault → Result (List (List ℕ) × BlockMap) CarFault
with_roots roots r = r >>= λ all. Ok (roots, all)

-- the header is read
pub begins : (bytes rest : List ℕ) (roots : List (List ℕ)) → is_cut bytes ≡ false → header_at bytes ≡ Some (roots, rest) → length rest ≤ length bytes → (more : List ℕ) → car_of (bytes ++ more) ≡ resumed roots map.empty (length bytes - length rest) (rest ++ more)
unfolding car_of with_roots
begins bytes rest roots cut e short more =
    let size : length (bytes ++ more) ≡ length bytes - length rest + length (rest ++ more) = omega (arith, short, length-append bytes more, length-append rest more) in
    ap (behind (length (bytes ++ more))) (header_further bytes more cut ∙ ap (further more) e)
    ∙ ap (with_roots roots) (sym (merged_first (length (bytes ++ more)) (rest ++ more)))
    ∙ ap (λ n. with_roots roots (merged map.empty (sections_in n (rest ++ more)))) size

-- no header is there
pub no_header : (bytes : List ℕ) → is_cut bytes ≡ false → header_at bytes ≡ None → (more : List ℕ) → car_of (bytes ++ more) ≡ Err CarFault.Header
unfolding car_of
no_header bytes cut e more = ap (behind (length (bytes ++ more))) (header_further bytes more cut ∙ ap (further more) e)

pub header_missing : (bytes : List ℕ) → is_cut bytes ≡ true → car_of bytes ≡ Err CarFault.Header
unfolding car_of
header_missing bytes cut = ap (behind (length bytes)) (header_cut bytes cut)

placed : (place : ℕ) (left : List ℕ) → place + length left - length left ≡ place
placed place left = omega arith

-- a section is read
pub goes_on : (place : ℕ) (left rest link block : List ℕ) (roots : List (List ℕ)) (blocks : BlockMap) → is_cut left ≡ false → section_at place left ≡ Ok ((link, block), rest) → (more : List ℕ)
    → resumed roots blocks place (left ++ more) ≡ resumed roots (kept blocks link block) (place + (length left - length rest)) (rest ++ more)
unfolding with_roots
goes_on place left rest link block roots blocks cut e more =
    let all = left ++ more in
    let some : 1 ≤ length all = omega (arith, some_bytes left cut, length-append left more) in
    let shorter : length rest < length left = section_shorter place left ((link, block), rest) e in
    let read : section_at (place + length all - length all) all ≡ Ok ((link, block), rest ++ more) = ap (λ p. section_at p all) (placed place all) ∙ section_further place left more cut ∙ ap (further_ok more) e in
    let size : place + length all ≡ place + (length left - length rest) + length (rest ++ more) = omega (arith, shorter, length-append left more, length-append rest more) in
    ap (with_roots roots) (sym (merged_next (place + length all) all blocks (kept blocks link block) link block (rest ++ more) (merged blocks (sections_in (place + length all) all)) some read refl refl))
    ∙ ap (λ n. with_roots roots (merged (kept blocks link block) (sections_in n (rest ++ more)))) size

-- a section is faulty
pub stops : (place : ℕ) (left : List ℕ) (fault : CarFault) (roots : List (List ℕ)) (blocks : BlockMap) → is_cut left ≡ false → section_at place left ≡ Err fault → (more : List ℕ) → resumed roots blocks place (left ++ more) ≡ Err fault
unfolding with_roots
stops place left fault roots blocks cut e more =
    let all = left ++ more in
    let some : 1 ≤ length all = omega (arith, some_bytes left cut, length-append left more) in
    let read : section_at (place + length all - length all) all ≡ Err fault = ap (λ p. section_at p all) (placed place all) ∙ section_further place left more cut ∙ ap (further_ok more) e in
    ap (with_roots roots) (merged_fails (place + length all) all blocks (merged blocks (sections_in (place + length all) all)) (Some fault) some read refl)

-- the last section is cut
pub stops_cut : (place : ℕ) (left : List ℕ) (roots : List (List ℕ)) (blocks : BlockMap) → is_cut left ≡ true → 1 ≤ length left → resumed roots blocks place left ≡ Err (CarFault.Section place)
unfolding with_roots
stops_cut place left roots blocks cut some =
    let read : section_at (place + length left - length left) left ≡ Err (CarFault.Section place) = ap (λ p. section_at p left) (placed place left) ∙ section_cut place left cut in
    ap (with_roots roots) (merged_fails (place + length left) left blocks (merged blocks (sections_in (place + length left) left)) (Some (CarFault.Section place)) some read refl)

-- nothing is left
pub ends : (place : ℕ) (left : List ℕ) (roots : List (List ℕ)) (blocks : BlockMap) → length left ≡ 0 → resumed roots blocks place left ≡ Ok (roots, blocks)
unfolding with_roots
ends place left roots blocks none = ap (with_roots roots) (merged_last (place + length left) left blocks (merged blocks (sections_in (place + length left) left)) none refl)

-- what is left behind a section
suffix : (front rest bytes : List ℕ) → bytes ≡ front ++ rest → drop (length bytes - length rest) bytes ≡ rest
suffix front rest bytes e =
    let long : length bytes - length rest ≡ length front = omega (arith, ap (λ (t : List ℕ). length t) e, length-append front rest) in
    ap (λ n. drop n bytes) long ∙ ap (drop (length front)) e ∙ behind_front front rest
  where
    behind_front : (front rest : List ℕ) → drop (length front) (front ++ rest) ≡ rest
    behind_front [] rest = refl
    behind_front (x ∷ front) rest = behind_front front rest

pub section_left : (place : ℕ) (left : List ℕ) (x : Section × List ℕ) → IsBytes left → section_at place left ≡ Ok x → drop (length left - length x.1) left ≡ x.1
section_left place left x fits e = let t = section_takes place left x fits e in suffix (section_bytes x.0) x.1 left t.encoded

pub header_left : (bytes : List ℕ) (x : List (List ℕ) × List ℕ) → IsBytes bytes → header_at bytes ≡ Some x → drop (length bytes - length x.1) bytes ≡ x.1
header_left bytes x fits e = let t = header_takes bytes x fits e in suffix (header_bytes t.header) x.1 bytes t.encoded

varint_some : (n : ℕ) → 1 ≤ length (varint n)
unfolding groups
varint_some n = elim (ltb n 128) as (λ t. 1 ≤ length (cond t (n ∷ []) ((128 + n % 128) ∷ groups 8 (n / 128)))) [ true ↦ omega arith | false ↦ omega arith ]

pub header_shorter : (bytes : List ℕ) (x : List (List ℕ) × List ℕ) → IsBytes bytes → header_at bytes ≡ Some x → length x.1 < length bytes
header_shorter bytes x fits e =
    let t = header_takes bytes x fits e in
    let n = length (encoding t.header) in
    omega (arith, ap (λ (b : List ℕ). length b) t.encoded, length-append (header_bytes t.header) x.1, length-append (varint n) (encoding t.header), varint_some n)

-- How many bytes the CAR of one block has.
use Rattle.std.proofs.Common.{◌≡◌, ℕ, zero, suc, ◌+◌, ◌≤◌, ◌/◌, ◌%◌, Bool, true, false, not, cond, ltb, List, [], ◌∷◌, ◌++◌, length, Option, Some, codes, pos, refl, sym, ap, ◌∙◌, arith}
use Rattle.std.specs.FinMap as map
use Rattle.std.specs.Ordering.{is_eq}
use Rattle.std.specs.Str.{bytes_eq}
use Rattle.std.proofs.lemmas.List.{length-append}
use Rattle.std.proofs.lemmas.Slice.Eq.{bytes_eq-Decides}
use Rattle.at_cid.specs.Link.{IsLink}
use Rattle.at_cid.specs.Order.{key_cmp}
use Rattle.at_cid.specs.OrderLaws.{key_total}
use Rattle.at_cid.proofs.Links.{link_length}
use Rattle.at_cid.proofs.Order.{cmp_same}
use Rattle.at_cbor.specs.Item.{Item, no_fields, field}
use Rattle.at_cbor.specs.Encoding.{info_of, tail_of, encoding, fields_encoding}
use Rattle.at_car.specs.Form.{header_bytes, section_bytes, sections_bytes}
use Rattle.at_car.specs.Sections.{Section}
use Rattle.at_car.specs.Varint.{groups, varint}
use Rattle.at_car.specs.Writing.{car_header, section_of, others, in_order, written}

-- ---- varints

groups_short : (k n : ℕ) → length (groups k n) ≤ suc k
unfolding groups
groups_short zero n = omega arith
groups_short (suc k) n =
    elim (ltb n 128) as (λ b. length (cond b (n ∷ []) ((128 + n % 128) ∷ groups k (n / 128))) ≤ suc (suc k)) [
      | true ↦ omega arith
      | false ↦ omega (arith, groups_short k (n / 128))
    ]

varint_short : (n : ℕ) → length (varint n) ≤ 10
varint_short n = groups_short 9 n

-- ---- the map of one block

none_held : (es : List Section) → length es ≡ 0 → es ≡ []
none_held [] h = refl
none_held (e ∷ es) h = absurd (omega arith)

one_entry : (link block : List ℕ) → map.entries {R = key_cmp} (map.insert {R = key_cmp} map.empty link block) ≡ (link, block) ∷ []
one_entry link block =
    let none : map.entries {X = List ℕ} {R = key_cmp} map.empty ≡ [] = none_held (map.entries {R = key_cmp} map.empty) (sym (map.len-entries {R = key_cmp} map.empty) ∙ map.len-empty key_cmp (List ℕ)) in
    map.entries-insert key_total map.empty link block ∙ ap (λ (es : List Section). map.put key_cmp link block es) none

pub found_one : (link block : List ℕ) → map.get {R = key_cmp} (map.insert {R = key_cmp} map.empty link block) link ≡ Some block
found_one link block = map.get-insert key_total map.empty link block link ∙ ap (λ o. cond (is_eq o) (Some block) (map.get {R = key_cmp} map.empty link)) (cmp_same link)

pub one_section : (link block : List ℕ) → in_order link (map.insert {R = key_cmp} map.empty link block) ≡ (link, block) ∷ []
one_section link block =
    let m = map.insert {R = key_cmp} map.empty link block in
    let itself : bytes_eq link link ≡ true = (bytes_eq-Decides link link).1 refl in
    ap (λ (o : Option (List ℕ)). section_of link o ++ others link (map.entries m)) (found_one link block)
    ∙ ap (λ (es : List Section). (link, block) ∷ others link es) (one_entry link block)
    ∙ ap (λ (b : Bool). (link, block) ∷ cond (not b) ((link, block) ∷ []) []) itself

-- ---- its CAR

header_length : (link : List ℕ) → length link ≡ 36 → length (encoding (car_header link)) ≡ 58
unfolding info_of tail_of
header_length link h =
    let version : List ℕ = fields_encoding (field (codes "version") (Item.int (pos 1)) no_fields) in
    omega (arith, h, length-append (link ++ []) version, length-append link [])

pub car_short : (link block : List ℕ) → IsLink link → length (written link (map.insert {R = key_cmp} map.empty link block)) ≤ length block + 128
unfolding written
car_short link block is =
    let long = link_length link is.link in
    let m = map.insert {R = key_cmp} map.empty link block in
    let header = car_header link in
    omega (
      arith,
      long,
      ap (λ (ss : List Section). length (sections_bytes ss)) (one_section link block),
      length-append (varint (36 + length block)) (link ++ block),
      length-append link block,
      varint_short (36 + length block),
      header_length link long,
      length-append (section_bytes (link, block)) [],
      length-append (varint (length (encoding header))) (encoding header),
      varint_short (length (encoding header)),
      length-append (header_bytes header) (sections_bytes (in_order link m)),
    )

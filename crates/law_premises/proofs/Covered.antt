-- A commit that has to be accepted: its CAR holds its commit object alone, over the empty tree.
use Rattle.std.proofs.Common.{◌≡◌, ◌⊎◌, inl, inr, ℕ, ◌+◌, ◌<◌, Bool, true, false, ltb, get_or, List, [], ◌∷◌, ◌++◌, length, None, Some, Ok, codes, pos, refl, sym, ◌∙◌, ap, lit<, arith}
use Rattle.std.specs.FinMap as map
use Rattle.std.specs.List.{list_all}
use Rattle.std.specs.Prelude.{cond}
use Rattle.std.specs.Ordering.{eq_by_cmp}
use Rattle.sha2.specs.Sha256.{sha256, digest_bytes, hash_after, compress, rounds, schedule, first_words}
use Rattle.at_cbor.specs.Item.{Item, Fields, field, no_fields}
use Rattle.at_cbor.specs.Encoding.{Fits, info_of, encoding, tail_of}
use Rattle.at_cbor.specs.declared.decoding.TheConstants.{DEPTH}
use Rattle.at_cbor.proofs.Taken.{whole_again}
use Rattle.at_cid.specs.Link.{IsBytes, cid}
use Rattle.at_cid.specs.Order.{key_cmp}
use Rattle.at_cid.specs.OrderLaws.{key_total}
use Rattle.at_car.specs.Blocks.{BlockMap}
use Rattle.at_car.specs.Car.{car_of}
use Rattle.at_car.specs.Form.{IsCar, IsSection, header_bytes, sections_bytes}
use Rattle.at_car.specs.Varint.{groups}
use Rattle.at_car.specs.Writing.{car_header}
use Rattle.at_car.specs.declared.varint.TheConstants.{VARINTS}
use Rattle.at_car.proofs.Again.{car_again}
use Rattle.at_form.specs.Forms.{did_in, node_in, tid_in}
use Rattle.at_syntax.specs.Did.{is_did}
use Rattle.at_syntax.specs.Tid.{is_tid, tid_of}
use Rattle.at_commit.specs.Commit.{commit_in, commit_of as object_of_block}
use Rattle.at_commit.specs.Fields.{is_previous, object_of}
use Rattle.at_commit.specs.Signed.{unsigned_of}
use Rattle.at_commit.specs.declared.commit.Commit.{Commit}
use Rattle.at_event.specs.Events.{IsEvent}
use Rattle.at_event.specs.Seen.{Seen}
use Rattle.event_checks.specs.Lines.{first_of}
use Rattle.event_checks.specs.Opening.{block_in, object_in, root_in}
use Rattle.event_checks.specs.Table.{car_in, open_lines}
use Rattle.mst_node.specs.Covers.{AreDistinct, IsBlockOf}
use Rattle.mst_node.specs.NodeBytes.{node_bytes}
use Rattle.mst_node.specs.Trees.{part_link, part_nodes, encode_layer}
use Rattle.commit_check.specs.Order.{HoldsCommit}
use Rattle.commit_check.specs.Step.{IsCoveredBy, empty_root}
use Rattle.law_premises.proofs.Samples.{IsTop, ascii, bytes_by, commit_of, did, event_of, header_fits, is_event_of, rev}

abbrev pub empty_digest : List ℕ
empty_digest = 157 ∷ 254 ∷ 254 ∷ 97 ∷ 221 ∷ 118 ∷ 234 ∷ 61 ∷ 202 ∷ 229 ∷ 2 ∷ 56 ∷ 128 ∷ 176 ∷ 131 ∷ 121 ∷ 213 ∷ 122 ∷ 223 ∷ 32 ∷ 72 ∷ 45 ∷ 111 ∷ 219 ∷ 226 ∷ 117 ∷ 146 ∷ 137 ∷ 246 ∷ 71 ∷ 103 ∷ 123 ∷ []

abbrev pub empty_link : List ℕ
empty_link = 0x01 ∷ 0x71 ∷ 0x12 ∷ 0x20 ∷ empty_digest

abbrev empty_block : List ℕ
empty_block = encode_layer 0 []

empty_hash : sha256 empty_block ≡ empty_digest
unfolding sha256 digest_bytes hash_after compress rounds schedule first_words node_bytes part_link info_of tail_of
empty_hash = refl

pub empty_is : empty_root ≡ empty_link
unfolding cid
empty_is = ap (λ (d : List ℕ). 0x01 ∷ 0x71 ∷ 0x12 ∷ 0x20 ∷ d) empty_hash

-- ---- the commit object

abbrev pub object : Fields
object =
    field (codes "did") (Item.text did)
    (field (codes "rev") (Item.text rev)
    (field (codes "sig") (Item.bytes [])
    (field (codes "data") (Item.link empty_link)
    (field (codes "version") (Item.int (pos 3)) no_fields))))

abbrev pub block : List ℕ
block = encoding (Item.map object)

abbrev pub digest : List ℕ
digest = 178 ∷ 53 ∷ 200 ∷ 35 ∷ 126 ∷ 129 ∷ 68 ∷ 150 ∷ 217 ∷ 184 ∷ 130 ∷ 253 ∷ 202 ∷ 70 ∷ 92 ∷ 53 ∷ 143 ∷ 132 ∷ 198 ∷ 78 ∷ 148 ∷ 177 ∷ 68 ∷ 191 ∷ 198 ∷ 141 ∷ 45 ∷ 88 ∷ 233 ∷ 150 ∷ 21 ∷ 139 ∷ []

abbrev pub top : List ℕ
top = 0x01 ∷ 0x71 ∷ 0x12 ∷ 0x20 ∷ digest

block_hash : sha256 block ≡ digest
unfolding sha256 digest_bytes hash_after compress rounds schedule first_words info_of tail_of
block_hash = refl

object_fits : Fits (Item.map object) DEPTH
unfolding key_cmp
object_fits = (
  lit< tt,
  lit< tt,
  (
    ascii (codes "did") refl (lit< tt),
    refl,
    ascii did refl (lit< tt),
    (
      ascii (codes "rev") refl (lit< tt),
      refl,
      ascii rev refl (lit< tt),
      (
        ascii (codes "sig") refl (lit< tt),
        refl,
        (lit< tt, λ i. lit< tt),
        (
          ascii (codes "data") refl (lit< tt),
          refl,
          (refl, bytes_by empty_link refl),
          (ascii (codes "version") refl (lit< tt), refl, lit< tt, tt),
        ),
      ),
    ),
  ),
)

abbrev pub held_object : Commit
held_object = record { did = did; rev = 0; data_root = empty_link; sig = []; unsigned = encoding (Item.map (unsigned_of object)) }

object_said : commit_in object ≡ Ok held_object
unfolding commit_in object_of is_previous did_in is_did tid_in tid_of is_tid node_in
object_said = refl

block_object : object_of_block block ≡ Ok held_object
unfolding object_of_block info_of tail_of
block_object = rw (whole_again (Item.map object) object_fits, object_said) refl

-- ---- the CAR

top_bytes : IsBytes top
top_bytes = bytes_by top refl

top_node : node_in (Item.link top) ≡ Some top
unfolding node_in
top_node = refl

pub is_top : IsTop top
is_top = record { link = refl; bytes = top_bytes; node = top_node }

abbrev pub sections : List (List ℕ × List ℕ)
sections = (top, block) ∷ []

abbrev pub car : List ℕ
car = header_bytes (car_header top) ++ sections_bytes sections

abbrev pub held : BlockMap
held = map.from_entries sections

pub car_is : (length car < 256) × (list_all (λ c. ltb c 256) car ≡ true)
unfolding groups info_of tail_of
car_is = (lit< tt, refl)

shorts : (length (encoding (car_header top)) < VARINTS) × (36 + length block < VARINTS)
unfolding info_of tail_of
shorts = (lit< tt, lit< tt)

is_section : IsSection (top, block)
is_section = record { link = refl; digest = sym block_hash; short = shorts.1 }

car_form : IsCar car (car_header top) (top ∷ []) sections
car_form = record {
  header_form = record { item = header_fits top refl top_bytes; short = shorts.0; roots = refl };
  sections_form = (is_section, tt);
  encoded = refl;
}

pub car_read : car_of car ≡ Ok (top ∷ [], held)
car_read = car_again car (car_header top) (top ∷ []) sections car_form

found : (q : List ℕ) → map.get held q ≡ cond (eq_by_cmp key_cmp q top) (Some block) None
found q = map.get-from_entries key_total sections q

top_found : map.get held top ≡ Some block
unfolding key_cmp
top_found = found top ∙ refl

-- ---- the event

abbrev pub covered : Seen
covered = event_of top car

pub is_covered_event : IsEvent covered
is_covered_event = is_event_of top is_top car (bytes_by car car_is.1) (omega (arith, car_is.0))

pub nothing_shown : first_of (open_lines (commit_of top car) None) ≡ None
unfolding groups info_of tail_of
nothing_shown = rw (car_read, top_found, block_object) refl

pub object_there : object_in (car_in (commit_of top car)) ≡ Some held_object
object_there = rw (car_read, top_found, block_object) refl

abbrev pub holds : HoldsCommit (commit_of top car)
holds = record { roots = top ∷ []; blocks = held; commit = held_object; car = car_read; object = object_there }

pub root_there : root_in (car_in (commit_of top car)) ≡ Some top
root_there = rw car_read refl

pub block_there : block_in (car_in (commit_of top car)) ≡ Some block
block_there = rw (car_read, top_found) refl

-- ---- its cover

apart : sha256 block ≡ sha256 empty_block → ⊥
apart same = let first : 178 ≡ 157 = ap (λ (d : List ℕ). get_or d 0 0) (sym block_hash ∙ same ∙ empty_hash) in absurd (omega (arith, first))

one_block : (b : List ℕ) (t : Bool) → cond t (Some block) None ≡ Some b → b ≡ block
one_block b true is = cc
one_block b false is = absurd cc

which : (b : List ℕ) → IsBlockOf held [] b → (b ≡ block) ⊎ (b ≡ empty_block)
unfolding part_nodes
which b (inl there) = inl (one_block b (eq_by_cmp key_cmp there.0 top) (sym (found there.0) ∙ there.2))
which b (inr (inl same)) = inr same
which b (inr (inr other)) = absurd other

same_of : (a b : List ℕ) → (a ≡ block) ⊎ (a ≡ empty_block) → (b ≡ block) ⊎ (b ≡ empty_block) → sha256 a ≡ sha256 b → a ≡ b
same_of a b (inl one) (inl other) same = one ∙ sym other
same_of a b (inl one) (inr other) same = absurd (apart (ap sha256 (sym one) ∙ same ∙ ap sha256 other))
same_of a b (inr one) (inl other) same = absurd (apart (ap sha256 (sym other) ∙ sym same ∙ ap sha256 one))
same_of a b (inr one) (inr other) same = one ∙ sym other

distinct : AreDistinct held []
distinct a b one other same = same_of a b (which a one) (which b other) same

pub is_covered : IsCoveredBy [] held empty_root empty_link
is_covered = record {
  before = [];
  after = [];
  is_map = record { formed = tt; ascends = tt; keys_only = tt };
  former_root = refl;
  later_root = empty_is;
  plays = refl;
  cover = λ b none. absurd none;
  distinct = distinct;
}

-- The blocks of a relay's own `#sync`: a CAR of one commit object, which gives its head.
use Rattle.std.proofs.Common.{◌≡◌, ℕ, ◌+◌, ◌≤◌, true, false, ◌&&◌, cond, ltb, List, [], ◌∷◌, ◌++◌, length, Option, Ok, Err, refl, sym, ap, ◌∙◌, subst, arith}
use Rattle.std.proofs.lemmas.Bool.{and_parts, ltb-false}
use Rattle.std.specs.FinMap as map
use Rattle.at_cid.specs.Link.{IsBytes}
use Rattle.at_cbor.specs.Encoding.{IsString}
use Rattle.at_cbor.specs.Taking.{whole_item}
use Rattle.at_car.specs.Blocks.{IsLinkOf}
use Rattle.at_car.specs.Car.{car_of}
use Rattle.at_car.specs.Form.{header_bytes, section_bytes, sections_bytes}
use Rattle.at_car.specs.Sections.{Section}
use Rattle.at_car.specs.Varint.{varint}
use Rattle.at_car.specs.Writing.{car_header, in_order, written}
use Rattle.at_car.proofs.Digests.{car_digests}
use Rattle.at_car.proofs.Lengths.{car_short as one_car_short, found_one, one_section}
use Rattle.at_car.proofs.Written.{written_again}
use Rattle.at_commit.specs.Commit.{commit_at, commit_of}
use Rattle.at_commit.specs.declared.commit.Commit.{Commit}
use Rattle.at_commit.specs.declared.fault.CommitFault.{CommitFault}
use Rattle.at_commit.specs.declared.reading.TheConstants.{LONGEST_BLOCK}
use Rattle.at_event.specs.declared.head.Head.{Head}
use Rattle.commit_check.proofs.Held.{bytes_left, bytes_right}
use Rattle.event_checks.specs.Opening.{CarResult, object_in_block, read_object}
use Rattle.relay_row.specs.Rules.{is_cid, is_head, is_node, is_rev}
use Rattle.relay_row.proofs.Fits.{cid_fits}
use Rattle.repo_sync.specs.Repository.{IsWhole}
use Rattle.repo_sync.specs.declared.found.Found.{Found as Checked}
use Rattle.relay_core.specs.Decide.{commit_blocks, commit_car}
use Rattle.relay_core.specs.Opening.{IsHeadIn}
use Rattle.relay_core.proofs.Returning.{one_linked}
use Rattle.relay_law.specs.Heads.{BlockGives}

-- ---- the CAR of a commit alone

pub car_short : (head : Head) (block : List ℕ) → IsLinkOf head.commit block → length block ≤ LONGEST_BLOCK → length (commit_car head block) ≤ 10000
car_short head block is few = omega (arith, few, one_car_short head.commit block is.link)

pub block_short : (block : List ℕ) (commit : Commit) → commit_of block ≡ Ok commit → length block ≤ LONGEST_BLOCK
unfolding commit_of
block_short block commit h =
    elim (ltb LONGEST_BLOCK (length block)) as (λ b. ltb LONGEST_BLOCK (length block) ≡ b → cond b (Err CommitFault.TooLong) (commit_at (whole_item block)) ≡ Ok commit → length block ≤ LONGEST_BLOCK) [
      | true ↦ λ known e. absurd cc
      | false ↦ λ known e. ltb-false LONGEST_BLOCK (length block) known
    ] refl h

pub car_again : (head : Head) (block : List ℕ) (commit : Commit) → IsLinkOf head.commit block → commit_of block ≡ Ok commit
    → car_of (commit_car head block) ≡ Ok (head.commit ∷ [], commit_blocks head block)
car_again head block commit is reads =
    let few = car_short head block is (block_short block commit reads) in
    written_again head.commit (commit_blocks head block) is.link (one_linked head.commit block is) (omega (arith, few))

pub head_in : (head : Head) (block : List ℕ) (commit : Commit) → commit_of block ≡ Ok commit → head.data_root ≡ commit.data_root
    → IsHeadIn (Ok (head.commit ∷ [], commit_blocks head block)) head.rev head
head_in head block commit reads same =
    let there = found_one head.commit block in
    record {
      block = block;
      commit = commit;
      found = record { root_is = refl; block_is = there; object_is = ap object_in_block there ∙ ap read_object reads };
      rev_is = refl;
      data_is = same;
    }

-- ---- a block that gives a head

-- where the CAR is bytes, so is its block
block_bytes : (head : Head) (block : List ℕ) → IsBytes (commit_car head block) → IsBytes block
unfolding written
block_bytes head block bytes =
    let P : List Section → Type 0 = λ ss. IsBytes (sections_bytes ss) in
    let sections = bytes_right (header_bytes (car_header head.commit)) (sections_bytes (in_order head.commit (commit_blocks head block))) bytes in
    let one = bytes_left (section_bytes (head.commit, block)) [] (subst P (one_section head.commit block) sections) in
    bytes_right head.commit block (bytes_right (varint (36 + length block)) (head.commit ++ block) one)

pub own_head : (head : Head) (block : List ℕ) → BlockGives head block → is_head head ≡ true → IsString (commit_car head block)
    → IsHeadIn (car_of (commit_car head block)) head.rev head
own_head head block is formed string =
    let links = (and_parts (is_rev head.rev) (is_node head.data_root && is_cid head.commit) formed).1 in
    let link = cid_fits head.commit (and_parts (is_node head.data_root) (is_cid head.commit) links).1 in
    let linked : IsLinkOf head.commit block = record {
      link = record { link = link.0; bytes = link.1 };
      bytes = block_bytes head block string.1;
      digest = is.digest;
    } in
    let P : CarResult → Type 0 = λ car. IsHeadIn car head.rev head in
    subst P (sym (car_again head block is.commit linked is.reads)) (head_in head block is.commit is.reads is.data_is)

-- the commit's block of a whole repository gives its head
pub whole_block : (did : List ℕ) (least : Option ℕ) (bytes : List ℕ) (checked : Checked) → IsWhole did least bytes checked → BlockGives checked.head checked.block
whole_block did least bytes checked is =
    let h = is.holds in
    let P : Checked → Type 0 = λ f. BlockGives f.head f.block in
    subst P (sym is.found_is) (record {
      commit = h.commit;
      reads = h.object;
      data_is = refl;
      digest = car_digests bytes (h.roots, h.blocks) h.car h.link h.block h.there;
    })

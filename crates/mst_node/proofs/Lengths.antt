-- How many bytes the pieces of a node's block have.
use Rattle.std.proofs.Common.{◌≡◌, ℕ, suc, Option, ◌+◌, ◌<◌, ◌≤◌, min, List, [], ◌∷◌, ◌++◌, length, drop, get_or, sym, ap, ◌∙◌, arith, append-nil, length-append}
use Rattle.std.proofs.lemmas.List.{drop_all}
use Rattle.at_cbor.specs.declared.major.Major.{Major}
use Rattle.at_cbor.specs.Item.{Item}
use Rattle.at_cbor.specs.Encoding.{info_of, tail_of, front_of, link_encoding, encoding}
use Rattle.at_cbor.specs.Taking.{link_item}
use Rattle.mst_node.specs.declared.entry.Entry.{Entry}
use Rattle.mst_node.specs.NodeBytes.{shared, entry_item, entries_encoding, node_bytes, node_front, node_end}
use Rattle.mst_node.proofs.Encoded.{entry_parts}
use Rattle.mst_node.proofs.Writes.{entry_here, node_in_pieces}

pub entry_length : (last : List ℕ) (e : Entry)
    → length (encoding (entry_item last e)) ≡ length (encoding (Item.bytes (drop (shared last e.key) e.key))) + (length (front_of Major.Unsigned (shared last e.key)) + (length (encoding (link_item e.right)) + (14 + length e.value)))
entry_length last e =
    let K = encoding (Item.bytes (drop (shared last e.key) e.key)) in let P = front_of Major.Unsigned (shared last e.key) in let T = encoding (link_item e.right) in
    let v : List ℕ = 0x61 ∷ 0x76 ∷ (link_encoding e.value ++ []) in let t : List ℕ = 0x61 ∷ 0x74 ∷ (T ++ v) in let p : List ℕ = 0x61 ∷ 0x70 ∷ (P ++ t) in
    let whole : length (encoding (entry_item last e)) ≡ length (0xa4 ∷ 0x61 ∷ 0x6b ∷ (K ++ p)) = ap length (sym (append-nil (encoding (entry_item last e))) ∙ entry_parts last e []) in
    let one = length-append K p in let two = length-append P t in let three = length-append T v in let four = length-append e.value [] in
    omega arith

pub bare_length : (count : ℕ) (left : Option (List ℕ)) → length (node_front count) + length (node_end left) ≡ length (front_of Major.Unsigned count) + (length (encoding (link_item left)) + 5)
unfolding info_of tail_of
bare_length count left = omega arith

three_long : (a b c all : List ℕ) → a ++ (b ++ c) ≡ all → length all ≡ (length a + length c) + length b
three_long a b c all is = let whole = ap length is in let one = length-append a (b ++ c) in let two = length-append b c in omega arith

node_length : (left : Option (List ℕ)) (es : List Entry) → length (node_bytes left es) ≡ (length (node_front (length es)) + length (node_end left)) + length (entries_encoding [] es)
node_length left es = three_long (node_front (length es)) (entries_encoding [] es) (node_end left) (node_bytes left es) (node_in_pieces left es)

entries_length : (last : List ℕ) (es : List Entry) (i : ℕ) (e : Entry) → i < length es → e ≡ get_or es i e
    → length (entries_encoding last (drop i es)) ≡ length (encoding (entry_item last e)) + length (entries_encoding e.key (drop (suc i) es))
entries_length last es i e low at =
    ap (λ (l : List Entry). length (entries_encoding last l)) (entry_here es i e low at) ∙ length-append (encoding (entry_item last e)) (entries_encoding e.key (drop (suc i) es))

-- sums that stop at a greatest number
sum_begins : (most sum bare rest whole : ℕ) → sum ≡ min bare most → whole ≡ bare + rest → min (sum + rest) most ≡ min whole most
sum_begins most sum bare rest whole is all = omega arith

sum_goes_on : (most sum one rest added new : ℕ) → added ≡ min one most → new ≡ min (sum + added) most → min (new + rest) most ≡ min (sum + (one + rest)) most
sum_goes_on most sum one rest added new is adds = omega arith

sum_ends : (most sum rest all : ℕ) → rest ≡ 0 → sum ≤ most → min (sum + rest) most ≡ all → sum ≡ all
sum_ends most sum rest all none low is = omega arith

-- the bytes of the entries before one, and those of the entries from it on
pub node_begun : (most sum : ℕ) (left : Option (List ℕ)) (es : List Entry) → sum ≡ min (length (node_front (length es)) + length (node_end left)) most
    → min (sum + length (entries_encoding [] es)) most ≡ min (length (node_bytes left es)) most
node_begun most sum left es is =
    sum_begins most sum (length (node_front (length es)) + length (node_end left)) (length (entries_encoding [] es)) (length (node_bytes left es)) is (node_length left es)

pub node_gone_on : (most sum added new all : ℕ) (last : List ℕ) (es : List Entry) (i : ℕ) (e : Entry) → i < length es → e ≡ get_or es i e
    → added ≡ min (length (encoding (entry_item last e))) most → new ≡ min (sum + added) most
    → min (sum + length (entries_encoding last (drop i es))) most ≡ all → min (new + length (entries_encoding e.key (drop (suc i) es))) most ≡ all
node_gone_on most sum added new all last es i e low at is adds so_far =
    sum_goes_on most sum (length (encoding (entry_item last e))) (length (entries_encoding e.key (drop (suc i) es))) added new is adds
    ∙ ap (λ (n : ℕ). min (sum + n) most) (sym (entries_length last es i e low at)) ∙ so_far

pub node_ended : (most sum all : ℕ) (last : List ℕ) (es : List Entry) (i : ℕ) → length es ≤ i → sum ≤ most → min (sum + length (entries_encoding last (drop i es))) most ≡ all → sum ≡ all
node_ended most sum all last es i past low so_far =
    let none : length (entries_encoding last (drop i es)) ≡ 0 = ap (λ (l : List Entry). length (entries_encoding last l)) (drop_all i es past) in
    sum_ends most sum (length (entries_encoding last (drop i es))) all none low so_far

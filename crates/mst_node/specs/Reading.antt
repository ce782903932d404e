-- The node that a block encodes, told from its bytes: what would be its parts are read, and it is
-- the node where it is encoded so.
-- (The law of reading says that this is the node that the block encodes, where there is one.)
use Rattle.std.specs.Prelude.{ℕ, zero, suc, ◌+◌, ◌-◌, pos, Bool, true, false, ◌&&◌, ◌==◌, nat_lt, nat_le, if◌then◌else◌, List, [], ◌∷◌, ◌++◌, length, take, drop, slice_index, Option, Some, None, Ok, Err, unwrap_or}
use Rattle.std.specs.Str.{bytes_eq}
use Rattle.at_cid.specs.Link.{is_link}
use Rattle.at_cid.specs.Order.{key_cmp}
use Rattle.at_cbor.specs.Item.{Item}
use Rattle.at_cbor.specs.Kinds.{field_of}
use Rattle.at_cbor.specs.Reading.{Reading, item_at}
use Rattle.mst_list.specs.declared.item.TheConstants.{MOST_KEY_BYTES}
use Rattle.mst_list.specs.Edits.{by_order}
use Rattle.mst_node.specs.declared.entry.Entry.{Entry}
use Rattle.mst_node.specs.NodeBytes.{node_bytes}
use Rattle.mst_node.specs.Nodes.{Node}

-- each number is a byte
abbrev pub all_bytes : List ℕ → Bool
all_bytes [] = true
all_bytes (b ∷ bs) = nat_lt b 256 && all_bytes bs

-- a key has 1 byte to the most bytes of a key
abbrev pub is_key : List ℕ → Bool
is_key k = nat_le 1 (length k) && (nat_le (length k) MOST_KEY_BYTES && all_bytes k)

-- a link of either kind
abbrev pub is_any_link : List ℕ → Bool
is_any_link c = is_link c && all_bytes c

-- a link of kind Node, or none
abbrev pub is_child : Option (List ℕ) → Bool
is_child None = true
is_child (Some c) = is_any_link c && slice_index c 1 == 0x71

-- a key is above a bound
abbrev pub is_over : Option (List ℕ) → List ℕ → Bool
is_over None k = true
is_over (Some j) k = by_order (key_cmp j k) true false false

-- the entries have their forms, and their keys ascend from a bound
abbrev pub are_entries : Option (List ℕ) → List Entry → Bool
are_entries low [] = true
are_entries low (e ∷ es) = (is_key e.key && (is_any_link e.value && is_child e.right))
    && (is_over low e.key && are_entries (Some e.key) es)

-- a node that has a block
abbrev pub is_node : Node → Bool
is_node n = is_child n.0 && are_entries None n.1

-- what an item would say in its place
abbrev pub bytes_or : Option Item → List ℕ
bytes_or (Some (Item.bytes bs)) = bs
bytes_or o = []

abbrev pub count_or : Option Item → ℕ
count_or (Some (Item.int (pos n))) = n
count_or o = 0

abbrev pub link_or : Option Item → Option (List ℕ)
link_or (Some (Item.link c)) = Some c
link_or o = None

-- the entry that an item would be behind the key `last`
abbrev pub entry_in : List ℕ → Item → Entry
entry_in last i = record {
  key = take (count_or (field_of i (0x70 ∷ []))) last ++ bytes_or (field_of i (0x6b ∷ []));
  value = unwrap_or (link_or (field_of i (0x76 ∷ []))) [];
  right = link_or (field_of i (0x74 ∷ []));
}

-- the entry that was read in front, and those behind it
abbrev pub entries_on : (List ℕ → List ℕ → List Entry × List ℕ)
    → List ℕ → List ℕ → Reading Item → List Entry × List ℕ
entries_on more last bytes (Err e) = ([], bytes)
entries_on more last bytes (Ok x) = let e = entry_in last x.0 in
    let r = more e.key x.1 in (e ∷ r.0, r.1)

-- the entries at the front of the bytes, at most so many, and what follows them; an entry begins
-- with the head of a map of four
unfoldable pub entries_from : ℕ → List ℕ → List ℕ → List Entry × List ℕ
entries_from zero last bytes = ([], bytes)
entries_from (suc n) last bytes = if slice_index bytes 0 == 0xa4
    then entries_on (entries_from n) last bytes (item_at 1 bytes) else ([], bytes)

-- how many bytes follow a head's first byte, whose low five bits are given
abbrev pub head_size : ℕ → ℕ
head_size i = if nat_lt i 24 then 0
    else (if i == 24 then 1 else (if i == 25 then 2 else (if i == 26 then 4 else 8)))

abbrev pub link_from : Reading Item → Option (List ℕ)
link_from (Ok x) = link_or (Some x.0)
link_from (Err e) = None

-- what would be the parts of a node: behind the front of a map, `e` and the head of a list are
-- entries, and behind `l` is a link
abbrev pub parts_from : List ℕ → Node
parts_from block = let read =
    entries_from (length block) [] (drop (4 + head_size (slice_index block 3 - 0x80)) block) in
    (link_from (item_at 0 (drop 2 read.1)), read.0)

-- the node that the block encodes
unfoldable pub node_of : List ℕ → Option Node
node_of block = let n = parts_from block in
    if is_node n && bytes_eq (node_bytes n.0 n.1) block then Some n else None

-- the key of the last entry, behind the key `last`
abbrev pub key_before : List ℕ → List Entry → List ℕ
key_before last [] = last
key_before last (e ∷ es) = key_before e.key es

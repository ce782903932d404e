-- What holds of all encodings.
use Rattle.std.specs.Prelude.{◌≡◌, ◌↔◌, ℕ, true, List, ◌++◌, length, drop, Ok}
use Rattle.at_cid.specs.Link.{IsBytes}
use Rattle.at_cbor.specs.Decoding.{decoded}
use Rattle.at_cbor.specs.declared.decoding.TheConstants.{DEPTH}
use Rattle.at_cbor.specs.Equal.{item_eq}
use Rattle.at_cbor.specs.Item.{Item}
use Rattle.at_cbor.specs.Encoding.{encoding, Fits}

-- Where the same bytes are two encodings with something behind each, both are of one item: no item
-- has two encodings, no two items have one, and no item's encoding begins another's.
abbrev pub OneEncoding : Type 0
OneEncoding = (i j : Item) (depth : ℕ) (behind other : List ℕ) → Fits i depth
    → Fits j depth → encoding i ++ behind ≡ encoding j ++ other → (i ≡ j) × (behind ≡ other)

-- so many bytes are the encoding of an item, in which no more lists and maps are in one another
-- than may be
abbrev pub IsFront : List ℕ → Item → ℕ → Type 0
IsFront bytes i n = Fits i DEPTH × (n ≡ length (encoding i)) × (bytes ≡ encoding i ++ drop n bytes)

-- An item is read exactly where its encoding stands in front.
abbrev pub ReadsFronts : Type 0
ReadsFronts = (bytes : List ℕ) (i : Item) (n : ℕ) → IsBytes bytes
    → (decoded bytes ≡ Ok (i, n)) ↔ IsFront bytes i n

-- The test of equality tells items apart.
abbrev pub EqualIsSame : Type 0
EqualIsSame = (i j : Item) → (item_eq i j ≡ true) ↔ (i ≡ j)

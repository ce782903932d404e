-- What is taken from the front of bytes is what is encoded there: each law says it both ways.
use Rattle.std.specs.Prelude.{◌≡◌, ◌↔◌, ℕ, ◌<◌, List, ◌++◌, length, Option, Some}
use Rattle.at_cid.specs.Link.{IsBytes, IsLink, IsNodeLinkOrNone}
use Rattle.at_cbor.specs.declared.limits.TheConstants.{ARGUMENTS}
use Rattle.at_cbor.specs.Item.{Item}
use Rattle.at_cbor.specs.declared.major.Major.{Major}
use Rattle.at_cbor.specs.declared.decoding.TheConstants.{DEPTH}
use Rattle.at_cbor.specs.Encoding.{front_of, encoding, Fits, IsText}
use Rattle.at_cbor.specs.Taking.{behind, number_at, string_at, text_from_front, link_from_front, link_item, child_at, item_from_front, whole_item}

abbrev pub TakesFronts : Type 0
TakesFronts = (front bytes rest : List ℕ)
    → (behind front bytes ≡ Some rest) ↔ (bytes ≡ front ++ rest)

abbrev pub TakesNumbers : Type 0
TakesNumbers = (major : Major) (n : ℕ) (bytes rest : List ℕ)
    → IsBytes bytes → (number_at major bytes ≡ Some (n, rest))
    ↔ ((n < ARGUMENTS) × (bytes ≡ front_of major n ++ rest))

abbrev pub TakesStrings : Type 0
TakesStrings = (string bytes rest : List ℕ) → IsBytes bytes
    → (string_at bytes ≡ Some (string, rest))
    ↔ ((length string < ARGUMENTS) × (bytes ≡ encoding (Item.bytes string) ++ rest))

abbrev pub TakesTexts : Type 0
TakesTexts =
    (text bytes rest : List ℕ) → IsBytes bytes → (text_from_front bytes ≡ Some (text, rest))
    ↔ (IsText text × (bytes ≡ encoding (Item.text text) ++ rest))

abbrev pub TakesLinks : Type 0
TakesLinks = (link bytes rest : List ℕ) → IsBytes bytes
    → (link_from_front bytes ≡ Some (link, rest))
    ↔ (IsLink link × (bytes ≡ encoding (Item.link link) ++ rest))

abbrev pub TakesChildren : Type 0
TakesChildren = (link : Option (List ℕ)) (bytes rest : List ℕ)
    → IsBytes bytes → (child_at bytes ≡ Some (link, rest))
    ↔ (IsNodeLinkOrNone link × (bytes ≡ encoding (link_item link) ++ rest))

abbrev pub TakesItems : Type 0
TakesItems = (i : Item) (bytes rest : List ℕ) → IsBytes bytes
    → (item_from_front bytes ≡ Some (i, rest)) ↔ (Fits i DEPTH × (bytes ≡ encoding i ++ rest))

-- One item fills the bytes exactly where they are its encoding.
abbrev pub TakesWholes : Type 0
TakesWholes = (i : Item) (bytes : List ℕ) → IsBytes bytes
    → (whole_item bytes ≡ Some i) ↔ (Fits i DEPTH × (bytes ≡ encoding i))

-- A link: four bytes that say what it names, and the SHA-256 of the block that it names.
-- (CIDv1, with the multicodec of DAG-CBOR or of raw bytes, and the multihash of SHA-256 with 32
-- bytes.)
use Rattle.std.specs.Prelude.{ℕ, List, [], ◌∷◌, ◌++◌, length, take, drop, slice_index, Bool, false, ◌&&◌, ◌||◌, ◌==◌, ◌≡◌, ◌<◌, if◌then◌else◌, IsTrue, Option, Some, None}
use Rattle.sha2.specs.Sha256.{sha256}
use Rattle.at_cid.specs.declared.cid.TheConstants.{DIGEST_LEN, LINK_LEN}
use Rattle.at_cid.specs.declared.cid.Kind.{Kind}
use Rattle.at_cid.specs.declared.cid.Kind.TheVariants.{Node, Raw}

-- each number in the list is a byte
abbrev pub IsBytes : List ℕ → Type 0
IsBytes bytes = (i : ℕ) → slice_index bytes i < 256

-- the byte that names the kind
abbrev pub codec_of : Kind → ℕ
codec_of Node = 0x71
codec_of Raw = 0x55

-- the four bytes in front of a digest
abbrev pub prefix_of : Kind → List ℕ
prefix_of kind = 0x01 ∷ codec_of kind ∷ 0x12 ∷ 0x20 ∷ []

-- the link of kind Node over a block
unfoldable pub cid : List ℕ → List ℕ
cid block = prefix_of Node ++ sha256 block

-- the bytes have the form of a link: the front of one of the two kinds, and 32 bytes of digest
abbrev pub is_link : List ℕ → Bool
is_link [] = false
is_link (a ∷ []) = false
is_link (a ∷ b ∷ []) = false
is_link (a ∷ b ∷ c ∷ []) = false
is_link (a ∷ b ∷ c ∷ d ∷ digest) =
    a == 0x01 && (b == 0x71 || b == 0x55) && c == 0x12 && d == 0x20 && length digest == DIGEST_LEN

-- the link in the first bytes, as many as a link has, where they have its form
abbrev pub link_at : List ℕ → Option (List ℕ)
link_at bytes = if is_link (take LINK_LEN bytes) then Some (take LINK_LEN bytes) else None

-- the kind that a link's second byte names
abbrev pub kind_of : List ℕ → Kind
kind_of link = if slice_index link 1 == 0x71 then Node else Raw

-- the digest in a link
abbrev pub digest_of : List ℕ → List ℕ
digest_of link = drop 4 link

-- a link of either kind
pub record IsLink (c : List ℕ) : Type 0 where
  pub link : IsTrue (is_link c)
  pub bytes : IsBytes c

-- a link of kind Node
pub record IsNodeLink (c : List ℕ) : Type 0 where
  pub link : IsTrue (is_link c)
  pub bytes : IsBytes c
  pub node : kind_of c ≡ Node

-- a link, or none
abbrev pub IsLinkOrNone : Option (List ℕ) → Type 0
IsLinkOrNone None = Unit {0}
IsLinkOrNone (Some c) = IsLink c

-- a link of kind Node, or none
abbrev pub IsNodeLinkOrNone : Option (List ℕ) → Type 0
IsNodeLinkOrNone None = Unit {0}
IsNodeLinkOrNone (Some c) = IsNodeLink c

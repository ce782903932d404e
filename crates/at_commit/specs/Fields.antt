-- The fields of a commit object, as the AT Protocol's Repository specification has them ("Commit
-- Objects").
use Rattle.std.specs.Prelude.{ℕ, ℤ, List, Bool, true, ◌||◌, if◌then◌else◌, Option, Some, None, codes, is_some}
use Rattle.at_cbor.specs.Item.{Item, Fields}
use Rattle.at_cbor.specs.Kinds.{int_in, bytes_in, link_in, null_in, value_of}
use Rattle.at_cbor.specs.Taking.{◌>>=◌}
use Rattle.at_form.specs.Forms.{did_in, tid_in, node_in}

-- a link, null or nothing
unfoldable pub is_previous : Option Item → Bool
is_previous (Some i) = null_in i || is_some (link_in i)
is_previous None = true

-- what the fields of a commit object say
pub record Object : Type 0 where
  pub did : List ℕ
  pub version : ℤ
  pub data_root : List ℕ
  pub rev : ℕ
  pub sig : List ℕ

-- These fields are there in their forms. Fields of other names may be there too.
unfoldable pub object_of : Fields → Option Object
object_of fields = value_of fields (codes "did") >>= did_in
    >>= λ did. value_of fields (codes "version") >>= int_in
    >>= λ version. value_of fields (codes "data") >>= node_in
    >>= λ data_root. value_of fields (codes "rev") >>= tid_in
    >>= λ rev. value_of fields (codes "sig") >>= bytes_in
    >>= λ sig. if is_previous (value_of fields (codes "prev")) then Some
    (record { did = did; version = version; data_root = data_root; rev = rev; sig = sig }) else None

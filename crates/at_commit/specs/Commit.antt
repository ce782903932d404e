-- The commit object that a block is.
use Rattle.std.specs.Prelude.{◌≡◌, ℕ, pos, List, length, Bool, ◌&&◌, ◌==◌, nat_lt, if◌then◌else◌, Option, Some, None, Result, Ok, Err}
use Rattle.std.specs.Str.{bytes_eq}
use Rattle.std.specs.Ordering.{int_eq}
use Rattle.at_cid.specs.Memory.{Gives}
use Rattle.at_cbor.specs.declared.decoding.TheConstants.{DEPTH}
use Rattle.at_cbor.specs.Item.{Item, Fields}
use Rattle.at_cbor.specs.Encoding.{encoding, Fits}
use Rattle.at_cbor.specs.Taking.{whole_item}
use Rattle.at_commit.specs.Fields.{Object, object_of}
use Rattle.at_commit.specs.Signed.{unsigned_of}
use Rattle.at_commit.specs.declared.commit.Commit.{Commit}
use Rattle.at_commit.specs.declared.fault.CommitFault.{CommitFault}
use Rattle.at_commit.specs.declared.reading.TheConstants.{LONGEST_BLOCK}

-- the commit that fields are, which is signed without `sig`
abbrev pub commit_with : Fields → Object → Commit
commit_with fields object = record {
  did = object.did;
  rev = object.rev;
  data_root = object.data_root;
  sig = object.sig;
  unsigned = encoding (Item.map (unsigned_of fields));
}

-- of version 3
abbrev pub commit_from : Fields → Option Object → Result Commit CommitFault
commit_from fields (Some object) = if int_eq object.version (pos 3)
    then Ok (commit_with fields object) else Err CommitFault.Version
commit_from _ None = Err CommitFault.Form

unfoldable pub commit_in : Fields → Result Commit CommitFault
commit_in fields = commit_from fields (object_of fields)

abbrev pub commit_at : Option Item → Result Commit CommitFault
commit_at (Some (Item.map fields)) = commit_in fields
commit_at i = Err CommitFault.Form

-- The commit that the block is, or what is wrong with it. The version is looked at where all else
-- has its form.
unfoldable pub commit_of : List ℕ → Result Commit CommitFault
commit_of block = if nat_lt LONGEST_BLOCK (length block) then Err CommitFault.TooLong
    else commit_at (whole_item block)

-- a commit is of this account and this revision
abbrev pub is_of : List ℕ → ℕ → Commit → Bool
is_of did rev commit = bytes_eq commit.did did && commit.rev == rev

-- the `data` of a commit, where it is of this account and this revision
abbrev pub data_of : List ℕ → ℕ → Result Commit CommitFault → Result (Option (List ℕ)) CommitFault
data_of did rev (Ok commit) = Ok (if is_of did rev commit then Some commit.data_root else None)
data_of did rev (Err fault) = Err fault

-- what a fault says of the block: nothing where memory ran out
abbrev pub fault_of : CommitFault → Option CommitFault
fault_of CommitFault.Form = Some CommitFault.Form
fault_of CommitFault.Version = Some CommitFault.Version
fault_of CommitFault.TooLong = Some CommitFault.TooLong
fault_of CommitFault.Memory = None

-- the result is this answer, unless memory ran out
abbrev pub ReadsAs : Result Commit CommitFault → Result Commit CommitFault → Type 0
ReadsAs result answer = Gives (λ commit. commit) fault_of result answer

-- The block is the one encoding of a map, and the commit is what its fields say.
pub record IsCommitIn (block : List ℕ) (commit : Commit) : Type 0 where
  pub fields : Fields
  pub form : Fits (Item.map fields) DEPTH
  pub encoded : block ≡ encoding (Item.map fields)
  pub says : commit_in fields ≡ Ok commit

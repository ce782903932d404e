-- What a commit that was read keeps: its root is a link of kind Node, and its account a DID.
use Rattle.std.proofs.Common.{◌≡◌, ◌≤◌, ℕ, ℤ, Bool, true, false, cond, List, length, Option, Some, None, Result, Ok, Err, refl, sym, ap, ◌∙◌, subst, arith}
use Rattle.std.specs.Prelude.{pos, codes, nat_lt, IfOk, IsTrue}
use Rattle.std.specs.Ordering.{int_eq}
use Rattle.std.proofs.lemmas.Bool.Decides.{nat_tests}
use Rattle.at_cid.specs.Link.{IsBytes, IsNodeLink}
use Rattle.at_cbor.specs.Item.{Item, Fields}
use Rattle.at_cbor.specs.Kinds.{int_in, bytes_in, value_of}
use Rattle.at_cbor.specs.Encoding.{Fits, encoding}
use Rattle.at_cbor.specs.Taking.{◌>>=◌, whole_item}
use Rattle.at_cbor.proofs.Inside.{value_fits}
use Rattle.at_cbor.proofs.Taken.{whole_takes, whole_again}
use Rattle.at_syntax.specs.Did.{is_did}
use Rattle.at_form.specs.Forms.{did_in, tid_in, node_in}
use Rattle.at_form.proofs.Held.{some_same, step_from, did_held, node_held}
use Rattle.at_commit.specs.Fields.{Object, object_of, is_previous}
use Rattle.at_commit.specs.Signed.{unsigned_of}
use Rattle.at_commit.specs.Commit.{commit_from, commit_in, commit_at, commit_of, IsCommitIn, ReadsAs}
use Rattle.at_commit.specs.declared.commit.Commit.{Commit}
use Rattle.at_commit.specs.declared.fault.CommitFault.{CommitFault}
use Rattle.at_commit.specs.declared.reading.TheConstants.{LONGEST_BLOCK}

record Kept (named : Option (List ℕ)) (root : Option (List ℕ)) (o : Object) : Type 0 where
  did : named ≡ Some o.did
  data_root : root ≡ Some o.data_root

kept : (d : Option (List ℕ)) (v : Option ℤ) (n : Option (List ℕ)) (r : Option ℕ) (s : Option (List ℕ)) (p : Bool) (o : Object)
    → (d >>= λ did. v >>= λ version. n >>= λ data_root. r >>= λ rev. s >>= λ sig. cond p (Some (record { did = did; version = version; data_root = data_root; rev = rev; sig = sig })) None) ≡ Some o
    → Kept d n o
kept None v n r s p o e = absurd cc
kept (Some d) None n r s p o e = absurd cc
kept (Some d) (Some v) None r s p o e = absurd cc
kept (Some d) (Some v) (Some n) None s p o e = absurd cc
kept (Some d) (Some v) (Some n) (Some r) None p o e = absurd cc
kept (Some d) (Some v) (Some n) (Some r) (Some s) false o e = absurd cc
kept (Some d) (Some v) (Some n) (Some r) (Some s) true o e =
    let same = some_same (record { did = d; version = v; data_root = n; rev = r; sig = s }) o e in
    record { did = ap (λ (x : Object). Some x.did) same; data_root = ap (λ (x : Object). Some x.data_root) same }

object_kept : (fields : Fields) (o : Object) → object_of fields ≡ Some o → Kept (value_of fields (codes "did") >>= did_in) (value_of fields (codes "data") >>= node_in) o
unfolding object_of
object_kept fields o e =
    kept (value_of fields (codes "did") >>= did_in) (value_of fields (codes "version") >>= int_in) (value_of fields (codes "data") >>= node_in) (value_of fields (codes "rev") >>= tid_in)
    (value_of fields (codes "sig") >>= bytes_in) (is_previous (value_of fields (codes "prev"))) o e

record Read (fields : Fields) (c : Commit) : Type 0 where
  object : Object
  formed : object_of fields ≡ Some object
  did : c.did ≡ object.did
  data_root : c.data_root ≡ object.data_root

read_if : (test : Bool) (fields : Fields) (o : Object) (c : Commit) → object_of fields ≡ Some o
    → cond test (Ok (record { did = o.did; rev = o.rev; data_root = o.data_root; sig = o.sig; unsigned = encoding (Item.map (unsigned_of fields)) })) (Err CommitFault.Version) ≡ Ok c → Read fields c
read_if false _ o c formed e = absurd cc
read_if true _ o c formed e =
    record { object = o; formed = formed; did = sym (ap did_at e); data_root = sym (ap root_at e) }
  where
    did_at : Result Commit CommitFault → List ℕ
    did_at (Ok commit) = commit.did
    did_at (Err fault) = o.did

    root_at : Result Commit CommitFault → List ℕ
    root_at (Ok commit) = commit.data_root
    root_at (Err fault) = o.data_root

read_from : (fields : Fields) (object : Option Object) (c : Commit) → object_of fields ≡ object → commit_from fields object ≡ Ok c → Read fields c
read_from fields (Some o) c formed e = read_if (int_eq o.version (pos 3)) fields o c formed e
read_from _ None c formed e = absurd cc

read_in : (fields : Fields) (c : Commit) → commit_in fields ≡ Ok c → Read fields c
unfolding commit_in
read_in fields c e = read_from fields (object_of fields) c refl e

read_at : (i : Option Item) (c : Commit) → commit_at i ≡ Ok c → (fields : Fields) × (i ≡ Some (Item.map fields)) × (commit_in fields ≡ Ok c)
read_at (Some (Item.map fields)) c e = (fields, refl, e)
read_at (Some (Item.int z)) c e = absurd cc
read_at (Some (Item.bytes bs)) c e = absurd cc
read_at (Some (Item.text bs)) c e = absurd cc
read_at (Some (Item.list is)) c e = absurd cc
read_at (Some (Item.link bs)) c e = absurd cc
read_at (Some (Item.bool b)) c e = absurd cc
read_at (Some Item.null) c e = absurd cc
read_at None c e = absurd cc

short_enough : (test : Bool) (answer : Result Commit CommitFault) (c : Commit) → cond test (Err CommitFault.TooLong) answer ≡ Ok c → answer ≡ Ok c
short_enough true answer c e = absurd cc
short_enough false answer c e = e

-- the fields of the map that a block is
read_of : (block : List ℕ) (c : Commit) → commit_of block ≡ Ok c → (fields : Fields) × (whole_item block ≡ Some (Item.map fields)) × (commit_in fields ≡ Ok c)
unfolding commit_of
read_of block c e = read_at (whole_item block) c (short_enough (nat_lt LONGEST_BLOCK (length block)) (commit_at (whole_item block)) c e)

commit_read : (block : List ℕ) (c : Commit) → IsBytes block → commit_of block ≡ Ok c → IsCommitIn block c
commit_read block c bytes e =
    let of = read_of block c e in
    let whole = whole_takes (Item.map of.0) block bytes of.1 in
    record { fields = of.0; form = whole.0; encoded = whole.1; says = of.2 }

pub data_is_node : (block : List ℕ) (c : Commit) → IsBytes block → commit_of block ≡ Ok c → IsNodeLink c.data_root
data_is_node block c bytes e =
    let in_block = commit_read block c bytes e in
    let fields = in_block.fields in
    let r = read_in fields c in_block.says in
    let root = step_from (value_of fields (codes "data")) node_in r.object.data_root (object_kept fields r.object r.formed).data_root in
    subst IsNodeLink (sym r.data_root) (node_held root.0 63 r.object.data_root root.2 (value_fits fields None 63 (codes "data") root.0 in_block.form.2 root.1))

pub did_is_did : (block : List ℕ) (c : Commit) → commit_of block ≡ Ok c → is_did c.did ≡ true
did_is_did block c e =
    let of = read_of block c e in
    let r = read_in of.0 c of.2 in
    let did = step_from (value_of of.0 (codes "did")) did_in r.object.did (object_kept of.0 r.object r.formed).did in
    subst (λ (d : List ℕ). is_did d ≡ true) (sym r.did) (did_held did.0 r.object.did did.2)

-- ---- what an answer says

module _ (block : List ℕ) (bytes : IsBytes block) where
  pub answer_whole : (r : Result Commit CommitFault) → ReadsAs r (commit_of block) → IfOk r (IsCommitIn block)
  answer_whole (Ok c) e = commit_read block c bytes e
  answer_whole (Err f) e = tt

  pub answer_data : (r : Result Commit CommitFault) → ReadsAs r (commit_of block) → IfOk r (λ c. IsNodeLink c.data_root)
  answer_data (Ok c) e = data_is_node block c bytes e
  answer_data (Err f) e = tt

  pub answer_did : (r : Result Commit CommitFault) → ReadsAs r (commit_of block) → IfOk r (λ c. IsTrue (is_did c.did))
  answer_did (Ok c) e = did_is_did block c e
  answer_did (Err f) e = tt

pub answer_only : (block : List ℕ) (r : Result Commit CommitFault) (i : Item) → ReadsAs r (commit_of block) → Fits i 64 → block ≡ encoding i → length block ≤ LONGEST_BLOCK → ReadsAs r (commit_at (Some i))
unfolding commit_of
answer_only block r i given fits e short =
    let long : nat_lt LONGEST_BLOCK (length block) ≡ false = grind (arith, nat_tests, short) in
    subst (ReadsAs r) (ap (λ t. cond t (Err CommitFault.TooLong) (commit_at (whole_item block))) long ∙ ap commit_at (ap whole_item e ∙ whole_again i fits)) given

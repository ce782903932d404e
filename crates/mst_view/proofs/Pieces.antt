-- What is given to a hasher in pieces.
use Rattle.std.proofs.Common.{◌≡◌, ℕ, List, ◌++◌, length, drop, Some, refl, sym, ap, subst, ◌∙◌, arith, append_assoc}
use Rattle.std.proofs.lemmas.List.{take_all}
use Rattle.std.proofs.Math.Seq.{drop-append_seam}
use Rattle.sha2.specs.declared.Sha256.{Sha256}
use Rattle.sha2.specs.Hashers.{Holds256}
use Rattle.at_cid.specs.declared.cid.Kind.TheVariants.{Node}
use Rattle.at_cid.specs.Link.{prefix_of, link_at}
use Rattle.mst_view.specs.Pieces.{IsInPieces}

-- a digest of 32 bytes behind the front of the kind Node is a link
pub link_made : (digest : List ℕ) → length digest ≡ 32 → link_at (prefix_of Node ++ digest) ≡ Some (prefix_of Node ++ digest)
link_made digest long = rw (take_all 32 digest (omega arith)) (rw long refl)

-- what is added to the room comes behind the bytes
pub encoded_behind : {before : List ℕ} {hash : Sha256} {room bytes : List ℕ} (new more : List ℕ) → new ≡ room ++ more → IsInPieces before hash room bytes → IsInPieces before hash new (bytes ++ more)
encoded_behind {before = before} new more is p = record {
  given = p.given;
  lying = p.lying ++ more;
  holds = p.holds;
  lies = is ∙ ap (λ (l : List ℕ). l ++ more) p.lies ∙ append_assoc before p.lying more;
  whole = ap (λ (l : List ℕ). l ++ more) p.whole ∙ append_assoc p.given p.lying more;
}

-- the hasher that was given the rest too holds all the bytes
pub all_hashed : {before : List ℕ} {hash : Sha256} {room bytes : List ℕ} (new : Sha256) (start : ℕ) → start ≡ length before
    → ((given : List ℕ) → Holds256 hash given → Holds256 new (given ++ drop start room)) → IsInPieces before hash room bytes → Holds256 new bytes
all_hashed {before = before} {room = room} new start at gives p =
    let rest : drop start room ≡ p.lying = ap (λ n. drop n room) at ∙ ap (drop (length before)) p.lies ∙ drop-append_seam before p.lying in
    subst (Holds256 new) (ap (λ (l : List ℕ). p.given ++ l) rest ∙ sym p.whole) (gives p.given p.holds)

-- Where the bodies of a log stand.
use Rattle.std.proofs.Common.{◌≡◌, ℕ, ◌+◌, List, [], ◌∷◌, ◌++◌, length, ap, subst, sym, ◌∙◌, arith, append-nil, length-append}
use Rattle.relay_disk.specs.Disk.{View, Goes, Same, IsSettled, IsSynced}
use Rattle.relay_disk.proofs.Moments.{unchanged}
use Rattle.gate_log.specs.declared.limits.TheConstants.{BEFORE_BODY}
use Rattle.gate_log.specs.declared.format.Format.{Format}
use Rattle.gate_log.specs.Image.{made, front, IsMade}
use Rattle.at_cid.specs.Lengths.{length_prefixed}
use Rattle.gate_log.specs.Crash.{Stands}
use Rattle.gate_log.specs.Log.{LogState, HoldsBodies, place_behind}
use Rattle.gate_log.proofs.Append.{made-push}

-- the first stands behind the front
pub first_place : (log : LogState) → length (front log.format) ≡ place_behind log []
first_place log = ap length (sym (append-nil (front log.format)))

-- the next behind the one before
pub next_place : (log : LogState) (before : List (List ℕ)) (body : List ℕ) → place_behind log (before ++ body ∷ []) ≡ place_behind log before + BEFORE_BODY + length body
next_place log before body =
    omega (arith, ap length (made-push log.format before body), length-append (made log.format before) (1 ∷ length_prefixed body), length-append body [])

-- and the end behind the last
pub end_place : (log : LogState) (bodies : List (List ℕ)) (v : View) → HoldsBodies bodies log v → log.end ≡ place_behind log bodies
end_place log bodies v holds = holds.ends

-- a disk that is only read holds the bodies that it held
pub stands_still : (format : Format) (bodies : List (List ℕ)) (end : ℕ) (v w : View) → Stands format bodies end v → Goes Same v w → Stands format bodies end w
stands_still format bodies end v w stands goes = record {
  ends = stands.ends;
  now = subst (IsMade format bodies) (sym goes.content) stands.now;
  left = λ c left. stands.left c (unchanged v w goes c left);
}

-- a settled disk is synced
pub settled_synced : (v : View) (bytes : List ℕ) → IsSettled v bytes → IsSynced v
settled_synced v bytes settled = λ c left. settled.only c left ∙ sym settled.content

-- A repository, piece by piece.
use Rattle.std.proofs.Common.{◌≡◌, ℕ, zero, suc, ◌<◌, ◌≤◌, List, [], ◌∷◌, ◌++◌, length, Result, Ok, Err, refl, sym, ap, ◌∙◌, subst, arith, append_assoc, append-nil, length-append}
use Rattle.at_cid.specs.Link.{IsBytes}
use Rattle.at_car.specs.declared.scan.Kept.{Kept}
use Rattle.repo_sync.specs.Scans.{Scans, ScansAs, IsQuiet}
use Rattle.repo_sync.specs.declared.fault.RepoFault.{RepoFault}
use Rattle.repo_sync.specs.declared.limits.TheConstants.{MOST_REPOSITORY_BYTES}

-- the end is reached
pub all_scanned : (result : Result Kept RepoFault) (whole bytes left : List ℕ) → whole ≡ bytes ++ left → left ≡ [] → length bytes ≤ MOST_REPOSITORY_BYTES → ScansAs result bytes → Scans result whole
all_scanned result whole bytes left is none short s =
    let same : bytes ≡ whole = sym (append-nil bytes) ∙ ap (λ l. bytes ++ l) (sym none) ∙ sym is in
    subst (Scans result) same (go result short s)
  where
    go : (r : Result Kept RepoFault) → length bytes ≤ MOST_REPOSITORY_BYTES → ScansAs r bytes → Scans r bytes
    go (Ok kept) l s = (l, s)
    go (Err RepoFault.BadCar) l s = (l, s)
    go (Err RepoFault.Memory) l s = tt
    go (Err RepoFault.NoCommit) l s = absurd s
    go (Err RepoFault.BadCommit) l s = absurd s
    go (Err RepoFault.OtherDid) l s = absurd s
    go (Err (RepoFault.Lagging rev)) l s = absurd s
    go (Err (RepoFault.NotWhole c)) l s = absurd s
    go (Err (RepoFault.BadNode c)) l s = absurd s
    go (Err RepoFault.TooLong) l s = absurd s
    go (Err RepoFault.BadSignature) l s = absurd s
    go (Err RepoFault.Failed) l s = absurd s

-- more than the most were given
pub too_long : (whole bytes left : List ℕ) → whole ≡ bytes ++ left → MOST_REPOSITORY_BYTES < length bytes → MOST_REPOSITORY_BYTES < length whole
too_long whole bytes left is more = omega (arith, ap (λ (l : List ℕ). length l) is, length-append bytes left, more)

-- one piece more
pub joined : (whole bytes piece left rest : List ℕ) → whole ≡ bytes ++ left → left ≡ piece ++ rest → whole ≡ (bytes ++ piece) ++ rest
joined whole bytes piece left rest is more = is ∙ ap (λ l. bytes ++ l) more ∙ sym (append_assoc bytes piece rest)

-- memory ran out or a read failed
pub quiet : (fault : RepoFault) (whole : List ℕ) → IsQuiet fault → Scans (Err fault) whole
quiet RepoFault.Memory whole q = tt
quiet RepoFault.Failed whole q = tt
quiet RepoFault.BadCar whole q = absurd q
quiet RepoFault.NoCommit whole q = absurd q
quiet RepoFault.BadCommit whole q = absurd q
quiet RepoFault.OtherDid whole q = absurd q
quiet (RepoFault.Lagging rev) whole q = absurd q
quiet (RepoFault.NotWhole c) whole q = absurd q
quiet (RepoFault.BadNode c) whole q = absurd q
quiet RepoFault.TooLong whole q = absurd q
quiet RepoFault.BadSignature whole q = absurd q

nothing : (piece left : List ℕ) → piece ++ left ≡ [] → (piece ≡ []) × (left ≡ [])
nothing [] left e = (refl, e)
nothing (x ∷ piece) left e = absurd (cc)

-- nothing more comes
pub ended : (result : Result Kept RepoFault) (whole bytes piece mid left : List ℕ) → whole ≡ bytes ++ mid → mid ≡ piece ++ left → mid ≡ [] → length bytes ≤ MOST_REPOSITORY_BYTES → ScansAs result (bytes ++ piece) → Scans result whole
ended result whole bytes piece mid left is more none short s =
    let n = nothing piece left (sym more ∙ none) in
    let all : bytes ++ piece ≡ bytes = ap (λ p. bytes ++ p) n.0 ∙ append-nil bytes in
    all_scanned result whole bytes mid is none short (subst (ScansAs result) all s)

-- bytes behind bytes
pub bytes_joined : (xs ys : List ℕ) → IsBytes xs → IsBytes ys → IsBytes (xs ++ ys)
bytes_joined [] ys a b i = b i
bytes_joined (x ∷ xs) ys a b zero = a zero
bytes_joined (x ∷ xs) ys a b (suc i) = bytes_joined xs ys (λ j. a (suc j)) b i

-- which is so of no bytes too
pub quiet_error : (fault : RepoFault) → IsQuiet fault → (bytes : List ℕ) × IsBytes bytes × Scans (Err fault) bytes
quiet_error fault q = ([], λ i. omega arith, quiet fault [] q)

-- Paths that differ.
use Rattle.std.proofs.Common.{◌≡◌, ℕ, zero, suc, ◌+◌, ◌<◌, false, List, [], ◌∷◌, length, drop, get_or, refl, sym, ap, ◌∙◌, arith, drop-cons}
use Rattle.std.specs.Str.{bytes_eq}
use Rattle.at_cid.specs.Distinct.{all_differ}
use Rattle.at_cid.proofs.Distinct.{equal_behind}
use Rattle.at_event.specs.declared.ops.EventOp.{EventOp}
use Rattle.event_checks.specs.Table.{paths_of}

paths_from : (n : ℕ) (ops : List EventOp) → paths_of (drop n ops) ≡ drop n (paths_of ops)
paths_from zero ops = refl
paths_from (suc n) [] = refl
paths_from (suc n) (op ∷ ops) = paths_from n ops

-- the paths from a place on
pub next_paths : (ops : List EventOp) (i n : ℕ) (x : EventOp) (path : List ℕ) → i + 1 ≡ n → i < length ops → path ≡ (get_or ops i x).path → paths_of (drop i ops) ≡ path ∷ paths_of (drop n ops)
next_paths ops i n x path e low named =
    let next : suc i ≡ n = omega arith in
    ap paths_of (drop-cons ops i x low)
    ∙ (ap (λ (m : ℕ). (get_or ops i x).path ∷ paths_of (drop m ops)) next
    ∙ ap (λ (p : List ℕ). p ∷ paths_of (drop n ops)) (sym named))

-- where a path stands twice among the last ones, it does among all
pub twice_in_paths : (n : ℕ) (ops : List EventOp) → all_differ bytes_eq (paths_of (drop n ops)) ≡ false → all_differ bytes_eq (paths_of ops) ≡ false
twice_in_paths n ops e = equal_behind bytes_eq n (paths_of ops) (ap (all_differ bytes_eq) (sym (paths_from n ops)) ∙ e)

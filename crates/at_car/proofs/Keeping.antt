-- Blocks that are put into a map one after the other.
use Rattle.std.proofs.Common.{◌≡◌, ℕ, List, [], ◌∷◌, Bool, true, false, cond, Option, Some, None, Less, Equal, Greater, refl, sym, ap, ◌∙◌}
use Rattle.std.specs.Prelude.{is_some}
use Rattle.std.specs.Ordering.{is_eq, eq_by_cmp}
use Rattle.std.specs.FinMap.{find, get, contains_key, empty, insert, from_entries, get-empty, get-insert, get_tied, get-from_entries, same_map}
use Rattle.at_cid.specs.Order.{key_cmp}
use Rattle.at_cid.specs.OrderLaws.{key_total}
use Rattle.at_cid.proofs.Order.{cmp_exact}
use Rattle.at_car.specs.Blocks.{BlockMap, kept}
use Rattle.at_car.specs.Sections.{Section}
use Rattle.at_car.specs.Merging.{all_kept}

-- what is there, or else the other
abbrev pub or_else : Option (List ℕ) → Option (List ℕ) → Option (List ℕ)
or_else None other = other
or_else (Some v) other = Some v

-- the map has the link k or not, and q is that link or not
pub placed : (q k v : List ℕ) (m : BlockMap) (there tied : Bool) (there_is : is_some (get m k) ≡ there) (tied_is : tied ≡ true → get m k ≡ get m q) (other : Option (List ℕ))
    → or_else (cond there (get m q) (cond tied (Some v) (get m q))) other ≡ or_else (get m q) (cond tied (Some v) other)
placed q k v m true true there_is tied_is other =
    elim (get m q) as (λ o. is_some o ≡ true → or_else o other ≡ or_else o (Some v)) [
      | None ↦ λ e. absurd cc
      | Some b ↦ λ e. refl
    ] (ap is_some (sym (tied_is refl)) ∙ there_is)
placed q k v m true false there_is tied_is other = refl
placed q k v m false true there_is tied_is other =
    elim (get m q) as (λ o. is_some o ≡ false → Some v ≡ or_else o (Some v)) [
      | None ↦ λ e. refl
      | Some b ↦ λ e. absurd cc
    ] (ap is_some (sym (tied_is refl)) ∙ there_is)
placed q k v m false false there_is tied_is other = refl

pub get_kept : (q k v : List ℕ) (m : BlockMap) → get (kept m k v) q ≡ cond (contains_key m k) (get m q) (cond (eq_by_cmp key_cmp q k) (Some v) (get m q))
get_kept q k v m =
    elim (contains_key m k) as (λ b. get (cond b m (insert m k v)) q ≡ cond b (get m q) (cond (eq_by_cmp key_cmp q k) (Some v) (get m q))) [
      | true ↦ refl
      | false ↦ get-insert key_total m k v q
    ]

pub tied : (q k : List ℕ) (m : BlockMap) → eq_by_cmp key_cmp q k ≡ true → get m k ≡ get m q
tied q k m =
    elim (key_cmp q k) as (λ o. key_cmp q k ≡ o → is_eq o ≡ true → get m k ≡ get m q) [
      | Less ↦ λ o e. absurd cc
      | Equal ↦ λ o e. get_tied key_total m q k o
      | Greater ↦ λ o e. absurd cc
    ] refl

get_all_kept : (q : List ℕ) (m : BlockMap) (ss : List Section) → get (all_kept m ss) q ≡ or_else (get m q) (find key_cmp q ss)
get_all_kept q m [] = elim (get m q) as (λ o. o ≡ or_else o None) [ None ↦ refl | Some v ↦ refl ]
get_all_kept q m (s ∷ ss) =
    get_all_kept q (kept m s.0 s.1) ss
    ∙ ap (λ o. or_else o (find key_cmp q ss)) (get_kept q s.0 s.1 m)
    ∙ placed q s.0 s.1 m (contains_key m s.0) (eq_by_cmp key_cmp q s.0) refl (tied q s.0 m) (find key_cmp q ss)

-- one after the other they are the map of the sections, in which a link has its first block
pub all_kept_is : (ss : List Section) → all_kept empty ss ≡ from_entries ss
all_kept_is ss = same_map key_total cmp_exact (all_kept empty ss) (from_entries ss) (λ q.
    get_all_kept q empty ss
    ∙ ap (λ o. or_else o (find key_cmp q ss)) (get-empty key_cmp q)
    ∙ sym (get-from_entries key_total ss q))

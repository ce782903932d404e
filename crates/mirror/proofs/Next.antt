-- The first entry of a map behind a text, by the entries in order.
use Rattle.std.proofs.Common.{◌≡◌, ℕ, Bool, true, false, not, ◌&&◌, cond, List, [], ◌∷◌, Ordering, Less, Equal, Greater, Option, Some, None, refl, sym, ap, ◌∙◌, subst, nat_cmp}
use Rattle.std.specs.BTreeMap.{is_at}
use Rattle.std.specs.Cmp.Lexicographic.{slice_cmp}
use Rattle.std.specs.List.{AllByRecursion, filter}
use Rattle.std.specs.Option.{is_some}
use Rattle.std.specs.Map.{keys_of, lookup}
use Rattle.std.specs.Ordering.{is_eq, is_lt}
use Rattle.std.specs.List.Sorted.{IsStrictlySortedBy}
use Rattle.at_cid.specs.Order.{key_cmp}
use Rattle.at_cid.proofs.Order.{cmp_exact, cmp_same, cmp_trans}

less_of : (o : Ordering) → (is_lt o && not false) ≡ true → o ≡ Less
less_of Less e = refl
less_of Equal e = absurd cc
less_of Greater e = absurd cc

lt_of : (o : Ordering) → o ≡ Less → (is_lt o && not false) ≡ true
lt_of o e = ap (λ x. is_lt x && not false) e

eq_of : (o : Ordering) → is_eq o ≡ true → o ≡ Equal
eq_of Less e = absurd cc
eq_of Equal e = refl
eq_of Greater e = absurd cc

module _ {K X : Type 0} (text : K → List ℕ) (did other : List ℕ) where
  -- whether an entry is behind the text, as `range` tests it
  abbrev pub is_behind : K × X → Bool
  is_behind e = is_lt (slice_cmp nat_cmp did (text e.0)) && not false

  abbrev pub found : List (K × X) → Option X
  found es = lookup (is_at (λ k. slice_cmp nat_cmp other (text k))) es

  -- an entry of the other text is behind the first one
  behind : (e : K × X) → key_cmp did other ≡ Less → is_at (λ k. slice_cmp nat_cmp other (text k)) e.0 ≡ true → is_behind e ≡ true
  unfolding key_cmp
  behind e above same =
      lt_of (slice_cmp nat_cmp did (text e.0))
      (subst (λ (t : List ℕ). slice_cmp nat_cmp did t ≡ Less) (cmp_exact other (text e.0) (eq_of (slice_cmp nat_cmp other (text e.0)) same)) above)

  passed : (e : K × X) → key_cmp did other ≡ Less → is_behind e ≡ false → is_at (λ k. slice_cmp nat_cmp other (text k)) e.0 ≡ false
  passed e above out = go (is_at (λ k. slice_cmp nat_cmp other (text k)) e.0) refl
    where
      go : (b : Bool) → is_at (λ k. slice_cmp nat_cmp other (text k)) e.0 ≡ b → b ≡ false
      go true same = sym (behind e above same) ∙ out
      go false same = refl

  later : (e : K × X) (es : List (K × X)) → is_at (λ k. slice_cmp nat_cmp other (text k)) e.0 ≡ false → found (e ∷ es) ≡ found es
  later e es out = ap (λ (b : Bool). cond b (Some e.1) (found es)) out

  -- where no entry is behind the text, none has a text that is
  pub none_behind : (es : List (K × X)) → key_cmp did other ≡ Less → filter is_behind es ≡ [] → found es ≡ None
  none_behind [] above none = refl
  none_behind (e ∷ es) above none =
      (elim (is_behind e) as (λ b. is_behind e ≡ b → cond b (e ∷ filter is_behind es) (filter is_behind es) ≡ [] → found (e ∷ es) ≡ None) [
        | true ↦ λ t g. absurd cc
        | false ↦ λ t g. later e es (passed e above t) ∙ none_behind es above g
      ]) refl none

  -- and none that stands before the first of those behind the text
  below_all : (k : K) (es : List (K × X)) → AllByRecursion (λ y. slice_cmp nat_cmp (text k) (text y) ≡ Less) (keys_of es) → key_cmp other (text k) ≡ Less → found es ≡ None
  unfolding key_cmp
  below_all k [] all low = refl
  below_all k (e ∷ es) all low =
      later e es (ap is_eq (cmp_trans other (text k) (text e.0) low all.0)) ∙ below_all k es all.1 low

  head_is : (e x : K × X) (es r : List (K × X)) → e ∷ es ≡ x ∷ r → e ≡ x
  head_is e x es r h = cc

  pub none_between : (es : List (K × X)) (x : K × X) (r : List (K × X)) → IsStrictlySortedBy (λ a b. slice_cmp nat_cmp (text a) (text b)) (keys_of es)
      → filter is_behind es ≡ x ∷ r → key_cmp did other ≡ Less → key_cmp other (text x.0) ≡ Less → found es ≡ None
  unfolding key_cmp IsStrictlySortedBy
  none_between [] x r sorted first above below = absurd cc
  none_between (e ∷ es) x r sorted first above below =
      (elim (is_behind e) as (λ b. is_behind e ≡ b → cond b (e ∷ filter is_behind es) (filter is_behind es) ≡ x ∷ r → found (e ∷ es) ≡ None) [
        | true ↦ λ t g.
            let low : slice_cmp nat_cmp other (text e.0) ≡ Less = subst (λ (y : K × X). slice_cmp nat_cmp other (text y.0) ≡ Less) (sym (head_is e x (filter is_behind es) r g)) below in
            later e es (ap is_eq low) ∙ below_all e.0 es sorted.0 low
        | false ↦ λ t g. later e es (passed e above t) ∙ none_between es x r sorted.1 g above below
      ]) refl first

  pub first_behind : (es : List (K × X)) (x : K × X) (r : List (K × X)) → filter is_behind es ≡ x ∷ r → slice_cmp nat_cmp did (text x.0) ≡ Less
  first_behind [] x r first = absurd cc
  first_behind (e ∷ es) x r first =
      (elim (is_behind e) as (λ b. is_behind e ≡ b → cond b (e ∷ filter is_behind es) (filter is_behind es) ≡ x ∷ r → slice_cmp nat_cmp did (text x.0) ≡ Less) [
        | true ↦ λ t g. subst (λ (y : K × X). slice_cmp nat_cmp did (text y.0) ≡ Less) (head_is e x (filter is_behind es) r g) (less_of (slice_cmp nat_cmp did (text e.0)) t)
        | false ↦ λ t g. first_behind es x r g
      ]) refl first

  at_first : (e x : K × X) → e ≡ x → other ≡ text x.0 → is_at (λ k. slice_cmp nat_cmp other (text k)) e.0 ≡ true
  unfolding key_cmp
  at_first e x is same = ap is_eq (subst (λ (t : List ℕ). slice_cmp nat_cmp other t ≡ Equal) (same ∙ ap (λ (y : K × X). text y.0) (sym is)) (cmp_same other))

  -- the first of those behind the text is found under its own text
  pub first_known : (es : List (K × X)) (x : K × X) (r : List (K × X)) → other ≡ text x.0 → filter is_behind es ≡ x ∷ r → is_some (found es) ≡ true
  first_known [] x r same first = absurd cc
  first_known (e ∷ es) x r same first =
      (elim (is_behind e) as (λ b. is_behind e ≡ b → cond b (e ∷ filter is_behind es) (filter is_behind es) ≡ x ∷ r → is_some (found (e ∷ es)) ≡ true) [
        | true ↦ λ t g. ap (λ (b : Bool). is_some (cond b (Some e.1) (found es))) (at_first e x (head_is e x (filter is_behind es) r g) same)
        | false ↦ λ t g. here (is_at (λ k. slice_cmp nat_cmp other (text k)) e.0) (first_known es x r same g)
      ]) refl first
    where
      here : (b : Bool) → is_some (found es) ≡ true → is_some (cond b (Some e.1) (found es)) ≡ true
      here true there = refl
      here false there = there

  -- an entry behind the text, where those before it aren't
  pub reached : (es rest : List (K × X)) (x : K × X) (r : List (K × X)) → filter is_behind rest ≡ filter is_behind es → rest ≡ x ∷ r
      → is_lt (slice_cmp nat_cmp did (text x.0)) ≡ true → filter is_behind es ≡ x ∷ filter is_behind r
  reached es rest x r left step above =
      sym left ∙ ap (filter is_behind) step
      ∙ ap (λ (b : Bool). cond (b && not false) (x ∷ filter is_behind r) (filter is_behind r)) above

  -- an entry that isn't is left out
  pub skipped : (rest : List (K × X)) (x : K × X) (r : List (K × X)) → rest ≡ x ∷ r
      → is_lt (slice_cmp nat_cmp did (text x.0)) ≡ false → filter is_behind r ≡ filter is_behind rest
  skipped rest x r step below =
      sym (ap (filter is_behind) step
      ∙ ap (λ (b : Bool). cond (b && not false) (x ∷ filter is_behind r) (filter is_behind r)) below)

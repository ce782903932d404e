-- How many entries are left behind a DID.
use Rattle.std.proofs.Common.{◌≡◌, ℕ, suc, ◌≤◌, ◌<◌, Bool, true, false, cond, List, [], ◌∷◌, Some, refl, sym, ◌∙◌, subst, arith}
use Rattle.std.specs.Prelude.{if◌then◌else◌}
use Rattle.std.specs.Map.{lookup}
use Rattle.std.specs.Str.{bytes_eq}
use Rattle.std.proofs.lemmas.Bool.{false≢true, true≢false}
use Rattle.account_state.specs.Entries.{Entry, entry, is_before, known_in}
use Rattle.account_state.specs.State.{State}
use Rattle.account_state.proofs.Order.{before_apart, before_trans, is_text, same_text}

-- how many entries stand behind a DID
abbrev pub behind_count : List ℕ → List Entry → ℕ
behind_count did [] = 0
behind_count did (e ∷ es) = cond (is_before did e.0) (suc (behind_count did es)) (behind_count did es)

count_le : (a b : Bool) (m n : ℕ) → (a ≡ true → b ≡ true) → m ≤ n → cond a (suc m) m ≤ cond b (suc n) n
count_le true true m n so le = omega (arith, le)
count_le true false m n so le = absurd (false≢true (so refl))
count_le false true m n so le = omega (arith, le)
count_le false false m n so le = le

count_lt : (a b : Bool) (m n : ℕ) → (a ≡ true → b ≡ true) → m < n → cond a (suc m) m < cond b (suc n) n
count_lt true true m n so lt = omega (arith, lt)
count_lt true false m n so lt = absurd (false≢true (so refl))
count_lt false true m n so lt = omega (arith, lt)
count_lt false false m n so lt = lt

count_here : (a b : Bool) (m n : ℕ) → a ≡ false → b ≡ true → m ≤ n → cond a (suc m) m < cond b (suc n) n
count_here true b m n off on le = absurd (true≢false off)
count_here false true m n off on le = omega (arith, le)
count_here false false m n off on le = absurd (false≢true on)

module _ (did x : List ℕ) (less : is_before did x ≡ true) where
  fewer : (es : List Entry) → behind_count x es ≤ behind_count did es
  fewer [] = omega arith
  fewer (e ∷ es) = count_le (is_before x e.0) (is_before did e.0) (behind_count x es) (behind_count did es) (λ past. before_trans did x e.0 less past) (fewer es)

  not_past : (y : List ℕ) → x ≡ y → is_before x y ≡ false
  not_past y same =
      elim (is_before x y) as (λ b. is_before x y ≡ b → b ≡ false) [
        | true ↦ λ past. absurd (false≢true (sym (before_apart x y past) ∙ is_text x y same))
        | false ↦ λ past. refl
      ] refl

  fewer_by : (same : Bool) (e : Entry) (es : List Entry) (s : State) → bytes_eq x e.0 ≡ same → known_in (if same then Some e.1 else lookup (bytes_eq x) es) ≡ Some s
      → (entry es x ≡ Some s → behind_count x es < behind_count did es) → behind_count x (e ∷ es) < behind_count did (e ∷ es)
  fewer_by true e es s same is more =
      let here : x ≡ e.0 = same_text x e.0 same in
      count_here (is_before x e.0) (is_before did e.0) (behind_count x es) (behind_count did es) (not_past e.0 here) (subst (λ (y : List ℕ). is_before did y ≡ true) here less) (fewer es)
  fewer_by false e es s same is more =
      count_lt (is_before x e.0) (is_before did e.0) (behind_count x es) (behind_count did es) (λ past. before_trans did x e.0 less past) (more is)

  -- fewer stand behind one that stands behind it
  pub fewer_left : (es : List Entry) (s : State) → entry es x ≡ Some s → behind_count x es < behind_count did es
  fewer_left [] s is = absurd cc
  fewer_left (e ∷ es) s is = fewer_by (bytes_eq x e.0) e es s refl is (fewer_left es s)

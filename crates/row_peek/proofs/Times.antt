-- Passing so many, as a loop does.
use Rattle.std.proofs.Common.{◌≡◌, ℕ, suc, ◌-◌, ◌+◌, ◌≤◌, ◌<◌, List, Option, Some, None, refl, sym, ◌∙◌, arith}
use Rattle.row_peek.specs.Passing.{times}

module _ (step : List ℕ → Option (List ℕ)) (count i : ℕ) (bytes : List ℕ) (total : Option (List ℕ)) (so_far : times (count - i) step bytes ≡ total) where
  pub one_passed : (rest : List ℕ) → i < count → step bytes ≡ Some rest → times (count - (i + 1)) step rest ≡ total
  one_passed rest lt is =
      let k : count - i ≡ suc (count - (i + 1)) = omega arith in
      let one : times (count - i) step bytes ≡ times (count - (i + 1)) step rest = rw (k, is) refl in
      sym one ∙ so_far

  pub none_passed : i < count → step bytes ≡ None → total ≡ None
  none_passed lt none =
      let k : count - i ≡ suc (count - (i + 1)) = omega arith in
      let one : times (count - i) step bytes ≡ None = rw (k, none) refl in
      sym so_far ∙ one

  pub all_passed : count ≤ i → total ≡ Some bytes
  all_passed le =
      let k : count - i ≡ 0 = omega arith in
      let one : times (count - i) step bytes ≡ Some bytes = rw k refl in
      sym so_far ∙ one

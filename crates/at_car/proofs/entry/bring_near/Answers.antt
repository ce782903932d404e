use Rattle.std.proofs.Common.{rules, arith, ℕ, ◌≡◌, false}
use Rattle.std.proofs.lemmas.Bool.Decides.{nat_tests}
use Rattle.std.specs.Ordering.{is_lt, nat_cmp}
use Rattle.std.proofs.lemmas.Fn.{always_returns_same}
use Rattle.std.proofs.lemmas.List.Sorted.{All-permutation}
use Rattle.at_car.specs.Links.{first_word}
use Rattle.at_car.specs.Logs.{IsTold}
use Rattle.at_car.proofs.Settles.{stable_places}
use Rattle.at_car.proofs.entry.bring_near.Goals as goal

never : (n : ℕ) → is_lt (nat_cmp n n) ≡ false
never n = grind (arith, nat_tests)

pub returns-clause-places : goal.returns-clause-places
returns-clause-places c = λ link.
    stable_places (λ a b. is_lt (nat_cmp (first_word a) (first_word b))) (λ l. never (first_word l)) link _ _
    (c.sort_by_cached_key.ensures.stable (λ e. first_word e.link) (always_returns_same _ _ _ (λ a r f k. search rules)))

pub returns-clause-told : goal.returns-clause-told
returns-clause-told c = λ buffer h. All-permutation (IsTold buffer) _ _ c.sort_by_cached_key.ensures.permutation h

-- Numbers of decimal digits.
use Rattle.std.proofs.Common.{◌≡◌, ℕ, ◌<◌, ◌≤◌, ◌^◌, List, length, Some, None, Option, Result, Ok, Err, Bool, true, false, nat_lt, nat_le, ◌&&◌, if◌then◌else◌, subst, refl, sym, ap, ◌∙◌, arith, rules}
use Rattle.std.specs.Result.{OkIff, result_ok}
use Rattle.std.specs.Str.Parse.{ParsesUnsigned, digits_value}
use Rattle.std.proofs.lemmas.Bool.Decides.{nat_tests}
use Rattle.std.proofs.lemmas.Str.Parse.{IsNumeralModel, numerals_by_value, parse_digits, digits_value_short}
use Rattle.web_request.specs.Requests.{are_digits, decimal_in}

own : IsNumeralModel (λ ds. are_digits ds ≡ true) (digits_value 10)
own = numerals_by_value _ (search rules)

some_of : (a b c : Bool) (n : ℕ) → a ≡ true → b ≡ true → c ≡ true → Some n ≡ (if a && b && c then Some n else None)
some_of true true true n x y z = refl
some_of false b c n x y z = absurd (cc)
some_of true false c n x y z = absurd (cc)
some_of true true false n x y z = absurd (cc)

none_of : (a b c : Bool) (n : ℕ) → a ≡ false → None ≡ (if a && b && c then Some n else None)
none_of false b c n is = refl
none_of true b c n is = absurd (cc)

by_result : {E : Type 0} (most : ℕ) (text : List ℕ) (r : Result ℕ E) → are_digits text ≡ true → length text ≤ most → digits_value 10 text < 2 ^ 64
    → OkIff r ((0 < length text) × (digits_value 10 text < 2 ^ 64)) (digits_value 10 text) → result_ok r ≡ decimal_in most text
by_result most text (Ok n) are fits small is =
    let some : 0 < length text = is.0.0 in
    ap Some is.1 ∙ some_of (nat_lt 0 (length text)) (nat_le (length text) most) (are_digits text) (digits_value 10 text) (grind (arith, nat_tests)) (grind (arith, nat_tests)) are
by_result most text (Err e) are fits small is =
    let empty : ¬ (0 < length text) = λ some. is (some, small) in
    none_of (nat_lt 0 (length text)) (nat_le (length text) most) (are_digits text) (digits_value 10 text) (grind (arith, nat_tests))

-- digits that aren't too many are read as their number
pub number_read : {E : Type 0} (most : ℕ) (text : List ℕ) (r : Result ℕ E) → most ≤ 19 → length text ≤ most → are_digits text ≡ true → ParsesUnsigned 64 10 text r
    → result_ok r ≡ decimal_in most text
number_read most text r few fits are read =
    let below : digits_value 10 text < 10 ^ 19 = digits_value_short own text 19 are (omega arith) in
    by_result most text r are fits (omega arith) (parse_digits own 64 text r read are)

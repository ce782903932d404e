-- The fronts of lists: what is read of one is encoded so, and read again.
use Rattle.std.proofs.Common.{◌≡◌, ℕ, suc, ◌^◌, ◌<◌, ◌⊎◌, inl, inr, Bool, true, false, cond, List, [], ◌∷◌, ◌++◌, length, Some, refl, ap}
use Rattle.at_cbor.specs.declared.major.Major.{Major}
use Rattle.at_cbor.specs.Item.{Item, items_of}
use Rattle.at_cbor.specs.Encoding.{front_of, items_count}
use Rattle.at_cbor.proofs.Taken.{number_takes, number_again as front_again}
use Rattle.row_codec.specs.Readers.{Reading, fail, count_at}
use Rattle.row_codec.proofs.Steps.{Sound}

pub count_sound : Sound (front_of Major.List) count_at
unfolding count_at
count_sound bytes n rest ok e = (number_takes Major.List bytes (n, rest) ok e).0

pub count_again : (n : ℕ) (rest : List ℕ) → n < 2 ^ 64 → count_at (front_of Major.List n ++ rest) ≡ Some (n, rest)
unfolding count_at
count_again n rest h = front_again Major.List n rest h

pub items_count_is : (is : List Item) → items_count (items_of is) ≡ length is
items_count_is [] = refl
items_count_is (i ∷ is) = ap suc (items_count_is is)

-- which of two readers a test chose
pub chosen_at : {A : Type 0} (b : Bool) (r q : Reading A) (bytes : List ℕ) (y : A × List ℕ) → (cond b r q) bytes ≡ Some y → ((b ≡ true) × (r bytes ≡ Some y)) ⊎ ((b ≡ false) × (q bytes ≡ Some y))
chosen_at true r q bytes y e = inl (refl, e)
chosen_at false r q bytes y e = inr (refl, e)

pub passed_at : {A : Type 0} (b : Bool) (r : Reading A) (bytes : List ℕ) (y : A × List ℕ) → (cond b r fail) bytes ≡ Some y → (b ≡ true) × (r bytes ≡ Some y)
passed_at true r bytes y e = (refl, e)
passed_at false r bytes y e = absurd cc

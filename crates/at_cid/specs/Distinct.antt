-- Whether some of a list are the same.
use Rattle.std.specs.Prelude.{Bool, true, not, ◌&&◌, List, [], ◌∷◌}

-- it is equal to none of these
abbrev pub is_absent : {A : Type 0} → (A → A → Bool) → A → List A → Bool
is_absent equal x [] = true
is_absent equal x (y ∷ ys) = not (equal y x) && is_absent equal x ys

-- no two of them are equal
abbrev pub all_differ : {A : Type 0} → (A → A → Bool) → List A → Bool
all_differ equal [] = true
all_differ equal (x ∷ xs) = is_absent equal x xs && all_differ equal xs

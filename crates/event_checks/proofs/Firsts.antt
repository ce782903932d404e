-- The first line of a table that applies.
use Rattle.std.proofs.Common.{◌≡◌, Bool, true, false, cond, List, [], ◌∷◌, ◌++◌, Option, Some, None, refl, subst}
use Rattle.at_event.specs.declared.refusal.Refusal.{Refusal}
use Rattle.event_checks.specs.Lines.{RefusalLine, first_of, is_judged}

-- no condition applies
abbrev pub AllUnmet : {A : Type 0} → List (A × Bool) → Type 0
AllUnmet [] = Unit {0}
AllUnmet (line ∷ lines) = (line.1 ≡ false) × AllUnmet lines

one_unmet : {A : Type 0} → (b : Bool) (r : A) (rest : Option A) → cond b (Some r) rest ≡ None → (b ≡ false) × (rest ≡ None)
one_unmet true r rest h = absurd (cc)
one_unmet false r rest h = (refl, h)

-- where no line tells anything, no condition applies
pub all_unmet : {A : Type 0} → (lines : List (A × Bool)) → first_of lines ≡ None → AllUnmet lines
all_unmet [] h = tt
all_unmet (line ∷ lines) h = let s = one_unmet line.1 line.0 (first_of lines) h in (s.0, all_unmet lines s.1)

-- all that the lines may tell has P
abbrev pub AllTell : {A : Type 0} → (A → Type 0) → List (A × Bool) → Type 0
AllTell P [] = Unit {0}
AllTell P (line ∷ lines) = P line.0 × AllTell P lines

same_told : {A : Type 0} → (x y : A) → Some x ≡ Some y → x ≡ y
same_told x y e = cc

one_tells : {A : Type 0} → (P : A → Type 0) (b : Bool) (told x : A) (rest : Option A) → P told → (rest ≡ Some x → P x) → cond b (Some told) rest ≡ Some x → P x
one_tells P true told x rest fine other e = subst P (same_told told x e) fine
one_tells P false told x rest fine other e = other e

-- then the first that applies has P
pub first_tells : {A : Type 0} → (P : A → Type 0) (lines : List (A × Bool)) (x : A) → AllTell P lines → first_of lines ≡ Some x → P x
first_tells P [] x all e = absurd (cc)
first_tells P (line ∷ lines) x all e = one_tells P line.1 line.0 x (first_of lines) all.0 (λ h. first_tells P lines x all.1 h) e

-- no line is a judge's
abbrev pub AreUnjudged : List RefusalLine → Type 0
AreUnjudged lines = AllTell (λ refusal. is_judged refusal ≡ false) lines

-- then the first that applies is none
pub first_unjudged : (lines : List RefusalLine) (refusal : Refusal) → AreUnjudged lines → first_of lines ≡ Some refusal → is_judged refusal ≡ false
first_unjudged lines refusal are e = first_tells (λ r. is_judged r ≡ false) lines refusal are e

-- what stands behind lines of which none applies
pub lines_on : {A : Type 0} → (xs ys : List (A × Bool)) → first_of xs ≡ None → first_of (xs ++ ys) ≡ first_of ys
lines_on [] ys h = refl
lines_on ((r, true) ∷ xs) ys h = absurd (cc)
lines_on ((r, false) ∷ xs) ys h = lines_on xs ys h

-- the first that applies stays the first
pub lines_first : {A : Type 0} → (xs ys : List (A × Bool)) (r : A) → first_of xs ≡ Some r → first_of (xs ++ ys) ≡ Some r
lines_first [] ys r h = absurd (cc)
lines_first ((t, true) ∷ xs) ys r h = h
lines_first ((t, false) ∷ xs) ys r h = lines_first xs ys r h

-- where none applies, none does in front
pub first_front : {A : Type 0} → (xs ys : List (A × Bool)) → first_of (xs ++ ys) ≡ None → first_of xs ≡ None
first_front [] ys h = refl
first_front ((r, true) ∷ xs) ys h = absurd (cc)
first_front ((r, false) ∷ xs) ys h = first_front xs ys h

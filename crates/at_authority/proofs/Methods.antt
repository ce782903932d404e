-- The lists of authorities of a panel, each under its method.
use Rattle.std.proofs.Common.{◌≡◌, ◌≢◌, ℕ, ◌<◌, Bool, true, false, cond, List, [], ◌∷◌, ◌++◌, length, get_or, zero, suc, refl, sym, ap, ◌∙◌, subst, arith}
use Rattle.std.specs.Str.{bytes_eq}
use Rattle.std.proofs.Math.ListN.{set}
use Rattle.std.proofs.lemmas.Bool.{false_from_ne_true}
use Rattle.std.proofs.lemmas.Slice.Eq.{bytes_eq-Decides}
use Rattle.std.specs.Prelude.{Result, Ok, Err, OnOk, OnErr}
use Rattle.at_syntax.specs.Did.{method_of}
use Rattle.at_authority.specs.declared.judges.JudgeFault.{JudgeFault}
use Rattle.at_authority.specs.declared.question.AuthorityQuestion.{AuthorityQuestion}
use Rattle.at_authority.specs.Panels.{Entry, Authorities, IsSpent, living, FirstAt, NonePasses, authorities_at, never}
use Rattle.at_authority.specs.Calls.{Call, Asks, IsCall, did_called, returned}
use Rattle.at_authority.specs.Asking.{call_of}
use Rattle.at_authority.proofs.MethodLists.{empty, goes_nowhere}

module _ {B : Type 0} (p : B → Bool) where
  pub first_from : (xs : List B) (i : ℕ) (d : B) → i < length xs → ((k : ℕ) → k < i → p (get_or xs k d) ≡ false) → p (get_or xs i d) ≡ true → FirstAt p xs i
  first_from [] i d low before here = absurd (omega (arith, low))
  first_from (x ∷ xs) zero d low before here = here
  first_from (x ∷ xs) (suc i) d low before here = (before 0 (omega arith), first_from xs i d (omega (arith, low)) (λ k h. before (suc k) (omega (arith, h))) here)

  pub none_from : (xs : List B) → ((k : ℕ) (d : B) → k < length xs → p (get_or xs k d) ≡ false) → NonePasses p xs
  none_from [] each = tt
  none_from (x ∷ xs) each = (each 0 x (omega arith), none_from xs (λ k d h. each (suc k) d (omega (arith, h))))

  pub inside : (xs : List B) (i : ℕ) → FirstAt p xs i → i < length xs
  inside [] i h = absurd h
  inside (x ∷ xs) zero h = omega arith
  inside (x ∷ xs) (suc i) h = omega (arith, inside xs i h.1)

-- whom a question is about
pub called : (did : List ℕ) (question : AuthorityQuestion) (r : Result Bool JudgeFault) → did_called (returned did (call_of did question) r) ≡ did
called did (AuthorityQuestion.Home host) (Ok good) = refl
called did (AuthorityQuestion.Verdict digest sig) (Ok good) = refl
called did AuthorityQuestion.Refresh (Ok good) = refl
called did question (Err fault) = refl

module _ {B : Type 0} (method : B → List ℕ) (authorities : B → Authorities) where
  abbrev named : List ℕ → B → Bool
  named name b = bytes_eq (method b) name

  at_true : (b : Bool) (x y : Authorities) → b ≡ true → cond b x y ≡ x
  at_true b x y h = rw h refl

  at_false : (b : Bool) (x y : Authorities) → b ≡ false → cond b x y ≡ y
  at_false b x y h = rw h refl

  pub at_found : (xs : List B) (name : List ℕ) (i : ℕ) (y : B) → FirstAt (named name) xs i → y ≡ get_or xs i y → authorities_at method authorities xs name ≡ authorities y
  at_found [] name i y h e = absurd h
  at_found (x ∷ xs) name zero y h e = at_true (bytes_eq (method x) name) (authorities x) (authorities_at method authorities xs name) h ∙ ap authorities (sym e)
  at_found (x ∷ xs) name (suc i) y h e = at_false (bytes_eq (method x) name) (authorities x) (authorities_at method authorities xs name) h.0 ∙ at_found xs name i y h.1 e

  pub at_missed : (xs : List B) (name : List ℕ) → NonePasses (named name) xs → authorities_at method authorities xs name ≡ never
  at_missed [] name h = refl
  at_missed (x ∷ xs) name h = at_false (bytes_eq (method x) name) (authorities x) (authorities_at method authorities xs name) h.0 ∙ at_missed xs name h.1

  pub method_at : (xs : List B) (name : List ℕ) (i : ℕ) (y : B) → FirstAt (named name) xs i → y ≡ get_or xs i y → method y ≡ name
  method_at [] name i y h e = absurd h
  method_at (x ∷ xs) name zero y h e = ap method e ∙ (bytes_eq-Decides (method x) name).0 h
  method_at (x ∷ xs) name (suc i) y h e = method_at xs name i y h.1 e

  pub at_set : (xs : List B) (name : List ℕ) (i : ℕ) (x : B) → FirstAt (named name) xs i → method x ≡ name → authorities_at method authorities (set xs i x) name ≡ authorities x
  at_set [] name i x h e = absurd h
  at_set (y ∷ xs) name zero x h e = at_true (bytes_eq (method x) name) (authorities x) (authorities_at method authorities xs name) ((bytes_eq-Decides (method x) name).1 e)
  at_set (y ∷ xs) name (suc i) x h e = at_false (bytes_eq (method y) name) (authorities y) (authorities_at method authorities (set xs i x) name) h.0 ∙ at_set xs name i x h.1 e

  other_named : (b : B) (name other : List ℕ) → method b ≡ name → other ≢ name → bytes_eq (method b) other ≡ false
  other_named b name other e d = false_from_ne_true (bytes_eq (method b) other) (λ h. d (sym ((bytes_eq-Decides (method b) other).0 h) ∙ e))

  pub at_set_other : (xs : List B) (name other : List ℕ) (i : ℕ) (x : B) → FirstAt (named name) xs i → method x ≡ name → other ≢ name → authorities_at method authorities (set xs i x) other ≡ authorities_at method authorities xs other
  at_set_other [] name other i x h e d = absurd h
  at_set_other (y ∷ xs) name other zero x h e d =
      at_false (bytes_eq (method x) other) (authorities x) (authorities_at method authorities xs other) (other_named x name other e d)
      ∙ sym (at_false (bytes_eq (method y) other) (authorities y) (authorities_at method authorities xs other) (other_named y name other ((bytes_eq-Decides (method y) name).0 h) d))
  at_set_other (y ∷ xs) name other (suc i) x h e d = ap (λ (b : Authorities). cond (bytes_eq (method y) other) (authorities y) b) (at_set_other xs name other i x h.1 e d)

  pub at_pushed : (xs : List B) (name : List ℕ) (x : B) → NonePasses (named name) xs → method x ≡ name → authorities_at method authorities (xs ++ x ∷ []) name ≡ authorities x
  at_pushed [] name x h e = at_true (bytes_eq (method x) name) (authorities x) never ((bytes_eq-Decides (method x) name).1 e)
  at_pushed (y ∷ xs) name x h e = at_false (bytes_eq (method y) name) (authorities y) (authorities_at method authorities (xs ++ x ∷ []) name) h.0 ∙ at_pushed xs name x h.1 e

  pub at_pushed_other : (xs : List B) (name other : List ℕ) (x : B) → method x ≡ name → other ≢ name → authorities_at method authorities (xs ++ x ∷ []) other ≡ authorities_at method authorities xs other
  at_pushed_other [] name other x e d = at_false (bytes_eq (method x) other) (authorities x) never (other_named x name other e d)
  at_pushed_other (y ∷ xs) name other x e d = ap (λ (b : Authorities). cond (bytes_eq (method y) other) (authorities y) b) (at_pushed_other xs name other x e d)

  pub found_length : (xs : List B) (name : List ℕ) (i : ℕ) (y : B) → FirstAt (named name) xs i → y ≡ get_or xs i y → (n : ℕ) → n ≡ length (living (authorities y)) → n ≡ length (living (authorities_at method authorities xs name))
  found_length xs name i y h e n long = long ∙ ap (λ (b : Authorities). length (living b)) (sym (at_found xs name i y h e))

  -- a call of the list of authorities of a DID's method
  pub is_call : (xs : List B) (i : ℕ) (x y : B) (did : List ℕ) (call : Call) → did_called call ≡ did → FirstAt (named (method_of did)) xs i → y ≡ get_or xs i y → method x ≡ method y → Asks call (authorities y) (authorities x)
      → IsCall call (authorities_at method authorities xs) (authorities_at method authorities (set xs i x))
  is_call xs i x y did call e h at same asks =
      let name : List ℕ = method_of did in
      let kept : method x ≡ name = same ∙ method_at xs name i y h at in
      let P : Authorities → Type 0 = λ b. Asks call b (authorities x) in
      let Q : Authorities → Type 0 = λ b. Asks call (authorities_at method authorities xs name) b in
      let R : List ℕ → Type 0 = λ d. Asks call (authorities_at method authorities xs (method_of d)) (authorities_at method authorities (set xs i x) (method_of d)) in
      record {
        asks = subst R (sym e) (subst Q (sym (at_set xs name i x h kept)) (subst P (sym (at_found xs name i y h at)) asks));
        others = λ other d. at_set_other xs name other i x h kept (λ k. d (k ∙ ap method_of (sym e)));
      }

  pub is_spent_at : {A E : Type 0} (xs : List B) (name : List ℕ) (i : ℕ) (x y : B) (r : Result A E) (fault : E) → FirstAt (named name) xs i → y ≡ get_or xs i y → method x ≡ method y
      → (r ≡ Err fault → IsSpent (authorities x)) × (IsSpent (authorities x) → r ≡ Err fault)
      → (r ≡ Err fault → IsSpent (authorities_at method authorities (set xs i x) name)) × (IsSpent (authorities_at method authorities (set xs i x) name) → r ≡ Err fault)
  is_spent_at {A} {E} xs name i x y r fault h at same both =
      let P : Authorities → Type 0 = λ b. (r ≡ Err fault → IsSpent b) × (IsSpent b → r ≡ Err fault) in subst P (sym (at_set xs name i x h (same ∙ method_at xs name i y h at))) both

  -- a question about a method that never had an authority
  pub is_no_call : (xs : List B) (did : List ℕ) (question : AuthorityQuestion) → NonePasses (named (method_of did)) xs → IsCall (call_of did question false) (authorities_at method authorities xs) (authorities_at method authorities xs)
  is_no_call xs did question h =
      let call : Call = call_of did question false in
      let P : Authorities → Type 0 = λ b. Asks call b b in
      let R : List ℕ → Type 0 = λ d. P (authorities_at method authorities xs (method_of d)) in
      record {
        asks = subst R (sym (called did question (Ok false))) (subst P (sym (at_missed xs (method_of did) h)) (empty (λ (s : Entry). s.value) (λ (s : Entry). s.faults) never [] 0 did question (goes_nowhere (λ (s : Entry). s.value) (λ (s : Entry). s.faults) [] 0 (omega arith)) refl));
        others = λ other d. refl;
      }

  pub never_spent : (xs : List B) (name : List ℕ) → NonePasses (named name) xs → IsSpent (authorities_at method authorities xs name) → ⊥
  never_spent xs name h spent = let P : Authorities → Type 0 = λ b. IsSpent b in let none : IsSpent never = subst P (at_missed xs name h) spent in omega (arith, none.had)

  -- an authority was added to a list of authorities
  pub added_at : (xs : List B) (name : List ℕ) (i : ℕ) (x y : B) (s : Entry) → FirstAt (named name) xs i → y ≡ get_or xs i y → method x ≡ method y → (authorities x).entries ≡ (authorities y).entries ++ s ∷ []
      → (authorities_at method authorities (set xs i x) name).entries ≡ (authorities_at method authorities xs name).entries ++ s ∷ []
  added_at xs name i x y s h at same e =
      ap (λ (b : Authorities). b.entries) (at_set xs name i x h (same ∙ method_at xs name i y h at)) ∙ e ∙ ap (λ (b : Authorities). b.entries ++ s ∷ []) (sym (at_found xs name i y h at))

  pub fallen_at : (xs : List B) (name : List ℕ) (i : ℕ) (x y : B) → FirstAt (named name) xs i → y ≡ get_or xs i y → method x ≡ method y → (authorities x).fallen ≡ (authorities y).fallen
      → (authorities_at method authorities (set xs i x) name).fallen ≡ (authorities_at method authorities xs name).fallen
  fallen_at xs name i x y h at same e = ap (λ (b : Authorities). b.fallen) (at_set xs name i x h (same ∙ method_at xs name i y h at)) ∙ e ∙ ap (λ (b : Authorities). b.fallen) (sym (at_found xs name i y h at))

  pub others_at : (xs : List B) (name : List ℕ) (i : ℕ) (x y : B) → FirstAt (named name) xs i → y ≡ get_or xs i y → method x ≡ method y → (other : List ℕ) → other ≢ name → authorities_at method authorities (set xs i x) other ≡ authorities_at method authorities xs other
  others_at xs name i x y h at same other d = at_set_other xs name other i x h (same ∙ method_at xs name i y h at) d

  pub kept_at : (xs : List B) (i : ℕ) (x y : B) → y ≡ get_or xs i y → method x ≡ method y → authorities x ≡ authorities y → (other : List ℕ) → authorities_at method authorities (set xs i x) other ≡ authorities_at method authorities xs other
  kept_at [] i x y at same e other = refl
  kept_at (z ∷ xs) zero x y at same e other = ap (λ (m : List ℕ). cond (bytes_eq m other) (authorities x) (authorities_at method authorities xs other)) (same ∙ ap method at) ∙ ap (λ (b : Authorities). cond (bytes_eq (method z) other) b (authorities_at method authorities xs other)) (e ∙ ap authorities at)
  kept_at (z ∷ xs) (suc i) x y at same e other = ap (λ (b : Authorities). cond (bytes_eq (method z) other) (authorities z) b) (kept_at xs i x y at same e other)

  -- a list of authorities was added
  pub added_new : (xs ys : List B) (name : List ℕ) (x : B) (s : Entry) → ys ≡ xs ++ x ∷ [] → NonePasses (named name) xs → method x ≡ name → (authorities x).entries ≡ s ∷ [] → (authorities_at method authorities ys name).entries ≡ (authorities_at method authorities xs name).entries ++ s ∷ []
  added_new xs ys name x s p h same e =
      ap (λ (l : List B). (authorities_at method authorities l name).entries) p ∙ ap (λ (b : Authorities). b.entries) (at_pushed xs name x h same) ∙ e ∙ ap (λ (b : Authorities). b.entries ++ s ∷ []) (sym (at_missed xs name h))

  pub fallen_new : (xs ys : List B) (name : List ℕ) (x : B) → ys ≡ xs ++ x ∷ [] → NonePasses (named name) xs → method x ≡ name → (authorities x).fallen ≡ 0 → (authorities_at method authorities ys name).fallen ≡ (authorities_at method authorities xs name).fallen
  fallen_new xs ys name x p h same e =
      ap (λ (l : List B). (authorities_at method authorities l name).fallen) p ∙ ap (λ (b : Authorities). b.fallen) (at_pushed xs name x h same) ∙ e ∙ ap (λ (b : Authorities). b.fallen) (sym (at_missed xs name h))

  pub others_new : (xs ys : List B) (name : List ℕ) (x : B) → ys ≡ xs ++ x ∷ [] → method x ≡ name → (other : List ℕ) → other ≢ name → authorities_at method authorities ys other ≡ authorities_at method authorities xs other
  others_new xs ys name x p same other d = ap (λ (l : List B). authorities_at method authorities l other) p ∙ at_pushed_other xs name other x same d

-- what follows from a clause for one answer
pub on_ok : {A E P Q : Type 0} (r : Result A E) → (P → Q) → OnOk r P → OnOk r Q
on_ok (Ok x) f h = f h
on_ok (Err e) f h = h

pub on_err : {A E P Q : Type 0} (r : Result A E) → (P → Q) → OnErr r P → OnErr r Q
on_err (Ok x) f h = h
on_err (Err e) f h = f h

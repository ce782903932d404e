-- Asking a list of authorities: those in front fall one by one, until one answers.
use Rattle.std.proofs.Common.{◌≡◌, ◌≢◌, ◌⊎◌, inl, inr, ⊎_elim, ℕ, ◌+◌, ◌-◌, ◌<◌, ◌≤◌, Bool, false, List, [], ◌∷◌, ◌++◌, length, drop, map, get_or, zero, suc, Option, refl, sym, ap, ◌∙◌, subst, arith, get_or-set_other, get_or-set_same}
use Rattle.std.proofs.Math.ListN.{set, length-set}
use Rattle.std.proofs.lemmas.List.{length-map, drop_all, length-drop}
use Rattle.std.specs.Prelude.{Err}
use Rattle.at_authority.specs.declared.asked.Asked.{Asked}
use Rattle.at_authority.specs.declared.question.AuthorityQuestion.{AuthorityQuestion}
use Rattle.at_authority.specs.Queries.{Telling}
use Rattle.at_authority.specs.Answers.{Rises, CountsFailure}
use Rattle.at_authority.specs.Panels.{Entry, Authorities, values, living, faults_at, Falls, authorities_of}
use Rattle.at_authority.specs.Calls.{Call, Turns, NobodySays, Does, Asks}
use Rattle.at_authority.specs.Asking.{call_of}

map_set : {A B : Type 0} (f : A → B) (xs : List A) (i : ℕ) (x : A) → map f (set xs i x) ≡ set (map f xs) i (f x)
map_set f [] i x = refl
map_set f (y ∷ xs) zero x = refl
map_set f (y ∷ xs) (suc i) x = ap (λ l. f y ∷ l) (map_set f xs i x)

set_same : {A : Type 0} (xs : List A) (i : ℕ) (x : A) → x ≡ get_or xs i x → set xs i x ≡ xs
set_same [] i x h = refl
set_same (y ∷ xs) zero x h = ap (λ z. z ∷ xs) h
set_same (y ∷ xs) (suc i) x h = ap (λ l. y ∷ l) (set_same xs i x h)

map_at : {A B : Type 0} (f : A → B) (xs : List A) (i : ℕ) (x : A) (d : B) → i < length xs → x ≡ get_or xs i x → get_or (map f xs) i d ≡ f x
map_at f [] i x d low h = absurd (omega arith)
map_at f (y ∷ xs) zero x d low h = ap f (sym h)
map_at f (y ∷ xs) (suc i) x d low h = map_at f xs i x d (omega arith) h

drop_set : {A : Type 0} (xs : List A) (i : ℕ) (x : A) → i < length xs → drop i (set xs i x) ≡ x ∷ drop (suc i) xs
drop_set [] i x low = absurd (omega arith)
drop_set (y ∷ xs) zero x low = refl
drop_set (y ∷ xs) (suc i) x low = drop_set xs i x (omega arith)

drop_at : {A : Type 0} (xs : List A) (i : ℕ) (x : A) → i < length xs → x ≡ get_or xs i x → drop i xs ≡ x ∷ drop (suc i) xs
drop_at xs i x low h = ap (drop i) (sym (set_same xs i x h)) ∙ drop_set xs i x low

-- what a call counts by its fault
pub counted_failed : (fault : Asked) (old new : ℕ) → fault ≡ Asked.Failed → CountsFailure {A = Bool} (Err fault) old new → Rises old new
counted_failed fault old new e h = let P : Asked → Type 0 = λ f. CountsFailure {A = Bool} (Err f) old new in subst P e h

pub counted_wanting : (fault : Asked) (old new : ℕ) → fault ≡ Asked.Memory → CountsFailure {A = Bool} (Err fault) old new → new ≡ old
counted_wanting fault old new e h = let P : Asked → Type 0 = λ f. CountsFailure {A = Bool} (Err f) old new in subst P e h

-- a list of authorities is asked nothing where nobody sits there
nobody : (did : List ℕ) (question : AuthorityQuestion) (all : List Entry) → all ≡ [] → NobodySays (call_of did question false) all
nobody did (AuthorityQuestion.Home host) all none = (none, refl)
nobody did (AuthorityQuestion.Verdict digest sig) all none = (none, refl)
nobody did AuthorityQuestion.Refresh all none = none

does_first : (call : Call) (all : List Entry) (before after : List (Option Telling)) (value now : Option Telling) (others : List (Option Telling)) → before ≡ value ∷ others → after ≡ now ∷ others → Turns call value now → Does call all before after
does_first call all before after value now others b a turns = let P : List (Option Telling) → Type 0 = λ l. Does call all l after in subst P (sym b) (now, a, turns)

does_nothing : (call : Call) (all : List Entry) (before after : List (Option Telling)) → before ≡ [] → after ≡ [] → NobodySays call all → Does call all before after
does_nothing call all before after b a says = let P : List (Option Telling) → Type 0 = λ l. Does call all l after in subst P (sym b) (a, says)

module _ {A : Type 0} (tells : A → Option Telling) (faults : A → ℕ) where
  abbrev entry : A → Entry
  entry a = record { value = tells a; faults = faults a }

  abbrev authorities : List A → ℕ → Authorities
  authorities = authorities_of tells faults

  values_set : (xs : List A) (n m i : ℕ) (x : A) → values (authorities (set xs i x) n) ≡ set (values (authorities xs m)) i (tells x)
  values_set xs n m i x = ap (map (λ (s : Entry). s.value)) (map_set entry xs i x) ∙ map_set (λ (s : Entry). s.value) (map entry xs) i (entry x)

  faults_set : (xs : List A) (i : ℕ) (x : A) → map (λ (s : Entry). s.faults) (map entry (set xs i x)) ≡ set (map (λ (s : Entry). s.faults) (map entry xs)) i (faults x)
  faults_set xs i x = ap (map (λ (s : Entry). s.faults)) (map_set entry xs i x) ∙ map_set (λ (s : Entry). s.faults) (map entry xs) i (entry x)

  long : (xs : List A) → length (map (λ (s : Entry). s.faults) (map entry xs)) ≡ length xs
  long xs = length-map (map entry xs) (λ (s : Entry). s.faults) ∙ length-map xs entry

  wide : (xs : List A) (n : ℕ) → length (values (authorities xs n)) ≡ length xs
  wide xs n = length-map (map entry xs) (λ (s : Entry). s.value) ∙ length-map xs entry

  faults_here : (xs : List A) (n i : ℕ) (x : A) → i < length xs → faults_at (authorities (set xs i x) n) i ≡ faults x
  faults_here xs n i x low = ap (λ (l : List ℕ). get_or l i 0) (faults_set xs i x) ∙ get_or-set_same (map (λ (s : Entry). s.faults) (map entry xs)) i (faults x) 0 (omega (arith, long xs, low))

  faults_there : (xs : List A) (n m i j : ℕ) (x : A) → j ≢ i → faults_at (authorities (set xs i x) n) j ≡ faults_at (authorities xs m) j
  faults_there xs n m i j x other = ap (λ (l : List ℕ). get_or l j 0) (faults_set xs i x) ∙ get_or-set_other (map (λ (s : Entry). s.faults) (map entry xs)) i j (faults x) 0 other

  entry_at : (xs : List A) (i : ℕ) (y : A) → y ≡ get_or xs i y → entry y ≡ get_or (map entry xs) i (entry y)
  entry_at [] i y h = refl
  entry_at (x ∷ xs) zero y h = ap entry h
  entry_at (x ∷ xs) (suc i) y h = entry_at xs i y h

  faults_before : (xs : List A) (n i : ℕ) (y : A) → i < length xs → y ≡ get_or xs i y → faults_at (authorities xs n) i ≡ faults y
  faults_before xs n i y low h = map_at (λ (s : Entry). s.faults) (map entry xs) i (entry y) 0 (omega (arith, length-map xs entry, low)) (entry_at xs i y h)

  -- So far some fell, and no value has changed
  pub record Goes (old : Authorities) (xs : List A) (n : ℕ) : Type 0 where
    pub falls : Falls old (authorities xs n)
    pub same : values (authorities xs n) ≡ values old

  -- none has fallen
  pub goes_nowhere : (xs : List A) (n : ℕ) → n ≤ length xs → Goes (authorities xs n) xs n
  goes_nowhere xs n low = record {
    falls = record { as_many = refl; later = omega arith; within = omega (arith, low, length-map xs entry); rose = λ i h k. absurd (omega (arith, h, k)); steady = λ i h. refl };
    same = refl;
  }

  -- the value of an authority that was asked stays
  kept : (xs : List A) (n m i : ℕ) (x y : A) → i < length xs → y ≡ get_or xs i y → tells x ≡ tells y → values (authorities (set xs i x) n) ≡ values (authorities xs m)
  kept xs n m i x y low at same =
      values_set xs n m i x ∙ set_same (values (authorities xs m)) i (tells x) (same ∙ sym (map_at (λ (s : Entry). s.value) (map entry xs) i (entry y) (tells x) (omega (arith, length-map xs entry, low)) (entry_at xs i y at)))

  -- the faults after the one at n was asked, where all before it fell
  steady_after : (old : Authorities) (xs : List A) (n m : ℕ) (x y : A) → Goes old xs n → n < length xs → y ≡ get_or xs n y → (i : ℕ) → (i < old.fallen) ⊎ (n ≤ i) → i ≢ n → faults_at (authorities (set xs n x) m) i ≡ faults_at old i
  steady_after old xs n m x y goes low at i h other = faults_there xs m n n i x other ∙ goes.falls.steady i h

  rises_along : (a b c d : ℕ) → a ≡ c → b ≡ d → Rises a b → Rises c d
  rises_along a b c d e f h = let P : ℕ → Type 0 = λ z. Rises z b in let Q : ℕ → Type 0 = λ z. Rises c z in subst Q f (subst P e h)

  same_or : (i n : ℕ) → (i ≡ n) ⊎ (i ≢ n)
  same_or zero zero = inl refl
  same_or zero (suc n) = inr (λ e. omega (arith, e))
  same_or (suc i) zero = inr (λ e. omega (arith, e))
  same_or (suc i) (suc n) = ⊎_elim (λ e. inl (ap suc e)) (λ d. inr (λ e. d (omega (arith, e)))) (same_or i n)

  -- the one at n fails, and falls
  pub goes_further : (old : Authorities) (xs : List A) (n : ℕ) (x y : A) → Goes old xs n → n < length xs → y ≡ get_or xs n y → tells x ≡ tells y → Rises (faults y) (faults x) → Goes old (set xs n x) (n + 1)
  goes_further old xs n x y goes low at same rises =
      let there : faults_at (authorities xs n) n ≡ faults_at old n = goes.falls.steady n (inr (omega arith)) in
      let many : length (map entry (set xs n x)) ≡ length xs = length-map (set xs n x) entry ∙ length-set xs n x in
      record {
        falls = record {
          as_many = many ∙ sym (length-map xs entry) ∙ goes.falls.as_many;
          later = omega (arith, goes.falls.later);
          within = omega (arith, many, low);
          rose = λ i h k. ⊎_elim (λ e. let at_n : Rises (faults_at old n) (faults_at (authorities (set xs n x) (n + 1)) n) = rises_along (faults y) (faults x) _ _ (sym (faults_before xs n n y low at) ∙ there) (sym (faults_here xs (n + 1) n x low)) rises in
              let P : ℕ → Type 0 = λ j. Rises (faults_at old j) (faults_at (authorities (set xs n x) (n + 1)) j) in subst P (sym e) at_n)
              (λ d. rises_along (faults_at old i) (faults_at (authorities xs n) i) (faults_at old i) _ refl (sym (faults_there xs (n + 1) n n i x d)) (goes.falls.rose i h (omega (arith, d, k)))) (same_or i n);
          steady = λ i h. steady_after old xs n (n + 1) x y goes low at i (⊎_elim (λ l. inl l) (λ l. inr (omega (arith, l))) h) (λ e. ⊎_elim (λ l. omega (arith, l, e, goes.falls.later)) (λ l. omega (arith, l, e)) h);
        };
        same = kept xs (n + 1) n n x y low at same ∙ goes.same;
      }

  -- the one at n was asked, and lives on
  lives_on : (old : Authorities) (xs : List A) (n : ℕ) (x y : A) → Goes old xs n → n < length xs → y ≡ get_or xs n y → faults x ≡ faults y → Falls old (authorities (set xs n x) n)
  lives_on old xs n x y goes low at steady =
      let there : faults_at (authorities xs n) n ≡ faults_at old n = goes.falls.steady n (inr (omega arith)) in
      let many : length (map entry (set xs n x)) ≡ length xs = length-map (set xs n x) entry ∙ length-set xs n x in
      record {
        as_many = many ∙ sym (length-map xs entry) ∙ goes.falls.as_many;
        later = goes.falls.later;
        within = omega (arith, many, low);
        rose = λ i h k. rises_along (faults_at old i) (faults_at (authorities xs n) i) (faults_at old i) _ refl (sym (faults_there xs n n n i x (λ e. omega (arith, e, k)))) (goes.falls.rose i h k);
        steady = λ i h. ⊎_elim (λ e. let P : ℕ → Type 0 = λ j. faults_at (authorities (set xs n x) n) j ≡ faults_at old j in
            subst P (sym e) (faults_here xs n n x low ∙ steady ∙ sym (faults_before xs n n y low at) ∙ there))
            (λ d. steady_after old xs n n x y goes low at i h d) (same_or i n);
      }

  -- the first that lives answers
  pub answered : (old : Authorities) (xs : List A) (n : ℕ) (x y : A) (call : Call) → Goes old xs n → n < length xs → y ≡ get_or xs n y → Turns call (tells y) (tells x) → faults x ≡ faults y → Asks call old (authorities (set xs n x) n)
  answered old xs n x y call goes low at turns steady =
      let before : List (Option Telling) = values (authorities xs n) in
      let here : n < length before = omega (arith, wide xs n, low) in
      let at_n : tells y ≡ get_or before n (tells y) = sym (map_at (λ (s : Entry). s.value) (map entry xs) n (entry y) (tells y) (omega (arith, length-map xs entry, low)) (entry_at xs n y at)) in
      record {
        falls = lives_on old xs n x y goes low at steady;
        does = does_first call (map entry (set xs n x)) (drop n (values old)) (living (authorities (set xs n x) n)) (tells y) (tells x) (drop (suc n) before) (ap (drop n) (sym goes.same) ∙ drop_at before n (tells y) here at_n)
            (ap (drop n) (values_set xs n n n x) ∙ drop_set before n (tells x) here) turns;
      }

  -- nobody is left
  left_none : (old : Authorities) (xs : List A) (n : ℕ) → Goes old xs n → length xs ≤ n → drop n (values old) ≡ []
  left_none old xs n goes high = ap (drop n) (sym goes.same) ∙ drop_all n (values (authorities xs n)) (omega (arith, wide xs n, high))

  pub empty : (old : Authorities) (xs : List A) (n : ℕ) (did : List ℕ) (question : AuthorityQuestion) → Goes old xs n → length xs ≡ 0 → Asks (call_of did question false) old (authorities xs n)
  empty old xs n did question goes none = record {
    falls = goes.falls;
    does = does_nothing (call_of did question false) (map entry xs) (drop n (values old)) (living (authorities xs n)) (left_none old xs n goes (omega (arith, none))) (drop_all n (values (authorities xs n)) (omega (arith, wide xs n, none)))
        (nobody did question (map entry xs) (ap (map entry) (nil xs none)));
  }
    where
      nil : (xs : List A) → length xs ≡ 0 → xs ≡ []
      nil [] h = refl
      nil (x ∷ xs) h = absurd (omega (arith, h))

  -- how many live
  pub length-living : (xs : List A) (n : ℕ) → length (living (authorities xs n)) ≡ length xs - n
  length-living xs n = omega (arith, length-drop n (values (authorities xs n)), wide xs n)

  -- one more sits down
  pub entries_added : (xs ys : List A) (a : A) → ys ≡ xs ++ a ∷ [] → map entry ys ≡ map entry xs ++ entry a ∷ []
  entries_added xs ys a e = ap (map entry) e ∙ go xs
    where
      go : (xs : List A) → map entry (xs ++ a ∷ []) ≡ map entry xs ++ entry a ∷ []
      go [] = refl
      go (x ∷ xs) = ap (λ l. entry x ∷ l) (go xs)

  pub same_authorities : (xs ys : List A) (n m : ℕ) → xs ≡ ys → n ≡ m → authorities xs n ≡ authorities ys m
  same_authorities xs ys n m e f = ap (λ l. authorities l n) e ∙ ap (authorities ys) f

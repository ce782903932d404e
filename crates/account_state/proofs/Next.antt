-- The first entry behind a DID that a row named.
use Rattle.std.proofs.Common.{◌≡◌, ℕ, Bool, true, false, cond, ◌&&◌, List, [], ◌∷◌, ◌++◌, Option, Some, None, refl, sym, ap, ◌∙◌, subst}
use Rattle.std.specs.Prelude.{IfSome, option_map}
use Rattle.std.specs.Str.{bytes_eq}
use Rattle.account_state.specs.Entries.{Entry, found_entry, known_in, entry, is_before, AllBehind, IsSorted, next_in}
use Rattle.account_state.specs.State.{state_of, known}
use Rattle.account_state.proofs.Order.{behind_apart, not_before, same_text, is_text}
use Rattle.account_state.proofs.Sorted.{behind_more, behind_middle, found_none, found_later}

abbrev pub or_next : Option Entry → Option Entry → Option Entry
or_next None o = o
or_next (Some e) o = Some e

pub next_joined : (did : List ℕ) (l r : List Entry) → next_in did (l ++ r) ≡ or_next (next_in did l) (next_in did r)
next_joined did [] r = refl
next_joined did (z ∷ l) r =
    elim (is_before did z.0 && z.1.named) as (λ b. cond b (Some z) (next_in did (l ++ r)) ≡ or_next (cond b (Some z) (next_in did l)) (next_in did r)) [
      | true ↦ refl
      | false ↦ next_joined did l r
    ]

passed : (did : List ℕ) (z : Entry) (es : List Entry) → is_before did z.0 ≡ false → next_in did (z ∷ es) ≡ next_in did es
passed did z es h = ap (λ (b : Bool). cond (b && z.1.named) (Some z) (next_in did es)) h

-- behind what isn't before an entry comes only what stands on its right
pub next_right : (did : List ℕ) (l : List Entry) (y : Entry) (r : List Entry) → is_before did y.0 ≡ false → IsSorted (l ++ y ∷ r) → next_in did (l ++ y ∷ r) ≡ next_in did r
next_right did [] y r h s = passed did y r h
next_right did (z ∷ l) y r h s = passed did z (l ++ y ∷ r) (not_before did z.0 y.0 h (behind_middle z.0 l y r s.0)) ∙ next_right did l y r h s.1

-- an entry that comes first
pub next_first : (did : List ℕ) (e : Entry) (es : List Entry) → is_before did e.0 ≡ true → e.1.named ≡ true → next_in did (e ∷ es) ≡ Some e
next_first did e es h n = ap (λ (b : Bool). cond (b && e.1.named) (Some e) (next_in did es)) h ∙ ap (λ (b : Bool). cond b (Some e) (next_in did es)) n

-- one that no row named is passed over
pub next_unnamed : (did : List ℕ) (e : Entry) (es : List Entry) → is_before did e.0 ≡ true → e.1.named ≡ false → next_in did (e ∷ es) ≡ next_in did es
next_unnamed did e es h n = ap (λ (b : Bool). cond (b && e.1.named) (Some e) (next_in did es)) h ∙ ap (λ (b : Bool). cond b (Some e) (next_in did es)) n

is_next : (e x : Entry) → Some e ≡ Some x → e ≡ x
is_next e x h = cc

and_parts : (a b : Bool) → (a && b) ≡ true → (a ≡ true) × (b ≡ true)
and_parts true true h = (refl, refl)
and_parts true false h = absurd cc
and_parts false b h = absurd cc

pub next_behind : (did name : List ℕ) (es : List Entry) (x : Entry) → AllBehind name es → next_in did es ≡ Some x → is_before name x.0 ≡ true
next_behind did name [] x all h = absurd cc
next_behind did name (e ∷ es) x all h =
    elim (is_before did e.0 && e.1.named) as (λ b. cond b (Some e) (next_in did es) ≡ Some x → is_before name x.0 ≡ true) [
      | true ↦ λ g. subst (λ (y : Entry). is_before name y.0 ≡ true) (is_next e x g) all.0
      | false ↦ λ g. next_behind did name es x all.1 g
    ] h

pub next_above : (did : List ℕ) (es : List Entry) (x : Entry) → next_in did es ≡ Some x → is_before did x.0 ≡ true
next_above did [] x h = absurd cc
next_above did (e ∷ es) x h =
    (elim (is_before did e.0 && e.1.named) as (λ b. (is_before did e.0 && e.1.named) ≡ b → cond b (Some e) (next_in did es) ≡ Some x → is_before did x.0 ≡ true) [
      | true ↦ λ t g. subst (λ (y : Entry). is_before did y.0 ≡ true) (is_next e x g) (and_parts (is_before did e.0) e.1.named t).0
      | false ↦ λ t g. next_above did es x g
    ]) refl h

named_is : (e : Entry) → e.1.named ≡ true → known e.1 ≡ Some (state_of e.1)
named_is e h = ap (λ (b : Bool). cond b (Some (state_of e.1)) None) h

unnamed_is : (e : Entry) → e.1.named ≡ false → known e.1 ≡ None
unnamed_is e h = ap (λ (b : Bool). cond b (Some (state_of e.1)) None) h

entry_later : (name : List ℕ) (e : Entry) (es : List Entry) → bytes_eq name e.0 ≡ false → entry (e ∷ es) name ≡ entry es name
entry_later name e es h = ap known_in (found_later name e es h)

entry_first : (name : List ℕ) (e : Entry) (es : List Entry) → bytes_eq name e.0 ≡ true → entry (e ∷ es) name ≡ known e.1
entry_first name e es h = ap (λ (b : Bool). known_in (cond b (Some e.1) (found_entry name es))) h

pub next_found : (did : List ℕ) (es : List Entry) (x : Entry) → IsSorted es → next_in did es ≡ Some x → entry es x.0 ≡ Some (state_of x.1)
next_found did [] x s h = absurd cc
next_found did (e ∷ es) x s h =
    (elim (is_before did e.0 && e.1.named) as (λ b. (is_before did e.0 && e.1.named) ≡ b → cond b (Some e) (next_in did es) ≡ Some x → entry (e ∷ es) x.0 ≡ Some (state_of x.1)) [
      | true ↦ λ t g.
          subst (λ (y : Entry). entry (e ∷ es) y.0 ≡ Some (state_of y.1)) (is_next e x g)
          (entry_first e.0 e es (is_text e.0 e.0 refl) ∙ named_is e (and_parts (is_before did e.0) e.1.named t).1)
      | false ↦ λ t g. entry_later x.0 e es (behind_apart e.0 x.0 (next_behind did e.0 es x s.0 g)) ∙ next_found did es x s.1 g
    ]) refl h

unnamed_from : (a b : Bool) → (a && b) ≡ false → a ≡ true → b ≡ false
unnamed_from true b h k = h
unnamed_from false b h k = absurd cc

-- an entry behind a DID that didn't come first isn't known
unknown_here : (did name : List ℕ) (e : Entry) → (is_before did e.0 && e.1.named) ≡ false → is_before did name ≡ true → bytes_eq name e.0 ≡ true → known e.1 ≡ None
unknown_here did name e t above same =
    unnamed_is e (unnamed_from (is_before did e.0) e.1.named t (subst (λ (text : List ℕ). is_before did text ≡ true) (same_text name e.0 same) above))

past : (did name : List ℕ) (e : Entry) (es : List Entry) → (is_before did e.0 && e.1.named) ≡ false → is_before did name ≡ true → entry es name ≡ None → entry (e ∷ es) name ≡ None
past did name e es t above none =
    (elim (bytes_eq name e.0) as (λ b. bytes_eq name e.0 ≡ b → entry (e ∷ es) name ≡ None) [
      | true ↦ λ same. entry_first name e es same ∙ unknown_here did name e t above same
      | false ↦ λ differ. entry_later name e es differ ∙ none
    ]) refl

pub next_least : (did : List ℕ) (es : List Entry) (x : Entry) → IsSorted es → next_in did es ≡ Some x → (name : List ℕ) → is_before did name ≡ true → is_before name x.0 ≡ true → entry es name ≡ None
next_least did [] x s h name above below = absurd cc
next_least did (e ∷ es) x s h name above below =
    (elim (is_before did e.0 && e.1.named) as (λ b. (is_before did e.0 && e.1.named) ≡ b → cond b (Some e) (next_in did es) ≡ Some x → entry (e ∷ es) name ≡ None) [
      | true ↦ λ t g.
          let first : is_before name e.0 ≡ true = subst (λ (y : Entry). is_before name y.0 ≡ true) (sym (is_next e x g)) below in
          ap known_in (found_none name (e ∷ es) (first, behind_more name e.0 es first s.0))
      | false ↦ λ t g. past did name e es t above (next_least did es x s.1 g name above below)
    ]) refl h

pub next_none : (did : List ℕ) (es : List Entry) → next_in did es ≡ None → (name : List ℕ) → is_before did name ≡ true → entry es name ≡ None
next_none did [] h name above = refl
next_none did (e ∷ es) h name above =
    (elim (is_before did e.0 && e.1.named) as (λ b. (is_before did e.0 && e.1.named) ≡ b → cond b (Some e) (next_in did es) ≡ None → entry (e ∷ es) name ≡ None) [
      | true ↦ λ t g. absurd cc
      | false ↦ λ t g. past did name e es t above (next_none did es g name above)
    ]) refl h

-- what holds of the entry that comes next, where one is handed out
pub if_next : {T : Type 0} → (f : T → Entry) (o : Option T) (did : List ℕ) (es : List Entry) → option_map f o ≡ next_in did es → (P : Entry → Type 0) → ((x : Entry) → next_in did es ≡ Some x → P x) → IfSome o (λ x. P (f x))
if_next f None did es e P all = tt
if_next f (Some x) did es e P all = all (f x) (sym e)

pub none_next : {T : Type 0} → (f : T → Entry) (o : Option T) (did : List ℕ) (es : List Entry) → option_map f o ≡ next_in did es → o ≡ None → next_in did es ≡ None
none_next f o did es e h = sym e ∙ ap (λ p. option_map f p) h

pub some_next : {T : Type 0} → (f : T → Entry) (o : Option T) (x : T) (did : List ℕ) (es : List Entry) → option_map f o ≡ next_in did es → o ≡ Some x → next_in did es ≡ Some (f x)
some_next f o x did es e h = sym e ∙ ap (λ p. option_map f p) h

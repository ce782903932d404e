-- What messages make of what is held.
use Rattle.std.proofs.Common.{◌≡◌, ℕ, Bool, false, List, [], ◌∷◌, ◌++◌, Result, Ok, refl, sym, ◌∙◌, subst}
use Rattle.std.proofs.lemmas.Slice.Eq.{bytes_eq-Decides}
use Rattle.std.specs.Str.{bytes_eq}
use Rattle.at_event.specs.Frames.{frame_of}
use Rattle.at_event.specs.Seen.{Seen}
use Rattle.at_event.specs.declared.event.Body.{Body}
use Rattle.at_event.specs.declared.frame.Frame.{Frame}
use Rattle.at_event.specs.declared.frame.FrameFault.{FrameFault}
use Rattle.mirror.specs.Held.{IsAfter, IsAfterBody, IsAfterEvent, IsAfterFrame, IsHeldFrom}
use Rattle.relay_io.specs.Choices.{WhereElse}
use Rattle.mirror.specs.Repository.{Repositories}
use Rattle.mirror.specs.declared.holding.Holding.{Holding}

pub held_split : (repositories : Repositories) (did : List ℕ) (old : Holding) (ms ns : List (List ℕ)) (new : Holding) → IsHeldFrom repositories did old (ms ++ ns) new
    → (middle : Holding) × IsHeldFrom repositories did old ms middle × IsHeldFrom repositories did middle ns new
held_split repositories did old [] ns new h = (old, refl, h)
held_split repositories did old (m ∷ ms) ns new (x, after, rest) = let s = held_split repositories did x ms ns new rest in (s.0, (x, after, s.1), s.2)

after_event : (repositories : Repositories) (did m : List ℕ) (e : Seen) (old new : Holding) → frame_of m ≡ Ok (Frame.Event e) → IsAfter repositories did m old new → IsAfterEvent repositories did e old new
after_event repositories did m e old new reads h = let P : Result Frame FrameFault → Type 0 = λ f. IsAfterFrame repositories did f old new in subst P reads h

-- one message that is an event of the account
pub after_own : (repositories : Repositories) (did m : List ℕ) (e : Seen) (body : Body) (old new : Holding) → frame_of m ≡ Ok (Frame.Event e) → e.did ≡ did → e.body ≡ body → IsHeldFrom repositories did old (m ∷ []) new
    → IsAfterBody repositories body old new
after_own repositories did m e body old new reads own says (middle, after, last) =
    let P : Bool → Type 0 = λ b. WhereElse b (IsAfterBody repositories e.body old middle) (middle ≡ old) in
    let Q : Body → Type 0 = λ b. IsAfterBody repositories b old middle in
    let R : Holding → Type 0 = λ x. IsAfterBody repositories body old x in
    let there = subst P ((bytes_eq-Decides did e.did).1 (sym own)) (after_event repositories did m e old middle reads after) in
    subst R (sym last) (subst Q says there)

-- one that is an event of another account
pub after_other : (repositories : Repositories) (did m : List ℕ) (e : Seen) (old new : Holding) → frame_of m ≡ Ok (Frame.Event e) → bytes_eq did e.did ≡ false → IsHeldFrom repositories did old (m ∷ []) new → new ≡ old
after_other repositories did m e old new reads other (middle, after, last) =
    let P : Bool → Type 0 = λ b. WhereElse b (IsAfterBody repositories e.body old middle) (middle ≡ old) in
    last ∙ subst P other (after_event repositories did m e old middle reads after)
